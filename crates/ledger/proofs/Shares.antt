-- Over a list of public calls with unchanging limits from a fresh card, guided by whatever summaries, no wing ever holds more
-- than its limit (document 02 (k)).
-- Assumes nothing.
use Prim.Native.Nat.{ℕ, ◌+◌, ◌*◌, ◌≤◌}
use mathlib.Core.Path.{◌≡◌, refl, sym, ap, subst}
use mathlib.Core.Bool.{Bool, true, false}
use mathlib.Core.List.{List, [], ◌∷◌}
use native.Mathlib.Omega.{arith}
use lib.Dec.{eqb}
use lib.ListN.{length, set, length-map, length-set, length-append, length-replicate, replicate}
use borrow.Author.Tests.{ltb-false, eqb-true, eqb-false}
use Rattle.catalogue_wings.specs.Wings.{wing_of, in_wing}
use Rattle.catalogue_standings.specs.Rows.{Verdict, accepted, refused, settle}
use Rattle.refusals.specs.Shares.{limit_of, over_limit}
use Rattle.refusals.specs.Table.{Change, pause, resume}
use Rattle.refusals.specs.Table.{reserve, put, grow, complete, change, release, show, standing, offer, accept}
use Rattle.refusals.specs.Table.{show_dated, table_of}
use Rattle.catalogue_standings.proofs.Rows.{clear}
use Rattle.card.specs.Calls.{Kept}
use Rattle.card.specs.Public.{kept_after}
use Rattle.ledger.specs.Calls.{Call, on, close}
use Rattle.ledger.specs.Ledger.{Blank, Sheet, Absent, Paused, PausedWith, Open, Complete, length_in, sheet_at, held}
use Rattle.ledger.specs.Ledger.{held_in, put_in, grow_in, complete_in, pause_in, resume_in, change_in, bytes_of, listed}
use Rattle.ledger.specs.Ledger.{rows_in}
use Rattle.ledger.specs.Ledger.{verdict_in}
use Rattle.ledger.specs.Ledger.{start_in, below_in, restart_in, deed_in, step_in, after, begun, closed_in}
use Rattle.ledger.specs.Lists.{Made, end_of, ByAny, calls_in, replies_to, fresh_state}
use Rattle.ledger.specs.Shares.{GoesWith, Unchanging, WithinLimits, Throughout, NoWingOver}
use Rattle.ledger.proofs.Agreement.{state_of, Matches}
use Rattle.ledger.proofs.Demand.{Left, lists_left, kept_begun, state_begun, held_begun}
use Rattle.ledger.proofs.Feeding.{heard_from, heard_one, all_from}
use Rattle.ledger.proofs.Fresh.{Limits}
use Rattle.ledger.proofs.Wings.{wing_same, wing_part, wing_more, wing_other, wing_map}
use Rattle.ledger.proofs.Closed.{same_length}

-- ---- the length of a sheet after a call

put_length : (p : ℕ) (payload : List ℕ) (x : Sheet) → length_in (put_in p payload x) ≡ length_in x
put_length p payload Absent = refl
put_length p payload Paused = refl
put_length p payload (PausedWith s xs) = refl
put_length p payload (Open s ps) = length-set ps p _
put_length p payload (Complete s xs) = refl

grow_length : (m : ℕ) (x : Sheet) → length_in (grow_in m x) ≤ length_in x + m
grow_length m Absent = omega arith
grow_length m Paused = omega arith
grow_length m (PausedWith s xs) = omega arith
grow_length m (Open s ps) = omega (arith, length-append ps (replicate m Blank), length-replicate m Blank)
grow_length m (Complete s xs) = omega arith

complete_length : (x : Sheet) → length_in (complete_in x) ≡ length_in x
complete_length Absent = refl
complete_length Paused = refl
complete_length (PausedWith s xs) = refl
complete_length (Open s ps) = length-map ps bytes_of
complete_length (Complete s xs) = refl

pause_length : (x : Sheet) → length_in (pause_in x) ≡ length_in x
pause_length Absent = refl
pause_length Paused = refl
pause_length (PausedWith s xs) = refl
pause_length (Open s ps) = refl
pause_length (Complete s xs) = refl

resume_length : (x : Sheet) → length_in (resume_in x) ≡ length_in x
resume_length Absent = refl
resume_length Paused = refl
resume_length (PausedWith s xs) = refl
resume_length (Open s ps) = refl
resume_length (Complete s xs) = refl

change_length : (c : Change) (x : Sheet) → length_in (change_in c x) ≡ length_in x
change_length pause x = pause_length x
change_length resume x = resume_length x

-- ---- an accepted call

-- no wing of the ledger holds more than its limit
abbrev InLedger : List ℕ → List Sheet → Type 0
InLedger limits l = (j : ℕ) → held_in l j ≤ limit_of limits (wing_of j)

module _ (n : ℕ) (limits : List ℕ) (l : List Sheet) (within : InLedger limits l) (i : ℕ) where
  -- sheet i becomes x, which has g blocks more at the most, and they are within the limit of its wing
  changes : (x : Sheet) (g : ℕ) → length_in x ≤ length_in (sheet_at l i) + g → held_in l i + g ≤ limit_of limits (wing_of i)
      → InLedger limits (set l i x)
  changes x g more room j = go (eqb (wing_of j) (wing_of i)) refl
    where
      go : (t : Bool) → eqb (wing_of j) (wing_of i) ≡ t → held_in (set l i x) j ≤ limit_of limits (wing_of j)
      go true e =
          let same : wing_of j ≡ wing_of i = eqb-true (wing_of j) (wing_of i) e in
          let most = wing_more l i j x g same more in
          let alike : held_in l j ≡ held_in l i = ap (λ (w : ℕ). held (in_wing w l)) same in
          let limit : limit_of limits (wing_of j) ≡ limit_of limits (wing_of i) = ap (limit_of limits) same in
          omega (arith, most, alike, limit, room)
      go false e =
          let other = wing_other l i j x (eqb-false (wing_of j) (wing_of i) e) in
          omega (arith, other, within j)

  -- it has no more than before
  stays : (x : Sheet) → length_in x ≤ length_in (sheet_at l i) → InLedger limits (set l i x)
  stays x no_more = changes x 0 (omega (arith, no_more)) (omega (arith, within i))

  -- row 18 does not hold
  under : (given : List ℕ) (k : ℕ) → given ≡ limits → over_limit given (wing_of i) (held_in l i) k ≡ false
      → held_in l i + k ≤ limit_of limits (wing_of i)
  under given k same row = subst (λ (ls : List ℕ). held_in l i + k ≤ limit_of ls (wing_of i)) same
      (ltb-false (limit_of given (wing_of i)) (held_in l i + k) row)

  taken : (given : List ℕ) (start k : ℕ) → given ≡ limits → over_limit given (wing_of i) (held_in l i) k ≡ false
      → InLedger limits (set l i (Open start (replicate k Blank)))
  taken given start k same row =
      changes (Open start (replicate k Blank)) k (omega (arith, length-replicate k Blank)) (under given k same row)

bounded : (n : ℕ) (limits : List ℕ) (l : List Sheet) → InLedger limits l → (c : Call) → GoesWith limits c
    → verdict_in n l c ≡ accepted → InLedger limits (deed_in n l c).ledger
unfolding deed_in table_of listed closed_in
bounded n limits l w (on role i (reserve given k p)) same h =
    taken n limits l w i given _ k same (clear 18 (rows_in n l (on role i (reserve given k p))) h).0
bounded n limits l w (on role i (offer given k)) same h = w
bounded n limits l w (on role i (accept given start k)) same h =
    taken n limits l w i given start k same (clear 18 (rows_in n l (on role i (accept given start k))) h).0
bounded n limits l w (on role i (grow given m)) same h =
    changes n limits l w i (grow_in m (sheet_at l i)) m (grow_length m (sheet_at l i))
    (under n limits l w i given m same (clear 18 (rows_in n l (on role i (grow given m))) h).0)
bounded n limits l w (on role i (put p payload)) same h =
    stays n limits l w i (put_in p payload (sheet_at l i)) (omega (arith, put_length p payload (sheet_at l i)))
bounded n limits l w (on role i complete) same h =
    stays n limits l w i (complete_in (sheet_at l i)) (omega (arith, complete_length (sheet_at l i)))
bounded n limits l w (on role i (change c)) same h =
    stays n limits l w i (change_in c (sheet_at l i)) (omega (arith, change_length c (sheet_at l i)))
bounded n limits l w (on role i release) same h = stays n limits l w i Absent (omega arith)
bounded n limits l w (on role i (show p buffer)) same h = w
bounded n limits l w (on role i (show_dated p date buffer)) same h = w
bounded n limits l w (on role i standing) same h = w
bounded n limits l w (close role) same h = λ j.
    let moved : held_in (closed_in l) j ≡ held_in l j =
    wing_map (λ x. restart_in (below_in l (start_in x)) x) (λ x. same_length (below_in l (start_in x)) x) l j in
    omega (arith, moved, w j)

-- any call, accepted or refused
stepped : (n : ℕ) (limits : List ℕ) (l : List Sheet) → InLedger limits l → (c : Call) → GoesWith limits c
    → InLedger limits (step_in n l c)
stepped n limits l w c same = go (verdict_in n l c) refl
  where
    go : (v : Verdict) → verdict_in n l c ≡ v → InLedger limits (settle v (deed_in n l c).ledger (λ number. l))
    go accepted h = bounded n limits l w c same h
    go (refused number) h = w

-- ---- a list of calls

shows : (n : ℕ) (limits : List ℕ) (l : List Sheet) (card : List ℕ) → Matches n l card → InLedger limits l
    → WithinLimits limits (state_of n l card)
shows n limits l card k w i =
    let same = wing_same n l k.high (λ j. omega (arith, (k.sound.fine j).inside)) i in omega (arith, same, w i)

-- a call with these limits leaves them kept, and so does a list
module _ (n : ℕ) (limits : List ℕ) where
  after_calls : (calls : List Call) (l : List Sheet) → InLedger limits l → Unchanging limits calls
      → InLedger limits (after n l calls)
  after_calls [] l w same = w
  after_calls (c ∷ calls) l w same = after_calls calls (step_in n l c) (stepped n limits l w c same.0) same.1

  throughout : (made : List Made) (l : List Sheet) (card : List ℕ) (s : Kept) → Matches n l card → s ≡ state_of n l card
      → InLedger limits l → ByAny s made → Unchanging limits (calls_in made) → Throughout (WithinLimits limits) s made
  throughout [] l card s k e w any same = subst (WithinLimits limits) (sym e) (shows n limits l card k w)
  throughout (m ∷ made) l card s k e w any same =
      let calls : List Call = heard_from s m in
      let unchanged = all_from (GoesWith limits) (λ role sheet given k start p h. h) s m (calls_in made) same in
      let left : Left n l calls (replies_to (end_of s m) calls) (kept_after (end_of s m)) =
      lists_left n calls (replies_to (end_of s m) calls) l card s (kept_after (end_of s m)) k e (heard_one s m any.0) in (
        subst (WithinLimits limits) (sym e) (shows n limits l card k w),
        throughout made (after n l calls) left.card_left (kept_after (end_of s m)) left.kept_left left.state_left
            (after_calls calls l w unchanged.0) any.1 unchanged.1,
      )

-- from a fresh card, with n and c within their bounds and a card of 512·n bytes
pub no_wing_over : (n c : ℕ) (card : List ℕ) → Limits n c → length card ≡ 512 * n → NoWingOver n c card
no_wing_over n c card b room made limits any same =
    throughout n limits made (begun c) card (fresh_state n c card)
    (kept_begun n c card b.n_low b.n_high b.c_low b.c_high room)
    (state_begun n c card b.n_low b.n_high b.c_low b.c_high room)
    (λ j. omega (arith, wing_part (begun c) j, held_begun c)) any same
