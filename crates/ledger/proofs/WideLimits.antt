-- The calls that go with limits, beside the same calls before there were limits (document 02 (k)): where the limit of the wing
-- is not passed the verdict is that without row 18 (`under_limit`), and with limits of n or more a call is accepted exactly if
-- it was (`wide_limits`).
-- Assumes nothing.
use Prim.Native.Nat.{ℕ, ◌+◌, ◌*◌, ◌≤◌, ◌<◌}
use mathlib.Core.Path.{◌≡◌, refl, sym, ap, subst, ◌∙◌}
use mathlib.Core.Logic.{◌⊎◌, inl, inr}
use mathlib.Core.Bool.{Bool, true, false, cond, true≢false}
use mathlib.Core.List.{List, [], ◌∷◌, ◌++◌}
use native.Mathlib.Omega.{arith}
use lib.Dec.{leb, ltb}
use lib.ListN.{length}
use borrow.Author.Tests.{leb-false, le-ltb, ltb-false, not-false}
use Rattle.catalogue_wings.specs.Wings.{wing_of}
use Rattle.catalogue_standings.specs.Rows.{Row, row, Verdict, accepted, refused, first_of, before, settle, row_number}
use Rattle.catalogue_standings.proofs.Rows.{clear, says, first_then, not_refused, same_number, zero_accepts, other_row}
use Rattle.refusals.specs.Placement.{Placement, plain}
use Rattle.refusals.specs.Shares.{limit_of, over_limit, without_limits}
use Rattle.refusals.specs.Table.{reserve, put, grow, complete, change, release, show, standing, offer, accept}
use Rattle.refusals.specs.Table.{show_dated, table_of}
use Rattle.refusals.proofs.Shares.{none_passed}
use Rattle.card.specs.Calls.{Kept}
use Rattle.card.specs.Public.{End, kept_after}
use Rattle.ledger.specs.Calls.{Call, on, close}
use Rattle.ledger.specs.Ledger.{Sheet, held_in, spare_in, listed, rows_in, verdict_in, after, begun}
use Rattle.ledger.specs.Answers.{Told}
use Rattle.ledger.specs.Lists.{Made, end_of, response_of, told_of, Runs, Listed, IsOwn, ByOwn, call_in, calls_in, replies_to}
use Rattle.ledger.specs.Lists.{replies_in, fresh_state}
use Rattle.ledger.specs.Shares.{GoesWith, verdict_before, Under, Wide, AsBefore, UnderLimit, WideLimits}
use Rattle.ledger.proofs.Agreement.{Matches}
use Rattle.ledger.proofs.Demand.{Left, left_by_own}
use Rattle.ledger.proofs.Feeding.{fed_one}
use Rattle.ledger.proofs.Fresh.{Limits}
use Rattle.ledger.proofs.Listed.{spare_is}
use Rattle.ledger.proofs.Pauses.{told_after}
use Rattle.ledger.proofs.Plain as plain
use Rattle.ledger.proofs.Taking as taking
use Rattle.ledger.proofs.Wings.{wing_part}
use Rattle.ledger.proofs.step.Grow as growing
use Rattle.ledger.proofs.step.Reserve as reserving

-- ---- where the limit is not passed

without_18 : (n : ℕ) (l : List Sheet) (c : Call) → Under l c → verdict_in n l c ≡ verdict_before n l c
unfolding table_of listed
without_18 n l (on role i (reserve limits k p)) h = none_passed (rows_in n l (on role i (reserve limits k p))) (h, tt)
without_18 n l (on role i (offer limits k)) h = none_passed (rows_in n l (on role i (offer limits k))) (h, tt)
without_18 n l (on role i (accept limits start k)) h = none_passed (rows_in n l (on role i (accept limits start k))) (h, tt)
without_18 n l (on role i (grow limits m)) h = none_passed (rows_in n l (on role i (grow limits m))) (h, tt)
without_18 n l (on role i (put p payload)) h = none_passed (rows_in n l (on role i (put p payload))) tt
without_18 n l (on role i complete) h = none_passed (rows_in n l (on role i complete)) tt
without_18 n l (on role i (change c)) h = none_passed (rows_in n l (on role i (change c))) tt
without_18 n l (on role i release) h = none_passed (rows_in n l (on role i release)) tt
without_18 n l (on role i (show p buffer)) h = none_passed (rows_in n l (on role i (show p buffer))) tt
without_18 n l (on role i (show_dated p date buffer)) h = none_passed (rows_in n l (on role i (show_dated p date buffer))) tt
without_18 n l (on role i standing) h = none_passed (rows_in n l (on role i standing)) tt
without_18 n l (close role) h = none_passed (rows_in n l (close role)) tt

-- ---- two verdicts, with row 18 and without

-- the numbers of a call that found no room
abbrev NoRoom : ℕ → Type 0
NoRoom was = (was ≡ 10) ⊎ ((was ≡ 11) ⊎ (was ≡ 17))

pub record Compared (v u : Verdict) : Type 0 where
  pub still : u ≡ accepted → v ≡ accepted
  pub then : v ≡ accepted → u ≡ accepted
  pub so : (number : ℕ) → v ≡ refused number
      → (u ≡ refused number) ⊎ ((number ≡ 18) × (was : ℕ) × (u ≡ refused was) × NoRoom was)

alike : (v u : Verdict) → v ≡ u → Compared v u
alike v u e = record { still = λ h. e ∙ h; then = λ h. sym e ∙ h; so = λ number h. inl (sym e ∙ h) }

-- the rows in front, row 18, and the row of a call that finds no room
compare : (front : Verdict) (over : Bool) (m : ℕ) (full : Bool) → NoRoom m
    → (settle front (cond full (refused m) accepted) refused ≡ accepted → over ≡ false)
    → Compared (settle front (cond over (refused 18) (cond full (refused m) accepted)) refused)
    (settle front (cond full (refused m) accepted) refused)
compare (refused number) over m full which roomy = alike _ _ refl
compare accepted false m full which roomy = alike _ _ refl
compare accepted true m true which roomy = record {
  still = λ h. absurd (not_refused m h);
  then = λ h. absurd (not_refused 18 h);
  so = λ number h. inr (sym (same_number 18 number h), m, refl, which);
}
compare accepted true m false which roomy = absurd (true≢false (roomy refl))

compared : (front : List Row) (over : Bool) (m : ℕ) (full : Bool) → NoRoom m
    → (first_of (front ++ row m full ∷ []) ≡ accepted → over ≡ false)
    → Compared (first_of (front ++ row 18 over ∷ row m full ∷ [])) (first_of (front ++ row m full ∷ []))
unfolding first_of
compared front over m full which roomy =
    let with-18 = first_then front (row 18 over ∷ row m full ∷ []) in
    let without = first_then front (row m full ∷ []) in
    subst (λ (v : Verdict). Compared v (first_of (front ++ row m full ∷ []))) (sym with-18)
    (subst (Compared _) (sym without) (compare (first_of front) over m full which (λ h. roomy (without ∙ h))))

-- of the ledger's verdict
abbrev Beside18 : ℕ → List Sheet → Call → Type 0
Beside18 n l c = Compared (verdict_in n l c) (verdict_before n l c)

-- ---- limits of n or more

module _ (n : ℕ) (l : List Sheet) (card : List ℕ) (k : Matches n l card) (limits : List ℕ) (wide : Wide n limits)
    (role i : ℕ) where
  -- what was spare is within the limit
  roomy : (m : ℕ) → leb (length l) i ≡ false → ltb (spare_in n l) m ≡ false → over_limit limits (wing_of i) (held_in l i) m
      ≡ false
  roomy m inside enough =
      let below : i < length l = leb-false (length l) i inside in
      let few : m ≤ spare_in n l = ltb-false (spare_in n l) m enough in
      let limit = wide (wing_of i) (omega (arith, below, k.few_sheets)) in
      le-ltb (limit_of limits (wing_of i)) (held_in l i + m)
      (omega (arith, few, limit, spare_is n l k.sound, wing_part l i))

  wide_reserve : (m : ℕ) (p : Placement) → Beside18 n l (on role i (reserve limits m p))
  unfolding table_of listed before without_limits
  wide_reserve m p =
      let rows = rows_in n l (on role i (reserve limits m p)) in
      let now = without_limits rows in
      (compared (before 18 rows) _ 10 _ (inl refl)
      (λ h. roomy m (clear 2 now h).0 (taking.enough n l card k role i m _
      (reserving.seen n l card k role i limits m p (clear 2 now h).0 (clear 6 now h).0 (clear 7 now h).0 (clear 8 now h).0
      (clear 3 now h).0 (clear 15 now h).0 (clear 10 now h).0))))

  wide_offer : (m : ℕ) → Beside18 n l (on role i (offer limits m))
  unfolding table_of listed before without_limits
  wide_offer m =
      let rows = rows_in n l (on role i (offer limits m)) in
      let now = without_limits rows in
      (compared (before 18 rows) _ 10 _ (inl refl)
      (λ h. roomy m (clear 2 now h).0 (taking.enough n l card k role i m _
      (reserving.seen n l card k role i limits m plain (clear 2 now h).0 (clear 6 now h).0 (clear 7 now h).0
      (clear 8 now h).0 (clear 3 now h).0 (clear 15 now h).0 (clear 10 now h).0))))

  wide_accept : (start m : ℕ) → Beside18 n l (on role i (accept limits start m))
  unfolding table_of listed before without_limits
  wide_accept start m =
      let rows = rows_in n l (on role i (accept limits start m)) in
      let now = without_limits rows in
      (compared (before 18 rows) _ 17 _ (inr (inr refl))
      (λ h. roomy m (clear 2 now h).0 (taking.enough n l card k role i m start
      (taking.shown n l card k role i m start (clear 2 now h).0 (clear 6 now h).0 (clear 7 now h).0 (clear 8 now h).0
      (clear 3 now h).0 (not-false _ (clear 17 now h).0)))))

  wide_grow : (m : ℕ) → Beside18 n l (on role i (grow limits m))
  unfolding table_of listed before without_limits
  wide_grow m =
      let rows = rows_in n l (on role i (grow limits m)) in
      let now = without_limits rows in
      (compared (before 18 rows) _ 11 _ (inr (inl refl))
      (λ h. roomy m (clear 2 now h).0 (growing.enough n l card k role i limits m
      (growing.shown n l card k role i limits m (clear 2 now h).0 (clear 5 now h).0 (clear 6 now h).0 (clear 8 now h).0
      (clear 3 now h).0 (clear 11 now h).0))))

wide_call : (n : ℕ) (l : List Sheet) (card : List ℕ) → Matches n l card → (limits : List ℕ) → Wide n limits → (c : Call)
    → GoesWith limits c → Beside18 n l c
wide_call n l card k limits wide (on role i (reserve given m p)) same =
    subst (λ (ls : List ℕ). Beside18 n l (on role i (reserve ls m p))) (sym same)
    (wide_reserve n l card k limits wide role i m p)
wide_call n l card k limits wide (on role i (offer given m)) same =
    subst (λ (ls : List ℕ). Beside18 n l (on role i (offer ls m))) (sym same) (wide_offer n l card k limits wide role i m)
wide_call n l card k limits wide (on role i (accept given start m)) same =
    subst (λ (ls : List ℕ). Beside18 n l (on role i (accept ls start m))) (sym same)
    (wide_accept n l card k limits wide role i start m)
wide_call n l card k limits wide (on role i (grow given m)) same =
    subst (λ (ls : List ℕ). Beside18 n l (on role i (grow ls m))) (sym same) (wide_grow n l card k limits wide role i m)
wide_call n l card k limits wide (on role i (put p payload)) same =
    alike _ _ (without_18 n l (on role i (put p payload)) tt)
wide_call n l card k limits wide (on role i complete) same = alike _ _ (without_18 n l (on role i complete) tt)
wide_call n l card k limits wide (on role i (change c)) same =
    alike _ _ (without_18 n l (on role i (change c)) tt)
wide_call n l card k limits wide (on role i release) same = alike _ _ (without_18 n l (on role i release) tt)
wide_call n l card k limits wide (on role i (show p buffer)) same =
    alike _ _ (without_18 n l (on role i (show p buffer)) tt)
wide_call n l card k limits wide (on role i (show_dated p date buffer)) same =
    alike _ _ (without_18 n l (on role i (show_dated p date buffer)) tt)
wide_call n l card k limits wide (on role i standing) same = alike _ _ (without_18 n l (on role i standing) tt)
wide_call n l card k limits wide (close role) same = alike _ _ (without_18 n l (close role) tt)

-- ---- the number that a call is told

-- no row is numbered 0
unsaid : (n : ℕ) (l : List Sheet) (c : Call) → says 0 (rows_in n l c) ≡ false
unfolding table_of listed
unsaid n l (on role i (reserve limits k p)) = refl
unsaid n l (on role i (offer limits k)) = refl
unsaid n l (on role i (accept limits start k)) = refl
unsaid n l (on role i (grow limits m)) = refl
unsaid n l (on role i (put p payload)) = refl
unsaid n l (on role i complete) = refl
unsaid n l (on role i (change c)) = refl
unsaid n l (on role i release) = refl
unsaid n l (on role i (show p buffer)) = refl
unsaid n l (on role i (show_dated p date buffer)) = refl
unsaid n l (on role i standing) = refl
unsaid n l (close role) = refl

as_before : (n : ℕ) (l : List Sheet) (c : Call) (number : ℕ) → number ≡ row_number (verdict_in n l c) → Beside18 n l c
    → AsBefore n l c number
as_before n l c number e x = record {
  accepted_still = λ h. e ∙ ap row_number (x.still h);
  accepted_then = λ h. x.then (zero_accepts (rows_in n l c) (unsaid n l c) (sym e ∙ h));
  refused_so = λ some. x.so number (other_row (verdict_in n l c) number e some);
}

pub told_number : (v : Verdict) (granted : Told) (refusing : ℕ → Told) → granted.number ≡ 0
    → ((k : ℕ) → (refusing k).number ≡ k)
    → (settle v granted refusing).number ≡ row_number v
told_number accepted granted refusing zero same = zero
told_number (refused number) granted refusing zero same = same number

-- after a list from a fresh card, by the map or by the map's own summary, the next call is told as the ledger says
module _ (n c : ℕ) (card : List ℕ) (limits : Limits n c) (room : length card ≡ 512 * n) (made : List Made) (es : List End)
    (t : Kept) (own : ByOwn (fresh_state n c card) made) (runs : Runs (fresh_state n c card) made es t) (next : Made)
    (listed-so : Listed IsOwn t next) (call : Call) (fed-as : call_in next.manner.role next.call ≡ call ∷ []) where
  abbrev ledger : List Sheet
  ledger = after n (begun c) (calls_in made)

  left : Left n (begun c) (calls_in made) (replies_in made es) t
  left = left_by_own n c card limits room made es t own runs

  pub next_number : (told_of (end_of t next)).number ≡ row_number (verdict_in n ledger call)
  next_number =
      let step = subst (λ (calls : List Call). plain.Runs t calls (replies_to (end_of t next) calls)
      (kept_after (end_of t next)))
      fed-as (fed_one t next listed-so) in
      ap (λ (x : Told). x.number) (told_after left call (response_of (end_of t next)) step.0 step.1)
      ∙ told_number (verdict_in n ledger call) _ _ refl (λ k. refl)

module _ (n c : ℕ) (card : List ℕ) (b : Limits n c) (room : length card ≡ 512 * n) where
  pub under_limit : UnderLimit n c card
  under_limit made es t own runs next listed-so call fed-as under =
      next_number n c card b room made es t own runs next listed-so call fed-as
      ∙ ap row_number (without_18 n (after n (begun c) (calls_in made)) call under)

  pub wide_limits : WideLimits n c card
  wide_limits made es t own runs next listed-so call fed-as limits wide same =
      let l : List Sheet = after n (begun c) (calls_in made) in
      let w = left_by_own n c card b room made es t own runs in
      as_before n l call (told_of (end_of t next)).number
      (next_number n c card b room made es t own runs next listed-so call fed-as)
      (wide_call n l w.card_left w.kept_left limits wide call same)
