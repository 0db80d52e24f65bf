-- `closed_full`: after a closing that was done, from whatever state and by whomever, a plain reserve that comes to the
-- search, by the map or by the map's own summary, is answered 10 exactly when it wants more blocks than are free (document 02
-- (l)).
-- Assumes nothing.
use Rattle.std.specs.Prelude.{Some, None}
use Prim.Native.Nat.{ℕ, ◌*◌, ◌≤◌, ◌<◌}
use mathlib.Core.Path.{◌≡◌, refl, sym, ap, subst, ◌∙◌}
use mathlib.Core.Logic.{◌↔◌, ◌⊎◌, inl, inr}
use mathlib.Core.Bool.{Bool, true, false, cond}
use mathlib.Core.List.{List, [], ◌∷◌}
use native.Mathlib.Omega.{arith}
use lib.Dec.{leb, eqb}
use lib.ListN.{length}
use borrow.Author.Tests.{leb-true, leb-false, eqb-false}
use Rattle.map_blocks.specs.Blocks.{free, least_fit}
use Rattle.catalogue.specs.Entries.{held}
use Rattle.catalogue_standings.specs.Answers.{number_of}
use Rattle.catalogue_standings.specs.Rows.{row, Verdict, accepted, refused, first_of, before, row_number}
use Rattle.catalogue_standings.specs.declared.Answer.TheVariants.{Done, Refused}
use Rattle.catalogue_standings.proofs.Rows.{onwards, before_then, never_says}
use Rattle.roles.specs.Roles as roles
use Rattle.roles.specs.Roles.{may, turned_away}
use Rattle.refusals.specs.Effects as effects
use Rattle.refusals.specs.Effects.{unsearched_verdict, reserve_verdict}
use Rattle.refusals.specs.Lent.{Lent}
use Rattle.refusals.specs.Placement.{plain}
use Rattle.refusals.specs.Guides.{guide_tested}
use Rattle.refusals.specs.Table as table
use Rattle.refusals.specs.Table.{reserve, table_of}
use Rattle.refusals.specs.Views.{view_on}
use Rattle.refusals.proofs.Beginnings.{behind, given}
use Rattle.refusals.proofs.Reserve as reserving
use Rattle.closing.specs.Effects as closings
use Rattle.closing.proofs.Claimed.{afterwards}
use Rattle.card.specs.Calls.{Kept, lent_by_within, saved_state, is_done}
use Rattle.card.specs.Public.{on, close, Manner, turned, Beside, End, end_on, end_close, ends, kept_after}
use Rattle.card.proofs.Closings.{verdict_by, close_refused, close_accepted}
use Rattle.ledger.specs.Answers.{Told, told_in}
use Rattle.ledger.specs.Calls as ledgers
use Rattle.ledger.specs.Calls.{Call}
use Rattle.ledger.specs.Claim.{Came}
use Rattle.ledger.specs.Closings.{Comes, FullWhenMoreWanted, FullInLists}
use Rattle.ledger.specs.Ledger.{Sheet, listed, rows_in, verdict_in, deed_in, step_in, after, begun}
use Rattle.ledger.specs.Lists.{end_of, response_of, told_of, call_in, calls_in, replies_to, replies_in, own_of}
use Rattle.ledger.proofs.Agreement.{state_of, Matches}
use Rattle.ledger.proofs.Demand.{Left, answered, left_by_own}
use Rattle.ledger.proofs.Feeding.{fed_one}
use Rattle.ledger.proofs.Fresh.{Limits}
use Rattle.ledger.proofs.GuidedEnds.{takes, reserve-takes, reserve_refuses}
use Rattle.ledger.proofs.OwnSummary.{same_on}
use Rattle.ledger.proofs.Pauses.{told_after, then}
use Rattle.ledger.proofs.Plain as plain-calls
use Rattle.ledger.proofs.WideLimits.{told_number}

-- what a search then finds: the first block behind the extents, unless more blocks are wanted than are free
abbrev FitsBehind : ℕ → Kept → Type 0
FitsBehind h t = (k : ℕ) → 1 ≤ k
    → least_fit (free t.map) 0 t.shape.blocks 1 k ≡ cond (leb k t.shape.free) (Some h) None

-- ---- a reserve from such a state

module _ (h : ℕ) (t : Kept) (behind : FitsBehind h t) (away : Bool) (b : Beside) (limits : List ℕ) (sheet k : ℕ) where
  abbrev q : Lent
  q = lent_by_within away false [] t t.card limits sheet

  module _ (comes : unsearched_verdict q k plain ≡ accepted) where
    some : 1 ≤ k
    some = omega (arith, (given q k (reserving.passed q k plain comes).opens).some)

    abbrev number : Verdict → ℕ
    number v = number_of (takes t limits sheet k v (effects.reserve_start q k plain) b).outcome.answer

    -- the number by the verdict
    told_so : (v : Verdict) → reserve_verdict q k plain ≡ v
        → (told_of (end_on away false t b sheet (reserve limits k plain))).number ≡ number v
    told_so v e = ap (λ (x : End). number_of x.outcome.answer) (reserve-takes t limits sheet k away false b plain)
        ∙ ap number e

    by_count : (few : Bool) → leb k t.shape.free ≡ few
        → ((told_of (end_on away false t b sheet (reserve limits k plain))).number ≡ 10) ↔ (t.shape.free < k)
    by_count true e =
        let found : reserving.found q k plain ≡ Some h = behind k some ∙ ap (λ (f : Bool). cond f (Some h) None) e in
        let few : k ≤ t.shape.free = leb-true k t.shape.free e in
        let zero = told_so accepted (reserving.searched q k plain accepted comes (reserving.passes q k plain h found few)) in
        (λ ten. absurd (omega (arith, sym ten ∙ zero)), λ more. absurd (omega (arith, more, few)))
    by_count false e =
        let found : reserving.found q k plain ≡ None = behind k some ∙ ap (λ (f : Bool). cond f (Some h) None) e in
        let ten = told_so (refused 10) (reserving.searched q k plain (refused 10) comes (reserving.no_fit q k plain found)) in
        (λ x. leb-false k t.shape.free e, λ more. ten)

    pub by_map : ((told_of (end_on away false t b sheet (reserve limits k plain))).number ≡ 10) ↔ (t.shape.free < k)
    by_map = by_count (leb k t.shape.free) refl

    -- by the map's own summary the same
    pub by-either : (guided : Bool) → (guided ≡ true → b.summary ≡ own_of t)
        → ((told_of (end_on away guided t b sheet (reserve limits k plain))).number ≡ 10) ↔ (t.shape.free < k)
    by-either true own =
        subst (λ (x : ℕ). (x ≡ 10) ↔ (t.shape.free < k))
        (sym (ap (λ (e : End). (told_of e).number) (same_on t b (own refl) sheet away (reserve limits k plain)))) by_map
    by-either false own = by_map

-- ---- the state that a closing leaves

module _ (away guided : Bool) (s : Kept) (b : Beside) where
  abbrev guide : List ℕ
  guide = cond guided b.summary []

  abbrev e : End
  e = end_close away guided s b

  pub left_behind : e.outcome.answer ≡ Done → FitsBehind (held s.entries) (kept_after e)
  left_behind done-so k some = by (verdict_by away guided guide s b.scratch) refl
    where
      by : (v : Verdict) → verdict_by away guided guide s b.scratch ≡ v
          → least_fit (free e.map) 0 e.outcome.shape.blocks 1 k
          ≡ cond (leb k e.outcome.shape.free) (Some (held s.entries)) None
      by accepted v =
          let a = close_accepted away guided guide s b.scratch v in
          (λ x. least_fit (free (a.words x)) 0 (a.outcome x).shape.blocks 1 k)
          ∙ (afterwards away (saved_state s.shape s.map s.entries) (guide_tested guided (length s.map) (length guide))
          s.card b.scratch v).fits k some
          ∙ (λ x. cond (leb k (sym a.outcome x).shape.free) (Some (held s.entries)) None)
      by (refused number) v =
          let o = (close_refused away guided guide s b.scratch number v).outcome in
          let z : false ≡ true = ap (λ x. is_done x.answer) (sym o) ∙ ap is_done done-so in
          let one : ◌≡◌ {A = ℕ} 0 1 = ap (λ (t : Bool). cond t 1 0) z in
          absurd (omega arith)

pub closed_full : FullWhenMoreWanted
closed_full s closer lent done-so t at m b own limits sheet k comes =
    let behind : FitsBehind (held s.entries) t =
    subst (FitsBehind (held s.entries)) (sym at) (left_behind (turned closer close) closer.guided s lent done-so) in
    by-either (held s.entries) t behind (turned m (on sheet (reserve limits k plain))) b limits sheet k comes m.guided own

-- ---- in a list

-- a reserve that comes to the search by the ledger's rows comes there by the program's
module _ (n : ℕ) (l : List Sheet) (card : List ℕ) (k : Matches n l card) (role i : ℕ) (limits : List ℕ) (m : ℕ) where
  abbrev call : Call
  call = ledgers.on role i (reserve limits m plain)

  abbrev away : Bool
  away = turned_away role roles.reserve

  abbrev s : Kept
  s = state_of n l card

  abbrev lent : Lent
  lent = lent_by_within away false [] s card limits i

  -- then the ledger's number is 0 or 10
  abbrev NoneOrTen : ℕ → Type 0
  NoneOrTen number = (number ≡ 0) ⊎ (number ≡ 10)

  by_row : (full : Bool) → NoneOrTen (row_number (first_of (row 10 full ∷ [])))
  unfolding first_of
  by_row true = inr refl
  by_row false = inl refl

  ledgers_number : Came 10 n l call → NoneOrTen (row_number (verdict_in n l call))
  unfolding before onwards table_of listed
  ledgers_number came =
      subst (λ (v : Verdict). NoneOrTen (row_number v))
      (sym (before_then 10 (rows_in n l call) ∙ ap (λ (v : Verdict). behind v (onwards 10 (rows_in n l call))) came))
      (by_row _)

  -- and the program's is the same
  programs_number : (b : Beside)
      → (told_of (end_on away false s b i (reserve limits m plain))).number ≡ row_number (verdict_in n l call)
  programs_number b =
      let e = end_on away false s b i (reserve limits m plain) in
      ap (λ (x : Told). x.number) (answered n l card k call (response_of e) (kept_after e) (refl, refl))
      ∙ told_number (verdict_in n l call) _ _ refl (λ j. refl)

  unsaid_10 : (number : ℕ) → NoneOrTen number → unsearched_verdict lent m plain ≡ refused number → ⊥
  unfolding unsearched_verdict view_on before table_of
  unsaid_10 number (inl z) e =
      never_says 0 (before 10 (table_of (view_on lent) (table.on i (reserve limits m plain)))) refl (e ∙ ap refused z)
  unsaid_10 number (inr z) e =
      never_says 10 (before 10 (table_of (view_on lent) (table.on i (reserve limits m plain)))) refl (e ∙ ap refused z)

  pub came_comes : Beside → Came 10 n l call → unsearched_verdict lent m plain ≡ accepted
  came_comes b came = by (unsearched_verdict lent m plain) refl
    where
      by : (v : Verdict) → unsearched_verdict lent m plain ≡ v → v ≡ accepted
      by accepted e = refl
      by (refused number) e =
          let told = ap (λ (x : End). (told_of x).number) (reserve_refuses away false s b i number limits m plain
          (reserving.refused_before lent m plain number e)) in
          absurd (unsaid_10 number (subst NoneOrTen (sym (programs_number b) ∙ told) (ledgers_number came)) e)

-- a closing that is told 0 was done
done_told : (number : ℕ) → number_of (cond (eqb number 0) Done (Refused number)) ≡ 0
    → cond (eqb number 0) Done (Refused number) ≡ Done
done_told number z = by (eqb number 0) refl
  where
    by : (t : Bool) → eqb number 0 ≡ t → cond t Done (Refused number) ≡ Done
    by true e = refl
    by false e =
        let zero : number ≡ 0 =
        sym (ap (λ (t : Bool). number_of (cond t Done (Refused number))) e) ∙ z in
        absurd (eqb-false number 0 e zero)

close_done : (t guided : Bool) (s : Kept) (b : Beside) → number_of (end_close t guided s b).outcome.answer ≡ 0
    → (end_close t guided s b).outcome.answer ≡ Done
close_done t guided s b z =
    let guide : List ℕ = cond guided b.summary [] in
    done_told (closings.close_number t s.shape.blocks s.shape.free (guide_tested guided (length s.map) (length guide))
    s.map s.entries s.card b.scratch) z

closes_told : (n : ℕ) (l : List Sheet) (role : ℕ) → may role roles.close ≡ true → (told_in n l (ledgers.close role)).number ≡ 0
unfolding first_of deed_in
closes_told n l role m = rw (m) refl

module _ (n c : ℕ) (card : List ℕ) (limits : Limits n c) (room : length card ≡ 512 * n) where
  -- from the state that the closing leaves
  full_there : (l : List Sheet) (card' : List ℕ) (s t : Kept) → Matches n l card' → t ≡ state_of n l card'
      → (closer : Manner) (lent : Beside) → (ends closer s lent close).outcome.answer ≡ Done
      → t ≡ kept_after (ends closer s lent close) → (m : Manner) (b : Beside) → (m.guided ≡ true → b.summary ≡ own_of t)
      → (given-limits : List ℕ) (sheet k : ℕ) → Came 10 n l (ledgers.on m.role sheet (reserve given-limits k plain))
      → ((told_of (ends m t b (on sheet (reserve given-limits k plain)))).number ≡ 10) ↔ (t.shape.free < k)
  full_there l card' s t matches at closer lent done-so from m b own given-limits sheet k came =
      closed_full s closer lent done-so t from m b own given-limits sheet k
      (subst (λ (x : Kept). Comes m x given-limits sheet k plain) (sym at)
      (came_comes n l card' matches m.role sheet given-limits k b came))

  pub closed_full_in_lists : FullInLists n c card
  closed_full_in_lists made es s own runs closing closes listed-so may-close t from m b guided-own given-limits sheet k came =
      let w : Left n (begun c) (calls_in made) (replies_in made es) s = left_by_own n c card limits room made es s own runs in
      let e = end_of s closing in
      let role : ℕ = closing.manner.role in
      let step = subst (λ (calls : List Call). plain-calls.Runs s calls (replies_to e calls) (kept_after e))
      (ap (call_in role) closes) (fed_one s closing listed-so) in
      let then-left = then w (ledgers.close role) (response_of e) step.0 step.1 in
      let told : (told_of e).number ≡ 0 =
      ap (λ (x : Told). x.number) (told_after w (ledgers.close role) (response_of e) step.0 step.1)
      ∙ closes_told n (after n (begun c) (calls_in made)) role may-close in
      let same : ends closing.manner s closing.beside close ≡ e =
      ap (ends closing.manner s closing.beside) (sym closes) in
      full_there (step_in n (after n (begun c) (calls_in made)) (ledgers.close role)) then-left.card_left s t
      then-left.kept_left (from ∙ step.2 ∙ then-left.state_left) closing.manner closing.beside
      (close_done (turned closing.manner close) closing.manner.guided s closing.beside
      (ap (λ (x : End). (told_of x).number) same ∙ told))
      (from ∙ ap kept_after (sym same)) m b guided-own given-limits
      sheet k came
