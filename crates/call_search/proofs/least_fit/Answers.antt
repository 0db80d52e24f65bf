-- `call_search::least_fit` meets its contract: each way out by its row, and the start by what the map's search found.
-- Assumes nothing.

use Rattle.catalogue_standings.specs.Answers.{answer_in}
use Rattle.catalogue_standings.specs.declared.Refusal.{Refusal}
use Rattle.std.specs.Prelude.{Err}
use Rattle.std.proofs.lemmas.Result.{err_from_is_err_and}
use Rattle.std.specs.Prelude.{Option, Some, None}
use mathlib.Core.Path.{◌≡◌, sym, ap, ◌∙◌}
use mathlib.Core.Bool.{Bool, true, false, not}
use mathlib.Core.List.{List, [], ◌∷◌}
use Prim.Native.Nat.{ℕ}
use native.Mathlib.Omega.{arith}
use borrow.Author.Tests.{eq-eqb, ne_eqb}
use lib.Dec.{eqb}
use lib.ListN.{length}
use Rattle.map_blocks.specs.Blocks.{free, least_fit}
use Rattle.catalogue_standings.specs.Searches.{none, start_at, start_with_space}
use Rattle.catalogue_standings.specs.Rows.{Verdict, row, accepted, refused, first_of, settle}
use Rattle.catalogue_standings.specs.Limits.{shape_fits}
use Rattle.catalogue_standings.specs.declared.Answer.TheVariants.{Start, Refused}
use Rattle.catalogue_standings.proofs.Limits.{fits}
use Rattle.catalogue_standings.proofs.Openings.{skip, stop, none_left}
use Rattle.catalogue_standings.proofs.Tested.{fails, holds}
use Rattle.call_search.specs.Answers.{search_answer}
use Rattle.call_search.proofs.least_fit.Goals as goal

module _ (turned : Bool) (n spare : ℕ) (map : List ℕ) (k : ℕ) where
  abbrev found : Option ℕ
  found = least_fit (free map) 0 n 1 k

  abbrev verdict : Verdict
  verdict = first_of (row 21 turned ∷ row 1 (not (shape_fits n spare (length map))) ∷ row 3 (eqb k 0) ∷ row 10 (none found)
      ∷ [])

  out : (v : Verdict) → verdict ≡ v
      → settle v (start_with_space (free map) n (start_at found)) Refused ≡ search_answer turned n spare map k
  unfolding search_answer
  out v h = sym (ap (λ (w : Verdict). settle w (start_with_space (free map) n (start_at found)) Refused) h)

  away : turned ≡ true → verdict ≡ refused 21
  away e = stop 21 _ _ e

  module _ (may : turned ≡ false) where
    shut : shape_fits n spare (length map) ≡ false → verdict ≡ refused 1
    shut e = skip 21 _ _ (refused 1) may (stop 1 _ _ (ap not e))

    module _ (fit : shape_fits n spare (length map) ≡ true) where
      empty : k ≡ 0 → verdict ≡ refused 3
      empty z = skip 21 _ _ (refused 3) may (skip 1 _ _ (refused 3) (ap not fit) (stop 3 _ _ (eq-eqb k 0 z)))

      module _ (some : eqb k 0 ≡ false) where
        nothing : found ≡ None → verdict ≡ refused 10
        nothing e =
            skip 21 _ _ (refused 10) may
            (skip 1 _ _ (refused 10) (ap not fit) (skip 3 _ _ (refused 10) some (stop 10 _ _ (ap none e))))

        passes : (s : ℕ) → found ≡ Some s → verdict ≡ accepted
        passes s e =
            skip 21 _ _ accepted may
            (skip 1 _ _ accepted (ap not fit) (skip 3 _ _ accepted some (skip 10 _ _ accepted (ap none e) none_left)))

pub returns-in_err-permit : goal.returns-in_err-permit
returns-in_err-permit c =
    let a = c.args in
    let p = err_from_is_err_and c.from_residual.result c.from_residual.ensures.1 in
    rw (p.1, p.2) (ap (λ (why : Refusal). answer_in (Err why)) c.in_err-permit.ensures.1
    ∙ out _ a.n a.free a.map.now a.k (refused 21) (away _ a.n a.free a.map.now a.k c.in_err-permit.ensures.0))

pub returns-then-not-shape_fits : goal.returns-then-not-shape_fits
returns-then-not-shape_fits c =
    let a = c.args in
    out _ a.n a.free a.map.now a.k (refused 1)
    (shut _ a.n a.free a.map.now a.k c.in_ok-permit.ensures (fails c.shape_fits.ensures c.if-not-shape_fits.true-raw))

pub returns-then-k-eq0 : goal.returns-then-k-eq0
returns-then-k-eq0 c =
    let a = c.args in
    out _ a.n a.free a.map.now a.k (refused 3)
    (empty _ a.n a.free a.map.now a.k c.in_ok-permit.ensures
    (holds c.shape_fits.ensures c.if-not-shape_fits.false-raw) c.if-k-eq0.true)

pub search_card-requires : goal.search_card-requires
search_card-requires c =
    let f = fits _ _ _ (holds c.shape_fits.ensures c.if-not-shape_fits.false-raw) in
    (omega (arith, f.some), omega (arith, f.limit), omega (arith, f.some, f.covered), omega arith)

pub returns-in_default : goal.returns-in_default
returns-in_default c =
    let a = c.args in
    out _ a.n a.free a.map.now a.k (refused 10)
    (nothing _ a.n a.free a.map.now a.k c.in_ok-permit.ensures
    (holds c.shape_fits.ensures c.if-not-shape_fits.false-raw) (ne_eqb _ _ c.if-k-eq0.false)
    (sym c.search_card.ensures ∙ c.in_default.is))

pub space-requires : goal.space-requires
space-requires c =
    let f = fits _ _ _ (holds c.shape_fits.ensures c.if-not-shape_fits.false-raw) in
    (omega (arith, f.limit), omega (arith, f.covered))

pub returns : goal.returns
returns c =
    let a = c.args in
    let here = sym c.search_card.ensures ∙ c.in-Some.is in
    ap (Start c.in-Some.start) c.space.ensures
    ∙ ap (start_with_space (free a.map.now) a.n) (sym (ap start_at here))
    ∙ out _ a.n a.free a.map.now a.k accepted
    (passes _ a.n a.free a.map.now a.k c.in_ok-permit.ensures
    (holds c.shape_fits.ensures c.if-not-shape_fits.false-raw) (ne_eqb _ _ c.if-k-eq0.false) c.in-Some.start here)
