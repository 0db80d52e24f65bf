-- `call_search::fresh` meets its contract: refused with the map as it was, or the fresh map.
-- Assumes nothing.
-- fresh fits, test by test

use Rattle.catalogue_standings.specs.Refusals.{number}
use Rattle.catalogue_standings.specs.declared.Refusal.{Refusal}
use Rattle.std.proofs.lemmas.Result.{err_from_is_err_and}
use mathlib.Core.Path.{◌≡◌, sym, ap, ◌∙◌}
use mathlib.Core.Bool.{Bool, true, false, not}
use mathlib.Core.List.{List, []}
use Prim.Native.Nat.{ℕ}
use native.Mathlib.Omega.{arith}
use lib.ListN.{length}
use Rattle.map_blocks.specs.Maps as maps
use Rattle.catalogue_standings.specs.Limits.{shape_fits, sheets_fit, fresh_fits}
use Rattle.catalogue_standings.specs.Rows.{Verdict, accepted, refused, settle}
use Rattle.catalogue_standings.proofs.Limits.{fits}
use Rattle.catalogue_standings.proofs.Openings.{skip, stop, none_left}
use Rattle.catalogue_standings.proofs.Tested.{fails, holds}
use Rattle.call_search.specs.Answers.{fresh_verdict, fresh_map}
use Rattle.call_search.proofs.fresh.Goals as goal

module _ (n maplen c : ℕ) where
  no-shape : shape_fits n n maplen ≡ false → fresh_fits n maplen c ≡ false
  unfolding fresh_fits
  no-shape e = simp e

  no-sheets : shape_fits n n maplen ≡ true → sheets_fit c ≡ false → fresh_fits n maplen c ≡ false
  unfolding fresh_fits
  no-sheets e d = simp (e, d)

  both : shape_fits n n maplen ≡ true → sheets_fit c ≡ true → fresh_fits n maplen c ≡ true
  unfolding fresh_fits
  both e d = simp (e, d)

-- the map, by the verdict
module _ (turned : Bool) (n : ℕ) (map : List ℕ) (c : ℕ) where
  left : {v : Verdict} → fresh_verdict turned n (length map) c ≡ v
      → settle v (maps.fresh_map n (length map)) (λ number. map) ≡ fresh_map turned n map c
  left h = ap (λ (v : Verdict). settle v (maps.fresh_map n (length map)) (λ number. map)) (sym h)

  away : turned ≡ true → fresh_verdict turned n (length map) c ≡ refused 21
  unfolding fresh_verdict
  away e = stop 21 _ _ e

  module _ (may : turned ≡ false) where
    shut : fresh_fits n (length map) c ≡ false → fresh_verdict turned n (length map) c ≡ refused 1
    unfolding fresh_verdict
    shut e = skip 21 _ _ (refused 1) may (stop 1 _ [] (ap not e))

    passes : fresh_fits n (length map) c ≡ true → fresh_verdict turned n (length map) c ≡ accepted
    unfolding fresh_verdict
    passes e = skip 21 _ _ accepted may (skip 1 _ [] accepted (ap not e) none_left)

pub returns-in_err-permit : goal.returns-in_err-permit
returns-in_err-permit c =
    let a = c.args in
    let told = away _ a.n a.map.now a.c c.in_err-permit.ensures.0 in
    let p = err_from_is_err_and c.from_residual.result c.from_residual.ensures.1 in
    rw (p.1, p.2) (
      told ∙ ap (λ (why : Refusal). refused (number why)) (sym c.in_err-permit.ensures.1),
      left _ a.n a.map.now a.c told,
    )

pub returns-then-not-shape_fits : goal.returns-then-not-shape_fits
returns-then-not-shape_fits c =
    let a = c.args in
    let told = shut _ a.n a.map.now a.c c.in_ok-permit.ensures
    (no-shape _ _ a.c (fails c.shape_fits.ensures c.if-not-shape_fits.true-raw)) in
    (told, left _ a.n a.map.now a.c told)

pub returns-then-not-sheets_fit : goal.returns-then-not-sheets_fit
returns-then-not-sheets_fit c =
    let a = c.args in
    let told = shut _ a.n a.map.now a.c c.in_ok-permit.ensures
    (no-sheets _ _ a.c (holds c.shape_fits.ensures c.if-not-shape_fits.false-raw)
    (fails c.sheets_fit.ensures c.if-not-sheets_fit.true-raw)) in
    (told, left _ a.n a.map.now a.c told)

pub fresh-requires : goal.fresh-requires
fresh-requires c =
    let f = fits _ _ _ (holds c.shape_fits.ensures c.if-not-shape_fits.false-raw) in
    omega (arith, f.limit, f.words)

pub returns : goal.returns
returns c =
    let a = c.args in
    let told = passes _ a.n a.map.now a.c c.in_ok-permit.ensures
    (both _ _ a.c (holds c.shape_fits.ensures c.if-not-shape_fits.false-raw)
    (holds c.sheets_fit.ensures c.if-not-sheets_fit.false-raw)) in
    (told, c.fresh.ensures ∙ left _ a.n a.map.now a.c told)
