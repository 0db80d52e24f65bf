-- The calls that are lent a summary, beside those that go by the map alone (document 02, request j). A summary of the right
-- length changes no verdict but that of a reserve's search; with the map's own summary that is the same too, and it is the
-- changed map's own afterwards.
-- Assumes nothing.
use Rattle.std.specs.Prelude.{Option}
use mathlib.Core.Path.{◌≡◌, refl, sym, ap, ◌∙◌}
use mathlib.Core.Logic.{◌⊎◌, inl, inr}
use mathlib.Core.Bool.{Bool, true, false, not, ◌&&◌}
use mathlib.Core.List.{List, [], ◌∷◌}
use Prim.Native.Nat.{ℕ, ◌+◌}
use native.Mathlib.Omega.{arith}
use lib.Dec.{ltb}
use lib.ListN.{length}
use borrow.Author.Tests.{ne_eqb, eq-eqb}
use Rattle.catalogue.specs.declared.Entry.{Entry}
use Rattle.catalogue_standings.specs.Rows.{Row, row, Verdict, accepted, refused, first_of, before, settle}
use Rattle.catalogue_standings.specs.Searches.{none, start_at}
use Rattle.catalogue_standings.proofs.Openings.{skip, stop}
use Rattle.summary.specs.Summary.{summary_length, own_summary}
use Rattle.summary.proofs.Numbers.{own_length}
use Rattle.summary_search.proofs.Searches.{by_own}
use Rattle.refusals.specs.Effects.{giving_verdict, adding_verdict, unsearched_verdict, reserve_verdict, reserve_start}
use Rattle.refusals.specs.Effects.{accept_verdict, grow_verdict, release_verdict}
use Rattle.refusals.specs.Guides.{guide_fits, found_by}
use Rattle.refusals.specs.Lent.{Lent, lent_within}
use Rattle.refusals.specs.Placement.{Placement, figures_in}
use Rattle.refusals.specs.Table.{table_of}
use Rattle.refusals.specs.Views.{view_on, view_at}
use Rattle.refusals.specs.declared.Figures.{Figures}
use Rattle.refusals.proofs.Accept as accepting
use Rattle.refusals.proofs.Beginnings.{given}
use Rattle.refusals.proofs.Grow as growing
use Rattle.refusals.proofs.Lent.{lengths_fit}
use Rattle.refusals.proofs.Placement.{figured}
use Rattle.refusals.proofs.Reserve as reserving

-- row 1 says the same, whatever rows follow
row_1_same : (turned t fits : Bool) (rows : List Row) → t ≡ true
    → first_of (row 21 turned ∷ row 1 (not (t && fits)) ∷ rows) ≡ first_of (row 21 turned ∷ row 1 (not fits) ∷ rows)
row_1_same turned t fits rows e = ap (λ (x : Bool). first_of (row 21 turned ∷ row 1 (not (x && fits)) ∷ rows)) e

module _ (held : ℕ) (limits summary : List ℕ) (n spare : ℕ) (map card : List ℕ) (c : ℕ) (e : Entry) (sheet : ℕ) where
  -- with the summary, and without
  abbrev pub with_it : Lent
  with_it = lent_within held limits true summary n spare map card c e sheet

  abbrev pub without : Lent
  without = lent_within held limits false [] n spare map card c e sheet

  module _ (long : length summary ≡ summary_length (length map)) where
    fits : guide_fits true summary (length map) ≡ true
    fits = eq-eqb (length summary) (summary_length (length map)) long

    pub giving-same : (k : ℕ) → giving_verdict with_it k ≡ giving_verdict without k
    unfolding giving_verdict view_on
    giving-same k = row_1_same false (guide_fits true summary (length map)) (lengths_fit without) _ fits

    pub adding-same : (k : ℕ) → adding_verdict with_it k ≡ adding_verdict without k
    unfolding adding_verdict view_on
    adding-same k = row_1_same false (guide_fits true summary (length map)) (lengths_fit without) _ fits

    pub unsearched-same : (k : ℕ) (p : Placement) → unsearched_verdict with_it k p ≡ unsearched_verdict without k p
    unfolding unsearched_verdict view_on before table_of
    unsearched-same k p = row_1_same false (guide_fits true summary (length map)) (lengths_fit without) _ fits

    pub accept-same : (start k : ℕ) → accept_verdict with_it start k ≡ accept_verdict without start k
    accept-same start k =
        accepting.verdict_behind with_it start k
        ∙ ap (λ (v : Verdict). settle v (accepting.run without start k) refused) (giving-same k)
        ∙ sym (accepting.verdict_behind without start k)

    pub grow-same : (m : ℕ) → grow_verdict with_it m ≡ grow_verdict without m
    grow-same m =
        growing.verdict_behind with_it m
        ∙ ap (λ (v : Verdict). settle v (growing.run without m (e.start + e.length)) refused) (adding-same m)
        ∙ sym (growing.verdict_behind without m)

    pub release-same : release_verdict with_it ≡ release_verdict without
    unfolding release_verdict view_at table_of
    release-same = row_1_same false (guide_fits true summary (length map)) _ _ fits

  -- a summary of the wrong length is 1
  module _ (short : length summary ≡ summary_length (length map) → ⊥) where
    misfits : guide_fits true summary (length map) ≡ false
    misfits = ne_eqb (length summary) (summary_length (length map)) short

    row_1 : (fits : Bool) (rows : List Row)
        → first_of (row 21 false ∷ row 1 (not (guide_fits true summary (length map) && fits)) ∷ rows) ≡ refused 1
    row_1 fits rows = skip 21 _ _ _ refl (stop 1 _ rows (ap (λ (x : Bool). not (x && fits)) misfits))

    giving-1 : (k : ℕ) → giving_verdict with_it k ≡ refused 1
    unfolding giving_verdict view_on
    giving-1 k = row_1 (lengths_fit without) _

    pub reserve-1 : (k : ℕ) (p : Placement) → reserve_verdict with_it k p ≡ refused 1
    unfolding unsearched_verdict view_on before table_of
    reserve-1 k p = reserving.refused_before with_it k p 1 (row_1 (lengths_fit without) _)

    pub accept-1 : (start k : ℕ) → accept_verdict with_it start k ≡ refused 1
    accept-1 start k = accepting.verdict_behind with_it start k
        ∙ ap (λ (v : Verdict). settle v (accepting.run with_it start k) refused) (giving-1 k)

    pub grow-1 : (m : ℕ) → grow_verdict with_it m ≡ refused 1
    unfolding grow_verdict view_on table_of
    grow-1 m = row_1 (lengths_fit without) _

    pub release-1 : release_verdict with_it ≡ refused 1
    unfolding release_verdict view_at table_of
    release-1 = row_1 _ _

  -- ---- the map's own summary

  module _ (own : summary ≡ own_summary map n) where
    pub own-long : length summary ≡ summary_length (length map)
    own-long = ap length own ∙ own_length map n

    module _ (k : ℕ) (p : Placement) where
      abbrev g : Figures
      g = figures_in n p

      -- a reserve that comes to the search finds the same
      found-same : unsearched_verdict without k p ≡ accepted → found_by true summary map g k ≡ found_by false [] map g k
      found-same comes =
          let w = reserving.passed without k p comes in
          let o = given without k w.opens in
          by_own map n summary g.from g.before g.step k (omega (arith, o.sizes.shape.words, o.sizes.shape.limit))
          o.sizes.shape.covered (figured n g w.right).inside own (omega (arith, o.some))

      -- it is refused by the same row, or it is given the same start
      abbrev pub Same : Type 0
      Same =
          ((number : ℕ) × (reserve_verdict with_it k p ≡ refused number) × (reserve_verdict without k p ≡ refused number))
          ⊎ ((reserve_verdict with_it k p ≡ reserve_verdict without k p)
          × (reserve_start with_it k p ≡ reserve_start without k p))

      by-unsearched : (v : Verdict) → unsearched_verdict without k p ≡ v → Same
      unfolding reserve_start
      by-unsearched (refused number) h = inl (
        number,
        reserving.refused_before with_it k p number (unsearched-same own-long k p ∙ h),
        reserving.refused_before without k p number h,
      )
      by-unsearched accepted h =
          let same = found-same h in
          inr (
            reserving.searched with_it k p _ (unsearched-same own-long k p ∙ h) refl
                ∙ ap (λ (o : Option ℕ). first_of (row 10 (none o) ∷ row 4 (ltb spare k) ∷ [])) same
                ∙ sym (reserving.searched without k p _ h refl),
            ap start_at same,
          )

      pub reserve-same : Same
      reserve-same = by-unsearched (unsearched_verdict without k p) refl
