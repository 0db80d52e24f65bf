-- The rows of a call that admits one standing alone: any other is refused by its own row, and that one comes to the rows
-- behind.
-- Assumes nothing.
use Rattle.std.specs.Prelude.{Ok}
use mathlib.Core.Path.{◌≡◌, sym, ap, ◌∙◌, subst}
use mathlib.Core.Bool.{Bool}
use mathlib.Core.List.{List, ◌∷◌}
use Prim.Native.Nat.{ℕ}
use Rattle.catalogue_standings.specs.Openings.{opened_for, row_of}
use Rattle.catalogue_standings.specs.Rows.{Row, row, refused, first_of}
use Rattle.catalogue_standings.specs.Standings.{is_absent, is_paused, is_open, is_complete}
use Rattle.catalogue_standings.specs.declared.Standing.{Standing}
use Rattle.catalogue_standings.specs.declared.Standing.TheVariants.{Absent, Open, Complete}
use Rattle.catalogue_standings.proofs.Openings.{rows_of, opened, not_absent, not_open, is_absent_lem, is_open_lem, NotAbsent}
use Rattle.catalogue_standings.proofs.Openings.{NotOpen, not_complete, is_complete_lem, NotComplete}

module _ (turned fits : Bool) (c sheet : ℕ) (s : Standing) (rows : List Row) where
  abbrev absent_only : List Row
  absent_only = rows_of turned fits c sheet s (row 6 (is_paused s) ∷ row 7 (is_open s) ∷ row 8 (is_complete s) ∷ rows)

  pub absent_else : (t : Standing) → opened_for turned fits c sheet s ≡ Ok t → NotAbsent t
      → first_of absent_only ≡ refused (row_of t)
  absent_else t h differs =
      let o = opened turned fits c sheet s t _ h in
      o.verdict ∙ not_absent s rows (subst NotAbsent (sym o.same) differs) o.whole
      ∙ ap (λ (t : Standing). refused (row_of t)) o.same

  pub absent_passes : opened_for turned fits c sheet s ≡ Ok Absent → first_of absent_only ≡ first_of rows
  absent_passes h =
      let o = opened turned fits c sheet s Absent _ h in
      o.verdict ∙ is_absent_lem s rows o.same

  abbrev open_only : List Row
  open_only = rows_of turned fits c sheet s (row 5 (is_absent s) ∷ row 6 (is_paused s) ∷ row 8 (is_complete s) ∷ rows)

  pub open_else : (t : Standing) → opened_for turned fits c sheet s ≡ Ok t → NotOpen t
      → first_of open_only ≡ refused (row_of t)
  open_else t h differs =
      let o = opened turned fits c sheet s t _ h in
      o.verdict ∙ not_open s rows (subst NotOpen (sym o.same) differs) o.whole
      ∙ ap (λ (t : Standing). refused (row_of t)) o.same

  pub open_passes : (start blocks : ℕ) → opened_for turned fits c sheet s ≡ Ok (Open start blocks) → first_of open_only ≡
      first_of rows
  open_passes start blocks h =
      let o = opened turned fits c sheet s (Open start blocks) _ h in
      o.verdict ∙ is_open_lem s start blocks rows o.same

  abbrev complete_only : List Row
  complete_only = rows_of turned fits c sheet s (row 5 (is_absent s) ∷ row 6 (is_paused s) ∷ row 7 (is_open s) ∷ rows)

  pub complete_else : (t : Standing) → opened_for turned fits c sheet s ≡ Ok t → NotComplete t
      → first_of complete_only ≡ refused (row_of t)
  complete_else t h differs =
      let o = opened turned fits c sheet s t _ h in
      o.verdict ∙ not_complete s rows (subst NotComplete (sym o.same) differs) o.whole
      ∙ ap (λ (t : Standing). refused (row_of t)) o.same

  pub complete_passes : (start blocks : ℕ) → opened_for turned fits c sheet s ≡ Ok (Complete start blocks)
      → first_of complete_only ≡ first_of rows
  complete_passes start blocks h =
      let o = opened turned fits c sheet s (Complete start blocks) _ h in
      o.verdict ∙ is_complete_lem s start blocks rows o.same
