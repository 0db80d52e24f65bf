-- A call that is turned away by role (document 02 (n)): row 21 comes before all others.
-- Assumes nothing.
use mathlib.Core.Path.{◌≡◌}
use mathlib.Core.Bool.{true}
use Rattle.catalogue_standings.specs.Rows.{refused}
use Rattle.catalogue_standings.proofs.Openings.{stop}
use Rattle.refusals.specs.Table.{View, SheetCall, on, table_of, verdict_of}

pub turned_first : (v : View) (c : SheetCall) → v.turned ≡ true → verdict_of v c ≡ refused 21
unfolding table_of
turned_first v (on sheet ask) e = stop 21 _ _ e
