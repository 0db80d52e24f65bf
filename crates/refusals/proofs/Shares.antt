-- Row 18: the sum of what is held and wanted is not made; and where no limit is passed, the verdict is the one without the row.
-- Assumes nothing.
use mathlib.Core.Path.{◌≡◌, refl, ap, ◌∙◌}
use mathlib.Core.Bool.{Bool, true, false, cond}
use mathlib.Core.List.{List, [], ◌∷◌}
use lib.Dec.{eqb}
use Rattle.catalogue_standings.specs.Rows.{Row, Verdict, refused, first_of}
use Rattle.refusals.specs.Shares.{without_limits}
use Rattle.catalogue_standings.proofs.Rows.{Clear, either}

-- ---- the test

-- ---- the verdict without the row

pub none_passed : (rows : List Row) → Clear 18 rows → first_of rows ≡ first_of (without_limits rows)
unfolding first_of without_limits
none_passed [] clears = refl
none_passed (r ∷ rows) clears = go (eqb r.number 18) clears (none_passed rows)
  where
    go : (t : Bool) → either t ((r.holds ≡ false) × Clear 18 rows) (Clear 18 rows)
        → (Clear 18 rows → first_of rows ≡ first_of (without_limits rows))
        → first_of (r ∷ rows) ≡ first_of (cond t (without_limits rows) (r ∷ without_limits rows))
    go true clears later =
        ap (λ (b : Bool). cond b (refused r.number) (first_of rows)) clears.0 ∙ later clears.1
    go false clears later = ap (λ (v : Verdict). cond r.holds (refused r.number) v) (later clears)
