-- `call_take::take` meets its contract.
-- Assumes nothing.

use mathlib.Core.Path.{ap}
use Prim.Native.Nat.{ℕ, ◌-◌}
use Rattle.catalogue.specs.Entries.{open_mark}
use Rattle.catalogue_standings.specs.declared.Answer.TheVariants.{Start}
use Rattle.refusals.specs.Effects.{entry_of, out_of}
use Rattle.call_take.proofs.take.Goals as goal

pub occupy-requires : goal.occupy-requires
occupy-requires c = let h = c.requires in
    (h.0, h.1, h.2, h.3, h.4, h.5)

pub returns : goal.returns
returns c = let a = c.args in
    let done = c.occupy.ensures in (
      ap (λ (x : ℕ). out_of (a.free - a.k) (entry_of open_mark a.start a.k) (Start a.start x))
          c.space-behind.ensures,
      done.0,
      done.1,
      done.2,
    )
