-- `call_take::occupy` meets its contract.
-- Assumes nothing.

use mathlib.Core.Path.{◌≡◌, sym, ap, subst, ◌∙◌}
use mathlib.Core.Bool.{true, false}
use mathlib.Core.List.{List}
use Prim.Native.Nat.{ℕ}
use native.Mathlib.Omega.{arith}
use lib.ListN.{length}
use Rattle.map_blocks.proofs.Maps.{marked_length}
use Rattle.refusals.specs.Guides.{guide_fits, guide_after}
use Rattle.call_take.proofs.occupy.Goals as goal

pub follow-requires : goal.follow-requires
follow-requires c = let a = c.args in
    let h = c.requires in
    let same : length c.mark.new.map ≡ length a.map.now =
    ap length c.mark.ensures ∙ marked_length a.map.now a.start a.k false in (
      omega (arith, h.2),
      omega (arith, h.3),
      omega (arith, h.0, h.3),
      subst (λ (w : ℕ). guide_fits a.guided a.summary.now w ≡ true) (sym same) h.4,
    )

pub returns : goal.returns
returns c = let a = c.args in (
  c.mark.ensures,
  c.follow.ensures
      ∙ ap (λ (m : List ℕ). guide_after a.guided a.summary.now m a.n a.start a.k)
      c.mark.ensures,
  c.zero_blocks.ensures,
)
