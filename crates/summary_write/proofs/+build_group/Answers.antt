-- `summary_write::build_group` meets its contract: a group of one word is stored, and another built from its halves as they are
-- built.
-- Assumes nothing.
use Rattle.std.proofs.Common.{◌≡◌, ◌+◌, ◌*◌, ◌<◌, length, sym, ap, ◌∙◌, subst, arith}
use Rattle.summary_groups.specs.Groups.{power}
use Rattle.summary_groups.specs.Places.{Sited}
use Rattle.summary.specs.Walks.{with_group, Builds}
use Rattle.summary_groups.proofs.Places.{sited_index, sited_pos, sited_left, sited_right}
use Rattle.summary.proofs.Rebuilding.{at_word, from_halves}
use Rattle.summary_write.proofs.+build_group.Goals as goal

pub returns-then-size-eq1 : goal.returns-then-size-eq1
returns-then-size-eq1 t c =
    let a = c.args in
    let i : a.g + 1 < 2 * power (length a.map.now) = sited_index _ _ _ _ c.requires.1 in
    let s : Sited (power (length a.map.now)) a.g a.first 1 = subst (Sited _ _ _) c.if-size-eq1.true c.requires.1 in
    subst (Builds _ _ _ _) (sym (c.store_word.ensures ∙ ap (with_group a.summary.now a.g) c.free_word.ensures))
    (at_word _ _ _ _ _ s (omega arith))

pub build_group-requires : goal.build_group-requires
build_group-requires t c = (
  omega (arith, sited_pos _ _ _ _ c.requires.1),
  (c.requires.0, sited_left _ _ _ _ c.requires.1 c.if-size-eq1.false),
)

pub build_group-requires-2 : goal.build_group-requires-2
build_group-requires-2 t c =
    let l = c.requires.0 in (
      omega (arith, sited_pos _ _ _ _ c.requires.1),
      (
        record { few = l.few; fits = l.fits; long = c.build_group.auto.summary ∙ l.long },
        sited_right _ _ _ _ c.requires.1 c.if-size-eq1.false,
      ),
    )

pub returns : goal.returns
returns t c =
    let a = c.args in
    let i : a.g + 1 < 2 * power (length a.map.now) = sited_index _ _ _ _ c.requires.1 in
    let l : length c.build_group-2.new.summary ≡ length a.summary.now =
    c.build_group-2.auto.summary ∙ c.build_group.auto.summary in
    subst (Builds _ _ _ _) (sym c.store_joined.ensures)
    (from_halves _ _ _ _ _ _ _ _ c.requires.1 c.if-size-eq1.false (omega arith)
    c.build_group.ensures c.build_group-2.ensures)
