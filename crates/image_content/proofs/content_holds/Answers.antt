-- `content_holds` meets its contract.
-- Assumes nothing.
use Rattle.std.proofs.Common.{◌≡◌, ◌∙◌, refl, sym, ap, ◌&&◌, true, false, Bool, List, ℕ, arith, length}
use Rattle.image.specs.Image.{state_in, filled, blocks_in, sheets_in, entries_in, map_in}
use Rattle.image_soundness.specs.Sound.{sound}
use Rattle.image_soundness.proofs.Tested.{state_tested_unlike, state_tested_windows}
use Rattle.image.proofs.Fitting.{head_to}
use Rattle.image_content.proofs.Contents.{content_sound, content_filled}
use Rattle.image_content.proofs.content_holds.Goals as goal

module _ (image : List ℕ) (passed : Bool) (e : passed ≡ sound (state_in image)) where
  abbrev fill : Bool
  fill = filled image (blocks_in image) (sheets_in image)

  unsound : false ≡ passed → false ≡ (sound (state_in image) && fill)
  unsound r = ap (λ (s : Bool). s && fill) (r ∙ e)

  by_fill : (answer : Bool) → true ≡ passed → answer ≡ fill → answer ≡ (sound (state_in image) && fill)
  by_fill answer r f = f ∙ ap (λ (s : Bool). s && fill) (r ∙ e)

pub overflow_sub-n : goal.overflow_sub-n
overflow_sub-n c = let h = head_to _ _ _ _ c.requires.3 in omega (arith, h.limits.spare)

pub tally_in-requires : goal.tally_in-requires
tally_in-requires c = let h = head_to _ _ _ _ c.requires.3 in (h.count.few, omega (arith, h.exact))

pub test_windows-requires : goal.test_windows-requires
test_windows-requires c =
    let h = head_to _ _ _ _ c.requires.3 in
    (h.limits.limit, h.count.few, omega (arith, h.exact), omega (arith, c.requires.4))

pub returns-then-ne : goal.returns-then-ne
returns-then-ne c =
    let a = c.args in
    let pre = c.requires in
    let h = head_to _ _ _ _ pre.3 in
    unsound a.image.now _ (content_sound a.image.now a.n a.free a.c pre.0 pre.1 pre.2 h.shape (length a.scratch.now) pre.4)
    (state_tested_unlike (map_in a.image.now a.n a.c) (entries_in a.image.now a.c) (length a.scratch.now) a.n _ _
    refl _ c.tally_in.ensures _ c.ne.ensures c.if-ne.true)

pub returns-then-not-test_windows : goal.returns-then-not-test_windows
returns-then-not-test_windows c =
    let a = c.args in
    let pre = c.requires in
    let h = head_to _ _ _ _ pre.3 in
    unsound a.image.now _ (content_sound a.image.now a.n a.free a.c pre.0 pre.1 pre.2 h.shape (length a.scratch.now) pre.4)
    (sym c.if-not-test_windows.true ∙ c.test_windows.ensures
    ∙ state_tested_windows (map_in a.image.now a.n a.c) (entries_in a.image.now a.c) (length a.scratch.now) a.n _ _
    refl _ c.tally_in.ensures _ c.ne.ensures c.if-ne.false)

pub overflow_mul-c : goal.overflow_mul-c
overflow_mul-c c = let h = head_to _ _ _ _ c.requires.3 in omega (arith, h.count.few)

pub overflow_add-c : goal.overflow_add-c
overflow_add-c c = let h = head_to _ _ _ _ c.requires.3 in omega (arith, h.count.few)

pub words_for-requires : goal.words_for-requires
words_for-requires c = (head_to _ _ _ _ c.requires.3).limits.limit

pub overflow_add-c-2 : goal.overflow_add-c-2
overflow_add-c-2 c = let h = head_to _ _ _ _ c.requires.3 in omega (arith, h.count.few, h.limits.limit)

pub returns : goal.returns
returns c =
    let a = c.args in
    let pre = c.requires in
    let h = head_to _ _ _ _ pre.3 in
    by_fill a.image.now _ (content_sound a.image.now a.n a.free a.c pre.0 pre.1 pre.2 h.shape (length a.scratch.now) pre.4) _
    (sym c.if-not-test_windows.false ∙ c.test_windows.ensures
    ∙ state_tested_windows (map_in a.image.now a.n a.c) (entries_in a.image.now a.c) (length a.scratch.now) a.n _ _
    refl _ c.tally_in.ensures _ c.ne.ensures c.if-ne.false)
    (c.zeros_from.ensures ∙ content_filled a.image.now a.n a.free a.c pre.0 pre.1 pre.2 _ c.words_for.ensures)
