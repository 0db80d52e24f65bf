-- `image_load::verdict` meets its contract, row by row.
-- Assumes nothing.

use mathlib.Core.List.{List}
use mathlib.Core.Path.{◌≡◌, sym, ap, ap₂, ◌∙◌}
use Prim.Native.Nat.{ℕ}
use native.Mathlib.Omega.{arith}
use lib.ListN.{length}
use Rattle.image_frames.specs.Numbers.{number_in}
use Rattle.image.specs.Image.{blocks_in, free_count_in, sheets_in}
use Rattle.image.specs.Table.{head_fits, load_fits}
use Rattle.image.proofs.Fitting.{whole_to, head_to, load_fits_to}
use Rattle.image_load.proofs.Heads.{blocks_in_lem, spare_in_lem, sheets_in_lem}
use Rattle.image_load.proofs.LoadRows.{load_row_21, load_row_12, load_row_13, load_row_14, load_row_1, load_row_content}
use Rattle.image_load.proofs.LoadRows.{load_row_none}
use Rattle.image_load.proofs.verdict.Goals as goal

-- the numbers at the head, as they were read
head_read : (image : List ℕ) (n spare c total : ℕ) → n ≡ number_in image 0 → spare ≡ number_in image 1 → c ≡ number_in image 2
    → head_fits n spare c total ≡ head_fits (blocks_in image) (free_count_in image) (sheets_in image) total
head_read image n spare c total p q r =
    ap₂ (λ (x y : ℕ). head_fits x y c total) (p ∙ blocks_in_lem image) (q ∙ spare_in_lem image)
    ∙ ap (λ (x : ℕ). head_fits (blocks_in image) (free_count_in image) x total) (r ∙ sheets_in_lem image)

lent-read : (image : List ℕ) (n c maplen count scratchlen : ℕ) → n ≡ number_in image 0 → c ≡ number_in image 2
    → load_fits n c maplen count scratchlen ≡ load_fits (blocks_in image) (sheets_in image) maplen count scratchlen
lent-read image n c maplen count scratchlen p r =
    ap₂ (λ (x y : ℕ). load_fits x y maplen count scratchlen) (p ∙ blocks_in_lem image) (r ∙ sheets_in_lem image)

pub returns-then-turned_away-clause-number : goal.returns-then-turned_away-clause-number
returns-then-turned_away-clause-number c =
    let a = c.args in
    load_row_21 _ a.image.now a.maplen a.count (length a.scratch.now)
    (sym c.turned_away.ensures ∙ c.if-turned_away.true)

pub returns-then-not-whole_blocks-clause-number : goal.returns-then-not-whole_blocks-clause-number
returns-then-not-whole_blocks-clause-number c =
    let a = c.args in
    load_row_12 _ a.image.now a.maplen a.count (length a.scratch.now)
    (sym c.turned_away.ensures ∙ c.if-turned_away.false)
    (sym c.whole_blocks.ensures ∙ c.if-not-whole_blocks.true)

pub all_framed-requires : goal.all_framed-requires
all_framed-requires c =
    let w = whole_to _ (sym c.whole_blocks.ensures ∙ c.if-not-whole_blocks.false) in
    omega (arith, w.exact, w.few)

pub returns-then-not-all_framed-clause-number : goal.returns-then-not-all_framed-clause-number
returns-then-not-all_framed-clause-number c =
    let a = c.args in
    load_row_13 _ a.image.now a.maplen a.count (length a.scratch.now)
    (sym c.turned_away.ensures ∙ c.if-turned_away.false)
    (sym c.whole_blocks.ensures ∙ c.if-not-whole_blocks.false)
    (sym c.all_framed.ensures ∙ c.if-not-all_framed.true)

pub returns-then-not-head_fits-clause-number : goal.returns-then-not-head_fits-clause-number
returns-then-not-head_fits-clause-number c =
    let a = c.args in
    load_row_14 _ a.image.now a.maplen a.count (length a.scratch.now)
    (sym c.turned_away.ensures ∙ c.if-turned_away.false)
    (sym c.whole_blocks.ensures ∙ c.if-not-whole_blocks.false)
    (sym c.all_framed.ensures ∙ c.if-not-all_framed.false)
    (sym (head_read a.image.now _ _ _ _ c.number-n.ensures
    c.number-free.ensures c.number-c.ensures)
    ∙ sym c.head_fits.ensures ∙ c.if-not-head_fits.true)

pub load_fits-requires : goal.load_fits-requires
load_fits-requires c = (head_to _ _ _ _ (sym c.head_fits.ensures ∙ c.if-not-head_fits.false)).limits.limit

pub returns-then-not-load_fits-clause-number : goal.returns-then-not-load_fits-clause-number
returns-then-not-load_fits-clause-number c =
    let a = c.args in
    load_row_1 _ a.image.now a.maplen a.count (length a.scratch.now)
    (sym c.turned_away.ensures ∙ c.if-turned_away.false)
    (sym c.whole_blocks.ensures ∙ c.if-not-whole_blocks.false)
    (sym c.all_framed.ensures ∙ c.if-not-all_framed.false)
    (sym (head_read a.image.now _ _ _ _ c.number-n.ensures
    c.number-free.ensures c.number-c.ensures)
    ∙ sym c.head_fits.ensures ∙ c.if-not-head_fits.false)
    (sym (lent-read a.image.now _ _ _ _ _ c.number-n.ensures
    c.number-c.ensures) ∙ sym c.load_fits.ensures ∙ c.if-not-load_fits.true)

pub content_holds-requires : goal.content_holds-requires
content_holds-requires c =
    let a = c.args in
    let w = whole_to _
    (sym c.whole_blocks.ensures ∙ c.if-not-whole_blocks.false) in
    let l = load_fits_to _ _ _ _ _ (sym c.load_fits.ensures ∙ c.if-not-load_fits.false) in (
      c.number-n.ensures ∙ blocks_in_lem a.image.now,
      c.number-free.ensures ∙ spare_in_lem a.image.now,
      c.number-c.ensures ∙ sheets_in_lem a.image.now,
      sym c.head_fits.ensures ∙ c.if-not-head_fits.false,
      l.scratch,
      omega (arith, w.exact, w.few),
    )

pub returns-then-not-content_holds-clause-number : goal.returns-then-not-content_holds-clause-number
returns-then-not-content_holds-clause-number c =
    let a = c.args in
    load_row_content _ a.image.now a.maplen a.count (length a.scratch.now)
    (sym c.turned_away.ensures ∙ c.if-turned_away.false)
    (sym c.whole_blocks.ensures ∙ c.if-not-whole_blocks.false)
    (sym c.all_framed.ensures ∙ c.if-not-all_framed.false)
    (sym (head_read a.image.now _ _ _ _
    c.number-n.ensures
    c.number-free.ensures
    c.number-c.ensures)
    ∙ sym c.head_fits.ensures ∙ c.if-not-head_fits.false)
    (sym (lent-read a.image.now _ _ _ _ _
    c.number-n.ensures
    c.number-c.ensures)
    ∙ sym c.load_fits.ensures ∙ c.if-not-load_fits.false)
    (sym c.content_holds.ensures ∙ c.if-not-content_holds.true)

pub returns-clause-number : goal.returns-clause-number
returns-clause-number c =
    let a = c.args in
    load_row_none _ a.image.now a.maplen a.count (length a.scratch.now)
    (sym c.turned_away.ensures ∙ c.if-turned_away.false)
    (sym c.whole_blocks.ensures ∙ c.if-not-whole_blocks.false)
    (sym c.all_framed.ensures ∙ c.if-not-all_framed.false)
    (sym (head_read a.image.now _ _ _ _
    c.number-n.ensures
    c.number-free.ensures
    c.number-c.ensures)
    ∙ sym c.head_fits.ensures ∙ c.if-not-head_fits.false)
    (sym (lent-read a.image.now _ _ _ _ _
    c.number-n.ensures
    c.number-c.ensures)
    ∙ sym c.load_fits.ensures ∙ c.if-not-load_fits.false)
    (sym c.content_holds.ensures ∙ c.if-not-content_holds.false)

pub returns-clause-head : goal.returns-clause-head
returns-clause-head c =
    (c.number-n.ensures ∙ blocks_in_lem c.args.image.now, c.number-free.ensures ∙ spare_in_lem c.args.image.now)
