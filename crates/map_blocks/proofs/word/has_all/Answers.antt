-- `map_blocks::word::has_all` meets its contract: w & m is m exactly where each bit of m is one of w.
-- Assumes nothing.

use mathlib.Core.Path.{◌≡◌, refl, sym, ap, ◌∙◌}
use mathlib.Core.Bool.{Bool, true, false, ◌&&◌}
use Prim.Native.Nat.{ℕ, ◌<◌, ◌^◌}
use lib.Bits.{bit_and, and_lt}
use lib.Dec.{eqb}
use borrow.Author.Tests.{eqb-true, eq-eqb}
use Rattle.map_blocks.specs.Words.{bit, has_all}
use Rattle.laws.proofs.Bools.{both_ways}
use Rattle.map_blocks.proofs.Bits.{bit_and_lem, word_ext}
use Rattle.map_blocks.proofs.Masks.{has_all_elim, has_all_intro}
use Rattle.map_blocks.proofs.word.has_all.Goals as goal

held : (w m : Bool) → (w && m) ≡ m → m ≡ true → w ≡ true
held true m p e = refl
held false m p e = p ∙ e

kept : (w m : Bool) → (m ≡ true → w ≡ true) → (w && m) ≡ m
kept w true h = ap (λ (x : Bool). x && true) (h refl)
kept true false h = refl
kept false false h = refl

masked : (w m : ℕ) → w < 2 ^ 64 → m < 2 ^ 64 → eqb (bit_and w m) m ≡ has_all w m
masked w m a b =
    both_ways (eqb (bit_and w m) m) (has_all w m)
    (λ e. has_all_intro w m (λ j l. held (bit w j) (bit m j)
    (sym (bit_and_lem w m j) ∙ ap (λ (x : ℕ). bit x j) (eqb-true (bit_and w m) m e))))
    (λ e. eq-eqb (bit_and w m) m (word_ext (bit_and w m) m (and_lt 64 w m a b) b
    (λ j l. bit_and_lem w m j ∙ kept (bit w j) (bit m j) (has_all_elim w m e j l))))

pub returns : goal.returns
returns c = masked c.args.w c.args.m c.ranges.w.fits c.ranges.m.fits
