-- `map_blocks::word::span` meets its contract, by the bits of its two masks.
-- Assumes nothing.

use mathlib.Core.Path.{◌≡◌, sym, ap₂, ◌∙◌}
use mathlib.Core.Logic.{⊎_elim}
use mathlib.Core.Bool.{◌&&◌}
use Prim.Native.Nat.{ℕ, ◌≤◌, ◌<◌, ◌-◌, ◌+◌, ◌*◌, ◌/◌, ◌%◌, ◌^◌}
use native.Mathlib.Omega.{arith}
use lib.Dec.{leb, ltb}
use lib.Bits.{bit_and}
use borrow.Author.Tests.{lt-ltb, le-ltb}
use Rattle.map_blocks.specs.Words.{bit}
use Rattle.laws.proofs.Bools.{order}
use Rattle.map_blocks.proofs.Bits.{bit_and_lem, bit_shl, bit_past, bit_ones, ones_shr}
use Rattle.map_blocks.proofs.word.span.Goals as goal

masks : (lo hi j : ℕ) → lo < 64 → 0 < hi → hi ≤ 64 → j < 64
    → bit (bit_and ((2 ^ 64 - 1) / 2 ^ lo) (((2 ^ 64 - 1) * 2 ^ (64 - hi)) % 2 ^ 64)) j ≡ (leb lo j && ltb j hi)
masks lo hi j a b c l =
    bit_and_lem ((2 ^ 64 - 1) / 2 ^ lo) (((2 ^ 64 - 1) * 2 ^ (64 - hi)) % 2 ^ 64) j
    ∙ ap₂ ◌&&◌ (ones_shr lo j (omega arith) l)
    (bit_shl (2 ^ 64 - 1) (64 - hi) j
    ∙ ⊎_elim (λ u. bit_ones (64 - hi + j) (omega arith) ∙ sym (lt-ltb j hi u))
    (λ g. bit_past (2 ^ 64 - 1) (64 - hi + j) (omega arith) ∙ sym (le-ltb j hi g)) (order j hi))

pub returns : goal.returns
returns c = λ j l. masks c.args.lo c.args.hi j (omega arith) (omega arith) (omega arith) l
