-- The stores of a seal, part by part, leave the sealed block.
-- Assumes nothing.
use mathlib.Core.Path.{◌≡◌, ap, ◌∙◌}
use mathlib.Core.List.{List, ◌++◌, append_assoc, append-nil}
use Prim.Native.Nat.{ℕ, ◌+◌}
use native.Mathlib.Omega.{arith}
use lib.ListN.{length, take, drop, length-append, drop_of_length-le}
use lib.Seq.{take_at, drop_at, drop-drop}
use borrow.Rule.Slice.PartMut.{put_mid}
use Rattle.block_bytes.specs.Numbers.{bytes4}
use Rattle.block_bytes.proofs.Numbers.{bytes4_length}
use Rattle.block_seals.specs.Sealed.{sums, front, sealed}
use Rattle.block_seals.proofs.Sealed.{front_length}

-- a part lent and given back, right behind what is known already: one part more is known
grown : (known orig new : List ℕ) (at size : ℕ) → length known ≡ at
    → take at (known ++ drop at orig) ++ (new ++ drop size (drop at (known ++ drop at orig))) ≡ known ++ new
    ++ drop (at + size) orig
grown known orig new at size e = rw (
  take_at known (drop at orig) at e,
  drop_at known (drop at orig) at e,
  drop-drop,
  ← append_assoc,
)

-- nothing is left of a slice that is known to its end
whole : (known orig : List ℕ) (size : ℕ) → length orig ≡ size → known ++ drop size orig ≡ known
whole known orig size e = rw (drop_of_length-le orig {i = size} (omega arith), append-nil)

-- sheet, place and payload
pub fronts : (orig y0 y1 y2 payload : List ℕ) (sheet place : ℕ) → length orig ≡ 504
    → y0 ≡ bytes4 sheet → y1 ≡ bytes4 place → y2 ≡ payload
    → put_mid 8 496 (put_mid 4 4 (put_mid 0 4 orig y0) y1) y2 ≡ front sheet place payload
fronts orig y0 y1 y2 payload sheet place h e0 e1 e2 =
    let l0 : length y0 ≡ 4 = ap length e0 ∙ bytes4_length sheet in
    let l1 : length y1 ≡ 4 = ap length e1 ∙ bytes4_length place in
    ap (λ (l : List ℕ). put_mid 8 496 l y2) (grown y0 orig y1 4 4 l0)
    ∙ grown (y0 ++ y1) orig y2 8 496 (length-append y0 y1 ∙ omega arith)
    ∙ whole (y0 ++ y1 ++ y2) orig 504 h
    ∙ (cc)

-- A and B behind them
pub seals : (orig y0 y1 y2 payload : List ℕ) (sheet place a b : ℕ) → length orig ≡ 512 → length payload ≡ 496
    → y0 ≡ front sheet place payload
    → a ≡ (sums 1 0 (take 504 (put_mid 0 504 orig y0))).0 → b ≡ (sums 1 0 (take 504 (put_mid 0 504 orig y0))).1
    → y1 ≡ bytes4 a → y2 ≡ bytes4 b
    → put_mid 508 4 (put_mid 504 4 (put_mid 0 504 orig y0) y1) y2 ≡ sealed sheet place payload
unfolding sealed
seals orig y0 y1 y2 payload sheet place a b h p e0 ea eb e1 e2 =
    let l0 : length y0 ≡ 504 = ap length e0 ∙ front_length sheet place payload p in
    let l1 : length y1 ≡ 4 = ap length e1 ∙ bytes4_length a in
    let summed : take 504 (put_mid 0 504 orig y0) ≡ y0 = take_at y0 (drop 504 orig) 504 l0 in
    ap (λ (l : List ℕ). put_mid 508 4 l y2) (grown y0 orig y1 504 4 l0)
    ∙ grown (y0 ++ y1) orig y2 508 4 (length-append y0 y1 ∙ omega arith)
    ∙ whole (y0 ++ y1 ++ y2) orig 512 h
    ∙ (cc)
