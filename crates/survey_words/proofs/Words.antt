-- The bits of a word are those of its bytes.
-- Assumes nothing.
use mathlib.Core.Path.{◌≡◌, refl, sym, ap, ◌∙◌}
use mathlib.Core.Bool.{Bool}
use mathlib.Core.List.{List, [], ◌∷◌, ◌++◌, append_assoc}
use Prim.Native.Nat.{ℕ, zero, suc, ◌+◌, ◌/◌, ◌%◌, ◌^◌}
use native.Mathlib.Nat.{suc-add, div-div-eq-div-mul, mul_comm}
use native.Mathlib.Omega.{arith}
use lib.Pow.{pow-add}
use Rattle.survey_bytes.specs.Bytes.{bits_of}

e7 : (w : ℕ) → w / 128 % 2 ≡ w % 256 / 128 % 2
e7 w = omega arith

e6 : (w : ℕ) → w / 64 % 2 ≡ w % 256 / 64 % 2
e6 w = omega arith

e5 : (w : ℕ) → w / 32 % 2 ≡ w % 256 / 32 % 2
e5 w = omega arith

e4 : (w : ℕ) → w / 16 % 2 ≡ w % 256 / 16 % 2
e4 w = omega arith

e3 : (w : ℕ) → w / 8 % 2 ≡ w % 256 / 8 % 2
e3 w = omega arith

e2 : (w : ℕ) → w / 4 % 2 ≡ w % 256 / 4 % 2
e2 w = omega arith

e1 : (w : ℕ) → w / 2 % 2 ≡ w % 256 / 2 % 2
e1 w = omega arith

e0 : (w : ℕ) → w / 1 % 2 ≡ w % 256 / 1 % 2
e0 w = omega arith

low : (w : ℕ) → bits_of 8 w ≡ bits_of 8 (w % 256)
unfolding bits_of
low w = rw (e7 w, e6 w, e5 w, e4 w, e3 w, e2 w, e1 w, e0 w)

shifted : (k w : ℕ) → w / 2 ^ (k + 8) ≡ w / 256 / 2 ^ k
shifted k w = ap (λ (n : ℕ). w / n) (pow-add 2 k 8 ∙ mul_comm (2 ^ k) 256) ∙ sym (div-div-eq-div-mul w 256 (2 ^ k))

byte_off : (k w : ℕ) → bits_of (k + 8) w ≡ bits_of k (w / 256) ++ bits_of 8 (w % 256)
unfolding bits_of
byte_off zero w = low w
byte_off (suc k) w = rw (suc-add k 8, shifted k w, byte_off k w)

one : (k w : ℕ) (ys : List Bool) → bits_of (k + 8) w ++ ys ≡ bits_of k (w / 256) ++ (bits_of 8 (w % 256) ++ ys)
one k w ys = ap (λ (l : List Bool). l ++ ys) (byte_off k w) ∙ append_assoc (bits_of k (w / 256)) (bits_of 8 (w % 256)) ys

-- a word's bits, by its k bytes: the lowest stands last
abbrev pub bytes : ℕ → ℕ → List Bool → List Bool
bytes zero w ys = ys
bytes (suc k) w ys = bytes k (w / 256) (bits_of 8 (w % 256) ++ ys)

abbrev pub eights : ℕ → ℕ
eights zero = 0
eights (suc k) = eights k + 8

pub word_bits : (k w : ℕ) (ys : List Bool) → bytes k w ys ≡ bits_of (eights k) w ++ ys
unfolding bits_of
word_bits zero w ys = refl
word_bits (suc k) w ys = word_bits k (w / 256) (bits_of 8 (w % 256) ++ ys) ∙ sym (one (eights k) w ys)

pub nothing_behind : (xs : List Bool) → xs ++ [] ≡ xs
nothing_behind [] = refl
nothing_behind (x ∷ xs) = ap (λ (l : List Bool). x ∷ l) (nothing_behind xs)
