-- The modulus 65,521 is no product of a number up to 504 and one up to 255, so no change of a byte by its weight is a multiple
-- of it.
-- Assumes nothing.
use mathlib.Core.Path.{◌≡◌, refl, sym, ap, subst, ◌∙◌}
use mathlib.Core.Bool.{Bool, true, ◌&&◌, ◌||◌, not}
use mathlib.Core.Logic.{⊎_elim}
use Prim.Native.Nat.{ℕ, zero, suc, ◌+◌, ◌*◌, ◌-◌, ◌/◌, ◌%◌, ◌≤◌, ◌<◌}
use native.Mathlib.Nat.{mul-mod_left, mul-div_cancel, mul-le-mul, mul-pos}
use native.Mathlib.Omega.{arith}
use lib.Dec.{eqb, ltb}
use borrow.Author.Tests.{eq-eqb, eqb-false, ltb-true, not-true}
use Rattle.laws.proofs.Bools.{and_left, and_right, order}
use Rattle.check_power.proofs.Modulus.{modulus}

-- none of the n numbers from 2 on divides it
none : ℕ → Bool
none zero = true
none (suc n) = not (eqb (modulus % (2 + n)) 0) && none n

none_at : (n d : ℕ) → none n ≡ true → d < n → modulus % (2 + d) ≡ 0 → ⊥
unfolding none
none_at zero d e h z = absurd (omega arith)
none_at (suc n) d e h z =
    ⊎_elim
    (λ (p : d < n). none_at n d (and_right (not (eqb (modulus % (2 + n)) 0)) (none n) e) p z)
    (λ (p : n ≤ d).
    let same : d ≡ n = omega arith in
    eqb-false (modulus % (2 + n)) 0
    (not-true (eqb (modulus % (2 + n)) 0) (and_left (not (eqb (modulus % (2 + n)) 0)) (none n) e))
    (ap (λ (k : ℕ). modulus % (2 + k)) (sym same) ∙ z)) (order d n)

-- none of 2 to 255: computed
none_to_255 : none 254 ≡ true
unfolding none
none_to_255 = refl

no_product : (w d : ℕ) → w ≤ 504 → d ≤ 255 → w * d ≡ modulus → ⊥
no_product w zero hw hd e = omega arith
no_product w (suc zero) hw hd e = omega arith
no_product w (suc (suc d)) hw hd e =
    let at : suc (suc d) ≡ 2 + d = omega arith in
    none_at 254 d none_to_255 (omega arith)
    (ap (λ (k : ℕ). modulus % k) (sym at) ∙ ap (λ (k : ℕ). k % suc (suc d)) (sym e) ∙ mul-mod_left w (suc (suc d)))

-- p and q differ by w times the difference of two unequal bytes: their remainders differ
up : (p q w d : ℕ) → 0 < w → w ≤ 504 → 0 < d → d ≤ 255 → q ≡ p + w * d → p % modulus ≡ q % modulus → ⊥
up p q w d hw hw' hd hd' e same =
    let most : w * d ≤ 504 * 255 = mul-le-mul hw' hd' in
    let least : 0 < w * d = mul-pos hw hd in
    no_product w d hw' hd' (one-turn (w * d) most least e same)
  where
    one-turn : (k : ℕ) → k ≤ 504 * 255 → 0 < k → q ≡ p + k → p % modulus ≡ q % modulus → k ≡ modulus
    one-turn k h h' e same = omega arith

pub unequal_remainders : (p q w x y : ℕ) → 0 < w → w ≤ 504 → x < 256 → y < 256 → (x ≡ y → ⊥)
    → p + w * y ≡ q + w * x → p % modulus ≡ q % modulus → ⊥
unequal_remainders p q w x y hw hw' hx hy differ e same =
    ⊎_elim
    (λ (h : x < y).
    let d : ℕ = y - x in
    let split : y ≡ x + d = omega arith in
    up p q w d hw hw' (omega arith) (omega arith) (lifted x d p q (ap (λ (k : ℕ). p + w * k) (sym split) ∙ e)) same)
    (λ (h : y ≤ x).
    let d : ℕ = x - y in
    let split : x ≡ y + d = omega arith in
    up q p w d hw hw' (omega arith) (omega arith) (lifted y d q p (ap (λ (k : ℕ). q + w * k) (sym split) ∙ sym e)) (sym same))
    (order x y)
  where
    lifted : (x d p q : ℕ) → p + w * (x + d) ≡ q + w * x → q ≡ p + w * d
    lifted x d p q e = omega arith

-- ---- 504 and a byte's weight times a byte is no multiple either: that would be 65,017, which is 79 times 823

-- each of the first n numbers does not divide 65,017, or goes more than 504 times into it
fewer : ℕ → Bool
fewer zero = true
fewer (suc n) = (not (eqb (65017 % suc n) 0) || ltb 504 (65017 / suc n)) && fewer n

fewer_at : (n d : ℕ) → fewer n ≡ true → d < n → 65017 % suc d ≡ 0 → 65017 / suc d ≤ 504 → ⊥
unfolding fewer
fewer_at zero d e h z s = absurd (omega arith)
fewer_at (suc n) d e h z s =
    ⊎_elim
    (λ (p : d < n). fewer_at n d (and_right (not (eqb (65017 % suc n) 0) || ltb 504 (65017 / suc n)) (fewer n) e) p z s)
    (λ (p : n ≤ d).
    let same : d ≡ n = omega arith in
    last n (and_left (not (eqb (65017 % suc n) 0) || ltb 504 (65017 / suc n)) (fewer n) e)
    (ap (λ (k : ℕ). 65017 % suc k) (sym same) ∙ z) (subst (λ (k : ℕ). 65017 / suc k ≤ 504) same s))
    (order d n)
  where
    last : (n : ℕ) → (not (eqb (65017 % suc n) 0) || ltb 504 (65017 / suc n)) ≡ true → 65017 % suc n ≡ 0
        → 65017 / suc n ≤ 504 → ⊥
    last n e z s =
        let t : ltb 504 (65017 / suc n) ≡ true = rw (eq-eqb (65017 % suc n) 0 z) at e in
        omega (arith, ltb-true 504 (65017 / suc n) t)

-- the first 255: computed
fewer_255 : fewer 255 ≡ true
unfolding fewer
fewer_255 = refl

no_such_product : (w d : ℕ) → w ≤ 504 → d ≤ 255 → w * d ≡ 65017 → ⊥
no_such_product w zero hw hd e = omega arith
no_such_product w (suc d) hw hd e =
    fewer_at 255 d fewer_255 (omega arith) (ap (λ (k : ℕ). k % suc d) (sym e) ∙ mul-mod_left w (suc d))
    (omega (arith, hw, ap (λ (k : ℕ). k / suc d) (sym e) ∙ mul-div_cancel w {n = suc d} (omega arith)))

pub no_turn : (v w x y : ℕ) → w ≤ 504 → y < 256 → v + w * x ≡ 0 + w * y → (504 + v) % modulus ≡ 0 → ⊥
no_turn v w x y hw hy e z =
    ⊎_elim
    (λ (h : x < y).
    let d : ℕ = y - x in
    let split : y ≡ x + d = omega arith in
    let at : v ≡ w * d = lifted d (e ∙ ap (λ (k : ℕ). 0 + w * k) split) in
    let short : d ≤ 255 = omega arith in
    no_such_product w d hw short (one-turn (w * d) (mul-le-mul hw short) (sym at)))
    (λ (h : y ≤ x).
    let d : ℕ = x - y in
    let split : x ≡ y + d = omega arith in
    nothing (none_left d (ap (λ (k : ℕ). v + w * k) (sym split) ∙ e)))
    (order x y)
  where
    lifted : (d : ℕ) → v + w * x ≡ 0 + w * (x + d) → v ≡ w * d
    lifted d e = omega arith

    none_left : (d : ℕ) → v + w * (y + d) ≡ 0 + w * y → v ≡ 0
    none_left d e = omega arith

    nothing : v ≡ 0 → ⊥
    nothing e = omega arith

    one-turn : (k : ℕ) → k ≤ 504 * 255 → k ≡ v → k ≡ 65017
    one-turn k h same = omega arith
