-- The least power of two not below a number, by what tells it from every other.
-- Assumes nothing.
use Rattle.std.proofs.Common.{◌≡◌, ℕ, suc, ◌*◌, ◌/◌, ◌^◌, ◌<◌, ◌≤◌, max, ⊎_elim, arith, pow_pos, pow_mono}
use Rattle.laws.proofs.Bools.{order}
use Rattle.summary_groups.specs.Groups.{power}
use Rattle.summary_groups.proofs.Places.{power_power, power_enough, power_least, power_pos}

-- of two powers of two the smaller is no more than half of the other
half_at_most : (k j p q : ℕ) → p ≡ 2 ^ k → q ≡ 2 ^ j → p < q → 2 * p ≤ q
half_at_most k j p q e f l =
    ⊎_elim
    (λ (u : k < j). let m : 2 ^ suc k ≤ 2 ^ j = pow_mono u in omega arith)
    (λ (g : j ≤ k). let m : 2 ^ j ≤ 2 ^ k = pow_mono g in absurd (omega arith))
    (order k j)

pub width_is : (w q : ℕ) → (k : ℕ) × (q ≡ 2 ^ k) → w ≤ q → q / 2 < max 1 w → q ≡ power w
width_is w q k enough least =
    let p = power_power w in
    let covers : w ≤ power w = power_enough w in
    let some : 0 < power w = power_pos w in
    let own : 0 < q = omega (arith, k.1, pow_pos k.0) in
    ⊎_elim
    (λ (l : q < power w).
    let m : 2 * q ≤ power w = half_at_most k.0 p.0 q (power w) k.1 p.1 l in
    ⊎_elim (λ one. absurd (omega arith)) (λ below. absurd (omega arith)) (power_least w))
    (λ (g : power w ≤ q). ⊎_elim
    (λ (l : power w < q). let m : 2 * power w ≤ q = half_at_most p.0 k.0 (power w) q p.1 k.1 l in absurd (omega arith))
    (λ (h : q ≤ power w). omega arith)
    (order (power w) q))
    (order q (power w))
