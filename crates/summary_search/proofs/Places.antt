-- Where the groups of a summary lie, in blocks.
-- Assumes nothing.
use mathlib.Core.Path.{◌≡◌, ap, ◌∙◌}
use Prim.Native.Nat.{ℕ, zero, suc, ◌+◌, ◌-◌, ◌*◌, ◌/◌, ◌^◌, ◌≤◌, ◌<◌}
use lib.Pow.{pow_pos}
use native.Mathlib.Omega.{arith}
use lib.ListN.{length}
use mathlib.Core.List.{List}
use Rattle.summary_groups.specs.Groups.{power}
use Rattle.summary_groups.proofs.Places.{Power, power_power, power_small}
use Rattle.summary_groups.proofs.Places.{sited_zero, sited_left, sited_right, sited_even, sited_index}
use Rattle.summary.specs.Summary.{summary_length}
use Rattle.summary_search.specs.Seeking.{Located, Lies}

-- a group is one word, or has two halves of which the same is true
abbrev pub Level : ℕ → Type 0
Level m = (j : ℕ) × (m ≡ 64 * 2 ^ j)

pub level_least : (m : ℕ) → Level m → 64 ≤ m
level_least m (j, e) = omega (arith, pow_pos j)

pub level_halves : (m : ℕ) → Level m → (m ≡ 64 → ⊥) → (m ≡ 2 * (m / 2)) × Level (m / 2)
level_halves m (zero, e) ne = absurd (ne e)
level_halves m (suc j, e) ne = let h : m / 2 ≡ 64 * 2 ^ j = omega arith in (omega arith, (j, h))

pub located_whole : (p : ℕ) → Power p → p ≤ 4096 → Located p 0 0 (64 * p)
located_whole p k l = record { first = 0; size = p; sited = sited_zero p k l; starts = omega arith; blocks = omega arith }

module _ (p g base m : ℕ) (l : Located p g base m) where
  pub located_level : Level m
  located_level = let k = l.sited.level in (k.0, l.blocks ∙ ap (λ (x : ℕ). 64 * x) k.1)

  pub located_least : 64 ≤ m
  located_least = level_least m located_level

  pub located_inside : base + m ≤ 64 * p
  located_inside =
      let i : l.first + l.size ≤ p = l.sited.inside in
      let a : base ≡ 64 * l.first = l.starts in
      let b : m ≡ 64 * l.size = l.blocks in
      omega arith

  pub located_small : base + m ≤ 262144
  located_small = let i : p ≤ 4096 = l.sited.small in omega (arith, located_inside)

  pub located_index : g + 1 < 2 * p
  located_index = sited_index p g l.first l.size l.sited

  pub located_few : g ≤ 8192
  located_few = let i : p ≤ 4096 = l.sited.small in omega (arith, located_index)

  module _ (ne : m ≡ 64 → ⊥) where
    more : l.size ≡ 1 → ⊥
    more e = let b : m ≡ 64 * l.size = l.blocks in ne (omega arith)

    pub located-even : m ≡ 2 * (m / 2)
    located-even = (level_halves m located_level ne).0

    pub located-left : Located p (2 * g + 1) base (m / 2)
    located-left =
        let b : m ≡ 64 * l.size = l.blocks in
        let e : l.size ≡ 2 * (l.size / 2) = sited_even p g l.first l.size l.sited more in
        record {
          first = l.first;
          size = l.size / 2;
          sited = sited_left p g l.first l.size l.sited more;
          starts = l.starts;
          blocks = omega arith;
        }

    pub located-right : Located p (2 * g + 2) (base + m / 2) (m / 2)
    located-right =
        let a : base ≡ 64 * l.first = l.starts in
        let b : m ≡ 64 * l.size = l.blocks in
        let e : l.size ≡ 2 * (l.size / 2) = sited_even p g l.first l.size l.sited more in
        record {
          first = l.first + l.size / 2;
          size = l.size / 2;
          sited = sited_right p g l.first l.size l.sited more;
          starts = omega arith;
          blocks = omega arith;
        }

-- ---- the groups of a summary

module _ (s : List ℕ) (g base m : ℕ) (l : Lies s g base m) where
  pub lies_left : (m ≡ 64 → ⊥) → Lies s (2 * g + 1) base (m / 2)
  lies_left ne = record { words = l.words; long = l.long; located = located-left l.words g base m l.located ne }

  pub lies_right : (m ≡ 64 → ⊥) → Lies s (2 * g + 2) (base + m / 2) (m / 2)
  lies_right ne = record { words = l.words; long = l.long; located = located-right l.words g base m l.located ne }

  pub lies_room : 3 * g + 2 < length s
  lies_room =
      let e : length s ≡ 3 * (2 * l.words - 1) = l.long in
      let i : g + 1 < 2 * l.words = located_index l.words g base m l.located in
      omega arith

pub lies_whole : (w : ℕ) (s : List ℕ) (p : ℕ) → w ≤ 4096 → length s ≡ summary_length w → p ≡ power w → Lies s 0 0 (64 * p)
lies_whole w s p few long e = mathlib.Core.Path.subst (λ (q : ℕ). Lies s 0 0 (64 * q)) (mathlib.Core.Path.sym e)
    (record { words = power w; long = long; located = located_whole (power w) (power_power w) (power_small w few) })
