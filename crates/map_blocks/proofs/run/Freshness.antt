-- A map held against that of a fresh card of n blocks, word by word.
-- Assumes nothing.
use mathlib.Core.Path.{◌≡◌, sym, ap, ◌∙◌}
use mathlib.Core.Logic.{⊎_elim}
use mathlib.Core.List.{List}
use mathlib.Core.Bool.{true, false}
use Prim.Native.Nat.{ℕ, ◌+◌, ◌-◌, ◌*◌, ◌≤◌, ◌<◌, ◌^◌}
use native.Mathlib.Omega.{arith}
use lib.Dec.{ltb}
use lib.ListN.{length, get_or}
use Rattle.map_blocks.specs.Blocks.{free}
use Rattle.map_blocks.specs.Maps.{in_state, is_fresh}
use Rattle.map_blocks.specs.Words.{bit}
use Rattle.map_blocks.proofs.Bits.{word_ext}
use Rattle.laws.proofs.Bools.{order, not_true}
use Rattle.map_blocks.proofs.Maps.{free_bit, in_state_lem, state_of}
use Rattle.map_blocks.proofs.Runs.{all_intro, all_elim}

module _ (map : List ℕ) (n : ℕ) where
  -- the blocks of the first i words are as in a fresh map
  abbrev pub Passed : ℕ → Type 0
  Passed i = (b : ℕ) → b < i * 64 → free map b ≡ ltb b n

  module _ (i v : ℕ) (says : (j : ℕ) → j < 64 → bit v j ≡ ltb (i * 64 + j) n) where
    pub passed_more : Passed i → get_or map i 0 ≡ v → Passed (i + 1)
    passed_more p e b h =
        ⊎_elim (λ lo. p b lo) (λ hi.
        let back : i * 64 + (b - i * 64) ≡ b = omega arith in
        ap (free map) (sym back) ∙ free_bit map i (b - i * 64) (omega arith) ∙ ap (λ (x : ℕ). bit x (b - i * 64)) e
        ∙ says (b - i * 64) (omega arith) ∙ ap (λ (x : ℕ). ltb x n) back) (order b (i * 64))

    pub passed-not : i < length map → get_or map i 0 < 2 ^ 64 → v < 2 ^ 64 → (get_or map i 0 ≡ v → ⊥) → false ≡ is_fresh map n
    unfolding is_fresh
    passed-not l small small' ne =
        sym (not_true (is_fresh map n) (λ h.
        ne (word_ext (get_or map i 0) v small small' (λ j u.
        sym (free_bit map i j u)
        ∙ in_state_lem map (ltb (i * 64 + j) n) (i * 64 + j)
        (all_elim (λ b. in_state map (ltb b n) b) 0 (64 * length map) h (i * 64 + j) (omega arith) (omega arith))
        ∙ sym (says j u)))))

  pub passed_end : (i : ℕ) → length map ≤ i → Passed i → true ≡ is_fresh map n
  unfolding is_fresh
  passed_end i l p =
      sym (all_intro (λ b. in_state map (ltb b n) b) 0 (64 * length map)
      (λ b a h. state_of map (ltb b n) b (p b (omega arith))))
