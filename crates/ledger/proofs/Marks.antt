-- The map of a ledger, after a mark.
-- Assumes nothing.
use Prim.Native.Nat.{ℕ, ◌+◌, ◌*◌, ◌^◌, ◌≤◌, ◌<◌}
use mathlib.Core.Path.{◌≡◌, refl, sym, ap, subst, ◌∙◌}
use mathlib.Core.Bool.{and-false, Bool, true, false, cond, ◌&&◌}
use mathlib.Core.List.{List}
use lib.Dec.{eqb, ltb}
use borrow.Author.Tests.{eq-eqb, ne_eqb, lt-ltb}
use Rattle.map_blocks.specs.Blocks.{free}
use Rattle.map_blocks.specs.Maps.{map_of, in_run, marked, words_for}
use Rattle.map_blocks.proofs.Maps.{pack_lt, map_length, map_at, map_free, map_ext}
use Rattle.ledger.specs.Ledger.{Sheet, cover, free_in}
use Rattle.ledger.proofs.Agreement.{map_in}

-- a map is made by what is said of its blocks
pub map_same : (f g : ℕ → Bool) (w : ℕ) → ((b : ℕ) → b < w * 64 → f b ≡ g b) → map_of f w ≡ map_of g w
map_same f g w h =
    map_ext g w (map_of f w) (map_length f w)
    (λ i l. subst (λ (x : ℕ). x < 2 ^ 64) (sym (map_at f w i l)) (pack_lt f (i * 64) 64))
    (λ b l. map_free f w b l ∙ h b l)

marked_map : (f g : ℕ → Bool) (w s k : ℕ) (to : Bool) → ((b : ℕ) → cond (in_run s k b) to (f b) ≡ g b)
    → marked (map_of f w) s k to ≡ map_of g w
unfolding marked
marked_map f g w s k to h =
    ap (λ (m : ℕ). map_of (λ b. cond (in_run s k b) to (free (map_of f w) b)) m) (map_length f w)
    ∙ map_same (λ b. cond (in_run s k b) to (free (map_of f w) b)) g w
    (λ b l. ap (cond (in_run s k b) to) (map_free f w b l) ∙ h b)

module _ (n : ℕ) (l l' : List Sheet) where
  -- every block covered as before
  pub map_kept : ((b : ℕ) → cover l' b ≡ cover l b) → map_in n l ≡ map_in n l'
  map_kept h = map_same (free_in n l) (free_in n l') (words_for n) (λ b lt. ap (λ (c : ℕ). ltb b n && eqb c 0) (sym (h b)))

  -- a run taken: its blocks are covered now, and the others as before
  pub map_taken : (s k : ℕ) → s + k ≤ n → ((b : ℕ) → in_run s k b ≡ true → cover l' b ≡ 0 → ⊥)
      → ((b : ℕ) → in_run s k b ≡ false → cover l' b ≡ cover l b)
      → marked (map_in n l) s k false ≡ map_in n l'
  map_taken s k inside taken others = marked_map (free_in n l) (free_in n l') (words_for n) s k false
      (λ b. go b (in_run s k b) refl)
    where
      go : (b : ℕ) (t : Bool) → in_run s k b ≡ t → cond t false (free_in n l b) ≡ free_in n l' b
      go b true e = sym (ap (λ (t : Bool). ltb b n && t) (ne_eqb (cover l' b) 0 (taken b e)) ∙ and-false (ltb b n))
      go b false e = ap (λ (c : ℕ). ltb b n && eqb c 0) (sym (others b e))

  -- a run given back: no block of it is covered now, and the others as before
  pub map_given : (s k : ℕ) → s + k ≤ n → ((b : ℕ) → in_run s k b ≡ true → (b < n) × (cover l' b ≡ 0))
      → ((b : ℕ) → in_run s k b ≡ false → cover l' b ≡ cover l b)
      → marked (map_in n l) s k true ≡ map_in n l'
  map_given s k inside given others = marked_map (free_in n l) (free_in n l') (words_for n) s k true
      (λ b. go b (in_run s k b) refl)
    where
      go : (b : ℕ) (t : Bool) → in_run s k b ≡ t → cond t true (free_in n l b) ≡ free_in n l' b
      go b true e =
          let h = given b e in
          sym (ap (λ (t : Bool). t && eqb (cover l' b) 0) (lt-ltb b n h.0) ∙ eq-eqb (cover l' b) 0 h.1)
      go b false e = ap (λ (c : ℕ). ltb b n && eqb c 0) (sym (others b e))
