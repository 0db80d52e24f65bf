-- The state that a ledger calls for is sound (document 01, "Saved image").
-- Assumes nothing.
use Prim.Native.Nat.{ℕ, suc, ◌+◌, ◌-◌, ◌*◌, ◌<◌}
use mathlib.Core.Path.{◌≡◌, refl, sym, ap, ◌∙◌}
use mathlib.Core.Bool.{Bool, true, false, cond, not, ◌&&◌}
use mathlib.Core.List.{List, [], ◌∷◌, map}
use native.Mathlib.Omega.{arith}
use lib.Dec.{eqb, leb}
use lib.ListN.{length}
use borrow.Author.Tests.{le-leb, lt-ltb, le-ltb, eq-eqb}
use Rattle.map_blocks.specs.Blocks.{free}
use Rattle.map_blocks.specs.Maps.{in_state}
use Rattle.laws.proofs.Bools.{and_both}
use Rattle.map_blocks.proofs.Runs.{all_intro}
use Rattle.survey.specs.Survey.{counts_of, free_of, blocks}
use Rattle.catalogue_standings.specs.Standings.{standing_of, is_damaged}
use Rattle.image_soundness.specs.Sound as saved
use Rattle.ledger.specs.Ledger.{Sheet, sheet_at, covers, cover, free_in, spare_in}
use Rattle.ledger.specs.Claim.{entry_in}
use Rattle.ledger.specs.Lists.{saved_of}
use Rattle.ledger.proofs.Agreement.{map_in, state_of, Matches, free_map, stands_same}
use Rattle.ledger.proofs.Wings.{entry_at_lem}
use Rattle.ledger.proofs.Listed.{sheet_undamaged}

all_undamaged : (n : ℕ) (f : ℕ → Bool) (l : List Sheet)
    → ((i : ℕ) → i < length l → is_damaged (standing_of n f (entry_in (sheet_at l i))) ≡ false)
    → saved.undamaged n f (map entry_in l) ≡ true
unfolding saved.undamaged
all_undamaged n f [] h = refl
all_undamaged n f (x ∷ l) h = and_both _ _ (ap not (h 0 (omega arith))) (all_undamaged n f l (λ i lt. h (suc i) (omega arith)))

pub same_cover : (l : List Sheet) (b : ℕ) → saved.coverings (map entry_in l) b ≡ cover l b
unfolding saved.coverings
same_cover [] b = refl
same_cover (x ∷ l) b = ap (λ (c : ℕ). covers x b + c) (same_cover l b)

as_it_is : (t : Bool) → cond t t (not t) ≡ true
as_it_is true = refl
as_it_is false = refl

module _ (n : ℕ) (l : List Sheet) (card : List ℕ) (k : Matches n l card) where
  reads : (b : ℕ) → free (map_in n l) b ≡ free_in n l b
  reads b = ap (λ (f : ℕ → Bool). f b) (free_map n l)

  below : (b : ℕ) → b < n → in_state (map_in n l) (eqb (saved.coverings (map entry_in l) b) 0) b ≡ true
  below b lt =
      let here : free (map_in n l) b ≡ eqb (cover l b) 0 = reads b
      ∙ ap (λ (t : Bool). t && eqb (cover l b) 0) (lt-ltb b n lt) in
      ap (λ (c : ℕ). in_state (map_in n l) (eqb c 0) b) (same_cover l b)
      ∙ ap (λ (t : Bool). cond (eqb (cover l b) 0) t (not t)) here ∙ as_it_is (eqb (cover l b) 0)

  pub kept_sound : saved.sound (saved_of (state_of n l card)) ≡ true
  unfolding saved.sound counts_of
  kept_sound =
      and_both _ _
      (and_both _ _
      (and_both _ _
      (and_both _ _
      (all_undamaged n (free (map_in n l)) l
      (λ i lt. ap (λ e. is_damaged (standing_of n (free (map_in n l)) e)) (sym (entry_at_lem l i lt))
      ∙ ap is_damaged (stands_same n l card k false i lt) ∙ sheet_undamaged (sheet_at l i)))
      (all_intro _ 0 n (λ b a lt. ap (λ (c : ℕ). leb c 1) (same_cover l b) ∙ le-leb (cover l b) 1 (k.sound.once b))))
      (all_intro _ 0 n (λ b a lt. below b (omega arith))))
      (all_intro _ n (64 * length (map_in n l) - n)
      (λ b ge lt. ap not (reads b ∙ ap (λ (t : Bool). t && eqb (cover l b) 0) (le-ltb b n ge)))))
      (eq-eqb (spare_in n l) _ (ap (λ (f : ℕ → Bool). free_of (blocks f 0 n)) (sym (free_map n l))))
