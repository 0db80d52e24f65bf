-- An undamaged entry, whatever its mark: its extent lies inside n, and no block of it is free. Nothing else of which blocks are
-- free matters to it.
-- Assumes nothing.
use mathlib.Core.Path.{◌≡◌, refl, sym, ap, ◌∙◌}
use mathlib.Core.Logic.{◌⊎◌, inl, inr, ⊎_elim}
use mathlib.Core.Bool.{Bool, true, false, not, ◌&&◌, cond, true≢false}
use Prim.Native.Nat.{ℕ, ◌+◌, ◌≤◌, ◌<◌}
use native.Mathlib.Omega.{arith}
use lib.Dec.{leb, eqb}
use borrow.Author.Tests.{eqb-true, not-true}
use Rattle.catalogue.specs.Entries.{absent_mark, paused_mark, open_mark, complete_mark}
use Rattle.map_blocks.specs.Blocks.{all}
use Rattle.laws.proofs.Bools.{and_left, and_right, and_both}
use Rattle.map_blocks.proofs.Runs.{all_intro, all_elim}
use Rattle.catalogue.specs.declared.Entry.{Entry}
use Rattle.catalogue_standings.specs.Standings.{extent_holds, standing_of, is_damaged}
use Rattle.catalogue_standings.specs.declared.Standing.{Standing}
use Rattle.catalogue_standings.specs.declared.Standing.TheVariants.{Absent, Paused, PausedWith, Open, Complete, Damaged}
use Rattle.catalogue_standings.proofs.Entries.{inside_of}

-- the standing by the entry's mark, by whether start and length are 0, and by whether its extent holds
said : Entry → Bool → Bool → Bool → Bool → Bool → Bool → Standing
said e p q o k zeros holds =
    cond p (cond zeros Absent Damaged)
    (cond q (cond zeros Paused (cond holds (PausedWith e.start e.length) Damaged))
    (cond o (cond holds (Open e.start e.length) Damaged)
    (cond k (cond holds (Complete e.start e.length) Damaged)
    Damaged)))

either : (e : Entry) (p q o k zeros holds : Bool) → is_damaged (said e p q o k zeros holds) ≡ false
    → (zeros ≡ true) ⊎ (holds ≡ true)
unfolding said
either e true q o k true holds d = inl refl
either e true q o k false holds d = absurd (true≢false d)
either e false true o k true holds d = inl refl
either e false true o k false true d = inr refl
either e false true o k false false d = absurd (true≢false d)
either e false false true k zeros true d = inr refl
either e false false true k zeros false d = absurd (true≢false d)
either e false false false true zeros true d = inr refl
either e false false false true zeros false d = absurd (true≢false d)
either e false false false false zeros holds d = absurd (true≢false d)

module _ (n : ℕ) (e : Entry) where
  standing_said : (f : ℕ → Bool) → standing_of n f e
      ≡ said e (eqb e.mark absent_mark) (eqb e.mark paused_mark) (eqb e.mark open_mark) (eqb e.mark complete_mark)
      (eqb e.start 0 && eqb e.length 0) (extent_holds n f e.start e.length)
  unfolding standing_of said
  standing_said f = refl

  -- no blocks, or an extent that holds
  pub extent_of : (f : ℕ → Bool) → is_damaged (standing_of n f e) ≡ false
      → (e.length ≡ 0) ⊎ (extent_holds n f e.start e.length ≡ true)
  extent_of f d =
      ⊎_elim (λ z. inl (eqb-true e.length 0 (and_right (eqb e.start 0) (eqb e.length 0) z))) (λ h. inr h)
      (either e (eqb e.mark absent_mark) (eqb e.mark paused_mark) (eqb e.mark open_mark) (eqb e.mark complete_mark)
      (eqb e.start 0 && eqb e.length 0)
      (extent_holds n f e.start e.length) (ap is_damaged (sym (standing_said f)) ∙ d))

  pub extent_inside : (f : ℕ → Bool) → is_damaged (standing_of n f e) ≡ false → e.start + e.length ≤ n
  extent_inside f d = (inside_of n f e d).inside

  pub extent_taken : (f : ℕ → Bool) → is_damaged (standing_of n f e) ≡ false → (b : ℕ) → e.start ≤ b → b < e.start + e.length
      → f b ≡ false
  unfolding extent_holds
  extent_taken f d b l u =
      ⊎_elim (λ (z : e.length ≡ 0). absurd (omega arith))
      (λ h. not-true (f b)
      (all_elim (λ b. not (f b)) e.start e.length
      (and_right (leb 1 e.length && leb (e.start + e.length) n) (all (λ b. not (f b)) e.start e.length) h) b l u))
      (extent_of f d)

  -- the same with other blocks free, none of them its own
  pub still_undamaged : (f g : ℕ → Bool) → is_damaged (standing_of n f e) ≡ false
      → ((b : ℕ) → e.start ≤ b → b < e.start + e.length → g b ≡ false)
      → is_damaged (standing_of n g e) ≡ false
  unfolding extent_holds
  still_undamaged f g d taken =
      let s : ℕ = e.start in
      let l : ℕ = e.length in
      let same : extent_holds n g s l ≡ extent_holds n f s l =
      ⊎_elim
      (λ z.
      ap (λ (x : ℕ). leb 1 x && leb (s + x) n && all (λ b. not (g b)) s x) z
      ∙ sym (ap (λ (x : ℕ). leb 1 x && leb (s + x) n && all (λ b. not (f b)) s x) z))
      (λ h.
      and_both (leb 1 l && leb (s + l) n) (all (λ b. not (g b)) s l)
      (and_left (leb 1 l && leb (s + l) n) (all (λ b. not (f b)) s l) h)
      (all_intro (λ b. not (g b)) s l (λ b p q. ap not (taken b p q))) ∙ sym h)
      (extent_of f d) in
      ap is_damaged (standing_said g
      ∙ ap (said e (eqb e.mark absent_mark) (eqb e.mark paused_mark) (eqb e.mark open_mark) (eqb e.mark complete_mark)
      (eqb e.start 0 && eqb e.length 0)) same
      ∙ sym (standing_said f)) ∙ d

  -- its mark is one of the four
  pub mark_small : (f : ℕ → Bool) → is_damaged (standing_of n f e) ≡ false → e.mark < 256
  unfolding said
  mark_small f d =
      by (eqb e.mark absent_mark) (eqb e.mark paused_mark) (eqb e.mark open_mark)
      (eqb e.mark complete_mark) refl refl refl refl (ap is_damaged (sym (standing_said f)) ∙ d)
    where
      by : (p q o k : Bool) → eqb e.mark absent_mark ≡ p → eqb e.mark paused_mark ≡ q → eqb e.mark open_mark ≡ o
          → eqb e.mark complete_mark ≡ k
          → is_damaged (said e p q o k (eqb e.start 0 && eqb e.length 0) (extent_holds n f e.start e.length)) ≡ false
          → e.mark < 256
      by true q o k ep eq eo ek h = omega (arith, eqb-true e.mark absent_mark ep)
      by false true o k ep eq eo ek h = omega (arith, eqb-true e.mark paused_mark eq)
      by false false true k ep eq eo ek h = omega (arith, eqb-true e.mark open_mark eo)
      by false false false true ep eq eo ek h = omega (arith, eqb-true e.mark complete_mark ek)
      by false false false false ep eq eo ek h = absurd (true≢false h)
