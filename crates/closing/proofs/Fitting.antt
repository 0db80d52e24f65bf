-- After closing a search finds the first free block if as many blocks are wanted as are free, or fewer, and nothing if more
-- are.
-- Assumes nothing.
use Rattle.std.specs.Prelude.{Some, None}
use Rattle.std.proofs.Common.{◌≡◌, ℕ, ◌+◌, ◌*◌, ◌<◌, ◌≤◌, Bool, true, cond, leb, length, sym, ap, ◌∙◌, ⊎_elim, arith, le-leb}
use borrow.Author.Tests.{lt-leb}
use Rattle.map_blocks.specs.Blocks.{free, fit, least_fit}
use Rattle.laws.proofs.Bools.{clash, order}
use Rattle.map_blocks.proofs.Fits.{Fits, is_fit, no_fit, on_one}
use Rattle.map_blocks.proofs.Least.{least_at, least_none}
use Rattle.map_blocks.proofs.Runs.{all_intro, all_elim}
use Rattle.image_soundness.specs.Sound.{State}
use Rattle.image_soundness.proofs.WhenSound.{Sound}
use Rattle.catalogue.specs.Entries.{held}
use Rattle.closing.specs.Closed.{closed_map}
use Rattle.closing.proofs.Kept.{taken_first, free_then, closed_spare}

module _ (s : State) (p : Sound s) (room : s.blocks ≤ 64 * length s.map) (k : ℕ) (some : 1 ≤ k) where
  abbrev n : ℕ
  n = s.blocks

  abbrev h : ℕ
  h = held s.entries

  abbrev g : ℕ → Bool
  g = free (closed_map s.entries n s.map)

  -- a fit starts at or after the first free block, and ends at n or before it
  fit_to : (t : ℕ) → Fits g 0 n 1 k t → h ≤ t
  fit_to t w =
      let f : g t ≡ true = all_elim g t k w.free t (omega arith) (omega arith) in
      ⊎_elim (λ (l : t < h). absurd (clash (g t) f (taken_first s p room t l))) (λ (l : h ≤ t). l) (order t h)

  to_fit : h + k ≤ n → fit g 0 n 1 k h ≡ true
  to_fit l =
      is_fit g 0 n 1 k h (record {
        low = omega arith;
        high = l;
        free = all_intro g h k (λ t lo hi. free_then s p room t lo (omega arith));
        placed = on_one h;
      })

  pub closed_fit : least_fit g 0 n 1 k ≡ cond (leb k s.spare) (Some h) None
  unfolding least_fit
  closed_fit =
      let sum : h + s.spare ≡ n = closed_spare s p room in
      ⊎_elim
      (λ (u : s.spare < k).
      least_none (fit g 0 n 1 k) 0 n (λ t lo hi. no_fit g 0 n 1 k t (λ w. omega (arith, fit_to t w, w.high)))
      ∙ ap (λ (b : Bool). cond b (Some h) None) (sym (lt-leb k s.spare u)))
      (λ (u : k ≤ s.spare).
      least_at (fit g 0 n 1 k) 0 n h (omega arith) (omega arith) (to_fit (omega arith))
      (λ t lo hi. no_fit g 0 n 1 k t (λ w. omega (arith, fit_to t w)))
      ∙ ap (λ (b : Bool). cond b (Some h) None) (sym (le-leb k s.spare u)))
      (order s.spare k)
