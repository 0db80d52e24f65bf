-- What seal and check answer, by the tests that the code makes.
-- Assumes nothing.
use mathlib.Core.Path.{◌≡◌}
use mathlib.Core.Bool.{Bool, cond}
use mathlib.Core.List.{List}
use Prim.Native.Nat.{ℕ}
use lib.ListN.{length}
use borrow.Author.Tests.{eq-eqb, ne_eqb}
use Rattle.block_seals.specs.Sealed.{sealed, check_holds}
use Rattle.block.specs.Calls.{check_answer, seal_answer, after_seal}

module _ (block : List ℕ) where
  pub check_wrong : (length block ≡ 512 → ⊥) → 3 ≡ check_answer block
  unfolding check_answer
  check_wrong h = rw (ne_eqb (length block) 512 h)

  pub check_done : (r : Bool) (n : ℕ) → length block ≡ 512 → r ≡ check_holds block → n ≡ cond r 1 0 → n ≡ check_answer block
  unfolding check_answer
  check_done r n h e en = rw (eq-eqb (length block) 512 h, ← e) en

module _ (sheet place : ℕ) (payload block : List ℕ) where
  pub seal_wrong_payload : (length payload ≡ 496 → ⊥)
      → (3 ≡ seal_answer payload block) × (block ≡ after_seal sheet place payload block)
  unfolding seal_answer after_seal
  seal_wrong_payload h = (rw (ne_eqb (length payload) 496 h), rw (ne_eqb (length payload) 496 h))

  pub seal_wrong_block : length payload ≡ 496 → (length block ≡ 512 → ⊥)
      → (3 ≡ seal_answer payload block) × (block ≡ after_seal sheet place payload block)
  unfolding seal_answer after_seal
  seal_wrong_block p h = (
    rw (eq-eqb (length payload) 496 p, ne_eqb (length block) 512 h),
    rw (eq-eqb (length payload) 496 p, ne_eqb (length block) 512 h),
  )

  pub seal_done : (l : List ℕ) → length payload ≡ 496 → length block ≡ 512 → l ≡ sealed sheet place payload
      → (0 ≡ seal_answer payload block) × (l ≡ after_seal sheet place payload block)
  unfolding seal_answer after_seal
  seal_done l p h e = (
    rw (eq-eqb (length payload) 496 p, eq-eqb (length block) 512 h),
    rw (eq-eqb (length payload) 496 p, eq-eqb (length block) 512 h) e,
  )
