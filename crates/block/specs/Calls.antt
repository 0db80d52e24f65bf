-- What seal and check answer the dispenser's C program, and what seal leaves in the lent block (document 01, "Shape, catalogue,
-- blocks").
-- Assumes nothing.
use Rattle.std.specs.Prelude.{Bool, cond, ◌&&◌, List, ℕ, eqb, length}
use Rattle.block_seals.specs.Sealed.{sealed, check_holds}

-- a payload of 496 bytes and a block of 512
abbrev pub right_lengths : List ℕ → List ℕ → Bool
right_lengths payload block = eqb (length payload) 496 && eqb (length block) 512

-- seal gives 0, or 3 if a slice has the wrong length
unfoldable pub seal_answer : List ℕ → List ℕ → ℕ
seal_answer payload block = cond (right_lengths payload block) 0 3

-- seal leaves the sealed block, or the block as it was if a slice has the wrong length
unfoldable pub after_seal : ℕ → ℕ → List ℕ → List ℕ → List ℕ
after_seal sheet place payload block = cond (right_lengths payload block) (sealed sheet place payload) block

-- check gives 1 exactly if the check holds, else 0, or 3 if the slice has the wrong length
unfoldable pub check_answer : List ℕ → ℕ
check_answer block = cond (eqb (length block) 512) (cond (check_holds block) 1 0) 3
