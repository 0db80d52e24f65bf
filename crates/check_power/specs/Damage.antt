-- Damage to a sealed block, and what is claimed of it (document 02, request (i)). The claims are proved in proofs/Caught.antt.
-- They speak of `check_answer`, which is what the exported `check` ensures of its result (`check_contract`,
-- proofs/Contracts.antt of the crate block). "It holds for
-- all sheets, places and payloads": a sheet and a place are any numbers here, those of 32 bits among them.
-- Assumes nothing.
use Rattle.std.specs.Prelude.{◌≡◌, cond, false, List, [], ◌∷◌, ℕ, ◌+◌, ◌≤◌, ◌<◌, eqb, length, get_or, set, replicate}
use Rattle.block_seals.specs.Sealed.{sealed, sound}
use Rattle.block.specs.Calls.{check_answer}
use Rattle.image_frames.specs.Frames.{Bytes}

-- at how many places two lists of one length differ
unfoldable pub apart : List ℕ → List ℕ → ℕ
apart [] ys = 0
apart (x ∷ xs) [] = 0
apart (x ∷ xs) (y ∷ ys) = cond (eqb x y) 0 1 + apart xs ys

-- "two neighbouring bytes have traded places": those at i and i + 1
abbrev pub traded : List ℕ → ℕ → List ℕ
traded block i = set (set block i (get_or block (i + 1) 0)) (i + 1) (get_or block i 0)

-- a payload that can be sealed: 496 bytes
pub record Payload (payload : List ℕ) : Type 0 where
  pub whole : length payload ≡ 496
  pub small : Bytes payload

-- 512 bytes that differ from a sealed block in one byte or in two, anywhere and by any values, the check bytes included
pub record Damaged (sheet place : ℕ) (payload block : List ℕ) : Type 0 where
  pub sealable : Payload payload
  pub whole : length block ≡ 512
  pub small : Bytes block
  pub some : 1 ≤ apart block (sealed sheet place payload)
  pub few : apart block (sealed sheet place payload) ≤ 2

-- no such block is accepted: `check` answers 0; nor is it sound for any sheet and place
abbrev pub OneOrTwoRefused : Type 0
OneOrTwoRefused = (sheet place : ℕ) (payload block : List ℕ) → Damaged sheet place payload block → check_answer block ≡ 0

abbrev pub OneOrTwoUnsound : Type 0
OneOrTwoUnsound =
    (sheet place : ℕ) (payload block : List ℕ) → Damaged sheet place payload block → (t p : ℕ) → sound t p block ≡ false

-- "A sealed block in which exactly one byte differs is never accepted by the check."
abbrev pub OneRefused : Type 0
OneRefused =
    (sheet place : ℕ) (payload block : List ℕ) → Payload payload → length block ≡ 512 → Bytes block
    → apart block (sealed sheet place payload) ≡ 1 → check_answer block ≡ 0

-- the same, said of byte i set to another value
abbrev pub OtherByteRefused : Type 0
OtherByteRefused =
    (sheet place : ℕ) (payload : List ℕ) (i a : ℕ) → Payload payload → i < 512 → a < 256
    → (a ≡ get_or (sealed sheet place payload) i 0 → ⊥) → check_answer (set (sealed sheet place payload) i a) ≡ 0

-- "Nor is one in which two unequal neighbouring bytes have traded places, the check bytes included."
abbrev pub TradeRefused : Type 0
TradeRefused =
    (sheet place : ℕ) (payload : List ℕ) (i : ℕ) → Payload payload → i < 511
    → (get_or (sealed sheet place payload) i 0 ≡ get_or (sealed sheet place payload) (i + 1) 0 → ⊥)
    → check_answer (traded (sealed sheet place payload) i) ≡ 0

-- where it ends: three neighbouring bytes of a payload of twos changed by +1, -2 and +1 pass
unfoldable pub three : List ℕ
three = set (set (set (sealed 0 0 (replicate 496 2)) 8 3) 9 0) 10 3

abbrev pub ThreeCanPass : Type 0
ThreeCanPass = (apart three (sealed 0 0 (replicate 496 2)) ≡ 3) × (check_answer three ≡ 1)
