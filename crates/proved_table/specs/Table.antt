-- Document 01's "Table to be proved": one theorem, `table`, with its ten rows and the three figures that are also there;
-- and of a block besides whose sums pass 65,521.
-- Assumes nothing.
use Rattle.std.specs.Prelude.{Option, Some, None}
use Rattle.std.specs.Prelude.{◌≡◌, refl, Bool, true, false, ◌||◌, [], ◌∷◌, ℕ, length, replicate}
use Rattle.map_blocks.specs.Blocks.{free, least_fit}
use Rattle.map_blocks.specs.Maps.{map_of, fresh_map, in_run}
use Rattle.block_bytes.specs.Numbers.{bytes4, number_at}
use Rattle.block_seals.specs.Sealed.{front, sums, sealed}
use Rattle.catalogue.specs.Entries.{absent}
use Rattle.image_frames.specs.Frames.{frames}
use Rattle.image_frames.specs.Numbers.{bytes8, word_bytes}
use Rattle.image_soundness.specs.Sound.{State}
use Rattle.image.specs.Image.{entry_bytes, body, image_of}
use Rattle.proved_table.specs.WorkedSums.{worked_sheet, worked_place, worked_byte, worked_a, worked_b}

-- The answer of a search for k in a card of n blocks, with a map of w words and block b free where f b.
abbrev pub answer : ℕ → ℕ → (ℕ → Bool) → ℕ → Option ℕ
answer n w f k = least_fit (free (map_of f w)) 0 n 1 k

-- The fresh state of n = 64, c = 1: all blocks free, the sheet Absent.
abbrev pub fresh_state : State
fresh_state = record { blocks = 64; spare = 64; entries = absent ∷ []; map = fresh_map 64 1 }

-- Columns of the rows: n and its number of words, the free blocks, k, the result.
pub record Table : Type 0 where
  pub row_1 : answer 1 1 (in_run 0 1) 1 ≡ Some 0
  pub row_2 : answer 1 1 (λ b. false) 1 ≡ None
  pub row_3 : answer 64 1 (λ b. true) 64 ≡ Some 0
  pub row_4 : answer 64 1 (λ b. true) 65 ≡ None
  pub row_5 : answer 70 2 (λ b. true) 70 ≡ Some 0
  pub row_6 : answer 128 2 (in_run 60 10) 9 ≡ Some 60
  pub row_7 : answer 128 2 (λ b. in_run 10 3 b || in_run 60 10 b) 3 ≡ Some 10
  pub row_8 : answer 128 2 (in_run 64 64) 64 ≡ Some 64
  pub row_9 : answer 192 3 (in_run 63 66) 66 ≡ Some 63
  pub row_10 : answer 192 3 (in_run 63 66) 67 ≡ None
  -- sheet 0, place 0, zero payload: A 1, B 504; sheet 1 likewise: A 2, B 1,005
  pub sheet_0 : sums 1 0 (front 0 0 (replicate 496 0)) ≡ (1, 504)
  pub sheet_1 : sums 1 0 (front 1 0 (replicate 496 0)) ≡ (2, 1005)
  -- the fresh image, of one block: A 2,236, B 3,003
  pub fresh_length : length (image_of fresh_state) ≡ 512
  pub fresh_a : number_at (image_of fresh_state) 504 ≡ 2236
  pub fresh_b : number_at (image_of fresh_state) 508 ≡ 3003
  -- a block whose A is 65,521 less than without a modulus, and whose B more than that: no other modulus gives both
  pub worked : sums 1 0 (front worked_sheet worked_place (replicate 496 worked_byte)) ≡ (worked_a, worked_b)

pub table : Table
unfolding least_fit map_of fresh_map free sums bytes4 number_at sealed frames body entry_bytes word_bytes bytes8 image_of
table = record {
  row_1 = refl;
  row_2 = refl;
  row_3 = refl;
  row_4 = refl;
  row_5 = refl;
  row_6 = refl;
  row_7 = refl;
  row_8 = refl;
  row_9 = refl;
  row_10 = refl;
  sheet_0 = refl;
  sheet_1 = refl;
  fresh_length = refl;
  fresh_a = refl;
  fresh_b = refl;
  worked = refl;
}
