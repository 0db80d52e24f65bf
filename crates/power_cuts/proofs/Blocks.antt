-- Which blocks of the card a call writes: those that it takes, and the one that a put is for.
-- Assumes nothing.
use Prim.Native.Nat.{ℕ, ◌+◌, ◌*◌, ◌≤◌, ◌<◌}
use mathlib.Core.Path.{◌≡◌, refl, ap, ◌∙◌}
use mathlib.Core.Logic.{⊎_elim}
use mathlib.Core.Bool.{Bool}
use mathlib.Core.List.{List}
use native.Mathlib.Omega.{arith}
use lib.ListN.{length, replicate}
use Rattle.map_blocks.specs.Blocks.{free}
use Rattle.laws.proofs.Bools.{order}
use Rattle.blocks_of_card.specs.Card.{block_of}
use Rattle.blocks_of_card.proofs.Card.{same_block, other_block, length_with_block, length_zeroed, zeroed_inside}
use Rattle.blocks_of_card.proofs.Card.{zeroed_before, zeroed_after}
use Rattle.block_seals.specs.Sealed.{sealed}
use Rattle.block_seals.proofs.Sealed.{sealed_length}
use Rattle.closing.proofs.Contents.{closed_card_length}
use Rattle.card.specs.Calls.{Kept}
use Rattle.card.specs.Public.{Public}
use Rattle.power_cuts.proofs.Deeds.{entry_in, Took, Put, Deed, nothing, took, put, marks, released, closed, began, loaded}
use Rattle.power_cuts.proofs.Standings.{holds_so}

module _ (s t : Kept) (sheet start count from k total : ℕ) (x : Took s t sheet start count from k total) where
  room : 512 * (from + k) ≤ length s.card
  room = omega (arith, x.sizes.bytes, x.inside)

  -- a block that was not free is as it was
  pub took_other : (b : ℕ) → (from ≤ b → b < from + k → ⊥) → block_of t.card b ≡ block_of s.card b
  took_other b out =
      ap (λ (c : List ℕ). block_of c b) x.card_now
      ∙ ⊎_elim (λ l. zeroed_before s.card from k b room l)
      (λ (l : from ≤ b). ⊎_elim (λ u. absurd (out l u)) (λ u. zeroed_after s.card from k b room u) (order b (from + k)))
      (order b from)

  -- one that is taken is all zeros
  pub took_zeros : (b : ℕ) → from ≤ b → b < from + k → block_of t.card b ≡ replicate 512 0
  took_zeros b l u = ap (λ (c : List ℕ). block_of c b) x.card_now ∙ zeroed_inside s.card from k b room l u

module _ (s t : Kept) (sheet start count place : ℕ) (payload : List ℕ) (x : Put s t sheet start count place payload) where
  inside : 512 * (start + place) + 512 ≤ length s.card
  inside =
      let o = holds_so s.shape.blocks (free s.map) (entry_in s sheet) _ x.before refl in
      omega (arith, x.sizes.bytes, o.inside, x.placed)

  whole : length (sealed sheet place payload) ≡ 512
  whole = sealed_length sheet place payload x.bytes

  pub put_other : (b : ℕ) → (b ≡ start + place → ⊥) → block_of t.card b ≡ block_of s.card b
  put_other b n =
      ap (λ (c : List ℕ). block_of c b) x.card_now
      ∙ other_block s.card (sealed sheet place payload) (start + place) inside whole b n

  pub put_there : block_of t.card (start + place) ≡ sealed sheet place payload
  put_there =
      ap (λ (c : List ℕ). block_of c (start + place)) x.card_now
      ∙ same_block s.card (sealed sheet place payload) (start + place) inside whole

-- ---- no call changes the length of the card

pub keeps_length : (s t : Kept) (c : Public) (d : Bool) → Deed s t c d → length t.card ≡ length s.card
keeps_length s t c d (nothing e z) = ap (λ (u : Kept). length u.card) e
keeps_length s t c d (took i j sheet start count from k total x asked is) =
    ap length x.card_now ∙ length_zeroed s.card from k (room s t sheet start count from k total x)
keeps_length s t c d (put sheet start count place payload i x) =
    ap length x.card_now
    ∙ length_with_block s.card (sealed sheet place payload) (start + place) (inside s t sheet start count place payload x)
    (whole s t sheet start count place payload x)
keeps_length s t c d (marks i sheet mark x) = ap length x.card_now
keeps_length s t c d (released i j sheet x) = ap length x.card_now
keeps_length s t c d (closed i j x) = ap length x.card_now ∙ closed_card_length s.entries s.card
keeps_length s t c d (began i j x) = ap length x.card_now
keeps_length s t c d (loaded i j x) = ap length x.card_now
