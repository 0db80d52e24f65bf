-- A place of a sheet: row 3 of put and show, and where the place's block lies on the card.
-- Assumes nothing.
use mathlib.Core.Path.{◌≡◌, refl}
use mathlib.Core.Bool.{Bool, true, false, not, ◌||◌, true≢false}
use Prim.Native.Nat.{ℕ, ◌+◌, ◌*◌, ◌<◌, ◌≤◌}
use native.Mathlib.Omega.{arith}
use lib.Dec.{leb, eqb}
use borrow.Author.Tests.{le-leb, lt-leb, eq-eqb, ne_eqb, leb-false, eqb-true}
use Rattle.catalogue.specs.declared.Entry.{Entry}
use Rattle.catalogue_standings.proofs.Limits.{CardFits}
use Rattle.catalogue_standings.proofs.Openings.{Extent}

-- Row 3, for a sheet of so many blocks: a place that it does not have, or a slice that is not 496 bytes long.
module _ (blocks place len : ℕ) where
  abbrev pub Misplaced : Bool
  Misplaced = leb blocks place || not (eqb len 496)

  pub beyond : blocks ≤ place → Misplaced ≡ true
  beyond h = simp (le-leb blocks place h)

  pub unsized : place < blocks → (len ≡ 496 → ⊥) → Misplaced ≡ true
  unsized h d = simp (lt-leb blocks place h, ne_eqb len 496 d)

  pub placed : place < blocks → len ≡ 496 → Misplaced ≡ false
  placed h d = simp (lt-leb blocks place h, eq-eqb len 496 d)

  pub well_placed : Misplaced ≡ false → (place < blocks) × (len ≡ 496)
  well_placed = go (leb blocks place) (eqb len 496) refl refl
    where
      go : (a b : Bool) → leb blocks place ≡ a → eqb len 496 ≡ b → a || not b ≡ false → (place < blocks) × (len ≡ 496)
      go true b p q e = absurd (true≢false e)
      go false true p q e = (leb-false blocks place p, eqb-true len 496 q)
      go false false p q e = absurd (true≢false e)

-- The block of a place, where row 1 does not hold and the sheet's extent does: its number is within the limit, and its
-- bytes are on the card.
module _ {n spare maplen cardlen : ℕ} {free : ℕ → Bool} {e : Entry} {start blocks place : ℕ}
    (fits : CardFits n spare maplen cardlen) (extent : Extent n free e start blocks) (listed : place < blocks)
  where
    pub block-number : start + place < 262144
    block-number =
        let f = fits.shape in
        omega (arith, f.limit)

    pub block-bytes : 512 * (start + place) + 512 ≤ cardlen
    block-bytes = omega arith
