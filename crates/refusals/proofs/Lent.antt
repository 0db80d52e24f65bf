-- What the rows that a call begins with say of what it is lent, with the card.
-- Assumes nothing.
use Rattle.std.specs.Prelude.{Result, Ok}
use Rattle.catalogue_standings.specs.declared.Refusal.{Refusal}
use mathlib.Core.Path.{◌≡◌}
use mathlib.Core.Bool.{Bool, true, false, ◌&&◌}
use mathlib.Core.List.{List, []}
use Prim.Native.Nat.{ℕ, ◌*◌, ◌<◌}
use native.Mathlib.Omega.{arith}
use borrow.Author.Tests.{leb-true, leb-false}
use lib.Dec.{eqb, leb}
use lib.ListN.{length}
use Rattle.map_blocks.specs.Blocks.{free}
use Rattle.laws.proofs.Bools.{and_left, and_right}
use Rattle.refusals.specs.Guides.{guide_fits}
use Rattle.refusals.specs.Lent.{Lent}
use Rattle.catalogue_standings.specs.Openings.{opened_for}
use Rattle.catalogue_standings.specs.Rows.{Row}
use Rattle.catalogue_standings.specs.Standings.{standing_of}
use Rattle.catalogue_standings.specs.Limits.{shape_fits, sheets_fit}
use Rattle.catalogue_standings.specs.declared.Standing.{Standing}
use Rattle.catalogue_standings.specs.declared.Standing.TheVariants.{Open}
use Rattle.catalogue_standings.proofs.Limits.{Fits, sheet_fits, CardFits, card_fits}
use Rattle.catalogue_standings.proofs.Openings.{Extent, Opening, opened, open_extent}

-- row 1 does not hold: the limits of n, and the lengths of map and card
abbrev pub Sized : Lent → Type 0
Sized q = CardFits q.n q.spare (length q.map) (length q.card)

module _ (q : Lent) where
  -- the limits of n and c, and the lengths of map and card
  abbrev pub lengths_fit : Bool
  lengths_fit = shape_fits q.n q.spare (length q.map) && sheets_fit q.sheets && eqb (length q.card) (512 * q.n)

  -- and that of a summary, if one is lent
  abbrev pub all_fits : Bool
  all_fits = guide_fits q.guided q.summary (length q.map) && lengths_fit

  abbrev pub standing : Standing
  standing = standing_of q.n (free q.map) q.entry

  -- what the rows that the call begins with answer
  abbrev pub first : Result Standing Refusal
  first = opened_for q.turned all_fits q.sheets q.sheet standing

  pub sized : all_fits ≡ true → Sized q
  sized e = card_fits q.n q.spare (length q.map) q.sheets (length q.card)
      (and_right (guide_fits q.guided q.summary (length q.map)) lengths_fit e)

  -- a sheet that has an entry is one of 1,024
  pub below_last : all_fits ≡ true → leb q.sheets q.sheet ≡ false → q.sheet < 1024
  unfolding sheets_fit
  below_last e h =
      let shapes : Bool = shape_fits q.n q.spare (length q.map) in
      let whole = and_right (guide_fits q.guided q.summary (length q.map)) lengths_fit e in
      let sheets = and_right shapes (sheets_fit q.sheets) (and_left (shapes && sheets_fit q.sheets) _ whole) in
      let most = leb-true q.sheets 1024 (and_right (leb 1 q.sheets) (leb q.sheets 1024) sheets) in
      omega (arith, most, leb-false q.sheets q.sheet h)

  -- a call that is not lent the card
  abbrev pub all_fits_at : Bool
  all_fits_at =
      guide_fits q.guided q.summary (length q.map)
      && (shape_fits q.n q.spare (length q.map) && sheets_fit q.sheets)

  abbrev pub first_at : Result Standing Refusal
  first_at = opened_for q.turned all_fits_at q.sheets q.sheet standing

  -- what an opening says of what is lent
  pub opens : (s : Standing) (rows : List Row) → first ≡ Ok s
      → Opening q.turned all_fits q.sheets q.sheet standing s rows
  opens s rows h = opened q.turned all_fits q.sheets q.sheet standing s rows h

  pub opens_at : (s : Standing) (rows : List Row) → first_at ≡ Ok s
      → Opening q.turned all_fits_at q.sheets q.sheet standing s rows
  opens_at s rows h = opened q.turned all_fits_at q.sheets q.sheet standing s rows h

  pub sized_at : all_fits_at ≡ true → Fits q.n q.spare (length q.map)
  sized_at e =
      sheet_fits q.n q.spare (length q.map) q.sheets
      (and_right (guide_fits q.guided q.summary (length q.map)) _ e)

  pub limits : (s : Standing) → first ≡ Ok s → Sized q
  limits s h = sized (opens s [] h).all_fits_lem

  pub extent : (start blocks : ℕ) → first ≡ Ok (Open start blocks) → Extent q.n (free q.map) q.entry start blocks
  extent start blocks h =
      open_extent q.n (free q.map) q.entry start blocks
      (opens (Open start blocks) [] h).same
