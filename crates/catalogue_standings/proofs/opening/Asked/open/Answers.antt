-- `catalogue_standings::opening::Asked::open` meets its contract, row by row.
-- Assumes nothing.

use mathlib.Core.Path.{◌≡◌, refl, ap, ◌∙◌}
use mathlib.Core.Bool.{Bool, true, false, ◌&&◌}
use Prim.Native.Nat.{ℕ, ◌*◌}
use lib.Dec.{eqb}
use lib.ListN.{length}
use borrow.Author.Tests.{le-leb, lt-leb}
use Rattle.std.specs.Prelude.{Option, Some, None}
use Rattle.catalogue_standings.specs.Openings as openings
use Rattle.catalogue_standings.specs.Openings.{opened_of}
use Rattle.catalogue_standings.specs.Limits.{shape_fits, sheets_fit, card_fits, lent_fits}
use Rattle.catalogue_standings.proofs.Limits.{fits}
use Rattle.catalogue_standings.proofs.Tested as tested
use Rattle.catalogue_standings.proofs.opening.Asked.open.Goals as goal

turned : (x y : Bool) → (x && y) ≡ (y && x)
turned true true = refl
turned true false = refl
turned false true = refl
turned false false = refl

-- the card's length is tested before the others
lent : (n free maplen c : ℕ) (cardlen : Option ℕ)
    → lent_fits n free maplen c cardlen ≡ (card_fits n cardlen && (shape_fits n free maplen && sheets_fit c))
lent n free maplen c None = refl
lent n free maplen c (Some bytes) = turned (shape_fits n free maplen && sheets_fit c) (eqb bytes (512 * n))

pub returns-then-not-card_fits : goal.returns-then-not-card_fits
unfolding opened_of
returns-then-not-card_fits c =
    let a = c.args in
    let misfit = tested.fails c.card_fits.ensures c.if-not-card_fits.true-raw in
    simp (lent a.self.n a.self.free (length a.map.now) a.self.sheets a.cardlen, misfit)

pub returns-then-not-shape_fits : goal.returns-then-not-shape_fits
unfolding opened_of
returns-then-not-shape_fits c = simp (
  lent c.args.self.n c.args.self.free (length c.args.map.now) c.args.self.sheets c.args.cardlen,
  tested.holds c.card_fits.ensures c.if-not-card_fits.false-raw,
  tested.fails c.shape_fits.ensures c.if-not-shape_fits.true-raw,
)

pub returns-then-not-sheets_fit : goal.returns-then-not-sheets_fit
unfolding opened_of
returns-then-not-sheets_fit c = simp (
  lent c.args.self.n c.args.self.free (length c.args.map.now) c.args.self.sheets c.args.cardlen,
  tested.holds c.card_fits.ensures c.if-not-card_fits.false-raw,
  tested.holds c.shape_fits.ensures c.if-not-shape_fits.false-raw,
  tested.fails c.sheets_fit.ensures c.if-not-sheets_fit.true-raw,
)

pub returns-then-self : goal.returns-then-self
unfolding opened_of
returns-then-self c = simp (
  lent c.args.self.n c.args.self.free (length c.args.map.now) c.args.self.sheets c.args.cardlen,
  tested.holds c.card_fits.ensures c.if-not-card_fits.false-raw,
  tested.holds c.shape_fits.ensures c.if-not-shape_fits.false-raw,
  tested.holds c.sheets_fit.ensures c.if-not-sheets_fit.false-raw,
  le-leb _ _ c.if-self.true,
)

pub decode-requires : goal.decode-requires
decode-requires c =
    let f = fits _ _ _ (tested.holds c.shape_fits.ensures c.if-not-shape_fits.false-raw) in
    (f.limit, f.covered)

pub returns : goal.returns
unfolding opened_of
returns c = simp (
  lent c.args.self.n c.args.self.free (length c.args.map.now) c.args.self.sheets c.args.cardlen,
  tested.holds c.card_fits.ensures c.if-not-card_fits.false-raw,
  tested.holds c.shape_fits.ensures c.if-not-shape_fits.false-raw,
  tested.holds c.sheets_fit.ensures c.if-not-sheets_fit.false-raw,
  lt-leb _ _ c.if-self.false,
) (c.unless_damaged.ensures ∙ ap openings.unless_damaged c.decode.ensures)
