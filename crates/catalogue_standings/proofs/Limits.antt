-- What row 1 says where it does not hold: the limits of n and the lengths of what is lent.
-- Assumes nothing.
use mathlib.Core.Path.{◌≡◌}
use mathlib.Core.Bool.{Bool, true, ◌&&◌}
use Prim.Native.Nat.{ℕ, ◌*◌, ◌≤◌}
use native.Mathlib.Omega.{arith}
use lib.Dec.{leb, eqb}
use borrow.Author.Tests.{leb-true, eqb-true}
use Rattle.map_blocks.specs.Maps.{words_for}
use Rattle.laws.proofs.Bools.{and_left, and_right}
use Rattle.catalogue_standings.specs.Limits.{shape_fits, sheets_fit}

pub record Fits (n free maplen : ℕ) : Type 0 where
  pub some : 1 ≤ n
  pub limit : n ≤ 262144
  pub spare : free ≤ n
  pub words : maplen ≡ words_for n
  pub covered : n ≤ 64 * maplen

pub fits : (n free maplen : ℕ) → shape_fits n free maplen ≡ true → Fits n free maplen
unfolding shape_fits
fits n free maplen e =
    let a : Bool = leb 1 n in
    let b : Bool = leb n 262144 in
    let c : Bool = leb free n in
    let d : Bool = eqb maplen (words_for n) in
    let w : maplen ≡ words_for n = eqb-true maplen (words_for n) (and_right (a && b && c) d e) in
    record {
      some = leb-true 1 n (and_left a b (and_left (a && b) c (and_left (a && b && c) d e)));
      limit = leb-true n 262144 (and_right a b (and_left (a && b) c (and_left (a && b && c) d e)));
      spare = leb-true free n (and_right (a && b) c (and_left (a && b && c) d e));
      words = w;
      covered = omega arith;
    }

-- Row 1 of a call on a sheet, for the number of sheets as well.
pub sheet_fits : (n free maplen c : ℕ) → (shape_fits n free maplen && sheets_fit c) ≡ true → Fits n free maplen
sheet_fits n free maplen c e = fits n free maplen (and_left (shape_fits n free maplen) (sheets_fit c) e)

-- Row 1 of a call that is lent the card: its length too.
pub record CardFits (n free maplen cardlen : ℕ) : Type 0 where
  pub shape : Fits n free maplen
  pub bytes : cardlen ≡ 512 * n

pub card_fits : (n free maplen c cardlen : ℕ) → (shape_fits n free maplen && sheets_fit c && eqb cardlen (512 * n)) ≡ true
    → CardFits n free maplen cardlen
card_fits n free maplen c cardlen e =
    let a : Bool = shape_fits n free maplen && sheets_fit c in
    let b : Bool = eqb cardlen (512 * n) in
    record { shape = sheet_fits n free maplen c (and_left a b e); bytes = eqb-true cardlen (512 * n) (and_right a b e) }
