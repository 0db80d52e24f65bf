-- An image with a damaged frame is refused by load with 13.
-- Assumes nothing.
use mathlib.Core.Path.{◌≡◌, ap}
use mathlib.Core.Bool.{Bool, true, false, not}
use mathlib.Core.List.{List}
use Prim.Native.Nat.{ℕ, ◌<◌}
use native.Mathlib.Omega.{arith}
use lib.ListN.{length}
use Rattle.laws.proofs.Bools.{not_true, clash}
use Rattle.map_blocks.proofs.Runs.{all_elim}
use Rattle.blocks_of_card.specs.Card.{block_of}
use Rattle.block_seals.specs.Sealed.{sound}
use Rattle.catalogue_standings.specs.Rows.{refused, first_of}
use Rattle.image_frames.specs.Frames.{total_of, framed}
use Rattle.image.specs.Table.{whole_blocks, load_verdict}
use Rattle.roles.specs.Roles as roles
use Rattle.roles.specs.Roles.{turned_away}
use Rattle.card.proofs.Images.{load_refused}
use Rattle.check_power.specs.Damage.{Damaged}
use Rattle.check_power.specs.Images.{FrameRefused}
use Rattle.check_power.proofs.Caught.{one_or_two_unsound}

module _ (image : List ℕ) (sheet place : ℕ) (payload : List ℕ) (i : ℕ) (inside : i < total_of image)
    (d : Damaged sheet place payload (block_of image i)) where
  pub frame_fails : framed image ≡ false
  unfolding framed
  frame_fails =
      not_true (framed image) λ h.
      clash (sound i (total_of image) (block_of image i))
      (all_elim (λ k. sound k (total_of image) (block_of image k)) 0 (total_of image) h i (omega arith) (omega arith))
      (one_or_two_unsound sheet place payload (block_of image i) d i (total_of image))

  verdict : (turned : Bool) (maplen count scratchlen : ℕ) → turned ≡ false → whole_blocks (length image) ≡ true
      → load_verdict turned image maplen count scratchlen ≡ refused 13
  unfolding load_verdict first_of
  verdict turned maplen count scratchlen t w = rw (t, w, frame_fails)

pub frame_refused : FrameRefused
frame_refused shape role image map entries scratch sheet place payload i m w inside d =
    load_refused (turned_away role roles.load) shape image map entries scratch 13
    (verdict image sheet place payload i inside d (turned_away role roles.load) (length map) (length entries) (length scratch)
    (ap not m) w)
