-- What follows for a saved image (document 02, request (i)): where one frame has such damage, a load by whoever may load
-- refuses
-- the image with 13 and changes nothing but the scratch. A frame is a sealed block (document 01, "Saved image"). Proved in
-- proofs/Refused.antt.
-- Assumes nothing.
use Rattle.std.specs.Prelude.{◌≡◌, true, List, ℕ, ◌<◌, length, replicate}
use Rattle.catalogue_standings.specs.declared.Answer.TheVariants.{Refused}
use Rattle.catalogue.specs.declared.Entry.{Entry}
use Rattle.blocks_of_card.specs.Card.{block_of}
use Rattle.image_frames.specs.Frames.{total_of}
use Rattle.image.specs.Table.{whole_blocks}
use Rattle.card.specs.declared.Shape.{Shape}
use Rattle.roles.specs.Roles as roles
use Rattle.roles.specs.Roles.{may}
use Rattle.card.specs.Calls.{told}
use Rattle.card.specs.Ends.{load_end}
use Rattle.check_power.specs.Damage.{Damaged}

abbrev pub FrameRefused : Type 0
FrameRefused =
    (shape : Shape) (role : ℕ) (image map : List ℕ) (entries : List Entry) (scratch : List ℕ)
    → (sheet place : ℕ) (payload : List ℕ) (i : ℕ)
    → may role roles.load ≡ true
    → whole_blocks (length image) ≡ true → i < total_of image → Damaged sheet place payload (block_of image i)
    → ((load_end shape role image map entries scratch).outcome ≡ told shape (Refused 13))
    × ((load_end shape role image map entries scratch).map ≡ map)
    × ((load_end shape role image map entries scratch).entries ≡ entries)
    × ((load_end shape role image map entries scratch).beside.scratch ≡ replicate (length scratch) 0)
