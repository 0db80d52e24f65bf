-- An image that was saved, and what comes of it when it is loaded after the power has gone: map, catalogue and shape are what
-- the
-- image has, and the card is what it was left as.
-- Assumes nothing.
use Rattle.std.specs.Prelude.{ℕ, ◌<◌, ◌≡◌, true, List, length, get_or}
use Rattle.roles.specs.Roles as roles
use Rattle.roles.specs.Roles.{may}
use Rattle.catalogue_standings.specs.declared.Answer.TheVariants.{Done}
use Rattle.image_soundness.specs.Scratch.{scratch_words}
use Rattle.card.specs.Calls.{Kept, kept, told}
use Rattle.card.specs.Public.{save, load, Manner, Beside, ends, kept_after}
use Rattle.power_cuts.specs.Sorts.{done}

-- A save of state s was done, and left this image. The words of a map are below 2 to the power of 64.
pub record SavedAs (s : Kept) (image : List ℕ) : Type 0 where
  pub manner : Manner
  pub beside : Beside
  pub was_done_lem : done (ends manner s beside save) ≡ true
  pub left : (ends manner s beside save).beside.image ≡ image
  pub words : (i : ℕ) → get_or s.map i 0 < 18446744073709551616

-- A program begins anew, in state u: map, catalogue and scratch have the lengths that the image wants, and may hold anything,
-- as
-- the shape may; whoever loads may do so.
pub record Anew (s u : Kept) (m : Manner) (b : Beside) : Type 0 where
  pub words : length u.map ≡ length s.map
  pub sheets : length u.entries ≡ length s.entries
  pub scratch : length b.scratch ≡ scratch_words (length s.map)
  pub may_load : may m.role roles.load ≡ true

-- What is kept as it was in s, with another card.
abbrev pub recalled : Kept → List ℕ → Kept
recalled s card = kept s.shape s.map s.entries card

-- The load is done, and gives the saved state back, with the card as it is.
pub record GivesBack (s u : Kept) (m : Manner) (b : Beside) (image : List ℕ) : Type 0 where
  pub outcome : (ends m u b (load image)).outcome ≡ told s.shape Done
  pub state : kept_after (ends m u b (load image)) ≡ recalled s u.card
