-- An older image, where no release and no closing was accepted since it was saved. That it holds is `older_image` in
-- proofs/OlderImage.antt.
-- Assumes nothing.
use Rattle.std.specs.Prelude.{ℕ, ◌+◌, ◌<◌, ◌≡◌, false, ◌&&◌, List, length}
use Rattle.blocks_of_card.specs.Card.{block_of}
use Rattle.catalogue_standings.specs.declared.Standing.TheVariants.{Complete}
use Rattle.card.specs.Calls.{Kept}
use Rattle.card.specs.Public.{Manner, Beside, End}
use Rattle.ledger.specs.Lists.{Made, end_of, Runs, Along}
use Rattle.role_lists.specs.Carers.{stands}
use Rattle.role_lists.specs.Service.{ShowsAsBefore}
use Rattle.power_cuts.specs.Held.{Finished}
use Rattle.power_cuts.specs.Images.{SavedAs, Anew, recalled, GivesBack}
use Rattle.power_cuts.specs.Sorts.{sort_of, unsettles, done}

-- No release, closing, fresh or load of the list is accepted.
abbrev pub NoneUnsettles : Kept → List Made → Type 0
NoneUnsettles = Along (λ s m. (unsettles (sort_of m.call) && done (end_of s m)) ≡ false)

-- Two cards are equally long and agree in the blocks that the Complete sheets and the paused courses of a state hold. In all
-- other blocks they may hold any bytes, as where a write was cut in the middle.
pub record AgreeInFinished (s : Kept) (card other : List ℕ) : Type 0 where
  pub lengths : length other ≡ length card
  pub blocks : (sheet start count : ℕ) → Finished s sheet start count → (p : ℕ) → p < count
      → block_of other (start + p) ≡ block_of card (start + p)

-- State s is saved, such a list follows and leaves state t, and the power goes. Loading the image gives the saved state back,
-- and each sheet that was Complete shows in every place, dated and undated, what it showed when it was saved.
abbrev pub OlderImage : Type 0
OlderImage =
    (s : Kept) (image : List ℕ) → SavedAs s image
    → (made : List Made) (es : List End) (t : Kept) → NoneUnsettles s made → Runs s made es t
    → (u : Kept) (m : Manner) (b : Beside) → Anew s u m b → AgreeInFinished s t.card u.card
    → GivesBack s u m b image
    × ((sheet start count : ℕ) → stands s sheet ≡ Complete start count → ShowsAsBefore s (recalled s u.card) sheet)
