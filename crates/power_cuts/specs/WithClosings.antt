-- An older image, with closings since it was saved. That it holds is `with_closings` in proofs/WithClosings.antt.
-- Assumes nothing.
use Rattle.std.specs.Prelude.{ℕ, ◌≡◌, Bool, true, false, ◌&&◌, ◌||◌, List, [], ◌∷◌}
use Rattle.catalogue_standings.specs.declared.Standing.TheVariants.{Complete}
use Rattle.card.specs.Calls.{Kept}
use Rattle.card.specs.Public.{Manner, Beside, End, kept_after}
use Rattle.ledger.specs.Lists.{Made, end_of, Runs}
use Rattle.role_lists.specs.Carers.{stands}
use Rattle.power_cuts.specs.Images.{SavedAs, Anew, recalled, GivesBack}
use Rattle.power_cuts.specs.Own.{OwnBlocks}
use Rattle.power_cuts.specs.Rule.{ShowsOrRefuses}
use Rattle.power_cuts.specs.Sorts.{sort_of, takes, frees, loads, done}

-- No blocks are taken after an accepted release or fresh, and no load is accepted. `released`: one was accepted before.
abbrev pub NoneTakenAfterRelease : Bool → Kept → List Made → Type 0
NoneTakenAfterRelease released s [] = Unit {0}
NoneTakenAfterRelease released s (m ∷ made) =
    ((takes (sort_of m.call) && done (end_of s m)) ≡ true → released ≡ false)
    × ((loads (sort_of m.call) && done (end_of s m)) ≡ false)
    × NoneTakenAfterRelease (released || (frees (sort_of m.call) && done (end_of s m))) (kept_after (end_of s m)) made

-- A state in which no held block is sound for another sheet or place than its own is saved, such a list follows, closings among
-- its calls, and the power goes. Each place of each sheet that was Complete shows what it showed, or is refused with 4.
abbrev pub WithClosings : Type 0
WithClosings =
    (s : Kept) (image : List ℕ) → SavedAs s image → OwnBlocks s
    → (made : List Made) (es : List End) (t : Kept) → NoneTakenAfterRelease false s made → Runs s made es t
    → (u : Kept) (m : Manner) (b : Beside) → Anew s u m b → u.card ≡ t.card
    → GivesBack s u m b image
    × ((sheet start count : ℕ) → stands s sheet ≡ Complete start count → ShowsOrRefuses s (recalled s u.card) sheet)
