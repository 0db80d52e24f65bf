-- Blocks that are sound for their own sheet and place alone.
-- Assumes nothing.
use Rattle.std.specs.Prelude.{ℕ, ◌+◌, ◌*◌, ◌≡◌, ◌⊎◌, true, false, ◌&&◌, List, length}
use Rattle.blocks_of_card.specs.Card.{block_of}
use Rattle.block_seals.specs.Sealed.{blank, sound}
use Rattle.catalogue.specs.Entries.{entry_at}
use Rattle.card.specs.Calls.{Kept}
use Rattle.card.specs.Public.{Public, Manner, Beside, End, ends, kept_after}
use Rattle.ledger.specs.Lists.{Made, end_of, Runs, Along, fresh_state}
use Rattle.power_cuts.specs.Held.{Sound, Covers}
use Rattle.power_cuts.specs.Sorts.{sort_of, loads, done}

-- No block that a sheet holds is sound for another sheet or another place than its own.
abbrev pub OwnBlocks : Kept → Type 0
OwnBlocks s =
    (sheet b : ℕ) → Covers s sheet b → (other place : ℕ) → sound other place (block_of s.card b) ≡ true
    → (other ≡ sheet) × ((entry_at s.entries sheet).start + place ≡ b)

-- Each place of each sheet is blank or sound for it: no sheet has a place that is neither.
abbrev pub Mended : Kept → Type 0
Mended s =
    (sheet place : ℕ) → Covers s sheet ((entry_at s.entries sheet).start + place)
    → (blank (block_of s.card ((entry_at s.entries sheet).start + place)) ≡ true)
    ⊎ (sound sheet place (block_of s.card ((entry_at s.entries sheet).start + place)) ≡ true)

-- That is enough, in a sound state with a card of 512·n bytes: `mended_own` in proofs/Own.antt.
abbrev pub MendedOwn : Type 0
MendedOwn = (s : Kept) → Sound s → length s.card ≡ 512 * s.shape.blocks → Mended s → OwnBlocks s

-- From a sound state every call but a load keeps it, by whomever and in whatever form it is made: `keeps_own`.
abbrev pub KeepsOwn : Type 0
KeepsOwn =
    (m : Manner) (s : Kept) (b : Beside) (c : Public) → Sound s → (loads (sort_of c) && done (ends m s b c)) ≡ false
    → OwnBlocks s → OwnBlocks (kept_after (ends m s b c))

-- And lists of calls from a fresh card, without an accepted load, leave such states: `fresh_own`.
abbrev pub FreshOwn : Type 0
FreshOwn =
    (n c : ℕ) (card : List ℕ) (made : List Made) (es : List End) (t : Kept)
    → Along (λ s m. (loads (sort_of m.call) && done (end_of s m)) ≡ false) (fresh_state n c card) made
    → Runs (fresh_state n c card) made es t → OwnBlocks t
