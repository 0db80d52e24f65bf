-- `call_put::places::look` meets its contract. The loop's invariant: the places passed are blank or sound each, and the
-- lowest blank one among them is known.
-- Assumes nothing.

use mathlib.Core.Bool.{Bool}
use mathlib.Core.List.{List}
use Prim.Native.Nat.{ℕ, ◌+◌}
use Rattle.blocks_of_card.specs.Card.{block_of}
use Rattle.block_seals.specs.Sealed.{blank, sound}
use Rattle.call_put.proofs.Fillings.{Passed}
use Rattle.call_put.proofs.places.look.Given as goal

abbrev pub blankIn : List ℕ → ℕ → ℕ → Bool
blankIn card start p = blank (block_of card (start + p))

abbrev pub soundIn : List ℕ → ℕ → ℕ → ℕ → Bool
soundIn card start sheet p = sound sheet p (block_of card (start + p))

abbrev pub invariant-loop-place : goal.invariant-loop-place
invariant-loop-place l = Passed (blankIn l.card l.start) (soundIn l.card l.start l.sheet) l.place l.lowest
