-- How soundness is tested with a scratch of 64 words. First each entry alone: it must keep the rule of its mark, and the
-- lengths together must make what the free count leaves of n. Then the map, window by window: the 64 words of a window are
-- copied to the scratch, and of each extent the part that lies there is released, which must be taken; at the end all blocks
-- of the window below n, and no others, must be free. `tested_sound` and `state_tested_sound` (proofs/Tested.antt) say that
-- this is soundness.
-- Assumes nothing.
use Rattle.std.specs.Prelude.{Bool, true, false, ◌&&◌, cond, List, [], ◌∷◌, ℕ, zero, suc, ◌+◌, ◌-◌, ◌*◌, ◌/◌, min, max}
use Rattle.std.specs.Prelude.{Option, Some, None, eqb, leb, ltb, length, get_or}
use Rattle.std.specs.Option.{option_and_then, option_eq}
use Rattle.std.proofs.Math.Bool.{not}
use Rattle.map_blocks.specs.Blocks.{all}
use Rattle.map_blocks.specs.Maps.{marked, in_state, is_fresh}
use Rattle.catalogue.specs.declared.Entry.{Entry}
use Rattle.catalogue_standings.specs.Standings.{standing_of, is_damaged}

-- ---- each entry alone

-- It keeps the rule of its mark: it would be undamaged if no block were free.
unfoldable pub keeps_rule : ℕ → Entry → Bool
keeps_rule n e = not (is_damaged (standing_of n (λ b. false) e))

-- It counts: it keeps the rule of its mark, and it is no longer than what is left.
unfoldable pub countable : ℕ → ℕ → Entry → Bool
unfolding keeps_rule
countable n left e = keeps_rule n e && leb e.length left

-- What is left after one entry, and after all of them, if each counts.
unfoldable pub tally_after : ℕ → ℕ → Entry → Option ℕ
unfolding countable
tally_after n left e = cond (countable n left e) (Some (left - e.length)) None

unfoldable pub tally_of : List Entry → ℕ → ℕ → Option ℕ
unfolding countable
tally_of [] n left = Some left
tally_of (e ∷ es) n left = cond (countable n left e) (tally_of es n (left - e.length)) None

-- ---- one window, whose first block is lo

-- The m words of a map from word a on; 0 past its end. To begin with, those of the window are copied to the scratch.
unfoldable pub words_from : List ℕ → ℕ → ℕ → List ℕ
words_from map a zero = []
words_from map a (suc m) = get_or map a 0 ∷ words_from map (suc a) m

-- The part of an extent that lies in it: from this block on, and before that one.
abbrev pub part_from : ℕ → Entry → ℕ
part_from lo e = max e.start lo

abbrev pub part_to : ℕ → Entry → ℕ
part_to lo e = min (e.start + e.length) (lo + 4096)

unfoldable pub touches : ℕ → Entry → Bool
touches lo e = ltb (part_from lo e) (part_to lo e)

-- The k blocks from s on lie in the scratch and are taken there.
unfoldable pub taken : List ℕ → ℕ → ℕ → Bool
taken scratch s k = leb (s + k) (64 * length scratch) && all (in_state scratch false) s k

abbrev pub part_taken : ℕ → List ℕ → Entry → Bool
part_taken lo scratch e = taken scratch (part_from lo e - lo) (part_to lo e - part_from lo e)

-- One entry: it has no part there, or its part is taken; and the scratch after it, where that part is released.
unfoldable pub part_stands : ℕ → List ℕ → Entry → Bool
unfolding touches taken
part_stands lo scratch e = cond (touches lo e) (part_taken lo scratch e) true

unfoldable pub scratch_after : ℕ → List ℕ → Entry → List ℕ
unfolding touches taken
scratch_after lo scratch e =
    cond (touches lo e)
    (cond (part_taken lo scratch e)
    (marked scratch (part_from lo e - lo) (part_to lo e - part_from lo e) true) scratch) scratch

-- And all of them. A part that is not taken is never forgotten, so that none need end the pass.
unfoldable pub parts_stand : List Entry → ℕ → List ℕ → Bool
unfolding part_stands scratch_after
parts_stand [] lo scratch = true
parts_stand (e ∷ es) lo scratch = part_stands lo scratch e && parts_stand es lo (scratch_after lo scratch e)

unfoldable pub scratch_over : List Entry → ℕ → List ℕ → List ℕ
unfolding scratch_after
scratch_over [] lo scratch = scratch
scratch_over (e ∷ es) lo scratch = scratch_over es lo (scratch_after lo scratch e)

-- With a scratch of m words: all parts are taken, and all blocks of the window below n, and no others, are free afterwards.
module _ (map : List ℕ) (es : List Entry) (m n lo : ℕ) where
  abbrev pub window_words : List ℕ
  window_words = words_from map (lo / 64) m

  unfoldable pub window_passes : Bool
  unfolding words_from parts_stand scratch_over
  window_passes = parts_stand es lo window_words && is_fresh (scratch_over es lo window_words) (n - lo)

  -- The same, with a scratch of 64 words at most.
  unfoldable pub state_window_passes : Bool
  unfolding words_from parts_stand scratch_over
  state_window_passes = leb m 64 && parts_stand es lo window_words && is_fresh (scratch_over es lo window_words) (n - lo)

-- ---- the whole test, of a map of any length

-- Of a map and entries, with a scratch of m words and so many blocks to make: every entry counts, the lengths make those
-- blocks, and every window passes.
unfoldable pub windows_pass : List ℕ → List Entry → ℕ → ℕ → Bool
unfolding window_passes
windows_pass map es m n = all (λ i. window_passes map es m n (4096 * i)) 0 ((n + 4095) / 4096)

unfoldable pub tested : List ℕ → List Entry → ℕ → ℕ → ℕ → Bool
unfolding tally_of windows_pass
tested map es m n blocks = leb m 64 && option_eq eqb (tally_of es n blocks) (Some 0) && windows_pass map es m n

-- ---- the whole test, of a state as save, load and closing have it

-- The first block of window i: they begin 4096 blocks apart, and none behind block 266240, which no card has.
abbrev pub window_start : ℕ → ℕ
window_start i = min (4096 * i) 266240

-- Of a state's map and entries, with a scratch of m words and so many blocks to make, or None if the free count is more than n:
-- every entry counts, the lengths make those blocks, and every window passes. Of no blocks there is none.
unfoldable pub state_windows_pass : List ℕ → List Entry → ℕ → ℕ → Bool
unfolding state_window_passes
state_windows_pass map es m n = all (λ i. state_window_passes map es m n (window_start i)) 0 ((n + 4095) / 4096)

unfoldable pub state_tested : List ℕ → List Entry → ℕ → ℕ → Option ℕ → Bool
unfolding tally_of state_windows_pass
state_tested map es m n blocks =
    option_eq eqb (option_and_then (tally_of es n) blocks) (Some 0) && state_windows_pass map es m n
