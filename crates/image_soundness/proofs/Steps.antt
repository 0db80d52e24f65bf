-- What the tests of the functions here decide, one by one.
-- Assumes nothing.
use mathlib.Core.Path.{◌≡◌, sym, ap, ◌∙◌}
use mathlib.Core.Bool.{Bool, true, false, ◌&&◌, cond}
use mathlib.Core.List.{List}
use Prim.Native.Nat.{ℕ, ◌+◌, ◌-◌, ◌*◌, ◌/◌, ◌%◌, ◌≤◌, ◌<◌}
use native.Mathlib.Omega.{arith}
use lib.Dec.{leb}
use lib.ListN.{length}
use borrow.Author.Tests.{le-leb, lt-leb, le-ltb, leb-true}
use Rattle.std.specs.Prelude.{Option, Some, None}
use Rattle.std.specs.Option.{SomeIff}
use Rattle.std.proofs.Math.Bool.{and-true}
use Rattle.map_blocks.specs.Blocks.{all}
use Rattle.map_blocks.specs.Maps.{in_state}
use Rattle.laws.proofs.Bools.{and_left}
use Rattle.catalogue.specs.declared.Entry.{Entry}
use Rattle.image_soundness.specs.Windows.{keeps_rule, countable, tally_after}
use Rattle.image_soundness.specs.Windows.{part_from, part_to, touches, taken}

-- two tests, the first of which decides or leaves it to the second
pub first_fails : (a b : Bool) → a ≡ false → false ≡ (a && b)
first_fails a b e = sym (ap (λ (x : Bool). x && b) e)

pub first_holds : (a b : Bool) → a ≡ true → b ≡ (a && b)
first_holds a b e = sym (ap (λ (x : Bool). x && b) e)

-- the first decides where the second holds
pub second_holds : (a b : Bool) → b ≡ true → a ≡ (a && b)
second_holds a b e = sym (ap (λ (x : Bool). a && x) e ∙ and-true a)

-- the first of two tests is enough, or it is left to the second
pub either_first : (a b : Bool) → a ≡ true → true ≡ cond a true b
either_first a b e = sym (ap (λ (x : Bool). cond x true b) e)

pub either_second : (a b : Bool) → a ≡ false → b ≡ cond a true b
either_second a b e = sym (ap (λ (x : Bool). cond x true b) e)

-- an entry that is counted, or is not
module _ (n left : ℕ) (e : Entry) where
  pub rule_broken : keeps_rule n e ≡ false → None ≡ tally_after n left e
  unfolding tally_after countable
  rule_broken k = simp k

  pub counted_off : keeps_rule n e ≡ true → (r : Option ℕ) → SomeIff r (e.length ≤ left) (left - e.length)
      → r ≡ tally_after n left e
  unfolding tally_after countable
  counted_off k r h = by r h
    where
      by : (r : Option ℕ) → SomeIff r (e.length ≤ left) (left - e.length)
          → r ≡ cond (keeps_rule n e && leb e.length left) (Some (left - e.length)) None
      by (Some x) h = simp (k, le-leb e.length left h.0) (ap Some h.1)
      by None h = simp (k, lt-leb e.length left (omega (arith, h)))

-- the start counted back from the window's last block, in 64 bits: as far as the extent is long, and 4095 more
pub lies_apart : (lo : ℕ) (e : Entry) (back : ℕ) → back < 18446744073709551616
    → (back + e.start) % 18446744073709551616 ≡ lo + 4095 → e.length + 4095 ≤ back → false ≡ touches lo e
unfolding touches
lies_apart lo e back small wraps far = sym (le-ltb (part_from lo e) (part_to lo e) (omega arith))

module _ (scratch : List ℕ) (s k : ℕ) where
  pub taken_short : length scratch < (s + k + 63) / 64 → false ≡ taken scratch s k
  unfolding taken
  taken_short h = simp (lt-leb (s + k) (64 * length scratch) (omega arith))

  pub taken_all : (s + k + 63) / 64 ≤ length scratch → all (in_state scratch false) s k ≡ taken scratch s k
  unfolding taken
  taken_all h = simp (le-leb (s + k) (64 * length scratch) (omega arith))

  pub taken_fits : taken scratch s k ≡ true → s + k ≤ 64 * length scratch
  unfolding taken
  taken_fits h = leb-true (s + k) (64 * length scratch)
      (and_left (leb (s + k) (64 * length scratch)) (all (in_state scratch false) s k) h)
