-- The place that goes with 9 is the lowest blank place of the sheet (document 02 (d)): a place of the sheet that is blank, and
-- no lower one is.
-- Assumes nothing.
use Rattle.std.specs.Prelude.{Option, Some, None}
use mathlib.Core.Path.{◌≡◌, refl, sym, ap, ◌∙◌}
use mathlib.Core.Logic.{◌⊎◌, inl, inr}
use mathlib.Core.Bool.{Bool, true, false, not, true≢false}
use Prim.Native.Nat.{ℕ, ◌+◌, ◌<◌}
use native.Mathlib.Omega.{arith}
use Rattle.map_blocks.specs.Blocks.{free, all, least}
use Rattle.map_blocks.proofs.Least.{least_passes, least_below, none_passes}
use Rattle.map_blocks.proofs.Runs.{all_intro}
use Rattle.blocks_of_card.specs.Card.{block_of}
use Rattle.block_seals.specs.Sealed.{blank}
use Rattle.catalogue_standings.specs.Rows.{refused}
use Rattle.catalogue_standings.specs.Searches.{start_at}
use Rattle.catalogue_standings.specs.Standings.{standing_of, is_damaged, length_of}
use Rattle.catalogue_standings.specs.declared.Standing.{Standing}
use Rattle.catalogue_standings.specs.declared.Standing.TheVariants.{Absent, Paused, PausedWith, Open, Complete, Damaged}
use Rattle.catalogue_standings.proofs.Entries.{inside_of}
use Rattle.refusals.specs.Effects.{complete_verdict, blank_place}
use Rattle.refusals.specs.Lent.{Lent}
use Rattle.refusals.specs.Table.{View, on, complete, every_place, lowest_blank, table_of}
use Rattle.refusals.specs.Views.{view_on}
use Rattle.catalogue_standings.proofs.Rows.{holds}

-- the lowest of m numbers that pass a test
pub record Lowest (test : ℕ → Bool) (m p : ℕ) : Type 0 where
  pub inside : p < m
  pub passes : test p ≡ true
  pub none_below : (t : ℕ) → t < p → test t ≡ false

-- where not every number fails the test, the least that passes it is the lowest
found : (test : ℕ → Bool) (m : ℕ) (r : Option ℕ) → least test 0 m ≡ r → all (λ p. not (test p)) 0 m ≡ false
    → Lowest test m (start_at r)
found test m (Some p) e some =
    let passed = least_passes test 0 m p e in
    record {
      inside = omega (arith, passed.high);
      passes = passed.test;
      none_below = λ t l. least_below test 0 m p e t (omega arith) l;
    }
found test m None e some =
    absurd (true≢false (sym (all_intro (λ p. not (test p)) 0 m (λ p a b. ap not (none_passes test 0 m e p a b))) ∙ some))

-- row 9 holds: of any view, the program's as well as the ledger's
pub lowest_of : (v : View) → not (every_place v (λ p. not (v.blank p))) ≡ true
    → Lowest v.blank (length_of v.stands) (lowest_blank v)
unfolding lowest_blank
lowest_of v nine = found v.blank (length_of v.stands) _ refl (turned _ nine)
  where
    turned : (b : Bool) → not b ≡ true → b ≡ false
    turned true e = absurd (true≢false (sym e))
    turned false e = refl

module _ (q : Lent) where
  abbrev stands : Standing
  stands = standing_of q.n (free q.map) q.entry

  abbrev blank_at : ℕ → Bool
  blank_at p = blank (block_of q.card (q.entry.start + p))

  -- a sheet that has places is not damaged
  whole : (s : Standing) (p : ℕ) → p < length_of s → is_damaged s ≡ false
  whole Absent p h = refl
  whole Paused p h = refl
  whole (PausedWith start blocks) p h = refl
  whole (Open start blocks) p h = refl
  whole (Complete start blocks) p h = refl
  whole Damaged p h = absurd (omega arith)

  nine_holds : complete_verdict q ≡ refused 9 → Lowest blank_at (length_of stands) (blank_place q)
  unfolding complete_verdict blank_place view_on table_of
  nine_holds h = go (holds 9 (table_of (view_on q) (on q.sheet complete)) h)
    where
      go : (not (all (λ p. not (blank_at p)) 0 (length_of stands)) ≡ true) ⊎ ⊥
          → Lowest blank_at (length_of stands) (lowest_blank (view_on q))
      go (inl nine) = lowest_of (view_on q) nine
      go (inr none) = absurd none

  pub place_is_lowest : complete_verdict q ≡ refused 9
      → Lowest (λ p. blank (block_of q.card (q.entry.start + p))) q.entry.length (blank_place q)
  place_is_lowest h =
      let l = nine_holds h in
      let size = (inside_of q.n (free q.map) q.entry (whole stands (blank_place q) l.inside)).lasts in
      record { inside = omega (arith, l.inside, size); passes = l.passes; none_below = l.none_below }
