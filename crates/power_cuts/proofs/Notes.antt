-- A call keeps what holds since the last image was saved, with what the rule's notes say then: `since-call`, `just_saved`.
-- Assumes nothing.
use Prim.Native.Nat.{ℕ}
use mathlib.Core.Path.{◌≡◌, refl, sym, ap, subst, ◌∙◌}
use mathlib.Core.Bool.{Bool, true, false, ◌&&◌, ◌||◌, cond}
use lib.ListN.{length}
use Rattle.map_blocks.specs.Blocks.{free}
use Rattle.catalogue_standings.specs.Standings.{is_paused}
use Rattle.catalogue_standings.specs.declared.Standing.TheVariants.{Paused}
use Rattle.catalogue_standings.proofs.Pauses.{reads_as_paused}
use Rattle.card.specs.Calls.{Kept}
use Rattle.card.specs.Public.{Public}
use Rattle.role_lists.specs.Carers.{stands}
use Rattle.power_cuts.specs.Held.{Finished, Untouched}
use Rattle.power_cuts.specs.Own.{OwnBlocks}
use Rattle.power_cuts.specs.Sorts.{Sort, taking, putting, marking, releasing, closing, beginning, sort_of, unsettles}
use Rattle.power_cuts.specs.Sorts.{takes}
use Rattle.power_cuts.specs.Sorts.{frees, moves, loads}
use Rattle.power_cuts.proofs.Apart.{Apart}
use Rattle.power_cuts.proofs.Blocks.{keeps_length}
use Rattle.power_cuts.proofs.Closings.{closed-since}
use Rattle.power_cuts.proofs.Deeds.{entry_in, Deed, nothing, took, put, marks, released, closed, began, loaded}
use Rattle.power_cuts.proofs.Keeping.{keeps_apart}
use Rattle.power_cuts.proofs.Own.{deed_own, no_loading}
use Rattle.power_cuts.proofs.Since.{Since, Pause, since_recalled, since_released, since_moved}
use Rattle.power_cuts.proofs.Standings.{length_so}
use Rattle.power_cuts.proofs.Steps.{took-since, put-since, marked-since, released-since, began-since}
use Rattle.power_cuts.proofs.Writes.{settled}

-- ---- what is noted

or_false : (b : Bool) → (b || false) ≡ b
or_false true = refl
or_false false = refl

or_true : (b : Bool) → (b || true) ≡ true
or_true true = refl
or_true false = refl

-- the notes of a call, by its sort
pub of_sort : (f : Sort → Bool) (c : Public) (sort : Sort) (d : Bool) → sort_of c ≡ sort → (f (sort_of c) && d) ≡ (f sort && d)
of_sort f c sort d i = ap (λ (x : Sort). f x && d) i

module _ (saved s t : Kept) (c : Public) (d released₀ moved₀ doubtful₀ : Bool) where
  abbrev freed : Bool
  freed = frees (sort_of c) && d

  abbrev shut : Bool
  shut = moves (sort_of c) && d

  abbrev Then : Type 0
  Then = Since saved t (released₀ || freed) (moved₀ || shut) (cond shut false doubtful₀)

  -- neither a release nor a closing
  unnoted : freed ≡ false → shut ≡ false → Since saved t released₀ moved₀ doubtful₀ → Then
  unnoted f m x =
      subst (λ (b : Bool). Since saved t (released₀ || freed) (moved₀ || b) (cond b false doubtful₀)) (sym m)
      (subst (λ (b : Bool). Since saved t (released₀ || b) (moved₀ || false) doubtful₀) (sym f)
      (subst (λ (b : Bool). Since saved t b (moved₀ || false) doubtful₀) (sym (or_false released₀))
      (subst (λ (b : Bool). Since saved t released₀ b doubtful₀) (sym (or_false moved₀)) x)))

  -- a release, or a fresh
  noted_release : freed ≡ true → shut ≡ false → Since saved t true moved₀ doubtful₀ → Then
  noted_release f m x =
      subst (λ (b : Bool). Since saved t (released₀ || freed) (moved₀ || b) (cond b false doubtful₀)) (sym m)
      (subst (λ (b : Bool). Since saved t (released₀ || b) (moved₀ || false) doubtful₀) (sym f)
      (subst (λ (b : Bool). Since saved t b (moved₀ || false) doubtful₀) (sym (or_true released₀))
      (subst (λ (b : Bool). Since saved t true b doubtful₀) (sym (or_false moved₀)) x)))

  -- whatever is noted of releases
  maybe_release : shut ≡ false → Since saved t released₀ moved₀ doubtful₀ → Then
  maybe_release m x = go freed refl
    where
      go : (f : Bool) → freed ≡ f → Then
      go true e = noted_release e m (since_released saved t moved₀ doubtful₀ released₀ x)
      go false e = unnoted e m x

  noted_closing : freed ≡ false → shut ≡ true → Since saved t released₀ true false → Then
  noted_closing f m x =
      subst (λ (b : Bool). Since saved t (released₀ || freed) (moved₀ || b) (cond b false doubtful₀)) (sym m)
      (subst (λ (b : Bool). Since saved t (released₀ || b) (moved₀ || true) false) (sym f)
      (subst (λ (b : Bool). Since saved t b (moved₀ || true) false) (sym (or_false released₀))
      (subst (λ (b : Bool). Since saved t released₀ b false) (sym (or_true moved₀)) x)))

  -- ---- a call

  module _ (x : Since saved s released₀ moved₀ doubtful₀)
      (Takes-none : (takes (sort_of c) && d) ≡ true → released₀ ≡ false)
      (owns : (moves (sort_of c) && d) ≡ true → OwnBlocks s)
      (no_load : (loads (sort_of c) && d) ≡ false) where
    pub since-call : Deed s t c d → Then
    since-call deed = go deed
      where
        a : Apart t
        a = keeps_apart s t c d deed x.apart

        long : length t.card ≡ length s.card
        long = keeps_length s t c d deed

        own : OwnBlocks s → OwnBlocks t
        own = deed_own s t c d deed x.apart no_load

        quiet : (unsettles (sort_of c) && d) ≡ false
            → (sheet start count : ℕ) → Finished s sheet start count → Untouched s t sheet start count
        quiet z = settled s t c d deed x.apart z

        go : Deed s t c d → Then
        go (nothing e z) =
            maybe_release z (subst (λ (u : Kept). Since saved u released₀ moved₀ doubtful₀) (sym e) x)
        go (took i j sheet start count from k total y asked is) =
            unnoted (of_sort frees c taking d i) (of_sort moves c taking d i)
            (took-since saved s t released₀ moved₀ doubtful₀ x a long own sheet start count from k total y
            (Takes-none (of_sort takes c taking d i ∙ j)) (quiet (of_sort unsettles c taking d i)))
        go (put sheet start count place payload i y) =
            let is : sort_of c ≡ putting = ap sort_of i in
            unnoted (of_sort frees c putting d is) (of_sort moves c putting d is)
            (put-since saved s t released₀ moved₀ doubtful₀ x a long own sheet start count place payload y
            (quiet (of_sort unsettles c putting d is)))
        go (marks i sheet mark y) =
            unnoted (of_sort frees c marking d i) (of_sort moves c marking d i)
            (marked-since saved s t released₀ moved₀ doubtful₀ x a long own sheet mark y
            (quiet (of_sort unsettles c marking d i)))
        go (released i j sheet y) =
            noted_release (of_sort frees c releasing d i ∙ j) (of_sort moves c releasing d i)
            (released-since saved s t true moved₀ doubtful₀ (since_released saved s moved₀ doubtful₀ released₀ x) a long own
            sheet y refl)
        go (began i j y) =
            noted_release (of_sort frees c beginning d i ∙ j) (of_sort moves c beginning d i)
            (began-since saved s t true moved₀ doubtful₀
            (since_released saved s moved₀ doubtful₀ released₀ x) a long own y refl)
        go (closed i j y) =
            let o = owns (of_sort moves c closing d i ∙ j) in
            noted_closing (of_sort frees c closing d i) (of_sort moves c closing d i ∙ j)
            (closed-since saved s t y released₀ false (since_moved saved s released₀ doubtful₀ moved₀ x o) o a long)
        go (loaded i j y) = absurd (no_loading c d i j no_load)

-- ---- a point of a life

-- a sheet that was Paused when a state was saved
pub was_paused : (s : Kept) (sheet : ℕ) → stands s sheet ≡ Paused → Pause s false sheet
was_paused s sheet h = record {
  marked = λ e. (reads_as_paused s.shape.blocks (free s.map) (entry_in s sheet) (ap is_paused h)).marked;
  empty = length_so s.shape.blocks (free s.map) (entry_in s sheet) Paused h refl;
}

pub just_saved : (s : Kept) (doubtful : Bool) → Apart s → (doubtful ≡ false → OwnBlocks s) → Since s s false false doubtful
just_saved s doubtful a own =
    since_recalled s s.card false doubtful a refl (was_paused s) (λ i b l f q u h. refl) (λ e i b l f q u. refl) own
