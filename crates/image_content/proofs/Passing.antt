-- Entries that are counted and released one after the other, or some at once, where it is known what they and those behind
-- make together.
-- Assumes nothing.
use mathlib.Core.Path.{◌≡◌, refl, sym, ap, ap₂, ◌∙◌}
use mathlib.Core.Bool.{Bool, true, false, ◌&&◌, cond}
use mathlib.Core.List.{List, [], ◌∷◌, ◌++◌}
use Prim.Native.Nat.{ℕ, ◌-◌}
use Rattle.std.proofs.Math.Bool.{and_assoc, and-true}
use Rattle.std.specs.Prelude.{Some, None}
use Rattle.std.specs.Option.{option_and_then}
use Rattle.catalogue.specs.declared.Entry.{Entry}
use Rattle.image_soundness.specs.Windows.{countable, tally_after, tally_of, part_stands, scratch_after, parts_stand}
use Rattle.image_soundness.specs.Windows.{scratch_over}
use Rattle.image_soundness.proofs.Counted.{tally_none, tally_counts, tally_stops}
use Rattle.image_soundness.proofs.Rounds.{stand_none, stand_more, left_none, left_more}

-- counted
module _ (n : ℕ) where
  tally_split : (xs ys : List Entry) (left : ℕ)
      → tally_of (xs ++ ys) n left ≡ option_and_then (λ rest. tally_of ys n rest) (tally_of xs n left)
  unfolding tally_of
  tally_split [] ys left = refl
  tally_split (x ∷ xs) ys left = by (countable n left x) (tally_split xs ys (left - x.length))
    where
      by : (b : Bool) → tally_of (xs ++ ys) n (left - x.length)
          ≡ option_and_then (λ rest. tally_of ys n rest) (tally_of xs n (left - x.length))
          → cond b (tally_of (xs ++ ys) n (left - x.length)) None
          ≡ option_and_then (λ rest. tally_of ys n rest) (cond b (tally_of xs n (left - x.length)) None)
      by true h = h
      by false h = refl

  pub none_counted : (all : List Entry) (left : ℕ) → all ≡ [] → tally_of all n left ≡ Some left
  none_counted all left e = ap (λ (l : List Entry). tally_of l n left) e ∙ tally_none n left

  module _ (all rest : List Entry) (left : ℕ) where
    pub one_counted : (e : Entry) (next : ℕ) → all ≡ e ∷ rest → Some next ≡ tally_after n left e
        → tally_of all n left ≡ tally_of rest n next
    one_counted e next split h =
        ap (λ (l : List Entry). tally_of l n left) split ∙ tally_counts n left e rest next (sym h)

    pub one_stops : (e : Entry) → all ≡ e ∷ rest → None ≡ tally_after n left e → tally_of all n left ≡ None
    one_stops e split h = ap (λ (l : List Entry). tally_of l n left) split ∙ tally_stops n left e rest (sym h)

    pub some_counted : (some : List Entry) (next : ℕ) → all ≡ some ++ rest → Some next ≡ tally_of some n left
        → tally_of all n left ≡ tally_of rest n next
    some_counted some next split h =
        ap (λ (l : List Entry). tally_of l n left) split ∙ tally_split some rest left
        ∙ ap (option_and_then (λ rest'. tally_of rest n rest')) (sym h)

    pub some_stop : (some : List Entry) → all ≡ some ++ rest → None ≡ tally_of some n left → tally_of all n left ≡ None
    some_stop some split h =
        ap (λ (l : List Entry). tally_of l n left) split ∙ tally_split some rest left
        ∙ ap (option_and_then (λ rest'. tally_of rest n rest')) (sym h)

-- released, and whether each part so far was taken
module _ (lo : ℕ) where
  parts_split : (xs ys : List Entry) (scratch : List ℕ) → parts_stand (xs ++ ys) lo scratch
      ≡ (parts_stand xs lo scratch && parts_stand ys lo (scratch_over xs lo scratch))
  unfolding parts_stand scratch_over
  parts_split [] ys scratch = refl
  parts_split (x ∷ xs) ys scratch =
      ap (λ (b : Bool). part_stands lo scratch x && b) (parts_split xs ys (scratch_after lo scratch x))
      ∙ sym (and_assoc (part_stands lo scratch x) (parts_stand xs lo (scratch_after lo scratch x))
      (parts_stand ys lo (scratch_over xs lo (scratch_after lo scratch x))))

  scratch_split : (xs ys : List Entry) (scratch : List ℕ) → scratch_over (xs ++ ys) lo scratch
      ≡ scratch_over ys lo (scratch_over xs lo scratch)
  unfolding scratch_over
  scratch_split [] ys scratch = refl
  scratch_split (x ∷ xs) ys scratch = scratch_split xs ys (scratch_after lo scratch x)

  -- what the entries left make of the scratch is what all of them make
  pub record Left (all : List Entry) (first : List ℕ) (rest : List Entry) (so : Bool) (scratch : List ℕ) : Type 0 where
    pub stands : (so && parts_stand rest lo scratch) ≡ parts_stand all lo first
    pub over : scratch_over rest lo scratch ≡ scratch_over all lo first

  module _ (all : List Entry) (first : List ℕ) where
    pub left_from : (rest : List Entry) → all ≡ rest → Left all first rest true first
    left_from rest e = record {
      stands = ap (λ (l : List Entry). parts_stand l lo first) (sym e);
      over = ap (λ (l : List Entry). scratch_over l lo first) (sym e);
    }

    module _ (rest : List Entry) (so : Bool) (scratch : List ℕ) (l : Left all first rest so scratch) where
      pub left_end : rest ≡ [] → (so ≡ parts_stand all lo first) × (scratch ≡ scratch_over all lo first)
      left_end e = (
        sym (ap (λ (l : List Entry). so && parts_stand l lo scratch) e ∙ ap (λ (b : Bool). so && b) (stand_none lo scratch)
            ∙ and-true so) ∙ l.stands,
        sym (ap (λ (l : List Entry). scratch_over l lo scratch) e ∙ left_none lo scratch) ∙ l.over,
      )

      -- one more
      pub one_released : (e : Entry) (behind : List Entry) (still : Bool) (next : List ℕ) → rest ≡ e ∷ behind
          → still ≡ (so && part_stands lo scratch e) → next ≡ scratch_after lo scratch e → Left all first behind still next
      one_released e behind still next split es en = record {
        stands = ap₂ (λ (b : Bool) (l : List ℕ). b && parts_stand behind lo l) es en
            ∙ and_assoc so (part_stands lo scratch e) (parts_stand behind lo (scratch_after lo scratch e))
            ∙ ap (λ (b : Bool). so && b) (sym (stand_more e behind lo scratch)
            ∙ ap (λ (l : List Entry). parts_stand l lo scratch) (sym split)) ∙ l.stands;
        over = ap (scratch_over behind lo) en ∙ sym (left_more e behind lo scratch)
            ∙ ap (λ (l : List Entry). scratch_over l lo scratch) (sym split) ∙ l.over;
      }

      -- some more
      pub some_released : (some behind : List Entry) (still : Bool) (next : List ℕ) → rest ≡ some ++ behind
          → still ≡ (so && parts_stand some lo scratch) → next ≡ scratch_over some lo scratch → Left all first behind still next
      some_released some behind still next split es en = record {
        stands = ap₂ (λ (b : Bool) (l : List ℕ). b && parts_stand behind lo l) es en
            ∙ and_assoc so (parts_stand some lo scratch) (parts_stand behind lo (scratch_over some lo scratch))
            ∙ ap (λ (b : Bool). so && b) (sym (parts_split some behind scratch)
            ∙ ap (λ (l : List Entry). parts_stand l lo scratch) (sym split)) ∙ l.stands;
        over = ap (scratch_over behind lo) en ∙ sym (scratch_split some behind scratch)
            ∙ ap (λ (l : List Entry). scratch_over l lo scratch) (sym split) ∙ l.over;
      }
