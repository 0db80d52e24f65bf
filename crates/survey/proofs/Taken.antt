-- Taken blocks add nothing to the counts: at the end of a list, and as a word before one.
-- Assumes nothing.
use mathlib.Core.Path.{◌≡◌, refl, sym}
use mathlib.Core.Bool.{Bool, true, false}
use mathlib.Core.List.{List, ◌∷◌, ◌++◌}
use Prim.Native.Nat.{ℕ, zero, suc, ◌≤◌}
use native.Mathlib.Omega.{arith}
use Rattle.survey_bytes.specs.Runs.{head_of, tail_of, longest_of, runs_of}
use Rattle.survey_bytes.specs.Bytes.{bits_of}
use Rattle.survey_words.specs.Passing.{Summary}
use Rattle.survey.specs.Survey.{free_of, blocks}
use Rattle.survey_words.proofs.Joining.{head_longest, tail_longest, longest_append, runs_append, meet_none, meet_nothing}
use Rattle.survey.proofs.Blocks.{free_append}

-- ---- taken blocks at the end

pub record Same (xs ys : List Bool) : Type 0 where
  pub frees : free_of xs ≡ free_of ys
  pub runs : runs_of xs ≡ runs_of ys
  pub longest : longest_of xs ≡ longest_of ys

record Empty (xs : List Bool) : Type 0 where
  free : free_of xs ≡ 0
  head : head_of xs ≡ 0
  longest : longest_of xs ≡ 0
  runs : runs_of xs ≡ 0

all_taken : (f : ℕ → Bool) (s m : ℕ) → ((b : ℕ) → s ≤ b → f b ≡ false) → Empty (blocks f s m)
unfolding blocks free_of head_of longest_of runs_of
all_taken f s zero h = record { free = refl; head = refl; longest = refl; runs = refl }
all_taken f s (suc m) h = go (f s) (h s (omega arith)) (all_taken f (suc s) m (λ b l. h b (omega arith)))
  where
    go : (x : Bool) → x ≡ false → Empty (blocks f (suc s) m) → Empty (x ∷ blocks f (suc s) m)
    go true e rest = absurd (mathlib.Core.Bool.true≢false e)
    go false e rest = record {
      free = omega (arith, rest.free);
      head = refl;
      longest = omega (arith, rest.longest);
      runs = omega (arith, rest.runs);
    }

pub taken_end : (f : ℕ → Bool) (xs : List Bool) (s m : ℕ) → ((b : ℕ) → s ≤ b → f b ≡ false) → Same (xs ++ blocks f s m) xs
taken_end f xs s m h =
    let ys : List Bool = blocks f s m in
    let e : Empty ys = all_taken f s m h in
    record {
      frees = omega (arith, free_append xs ys, e.free);
      runs = omega (arith, runs_append xs ys, e.runs, meet_nothing (tail_of xs) (head_of ys) e.head);
      longest = omega (arith, longest_append xs ys, e.longest, e.head, tail_longest xs);
    }

-- ---- a word with no free block, before others

past_none : (longest runs head : ℕ) (xs ys : List Bool) → longest_of xs ≡ 0 → tail_of xs ≡ 0 → runs_of xs ≡ 0
    → head_of (xs ++ ys) ≡ 0 → Summary head longest runs ys → Summary 0 longest runs (xs ++ ys)
past_none longest runs head xs ys l t r h s = record {
  heads = sym h;
  longests = omega (arith, s.longests, longest_append xs ys, head_longest ys);
  counts = omega (arith, s.counts, runs_append xs ys, meet_none (tail_of xs) (head_of ys) t);
}

pub past_zero : (longest runs head : ℕ) (ys : List Bool) → Summary head longest runs ys
    → Summary 0 longest runs (bits_of 64 0 ++ ys)
unfolding bits_of head_of tail_of longest_of runs_of
past_zero longest runs head ys s = past_none longest runs head (bits_of 64 0) ys refl refl refl refl s
