-- A byte before the blocks passed: its four numbers, and what they make of the summary.
-- Assumes nothing.
use mathlib.Core.Path.{◌≡◌, sym, ◌∙◌}
use mathlib.Core.Bool.{Bool, cond}
use mathlib.Core.List.{List, ◌++◌}
use Prim.Native.Nat.{ℕ, ◌+◌, max}
use native.Mathlib.Omega.{arith}
use lib.Dec.{eqb}
use Rattle.survey_bytes.specs.Runs.{head_of, tail_of, longest_of, runs_of, meet}
use Rattle.survey_bytes.specs.Bytes.{bits_of}
use Rattle.survey_words.specs.Passing.{Summary}
use Rattle.survey_bytes.proofs.Bytes.{eight}
use Rattle.survey_words.proofs.Joining.{longest_append, longest_apart, runs_append, head_eight, head_apart}

pub summary : (b h t l n head longest runs r1 m2 r2 r3 : ℕ)
    → h ≡ head_of (bits_of 8 b) → t ≡ tail_of (bits_of 8 b) → l ≡ longest_of (bits_of 8 b) → n ≡ runs_of (bits_of 8 b)
    → r1 ≡ cond (eqb h 8) (8 + head) h → m2 ≡ max l longest → r2 ≡ max m2 (t + head) → r3 + meet t head ≡ n + runs
    → (ys : List Bool) → Summary head longest runs ys → Summary r1 r2 r3 (bits_of 8 b ++ ys)
summary b h t l n head longest runs r1 m2 r2 r3 eh et el en e1 em e2 e3 ys s =
    let m : meet t head ≡ meet (tail_of (bits_of 8 b)) (head_of ys) = (cc) in
    record {
      heads = cc (head_eight (bits_of 8 b) ys (eight b));
      longests = cc (longest_append (bits_of 8 b) ys);
      counts = omega (arith, runs_append (bits_of 8 b) ys, s.counts);
    }

-- the same where no run goes on from the byte into the others
pub summary_apart : (b h l n head longest runs r2 r3 : ℕ)
    → h ≡ head_of (bits_of 8 b) → l ≡ longest_of (bits_of 8 b) → n ≡ runs_of (bits_of 8 b) → r2 ≡ max l longest → r3 ≡ n + runs
    → (ys : List Bool) → Summary head longest runs ys → meet (tail_of (bits_of 8 b)) (head_of ys) ≡ 0
    → Summary h r2 r3 (bits_of 8 b ++ ys)
summary_apart b h l n head longest runs r2 r3 eh el en e2 e3 ys s apart = record {
  heads = eh ∙ sym (head_apart (bits_of 8 b) ys (omega (arith, eight b)) apart);
  longests = cc (longest_apart (bits_of 8 b) ys apart);
  counts = omega (arith, runs_append (bits_of 8 b) ys, s.counts);
}

-- the runs counted another way
pub recounted : (head longest runs r : ℕ) (xs : List Bool) → Summary head longest runs xs → r ≡ runs_of xs
    → Summary head longest r xs
recounted head longest runs r xs s e = record { heads = s.heads; longests = s.longests; counts = e }
