-- `survey_words::word_runs` meets its contract: the table gives the runs of each byte, and the bits at their ends tell the
-- crossings.
-- Assumes nothing.

use mathlib.Core.Path.{◌≡◌}
use Prim.Native.Nat.{ℕ, ◌+◌, ◌-◌}
use native.Mathlib.Omega.{arith}
use Rattle.survey_bytes.specs.Bytes.{crossed}
use Rattle.survey_words.specs.Passing.{runs_in}
use Rattle.survey_words.proofs.Counting.{alone, tail_run, runs_word_lem}
use Rattle.survey_words.proofs.word_runs.Goals as goal

pub overflow_sub-n : goal.overflow_sub-n
overflow_sub-n c = omega (arith, alone c.args.w, c.runs_of_bytes.ensures, c.crossings.ensures)

pub joined_runs-requires : goal.joined_runs-requires
joined_runs-requires c =
    let w : ℕ = c.args.w in (
      omega (arith, c.byte_tail.ensures.1),
      omega (arith, c.runs_of_bytes.ensures),
      omega (arith, c.requires.0),
      omega (arith, c.requires.1),
      λ p. omega (
        arith,
        alone w,
        tail_run w (omega (arith, c.byte_tail.ensures.0)),
        c.runs_of_bytes.ensures,
        c.crossings.ensures,
      ),
    )

pub returns : goal.returns
returns c =
    let w : ℕ = c.args.w in
    let e : c.runs_of_bytes.result - c.crossings.result + crossed 7 w ≡ runs_in 8 w =
    omega (arith, alone w, c.runs_of_bytes.ensures, c.crossings.ensures) in
    record {
      value = runs_word_lem w _ _ _ _ _ c.byte_tail.ensures.0 e c.joined_runs.ensures.0;
      upper_bound = c.joined_runs.ensures.1;
    }
