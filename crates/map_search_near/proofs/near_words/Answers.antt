-- `map_search_near::near_words` meets its contract. The loop's invariant: m has the starts of word i from c on, and no
-- run starts before that word.
-- Assumes nothing.

use mathlib.Core.Path.{◌≡◌, refl, subst}
use native.Mathlib.Omega.{arith}
use mathlib.Core.Bool.{◌&&◌}
use Prim.Native.Nat.{ℕ, ◌+◌, ◌*◌, ◌/◌, ◌%◌}
use lib.Bits.{and_lt}
use lib.Dec.{leb}
use Rattle.map_blocks.specs.Blocks.{free, on_step}
use Rattle.map_search_starts.specs.Starts.{Marks, FindsFirst}
use Rattle.map_search_near.proofs.Figures.{run_after}
use Rattle.map_search_near.proofs.Rows.{word_marks, from_marks, all_marks}
use Rattle.map_search_near.proofs.near_words.Goals.{After-look}
use Rattle.map_search_near.proofs.near_words.Goals as goal

-- what a word tells
told : (c : After-look)
    → FindsFirst (on_step c.args.sought.step) (free c.args.map.now) c.args.sought.k c.args.c (c.loop-i.i * 64 + 64)
    c.look.result
told c =
    let a = c.args in
    let loop = c.loop-i in
    c.look.ensures.by_index (on_step a.sought.step) (free a.map.now) a.c (omega arith)
    (word_marks a.map.now loop.i (loop.i * 64) _ refl refl)
    (word_marks a.map.now (loop.i + 1) (loop.i * 64 + 64) _ (omega arith) refl) loop.invariant.3 loop.invariant.4

pub loop-i-init : goal.loop-i-init
loop-i-init c = let marks = c.starts in
    let far = c.ahead-far in
    let a = c.args in (
      far.ensures.0,
      far.ensures.1,
      and_lt 64 marks.result c.part.result (omega arith) (omega arith),
      from_marks (on_step a.sought.step) a.c (a.c / 64 * 64) marks.result c.part.result
          (marks.ensures (a.c / 64 * 64) far.ensures.1) c.part.ensures,
      λ t u v. absurd (omega arith),
    )

pub returns-in-Some : goal.returns-in-Some
returns-in-Some c = let a = c.args in
    let i : ℕ = c.loop-i.i in
    run_after (on_step a.sought.step) (free a.map.now) a.sought.k a.c a.c (i * 64 + 64) (a.stop * 64) c.in-Some.start
    (omega arith)
    (omega arith) (λ t u v. absurd (omega arith))
    (subst (FindsFirst (on_step a.sought.step) (free a.map.now) a.sought.k a.c (i * 64 + 64)) c.in-Some.is
    (told (goal.at.returns-in-Some c).After-look))

pub loop-i-preserved : goal.loop-i-preserved
loop-i-preserved c = let a = c.args in
    let loop = c.loop-i in
    let e : loop.i * 64 + 64 ≡ (loop.i + 1) * 64 = omega arith in
    let next = c.ahead_next-far in
    let on : (loop.i * 64 + 64 + next.result) % a.sought.step ≡ 0 = next.ensures.1 (loop.i * 64) loop.invariant.1 in (
      next.ensures.0,
      subst (λ (b : ℕ). (b + next.result) % a.sought.step ≡ 0) e on,
      omega arith,
      subst (λ (b : ℕ). Marks (λ (t : ℕ). on_step a.sought.step t && leb a.c t) b c.starts-m.result) e
          (all_marks (on_step a.sought.step) a.c (loop.i * 64 + 64) c.starts-m.result (omega arith)
          (c.starts-m.ensures (loop.i * 64 + 64) on)),
      λ t u v on. subst (FindsFirst (on_step a.sought.step) (free a.map.now) a.sought.k a.c (loop.i * 64 + 64)) c.in_default.is
          (told (goal.at.loop-i-preserved c).After-look) t u (omega arith) on,
    )

pub returns : goal.returns
returns c = λ t u v. c.loop-i.invariant.4 t u (omega arith)
