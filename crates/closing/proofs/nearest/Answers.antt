-- `closing::nearest`: a turn looks at the next entry.
-- Assumes nothing.
use Rattle.std.proofs.Common.{get_or, sym, ◌∙◌, arith, rules}
use Rattle.catalogue.specs.Entries.{zeros}
use Rattle.closing.specs.Rounds.{found_of}
use Rattle.closing.proofs.Rounded.{end, no_extent, has_moved, is_behind, is_first, takes, passes}
use Rattle.closing.proofs.nearest.Goals as goal
use Rattle.closing.proofs.nearest.Goals.{
  then-entry-ge1+then-entry-at+then-start-before,
  else-entry-ge1,
  else-entry-ge1-via-then-entry-ge1+then-entry-at+else-start-before,
  else-entry-ge1-via-then-entry-ge1+else-entry-at,
  else-entry-ge1-via-else-entry-ge1,
}

pub loop-sheet-preserved : goal.loop-sheet-preserved
loop-sheet-preserved c =
    let a = c.args in
    let i = c.loop-sheet.sheet in
    let b = c.loop-sheet.before in
    let e = get_or a.catalogue.now i zeros in
    let l = c.loop-sheet.invariant in
    let t = found_of a.catalogue.now c.loop-sheet.nearest in
    let take = takes a.catalogue.now a.at i t b c.loop-sheet-test.true l.2 in
    let pass = passes a.catalogue.now a.at i t b c.loop-sheet-test.true l.2 in
    elim c.if-entry-ge1.branch [
      | then-entry-ge1+then-entry-at+then-start-before w ↦
          rw (w.nearest-is, w.before-is)
          (take (is_first a.at b e (omega arith) (omega arith) (omega arith)) ∙ l.0, omega arith, cc)
      | else-entry-ge1 w ↦
          rw (w.nearest-is, w.before-is) (
            elim w.else-entry-ge1.branch [
              | else-entry-ge1-via-then-entry-ge1+then-entry-at+else-start-before v ↦
                  pass (is_behind a.at b e (omega arith) (omega arith) (omega arith))
              | else-entry-ge1-via-then-entry-ge1+else-entry-at v ↦ pass (has_moved a.at b e (omega arith) (omega arith))
              | else-entry-ge1-via-else-entry-ge1 v ↦ pass (no_extent a.at b e (omega arith))
            ] ∙ l.0,
            search rules,
            l.2,
          )
    ]

pub returns-clause-value : goal.returns-clause-value
returns-clause-value c =
    sym (end c.args.catalogue.now c.args.at c.loop-sheet.sheet _ c.loop-sheet-test.false) ∙ c.loop-sheet.invariant.0
