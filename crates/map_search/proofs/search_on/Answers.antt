-- `map_search::search_on` meets its contract: what is known goes on through the words before the last one, and from those to
-- the last.
-- Assumes nothing.

use Rattle.std.specs.ControlFlow.{break_value}
use Rattle.std.specs.declared.ops.ControlFlow.{ControlFlow}
use Rattle.std.specs.declared.ops.ControlFlow.TheVariants.{Break, Continue}
use mathlib.Core.Path.{sym, subst}
use mathlib.Core.Bool.{Bool}
use Prim.Native.Nat.{ℕ, ◌+◌, ◌-◌, ◌*◌, ◌/◌, ◌≤◌}
use native.Mathlib.Omega.{arith}
use Rattle.map_blocks.specs.Blocks.{free}
use Rattle.map_blocks.specs.Words.{in_window}
use Rattle.map_search_word.specs.Scan.{Stepped, Bounded}
use Rattle.map_search.specs.Search.{Finds}
use Rattle.map_blocks.proofs.Maps.{cut_word}
use Rattle.map_search.proofs.Window.{at_end, whole_words}
use Rattle.map_search.proofs.search_on.Goals.{After-scan_groups, After-scan_word}
use Rattle.map_search.proofs.search_on.Goals as goal

-- what the words before the last one tell
between : (c : After-scan_groups)
    → Stepped (in_window (free c.args.map.now)
    c.args.from c.args.before)
    c.args.k
    ((c.args.before - 1) / 64 * 64) c.scan_groups.result
between c =
    let start = c in
    let a = start.args in
    c.scan_groups.ensures.by_index (in_window (free a.map.now) a.from a.before)
    (whole_words a.map.now a.from a.before a.first ((a.before - 1) / 64) (omega arith) (omega arith))
    start.requires.carried

-- what the last word tells
last : (c : After-scan_word)
    → Stepped (in_window (free c.args.map.now) c.args.from c.args.before) c.args.k ((c.args.before - 1) / 64 * 64)
    c.scan_groups.result
    → Stepped
    (in_window (free c.args.map.now)
    c.args.from
    c.args.before)
    c.args.k
    ((c.args.before - 1) / 64 * 64 + 64)
    c.scan_word.result
last c before =
    let a = c.args in
    let f : ℕ → Bool = in_window (free a.map.now) a.from a.before in
    c.scan_word.ensures.by_index f (cut_word a.map.now a.from a.before ((a.before - 1) / 64) c.part.result
    c.part.ensures)
    (subst (Stepped f a.k ((a.before - 1) / 64 * 64)) c.in-Continue.is before)

pub returns-then-last-first : goal.returns-then-last-first
returns-then-last-first c = let start = c in
    let a = start.args in
    at_end (free a.map.now) a.from a.before a.k (a.first * 64) a.s (omega arith) start.requires.carried

pub scan_word-requires : goal.scan_word-requires
scan_word-requires c = let groups = c in
    let start = groups in
    let bounds : Bounded start.args.k ((start.args.before - 1) / 64 * 64)
    (Continue c.in-Continue.next) =
    subst (Bounded start.args.k ((start.args.before - 1) / 64 * 64)) c.in-Continue.is
    groups.scan_groups.ensures.bounded in
    (omega arith, omega arith, omega arith)

pub returns-in-Break : goal.returns-in-Break
returns-in-Break c = subst (Stepped _ _ _) c.in-Break.is (between (goal.at.returns-in-Break c).After-scan_groups)

-- what is known at the end of the window
found : (g : ℕ → Bool) (from before k end : ℕ) → before ≤ end → (r : ControlFlow ℕ ℕ)
    → Stepped (in_window g from before) k end r → Finds (in_window g from before) k (break_value r)
found g from before k end l (Break start) told = told
found g from before k end l (Continue s) at = at_end g from before k end s l at

pub returns-in-Continue : goal.returns-in-Continue
returns-in-Continue c = let a = c.args in
    subst (Finds (in_window (free a.map.now) a.from a.before) a.k) (sym c.break_value.ensures.value)
    (found (free a.map.now) a.from a.before a.k ((a.before - 1) / 64 * 64 + 64) (omega arith) c.scan_word.result
    (last (goal.at.returns-in-Continue c).After-scan_word (between (goal.at.returns-in-Continue c).After-scan_groups)))
