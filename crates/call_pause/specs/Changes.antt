-- The program's changes by the names that the table of refusals and the table of roles give them.
-- Assumes nothing.
use Rattle.std.specs.Prelude.{ℕ, cond, Result, Ok, Err}
use Rattle.catalogue.specs.declared.Entry.{Entry}
use Rattle.catalogue_standings.specs.Openings.{row_of}
use Rattle.catalogue_standings.specs.Refusals.{number}
use Rattle.catalogue_standings.specs.declared.Answer.TheVariants.{Done}
use Rattle.catalogue_standings.specs.declared.Refusal.{Refusal}
use Rattle.catalogue_standings.specs.declared.Standing.{Standing}
use Rattle.refusals.specs.Effects.{entry_of, out_of, refusal_out}
use Rattle.refusals.specs.Marks.{is_admitted}
use Rattle.refusals.specs.declared.Admits.{Admits}
use Rattle.refusals.specs.declared.Out.{Out}
use Rattle.refusals.specs.Table as table
use Rattle.roles.specs.Roles as names
use Rattle.call_pause.specs.declared.marks.Change.{Change}
use Rattle.call_pause.specs.declared.marks.Change.TheVariants.{Pause, Resume}

abbrev pub change_of : Change → table.Change
change_of Pause = table.pause
change_of Resume = table.resume

abbrev pub name_of : Change → ℕ
name_of Pause = names.pause
name_of Resume = names.resume

-- A refusal by the number of its row.
abbrev pub by_row : Result Standing Refusal → Result Standing ℕ
by_row (Err why) = Err (number why)
by_row (Ok s) = Ok s

-- What is let in: behind the rows that every call begins with, a standing that is not admitted is refused by its own row.
abbrev pub admitted_of : Admits → Result Standing ℕ → Result Standing ℕ
admitted_of a (Err row) = Err row
admitted_of a (Ok s) = cond (is_admitted a s) (Ok s) (Err (row_of s))

-- The effect: the entry has the mark, with start and length as they were.
abbrev pub mark_out : ℕ → Entry → Result Standing ℕ → ℕ → Out
mark_out free e (Err row) mark = refusal_out free e row
mark_out free e (Ok s) mark = out_of free (entry_of mark e.start e.length) Done
