-- A call that changes the mark of an entry and no more, whatever its first rows say: what is let in, and then the effect, is
-- what the table of refusals says of it.
-- Assumes nothing.
use Rattle.std.specs.Prelude.{ℕ, Result, Ok, Err}
use mathlib.Core.Path.{◌≡◌, refl, sym, ap, ◌∙◌}
use mathlib.Core.Bool.{Bool, true, false, cond}
use Rattle.catalogue_standings.specs.Openings.{row_of}
use Rattle.catalogue_standings.specs.Rows.{accepted, refused}
use Rattle.catalogue_standings.specs.declared.Refusal.{Refusal}
use Rattle.catalogue_standings.specs.declared.Standing.{Standing}
use Rattle.refusals.proofs.Lent.{first_at}
use Rattle.refusals.proofs.Marks.{shut, stands, changed}
use Rattle.refusals.specs.Effects.{change_verdict, change_out}
use Rattle.refusals.specs.Lent.{Lent}
use Rattle.refusals.specs.Marks.{is_admitted}
use Rattle.refusals.specs.Table.{Change, admits_of, mark_after}
use Rattle.refusals.specs.declared.Out.{Out}
use Rattle.call_pause.specs.Changes.{by_row, admitted_of, mark_out}

module _ (q : Lent) (c : Change) where
  left : (o : Result Standing Refusal) → o ≡ first_at q
      → mark_out q.spare q.entry (admitted_of (admits_of c) (by_row o)) (mark_after c) ≡ change_out q c
  left (Err why) e = changed q c (shut q c why (sym e))
  left (Ok s) e = by (is_admitted (admits_of c) s) (stands q c s (sym e))
    where
      by : (t : Bool) → change_verdict q c ≡ cond t accepted (refused (row_of s))
          → mark_out q.spare q.entry (cond t (Ok s) (Err (row_of s))) (mark_after c) ≡ change_out q c
      by true h = changed q c h
      by false h = changed q c h

  pub changes : {o p : Result Standing ℕ} {r : Out} → o ≡ by_row (first_at q) → p ≡ admitted_of (admits_of c) o
      → r ≡ mark_out q.spare q.entry p (mark_after c) → r ≡ change_out q c
  changes given let-in made =
      made ∙ ap (λ (p : Result Standing ℕ). mark_out q.spare q.entry p (mark_after c))
      (let-in ∙ ap (admitted_of (admits_of c)) given) ∙ left (first_at q) refl
