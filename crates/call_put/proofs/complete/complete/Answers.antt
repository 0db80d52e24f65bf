-- `call_put::complete::complete` meets its contract: each way out by its row.
-- Assumes nothing.

use mathlib.Core.Path.{◌≡◌, ap, ◌∙◌}
use mathlib.Core.Bool.{false}
use mathlib.Core.List.{[]}
use Prim.Native.Nat.{ℕ}
use Rattle.std.proofs.lemmas.Option.{MatchOption-at_some, MatchOption-at_none}
use Rattle.catalogue_standings.specs.Rows.{accepted, refused}
use Rattle.catalogue_standings.specs.declared.Answer.TheVariants.{Blank}
use Rattle.roles.specs.Roles as names
use Rattle.refusals.specs.Effects.{out_of, refusal_out, complete_verdict, blank_place}
use Rattle.refusals.specs.Lent.{lent_for}
use Rattle.refusals.proofs.Complete.{out, by_row, not_nine}
use Rattle.call_put.proofs.complete.complete.Goals as goal

pub returns-in-Err : goal.returns-in-Err
returns-in-Err c =
    let a = c.args in
    let q = lent_for a.asked names.complete false [] a.map.now a.card.now in
    by_row q _ _ (c.refusal.ensures ∙ ap (refusal_out a.asked.free a.asked.entry) c.number.ensures)
    c.in-Err.ensures (not_nine c.in-Err.why)

pub returns-in-Ok-Some : goal.returns-in-Ok-Some
returns-in-Ok-Some c =
    let a = c.args in
    let q = lent_for a.asked names.complete false [] a.map.now a.card.now in
    let h = MatchOption-at_some (complete_verdict q ≡ accepted) (λ place. (complete_verdict q ≡ refused 9)
    × (place ≡ blank_place q))
    c.in-Ok-Some.place c.in-Ok-Some.field-0-is c.in-Ok-Some.ensures in
    ap (λ (p : ℕ). out_of a.asked.free a.asked.entry (Blank p)) h.1 ∙ out q (refused 9) h.0

pub returns-in-Ok-None : goal.returns-in-Ok-None
returns-in-Ok-None c =
    let a = c.args in
    let q = lent_for a.asked names.complete false [] a.map.now a.card.now in
    out q accepted (MatchOption-at_none (complete_verdict q ≡ accepted)
    (λ place. (complete_verdict q ≡ refused 9) × (place ≡ blank_place q)) c.in-Ok-None.field-0-is c.in-Ok-None.ensures)
