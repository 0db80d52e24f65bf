-- What the rows of standing and its effects say: the verdict in each case, and what the call then hands back and leaves.
-- Assumes nothing.
use Rattle.std.specs.Prelude.{Result, Ok, Err}
use Rattle.catalogue_standings.specs.Refusals.{number}
use Rattle.catalogue_standings.specs.declared.Refusal.{Refusal}
use mathlib.Core.Path.{◌≡◌, sym, ap, ◌∙◌}
use Rattle.refusals.proofs.Lent as lent-laws
use Rattle.refusals.specs.Lent.{Lent}
use Rattle.refusals.specs.Effects.{standing_answer}
use Rattle.catalogue_standings.specs.Rows.{Verdict, accepted, refused, settle}
use Rattle.refusals.specs.Table as table
use Rattle.refusals.specs.Table.{table_of, verdict_of}
use Rattle.refusals.specs.Views.{view_at}
use Rattle.catalogue_standings.specs.declared.Answer.TheVariants.{Reads, Refused}
use Rattle.catalogue_standings.specs.declared.Standing.{Standing}
use Rattle.catalogue_standings.proofs.Openings.{closed, opened, none_left}

module _ (q : Lent) where
  abbrev pub verdict : Verdict
  verdict = verdict_of (view_at q) (table.on q.sheet table.standing)

  pub out : (v : Verdict) → verdict ≡ v → standing_answer q
      ≡ settle v (Reads q.entry.mark q.entry.start q.entry.length) Refused
  unfolding standing_answer
  out v h = ap (λ (w : Verdict). settle w (Reads q.entry.mark q.entry.start q.entry.length) Refused) h

  abbrev pub first : Result Standing Refusal
  first = lent-laws.first_at q

  pub shut : {o : Result Standing Refusal} (why : Refusal) → o ≡ first → o ≡ Err why → verdict ≡ refused (number why)
  unfolding view_at table_of
  shut why given told = closed _ _ _ _ _ _ why (sym given ∙ told)

  pub passes : {o : Result Standing Refusal} (s : Standing) → o ≡ first → o ≡ Ok s → verdict ≡ accepted
  unfolding view_at table_of
  passes s given told = (opened _ _ _ _ _ s _ (sym given ∙ told)).verdict ∙ none_left
