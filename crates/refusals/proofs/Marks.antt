-- A call that changes the mark of an entry and no more hands back what its rows say: those behind the opening refuse just the
-- standings that it does not admit, each with its own row.
-- Assumes nothing.
use Rattle.std.specs.Prelude.{Ok, Err}
use Rattle.catalogue_standings.specs.Refusals.{number}
use Rattle.catalogue_standings.specs.declared.Refusal.{Refusal}
use mathlib.Core.Path.{◌≡◌, refl, sym, ap, ◌∙◌}
use mathlib.Core.Bool.{Bool, true, false, not, ◌||◌, cond, true≢false}
use Rattle.catalogue_standings.specs.Openings.{row_of}
use Rattle.catalogue_standings.specs.Rows.{Verdict, accepted, refused, first_of, settle}
use Rattle.catalogue_standings.specs.Standings.{is_damaged}
use Rattle.catalogue_standings.specs.declared.Answer.TheVariants.{Done}
use Rattle.catalogue_standings.specs.declared.Standing.{Standing}
use Rattle.catalogue_standings.specs.declared.Standing.TheVariants.{Absent, Paused, PausedWith, Open, Complete, Damaged}
use Rattle.catalogue_standings.proofs.Rows.{not_refused}
use Rattle.catalogue_standings.proofs.Openings.{closed, opened}
use Rattle.refusals.proofs.Lent.{first_at}
use Rattle.refusals.specs.Effects.{entry_of, out_of, refusal_out, change_verdict, change_out}
use Rattle.refusals.specs.Lent.{Lent}
use Rattle.refusals.specs.Marks.{is_admitted}
use Rattle.refusals.specs.Table.{View, Change, admits_of, mark_after, refusing, rows_for, table_of}
use Rattle.refusals.specs.Views.{view_at}
use Rattle.refusals.specs.declared.Admits.{Admits}

-- the rows refuse what is not admitted, each standing with its own row
pub refuses : (a : Admits) (v : View) (s : Standing) → v.stands ≡ s → is_damaged s ≡ false
    → first_of (refusing a v) ≡ cond (is_admitted a s) accepted (refused (row_of s))
unfolding first_of
refuses a v Absent e d = simp e (by a.absent)
  where
    by : (t : Bool) → cond (not t) (refused 5) accepted ≡ cond t accepted (refused 5)
    by true = refl
    by false = refl
refuses a v Paused e d = simp e (by a.paused)
  where
    by : (t : Bool) → cond (not t || false) (refused 6) accepted ≡ cond t accepted (refused 6)
    by true = refl
    by false = refl
refuses a v (PausedWith s l) e d = simp e (by a.pausedwith)
  where
    by : (t : Bool) → cond (not t) (refused 6) accepted ≡ cond t accepted (refused 6)
    by true = refl
    by false = refl
refuses a v (Open s l) e d = simp e (by a.open)
  where
    by : (t : Bool) → cond (not t) (refused 7) accepted ≡ cond t accepted (refused 7)
    by true = refl
    by false = refl
refuses a v (Complete s l) e d = simp e (by a.complete)
  where
    by : (t : Bool) → cond (not t) (refused 8) accepted ≡ cond t accepted (refused 8)
    by true = refl
    by false = refl
refuses a v Damaged e d = absurd (true≢false d)

-- what passes them is admitted
pub admitted : (a : Admits) (v : View) → is_damaged v.stands ≡ false → first_of (refusing a v) ≡ accepted
    → is_admitted a v.stands ≡ true
admitted a v whole h = go (is_admitted a v.stands) (sym (refuses a v v.stands refl whole) ∙ h)
  where
    go : (t : Bool) → cond t accepted (refused (row_of v.stands)) ≡ accepted → t ≡ true
    go true e = refl
    go false e = absurd (not_refused _ e)

-- the verdict, where the first rows refuse, and where they leave a standing, which is admitted or not
module _ (q : Lent) (c : Change) where
  pub shut : (why : Refusal) → first_at q ≡ Err why → change_verdict q c ≡ refused (number why)
  unfolding change_verdict view_at table_of rows_for
  shut why e = closed _ _ _ _ _ _ why e

  pub stands : (s : Standing) → first_at q ≡ Ok s
      → change_verdict q c ≡ cond (is_admitted (admits_of c) s) accepted (refused (row_of s))
  unfolding change_verdict view_at table_of rows_for
  stands s e =
      let x = opened _ _ _ _ _ s _ e in
      x.verdict ∙ refuses (admits_of c) (view_at q) s x.same (ap is_damaged (sym x.same) ∙ x.whole)

  -- what is handed back, once the verdict is known
  pub changed : {v : Verdict} → change_verdict q c ≡ v
      → settle v (out_of q.spare (entry_of (mark_after c) q.entry.start q.entry.length) Done) (refusal_out q.spare q.entry)
      ≡ change_out q c
  unfolding change_out
  changed h =
      ap (λ (v : Verdict). settle v (out_of q.spare (entry_of (mark_after c) q.entry.start q.entry.length) Done)
      (refusal_out q.spare q.entry)) (sym h)
