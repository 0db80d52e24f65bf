-- What the rows of release and its effects say: the verdict in each case, and what the call then hands back and leaves.
-- Assumes nothing.
use Rattle.std.specs.Prelude.{Result, Ok, Err}
use Rattle.catalogue_standings.specs.Refusals.{number}
use Rattle.catalogue_standings.specs.declared.Refusal.{Refusal}
use mathlib.Core.Path.{◌≡◌, refl, sym, ap, ◌∙◌}
use mathlib.Core.Bool.{true, false}
use mathlib.Core.List.{List, []}
use Prim.Native.Nat.{ℕ, ◌+◌, ◌-◌, ◌<◌, ◌≤◌}
use native.Mathlib.Omega.{arith}
use borrow.Author.Tests.{le-ltb, lt-ltb, ltb-false}
use lib.Dec.{ltb}
use lib.ListN.{length}
use Rattle.catalogue.specs.Entries.{absent_mark}
use Rattle.map_blocks.specs.Blocks.{free}
use Rattle.map_blocks.specs.Maps.{marked}
use Rattle.refusals.proofs.Lent as lent-laws
use Rattle.laws.proofs.Bools.{and_left}
use Rattle.refusals.specs.Guides.{guide_fits, guide_after}
use Rattle.refusals.specs.Lent.{Lent}
use Rattle.refusals.specs.Effects.{entry_of, out_of, refusal_out, release_verdict, release_out, release_map, release_summary}
use Rattle.catalogue_standings.specs.Rows.{Verdict, accepted, refused, settle}
use Rattle.catalogue_standings.specs.Standings.{standing_of, is_absent, length_of}
use Rattle.refusals.specs.Table.{on, release, table_of}
use borrow.Author.Tests.{not-false}
use Rattle.catalogue_standings.proofs.Rows.{clear}
use Rattle.refusals.specs.Views.{view_at}
use Rattle.catalogue_standings.specs.declared.Answer.TheVariants.{Done}
use Rattle.refusals.specs.declared.Out.{Out}
use Rattle.catalogue_standings.specs.declared.Standing.{Standing}
use Rattle.catalogue_standings.specs.declared.Standing.TheVariants.{Absent, Paused, PausedWith, Open, Complete, Damaged}
use Rattle.catalogue_standings.proofs.Entries.{Inside, inside_of}
use Rattle.catalogue_standings.proofs.Limits.{Fits}
use Rattle.catalogue_standings.proofs.Openings.{skip, stop, closed, opened, none_left, NotAbsent}

pub present : (s : Standing) → NotAbsent s → is_absent s ≡ false
present Absent t = absurd (t refl)
present Paused t = refl
present (PausedWith a b) t = refl
present (Open a b) t = refl
present (Complete a b) t = refl
present Damaged t = refl

module _ (q : Lent) where
  abbrev pub verdict : Verdict
  verdict = release_verdict q

  abbrev pub done : Out
  done = out_of (q.spare + q.entry.length) (entry_of absent_mark 0 0) Done

  abbrev pub freed : List ℕ
  freed = marked q.map q.entry.start q.entry.length true

  abbrev pub guide_left : List ℕ
  guide_left = guide_after q.guided q.summary freed q.n q.entry.start q.entry.length

  -- what is answered and what the map and a summary become, after a verdict
  pub out : (v : Verdict) → verdict ≡ v → (r : Out) (after summary : List ℕ)
      → r ≡ settle v done (refusal_out q.spare q.entry)
      → after ≡ settle v freed (λ number. q.map)
      → summary ≡ settle v guide_left (λ number. q.summary)
      → (r ≡ release_out q) × (after ≡ release_map q) × (summary ≡ release_summary q)
  unfolding release_out release_map release_summary
  out v h r after summary made left guides = (
    made ∙ ap (λ (w : Verdict). settle w done (refusal_out q.spare q.entry)) (sym h),
    left ∙ ap (λ (w : Verdict). settle w freed (λ number. q.map)) (sym h),
    guides ∙ ap (λ (w : Verdict). settle w guide_left (λ number. q.summary)) (sym h),
  )

  abbrev pub stands : Standing
  stands = standing_of q.n (free q.map) q.entry

  abbrev pub first : Result Standing Refusal
  first = lent-laws.first_at q

  pub shut : {o : Result Standing Refusal} (why : Refusal) → o ≡ first → o ≡ Err why → verdict ≡ refused (number why)
  unfolding release_verdict view_at table_of
  shut why given told = closed _ _ _ _ _ _ why (sym given ∙ told)

  pub absent : {o : Result Standing Refusal} → o ≡ first → o ≡ Ok Absent → verdict ≡ refused 5
  unfolding release_verdict view_at table_of
  absent given told =
      let x = opened _ _ _ _ _ Absent _ (sym given ∙ told) in
      x.verdict ∙ stop 5 (is_absent stands) _ (ap is_absent x.same)

  module _ (s : Standing) {o : Result Standing Refusal} (given : o ≡ first) (told : o ≡ Ok s) where
    -- the limits, and the extent to be freed
    pub limits : Fits q.n q.spare (length q.map)
    limits = lent-laws.sized_at q (lent-laws.opens_at q s [] (sym given ∙ told)).all_fits_lem

    pub extent : Inside q.n q.entry stands
    extent = inside_of q.n (free q.map) q.entry (lent-laws.opens_at q s [] (sym given ∙ told)).whole

    module _ (differs : NotAbsent s) where
      pub over : q.n - q.spare < q.entry.length → verdict ≡ refused 4
      unfolding release_verdict view_at table_of
      over above =
          let x = opened _ _ _ _ _ s _ (sym given ∙ told) in
          let below = limits.spare in
          let lasts = extent.lasts in
          x.verdict
          ∙ skip 5 (is_absent stands) _ (refused 4) (ap is_absent x.same ∙ present s differs)
          (stop 4 (ltb q.n (q.spare + length_of stands)) [] (lt-ltb q.n (q.spare + length_of stands) (omega arith)))

      pub passes : q.entry.length ≤ q.n - q.spare → verdict ≡ accepted
      unfolding release_verdict view_at table_of
      passes within =
          let x = opened _ _ _ _ _ s _ (sym given ∙ told) in
          let below = limits.spare in
          let lasts = extent.lasts in
          x.verdict
          ∙ skip 5 (is_absent stands) _ accepted (ap is_absent x.same ∙ present s differs)
          (skip 4 (ltb q.n (q.spare + length_of stands)) [] accepted
          (le-ltb q.n (q.spare + length_of stands) (omega arith)) none_left)

-- what an accepted release shows of the lengths
pub release_sized : (q : Lent) → release_verdict q ≡ accepted → Fits q.n q.spare (length q.map)
unfolding release_verdict view_at table_of
release_sized q h = lent-laws.sized_at q (not-false _ (clear 1 (table_of (view_at q) (on q.sheet release)) h).0)

-- what an accepted release shows of the lengths, of the blocks that it frees, and of the free count
pub record Released (q : Lent) : Type 0 where
  pub sizes : Fits q.n q.spare (length q.map)
  pub guides : guide_fits q.guided q.summary (length q.map) ≡ true
  pub extent : Inside q.n q.entry (stands q)
  pub room : q.spare + q.entry.length ≤ q.n

pub released : (q : Lent) → release_verdict q ≡ accepted → Released q
unfolding release_verdict view_at table_of
released q h =
    let rows = table_of (view_at q) (on q.sheet release) in
    let x = inside_of q.n (free q.map) q.entry (clear 4 rows h).0 in
    record {
      sizes = release_sized q h;
      guides = and_left _ _ (not-false _ (clear 1 rows h).0);
      extent = x;
      room = omega (arith, ltb-false q.n (q.spare + length_of (stands q)) (clear 4 rows h).1.0, x.lasts);
    }
