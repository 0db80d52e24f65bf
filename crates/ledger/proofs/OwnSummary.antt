-- The calls with the map's own summary: each comes to what it does without, and leaves the map's own (`own_step`); and so does
-- every list of calls that hand it on (`own_runs`).
-- Assumes nothing.
use Prim.Native.Nat.{ℕ, ◌+◌, ◌*◌, ◌≤◌}
use mathlib.Core.Path.{◌≡◌, refl, sym, ap, subst, ◌∙◌}
use mathlib.Core.Logic.{⊎_elim}
use mathlib.Core.Bool.{Bool, true, false, not, false≢true}
use mathlib.Core.List.{List, [], ◌∷◌}
use native.Mathlib.Omega.{arith}
use lib.ListN.{length}
use Rattle.map_blocks.specs.Maps.{marked}
use Rattle.catalogue_wings.specs.Wings.{held_by}
use Rattle.catalogue.specs.Entries.{entry_at}
use Rattle.summary.specs.Summary.{own_summary}
use Rattle.summary.specs.Updates.{updated_summary}
use Rattle.summary.proofs.Updates.{own_marked}
use Rattle.catalogue_standings.specs.Answers.{number_of}
use Rattle.catalogue_standings.specs.Rows.{Row, row, Verdict, accepted, refused, first_of, settle}
use Rattle.catalogue_standings.specs.declared.Answer.TheVariants.{Done, Refused}
use Rattle.catalogue_standings.proofs.Rows.{never_says}
use Rattle.call_summary.specs.Answers.{summary_fits, build_answer, built_summary}
use Rattle.roles.specs.Roles as roles
use Rattle.roles.specs.Roles.{turned_away}
use Rattle.refusals.specs.Effects as effects
use Rattle.refusals.specs.Lent.{Lent, no_card}
use Rattle.refusals.specs.Placement.{Placement}
use Rattle.refusals.specs.Table.{Ask, reserve, put, grow, complete, change, release, show, standing, offer, accept, show_dated}
use Rattle.refusals.proofs.Accept.{accept_room}
use Rattle.refusals.proofs.Room.{Room, reserve_room, grow_room}
use Rattle.refusals.proofs.Release.{release_sized}
use Rattle.refusals.proofs.Summaries as summaries
use Rattle.card.specs.Calls.{Kept, lent_by, lent_by_within, build_summary}
use Rattle.card.specs.Public.{Public, on, fresh, search, survey, save, load, close, build, check, kind_on, kind_of, by_map}
use Rattle.card.specs.Public.{by_summary}
use Rattle.card.specs.Public.{turned, Beside, with_summary, End, end_on, ends, kept_after}
use Rattle.ledger.specs.Lists.{end_of, Runs, Joins, Long, HandedOn, own_of}
use Rattle.ledger.specs.Summaries.{apart, OwnStep, BuiltOwn, OwnRuns}
use Rattle.ledger.proofs.AnySummary.{accept_any, grow_any, release_any, close_any, both_turned}
use Rattle.ledger.proofs.GuidedClosings.{own_fits, own_close}
use Rattle.ledger.proofs.GuidedEnds.{takes, reserve-takes}

-- after the k blocks from a start on became taken or free, or nothing changed, it is the map's own still
followed : (s : Kept) (summary : List ℕ) (v : Verdict) (start k : ℕ) (to : Bool) → summary ≡ own_of s
    → (v ≡ accepted → (length s.map ≤ 4096) × (s.shape.blocks ≤ 64 * length s.map))
    → settle v (updated_summary (marked s.map start k to) s.shape.blocks summary start k) (λ number. summary)
    ≡ own_summary (settle v (marked s.map start k to) (λ number. s.map)) s.shape.blocks
followed s summary accepted start k to own h =
    own_marked s.map s.shape.blocks start k to summary (h refl).0 (h refl).1 own
followed s summary (refused number) start k to own h = own

-- ---- a call on a sheet

module _ (s : Kept) (b : Beside) (own : b.summary ≡ own_of s) (sheet : ℕ) where
  long : Long s b.summary
  long = ap length own ∙ own_fits s

  -- within limits, and without the card
  abbrev with_own : Bool → List ℕ → Lent
  with_own t limits = lent_by_within t true b.summary s s.card limits sheet

  abbrev with_own_bare : Bool → Lent
  with_own_bare t = lent_by t true b.summary s no_card sheet

  roomy : (t : Bool) (limits : List ℕ) (start k : ℕ) → Room (with_own t limits) start k → (length s.map ≤ 4096) ×
      (s.shape.blocks ≤ 64 * length s.map)
  roomy t limits start k r = (omega (arith, r.sizes.shape.words, r.sizes.shape.limit), r.sizes.shape.covered)

  -- by the same row, or at the same start
  reserve_own : (t : Bool) (limits : List ℕ) (k : ℕ) (p : Placement) → apart (end_on t true s b sheet (reserve limits k p))
      ≡ apart (end_on t false s b sheet (reserve limits k p))
  reserve_own true limits k p = both_turned s b sheet (reserve limits k p)
  reserve_own false limits k p =
      let x = with_own false limits in
      let y = lent_by_within false false [] s s.card limits sheet in
      let left : Beside = with_summary [] b in
      ap apart (reserve-takes s limits sheet k false true b p)
      ∙ ⊎_elim
      (λ h. ap (λ (v : Verdict). takes s limits sheet k v (effects.reserve_start x k p) left) h.1
      ∙ ap (λ (v : Verdict). takes s limits sheet k v (effects.reserve_start y k p) left) (sym h.2))
      (λ h. ap (λ (v : Verdict). takes s limits sheet k v (effects.reserve_start x k p) left) h.0
      ∙ ap (λ (start : ℕ). takes s limits sheet k (effects.reserve_verdict y k p) start left) h.1)
      (summaries.reserve-same (held_by s.entries sheet) limits b.summary s.shape.blocks s.shape.free s.map
      s.card (length s.entries) (entry_at s.entries sheet) sheet own k p)
      ∙ sym (ap apart (reserve-takes s limits sheet k false false b p))

  -- what it answers and leaves is what it does without
  pub same_on : (t : Bool) (a : Ask) → apart (end_on t true s b sheet a) ≡ apart (end_on t false s b sheet a)
  same_on t (reserve limits k p) = reserve_own t limits k p
  same_on t (offer limits k) = refl
  same_on t (accept limits start k) = accept_any s b sheet long t limits start k
  same_on t (put p payload) = refl
  same_on t (grow limits m) = grow_any s b sheet long t limits m
  same_on t complete = refl
  same_on t (change c) = refl
  same_on t release = release_any s b sheet long t
  same_on t (show p buffer) = refl
  same_on t (show_dated p date buffer) = refl
  same_on t standing = refl

  -- and the summary is the map's own afterwards
  abbrev OwnAfter : End → Type 0
  OwnAfter e = e.beside.summary ≡ own_of (kept_after e)

  own_on : (t : Bool) (a : Ask) → OwnAfter (end_on t true s b sheet a)
  unfolding effects.reserve_summary effects.reserve_map effects.taken_summary effects.taken_map effects.accept_summary
      effects.accept_map effects.grow_summary effects.grow_map effects.release_summary effects.release_map
  own_on t (reserve limits k p) =
      followed s b.summary (effects.reserve_verdict (with_own t limits) k p)
      (effects.reserve_start (with_own t limits) k p) k false
      own (λ h. roomy t limits (effects.reserve_start (with_own t limits) k p) k (reserve_room (with_own t limits) k p h))
  own_on t (offer limits k) = own
  own_on t (accept limits start k) =
      followed s b.summary (effects.accept_verdict (with_own t limits) start k) start k false own
      (λ h. roomy t limits start k (accept_room (with_own t limits) start k h))
  own_on t (put p payload) = own
  own_on t (grow limits m) =
      followed s b.summary (effects.grow_verdict (with_own t limits) m)
      ((entry_at s.entries sheet).start + (entry_at s.entries sheet).length) m false own
      (λ h. roomy t limits _ m (grow_room (with_own t limits) m h))
  own_on t complete = own
  own_on t (change c) = own
  own_on t release =
      followed s b.summary (effects.release_verdict (with_own_bare t)) (entry_at s.entries sheet).start
      (entry_at s.entries sheet).length true own
      (λ h. let f = release_sized (with_own_bare t) h in (omega (arith, f.words, f.limit), f.covered))
  own_on t (show p buffer) = own
  own_on t (show_dated p date buffer) = own
  own_on t standing = own

-- ---- the whole card, and every call

-- a build leaves the map's own, if that was there
settled_own : (s : Kept) (summary : List ℕ) → summary ≡ own_of s → (v : Verdict) → settle v (own_of s) (λ number. summary)
    ≡ own_of s
settled_own s summary own accepted = refl
settled_own s summary own (refused number) = own

build_own : (turned : Bool) (s : Kept) (summary : List ℕ) → summary ≡ own_of s
    → build_summary turned s.shape s.map summary ≡ own_of s
unfolding built_summary
build_own turned s summary own =
    settled_own s summary own (first_of (row 21 turned ∷ row 1 (not (summary_fits s.shape.blocks s.shape.free
    (length s.map) (length summary))) ∷ []))

module _ (role : ℕ) (s : Kept) (b : Beside) (own : b.summary ≡ own_of s) where
  abbrev Ends : End → Type 0
  Ends e = e.beside.summary ≡ own_of (kept_after e)

  own_after : (c : Public) → Joins c → Ends (ends (by_summary role) s b c)
  own_after (on sheet a) j = own_on s b own sheet (turned_away role (kind_on a).name) a
  own_after (fresh n) j = absurd j
  own_after (search k) j = own
  own_after survey j = own
  own_after save j = own
  own_after (load image) j = absurd j
  own_after close j = own_close (turned_away role roles.close) s b own
  own_after build j = build_own (turned_away role roles.build_summary) s b.summary own
  own_after check j = own

  same : (c : Public) → apart (ends (by_summary role) s b c) ≡ apart (ends (by_map role) s b c)
  same (on sheet a) = same_on s b own sheet (turned_away role (kind_on a).name) a
  same (fresh n) = refl
  same (search k) = refl
  same survey = refl
  same save = refl
  same (load image) = refl
  same close = close_any s b (ap length own ∙ own_fits s) (turned_away role roles.close)
  same build = refl
  same check = refl

  pub own_step : (c : Public) → Joins c → OwnStep role s b c
  own_step c j = record { same = same c; own_after = own_after c j }

-- a build that was done
pub built_own : BuiltOwn
unfolding build_answer built_summary
built_own m s b zero = by (first_of rows) refl zero
  where
    rows : List Row
    rows = row 21 (turned m build) ∷ row 1 (not (summary_fits s.shape.blocks s.shape.free (length s.map)
        (length b.summary))) ∷ []

    by : (v : Verdict) → first_of rows ≡ v → number_of (settle v Done Refused) ≡ 0
        → settle v (own_of s) (λ number. b.summary) ≡ own_of s
    by accepted e z = refl
    by (refused number) e z = absurd (never_says 0 rows refl (e ∙ ap refused z))

-- ---- every list

-- a call that is not the form with a summary, since it has none, leaves the map's own too
module _ (role : ℕ) (s : Kept) (b : Beside) (own : b.summary ≡ own_of s) where
  unformed_on : (sheet : ℕ) (a : Ask) → ((kind_on a).formed ≡ true → false ≡ true) → Ends role s b own (end_on
      (turned_away role (kind_on a).name) false s b sheet a)
  unformed_on sheet (reserve limits k p) h = absurd (false≢true (h refl))
  unformed_on sheet (offer limits k) h = own
  unformed_on sheet (accept limits start k) h = absurd (false≢true (h refl))
  unformed_on sheet (put p payload) h = own
  unformed_on sheet (grow limits m) h = absurd (false≢true (h refl))
  unformed_on sheet complete h = own
  unformed_on sheet (change c) h = own
  unformed_on sheet release h = absurd (false≢true (h refl))
  unformed_on sheet (show p buffer) h = own
  unformed_on sheet (show_dated p date buffer) h = own
  unformed_on sheet standing h = own

  handed : (guided : Bool) (c : Public) → Joins c → ((kind_of c).formed ≡ true → guided ≡ true)
      → Ends role s b own (ends (record { role = role; guided = guided }) s b c)
  handed true c j h = own_after role s b own c j
  handed false (on sheet a) j h = unformed_on sheet a h
  handed false (fresh n) j h = absurd j
  handed false (search k) j h = own_after role s b own (search k) j
  handed false survey j h = own_after role s b own survey j
  handed false save j h = own_after role s b own save j
  handed false (load image) j h = absurd j
  handed false close j h = absurd (false≢true (h refl))
  handed false build j h = own_after role s b own build j
  handed false check j h = own_after role s b own check j

pub own_runs : OwnRuns
own_runs s [] last [] t runs handed-on any = (tt, handed-on ∙ ap own_of (sym runs))
own_runs s [] last (e ∷ es) t runs handed-on any = absurd runs
own_runs s (m ∷ made) last [] t runs handed-on any = absurd runs
own_runs s (m ∷ made) last (e ∷ es) t runs handed-on any =
    let b = m.beside in
    let j : Joins m.call = any.0.joins in
    let own : b.summary ≡ own_of s = handed-on.0 in
    let next : (end_of s m).beside.summary ≡ own_of (kept_after (end_of s m)) =
    handed m.manner.role s b own m.manner.guided m.call j handed-on.1 in
    let rest = own_runs (kept_after (end_of s m)) made last es t
    (subst (λ (x : End). Runs (kept_after x) made es t) runs.0 runs.1)
    (subst (λ (x : List ℕ). HandedOn x (kept_after (end_of s m)) made last) next handed-on.2) any.1 in
    ((record { joins = j; scratch = any.0.scratch; summary = λ h. own }, rest.0), rest.1)
