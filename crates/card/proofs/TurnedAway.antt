-- A call that is turned away by role (document 02 (n): "21 for an unknown role or a call not in its row; before all other
-- numbers"), whatever it is, by whomever and in whatever form it is made, and whatever it is lent: it is told 21, the shape as
-- it
-- came, and nothing is changed but a scratch, which is all zeros (`every_call_turned_away`).
-- Assumes nothing.
use mathlib.Core.Path.{◌≡◌, refl, ap, ◌∙◌}
use mathlib.Core.Bool.{Bool, true, false, cond}
use mathlib.Core.List.{List, []}
use Prim.Native.Nat.{ℕ}
use Rattle.catalogue.specs.declared.Entry.{Entry}
use Rattle.catalogue_standings.specs.Rows.{Verdict, settle, first_of}
use Rattle.catalogue_standings.specs.declared.Answer.TheVariants.{Refused, Start, Reads}
use Rattle.refusals.specs.Effects as effects
use Rattle.refusals.specs.Lent.{no_card}
use Rattle.refusals.specs.Placement.{plain}
use Rattle.refusals.specs.Table.{Ask, reserve, put, grow, complete, change, release, show, standing, offer, accept, show_dated}
use Rattle.refusals.specs.Views.{view_at, view_on}
use Rattle.refusals.proofs.Turned.{turned_first}
use Rattle.call_search.specs.Answers.{search_answer, survey_answer, fresh_verdict}
use Rattle.call_summary.specs.Answers.{build_answer, built_summary, check_answer}
use Rattle.image.specs.Effects.{save_number, save_image, save_scratch, load_result, load_map, load_entries, load_scratch}
use Rattle.image.specs.Table.{save_verdict, save_rows, load_verdict, load_rows}
use Rattle.closing.specs.Effects.{close_number, close_map, close_entries, close_card, close_scratch}
use Rattle.closing.specs.Table.{close_verdict, close_rows}
use Rattle.card.specs.Calls.{Kept, told, lent_to, lent_to_within, search_outcome, survey_outcome, check_outcome}
use Rattle.card.specs.declared.Outcome.{Outcome}
use Rattle.card.specs.Public.{Public, on, fresh, search, survey, save, load, close, build, check, kind_on, kind_of, Manner}
use Rattle.card.specs.Public.{turned, Beside, with_summary, End, ending, telling, refused_end, end_on, end_fresh, end_save}
use Rattle.card.specs.Public.{end_load}
use Rattle.card.specs.Public.{end_close, end_build, ends}
use Rattle.card.proofs.Refusals as refusals

-- all that a call comes to, put together
pub put_together : {o o' : Outcome} {m m' : List ℕ} {es es' : List Entry} {c c' buffer : List ℕ} {b b' : Beside} → o ≡ o' → m ≡
    m'
    → es ≡ es' → c ≡ c' → b ≡ b' → ending o m es c buffer b ≡ ending o' m' es' c' buffer b'
put_together {buffer = buffer} p q r s t = λ x. ending (p x) (q x) (r x) (s x) buffer (t x)

-- a summary that is left as it was, guided or not
pub summary_back : (guided : Bool) (b : Beside) (summary : List ℕ) → summary ≡ cond guided b.summary []
    → cond guided (with_summary summary b) b ≡ b
summary_back true b summary e = ap (λ (x : List ℕ). with_summary x b) e
summary_back false b summary e = refl

-- a call on a sheet, refused with a number by its verdict
module _ (t guided : Bool) (s : Kept) (b : Beside) (sheet : ℕ) where
  abbrev guide : List ℕ
  guide = cond guided b.summary []

  pub turned_on : (a : Ask) → t ≡ true → end_on t guided s b sheet a ≡ refused_end 21 s b (kind_on a)
  unfolding effects.reserve_verdict effects.accept_verdict effects.grow_verdict effects.put_verdict effects.complete_verdict
      effects.change_verdict effects.release_verdict effects.show_verdict effects.show_dated_verdict effects.offer_answer
      effects.standing_answer view_at view_on
  turned_on (reserve limits k p) e =
      let x = refusals.reserve_refused_by t guided guide s sheet 21 limits k p (turned_first _ _ e) in
      put_together x.0 x.1 x.3 x.4 (summary_back guided b _ x.2)
  turned_on (accept limits start k) e =
      let x = refusals.accept_refused_by t guided guide s sheet 21 limits start k (turned_first _ _ e) in
      put_together x.0 x.1 x.3 x.4 (summary_back guided b _ x.2)
  turned_on (grow limits m) e =
      let x = refusals.grow_refused_by t guided guide s sheet 21 limits m (turned_first _ _ e) in
      put_together x.0 x.1 x.3 x.4 (summary_back guided b _ x.2)
  turned_on (offer limits k) e =
      ap (λ (v : Verdict). telling s b (told s.shape (settle v
      (Start (effects.reserve_start (lent_to_within t s s.card limits sheet) k plain) k) Refused)) []) (turned_first _ _ e)
  turned_on (put p payload) e =
      let x = refusals.put_refused t s sheet 21 p payload (turned_first _ _ e) in put_together x.0 refl refl x.1 refl
  turned_on complete e =
      let x = refusals.complete_refused t s sheet 21 (turned_first _ _ e) in put_together x.0 refl x.1 refl refl
  turned_on (change c) e =
      let x = refusals.change_refused t s sheet 21 c (turned_first _ _ e) in put_together x.0 refl x.1 refl refl
  turned_on release e =
      let x = refusals.release_refused_by t guided guide s sheet 21 (turned_first _ _ e) in
      put_together x.0 x.1 x.3 refl (summary_back guided b _ x.2)
  turned_on (show p buffer) e =
      let x = refusals.show_refused t s sheet 21 p buffer (turned_first _ _ e) in
      λ y. telling s b (x.0 y) (x.1 y)
  turned_on (show_dated p date buffer) e =
      let x = refusals.show_dated_refused t s sheet 21 p date buffer (turned_first _ _ e) in
      λ y. telling s b (x.0 y) (x.1 y)
  turned_on standing e =
      let q = lent_to t s no_card sheet in
      ap (λ (v : Verdict). telling s b (told s.shape (settle v (Reads q.entry.mark q.entry.start q.entry.length)
      Refused)) []) (turned_first _ _ e)

-- a call on the whole card: row 21 comes before all others there too
module _ (guided : Bool) (s : Kept) (b : Beside) where
  turned_fresh : (n : ℕ) → end_fresh true guided s b n ≡ refused_end 21 s b (kind_of (fresh n))
  unfolding fresh_verdict first_of
  turned_fresh n = refl

  turned_search : (k : ℕ) → telling s b (search_outcome true s.shape s.map k) [] ≡ refused_end 21 s b (kind_of (search k))
  unfolding search_answer first_of
  turned_search k = refl

  turned_survey : telling s b (survey_outcome true s.shape s.map) [] ≡ refused_end 21 s b (kind_of survey)
  unfolding survey_answer first_of
  turned_survey = refl

  turned_save : end_save true guided s b ≡ refused_end 21 s b (kind_of save)
  unfolding save_number save_image save_scratch save_verdict save_rows first_of
  turned_save = refl

  turned_load : (image : List ℕ) → end_load true guided s b image ≡ refused_end 21 s b (kind_of (load image))
  unfolding load_result load_map load_entries load_scratch load_verdict load_rows first_of
  turned_load image = refl

  turned_build : end_build true guided s b ≡ refused_end 21 s b (kind_of build)
  unfolding build_answer built_summary first_of
  turned_build = refl

  turned_check : telling s b (check_outcome true s.shape s.map b.summary) [] ≡ refused_end 21 s b (kind_of check)
  unfolding check_answer first_of
  turned_check = refl

pub turned_close : (guided : Bool) (s : Kept) (b : Beside) → end_close true guided s b ≡ refused_end 21 s b (kind_of close)
unfolding close_number close_map close_entries close_card close_scratch close_verdict close_rows first_of
turned_close true s b = refl
turned_close false s b = refl

module _ (m : Manner) (s : Kept) (b : Beside) where
  by_role_lem : (c : Public) (made : Bool → End) → turned m c ≡ true → made true ≡ refused_end 21 s b (kind_of c)
      → made (turned m c) ≡ refused_end 21 s b (kind_of c)
  by_role_lem c made h told = ap made h ∙ told

  pub every_call_turned_away : (c : Public) → turned m c ≡ true → ends m s b c ≡ refused_end 21 s b (kind_of c)
  every_call_turned_away (on sheet ask) h = turned_on (turned m (on sheet ask)) m.guided s b sheet ask h
  every_call_turned_away (fresh n) h =
      by_role_lem (fresh n) (λ t. end_fresh t m.guided s b n) h (turned_fresh m.guided s b n)
  every_call_turned_away (search k) h =
      by_role_lem (search k) (λ t. telling s b (search_outcome t s.shape s.map k) []) h (turned_search m.guided s b k)
  every_call_turned_away survey h =
      by_role_lem survey (λ t. telling s b (survey_outcome t s.shape s.map) []) h (turned_survey m.guided s b)
  every_call_turned_away save h = by_role_lem save (λ t. end_save t m.guided s b) h (turned_save m.guided s b)
  every_call_turned_away (load image) h =
      by_role_lem (load image) (λ t. end_load t m.guided s b image) h (turned_load m.guided s b image)
  every_call_turned_away close h = by_role_lem close (λ t. end_close t m.guided s b) h (turned_close m.guided s b)
  every_call_turned_away build h = by_role_lem build (λ t. end_build t m.guided s b) h (turned_build m.guided s b)
  every_call_turned_away check h =
      by_role_lem check (λ t. telling s b (check_outcome t s.shape s.map b.summary) []) h (turned_check m.guided s b)
