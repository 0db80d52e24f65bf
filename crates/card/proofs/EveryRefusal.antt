-- A refusal "hands the shape back as it came and changes no buffer but the scratch" (document 01), which is all zeros then: of
-- every
-- public call, whoever makes it, by the map or by a summary, whatever it is lent (`every_refusal`).
-- Assumes nothing.
use mathlib.Core.Path.{◌≡◌, refl, sym, ap, ◌∙◌}
use mathlib.Core.Bool.{Bool, true, false, cond}
use mathlib.Core.List.{List, []}
use Prim.Native.Nat.{ℕ}
use lib.Dec.{eqb}
use lib.ListN.{length}
use Rattle.catalogue.specs.Entries.{entry_at, complete_mark}
use Rattle.catalogue.specs.declared.Entry.{Entry}
use Rattle.catalogue_standings.specs.Answers.{number_of}
use Rattle.catalogue_standings.specs.Rows.{Verdict, accepted, refused, settle, row_number}
use Rattle.catalogue_standings.specs.declared.Answer.{Answer}
use Rattle.catalogue_standings.specs.declared.Answer.TheVariants.{Done, Blank, Refused}
use Rattle.call_search.specs.Answers.{fresh_verdict}
use Rattle.call_summary.specs.Answers.{build_answer, built_summary, summary_verdict}
use Rattle.refusals.specs.Effects as effects
use Rattle.refusals.specs.Lent.{Lent, no_card}
use Rattle.refusals.specs.declared.Out.{Out}
use Rattle.refusals.specs.Table.{Ask, reserve, put, grow, complete, change, release, show, standing, offer, accept, show_dated}
use Rattle.image.specs.Effects as images
use Rattle.image.specs.Image.{state_in}
use Rattle.image.specs.Table.{save_verdict, load_verdict}
use Rattle.card.specs.Calls.{Kept, told, lent_to, lent_by, lent_by_within, load_outcome_by, saved_state, build_summary}
use Rattle.card.specs.Public.{Public, on, fresh, search, survey, save, load, close, build, check, Kind, kind_on, kind_of}
use Rattle.card.specs.Public.{turned, Manner, Beside, with_summary, with_scratch, End, telling, unchanged, end_on, end_fresh}
use Rattle.card.specs.Public.{end_save, end_load, end_close, end_build, ends}
use Rattle.card.proofs.Closings as closings
use Rattle.card.proofs.Images as saved
use Rattle.card.proofs.Refusals as refusals
use Rattle.card.proofs.TurnedAway.{put_together, summary_back}

-- by its verdict: accepted it has the number 0, refused it changes nothing
module _ (s : Kept) (b : Beside) (kind : Kind) (e : End) where
  abbrev Refusal : Type 0
  Refusal = (number_of e.outcome.answer ≡ 0 → ⊥) → e ≡ unchanged e.outcome.answer s b kind

  by_verdict : (v : Verdict) → (v ≡ accepted → number_of e.outcome.answer ≡ 0)
      → ((number : ℕ) → v ≡ refused number → (answer : Answer) × (e ≡ unchanged answer s b kind)) → Refusal
  by_verdict accepted zero same some = absurd (some (zero refl))
  by_verdict (refused number) zero same some =
      let left = same number refl in
      left.1 ∙ ap (λ (a : Answer). unchanged a s b kind) (sym (ap (λ (x : End). x.outcome.answer) left.1))

-- what an accepted call answers, and what a refused one leaves, by a verdict
answered : (v : Verdict) (done : Out) (free : ℕ) (e : Entry) → v ≡ accepted
    → number_of (settle v done (effects.refusal_out free e)).answer ≡ number_of done.answer
answered v done free e h = ap (λ (w : Verdict). number_of (settle w done (effects.refusal_out free e)).answer) h

kept_back : (v : Verdict) (number : ℕ) (made was : List ℕ) → v ≡ refused number → settle v made (λ k. was) ≡ was
kept_back v number made was h = ap (λ (w : Verdict). settle w made (λ k. was)) h

-- ---- a sheet

module _ (t guided : Bool) (s : Kept) (b : Beside) (sheet : ℕ) where
  abbrev guide : List ℕ
  guide = cond guided b.summary []

  abbrev within : List ℕ → Lent
  within limits = lent_by_within t guided guide s s.card limits sheet

  abbrev entry : Entry
  entry = entry_at s.entries sheet

  abbrev RefusalOn : Ask → Type 0
  RefusalOn a = Refusal s b (kind_on a) (end_on t guided s b sheet a)

  refused_on : (a : Ask) → RefusalOn a
  unfolding effects.reserve_out effects.accept_out effects.taken_out effects.grow_out effects.put_answer effects.complete_out
      effects.change_out effects.release_out effects.show_answer effects.show_dated_answer
  refused_on (reserve limits k p) =
      by_verdict s b (kind_on (reserve limits k p)) _ (effects.reserve_verdict (within limits) k p)
      (λ h. answered _ _ _ _ h)
      (λ number h. let x = refusals.reserve_refused_by t guided guide s sheet number limits k p h in
      (Refused number, put_together x.0 x.1 x.3 x.4 (summary_back guided b _ x.2)))
  refused_on (offer limits k) = λ some. refl
  refused_on (accept limits start k) =
      by_verdict s b (kind_on (accept limits start k)) _ (effects.accept_verdict (within limits) start k)
      (λ h. answered _ _ _ _ h)
      (λ number h. let x = refusals.accept_refused_by t guided guide s sheet number limits start k h in
      (Refused number, put_together x.0 x.1 x.3 x.4 (summary_back guided b _ x.2)))
  refused_on (grow limits m) =
      by_verdict s b (kind_on (grow limits m)) _ (effects.grow_verdict (within limits) m)
      (λ h. answered _ _ _ _ h)
      (λ number h. let x = refusals.grow_refused_by t guided guide s sheet number limits m h in
      (Refused number, put_together x.0 x.1 x.3 x.4 (summary_back guided b _ x.2)))
  refused_on (put p payload) =
      by_verdict s b (kind_on (put p payload)) _ (effects.put_verdict (lent_to t s s.card sheet) p payload)
      (λ h. ap (λ (v : Verdict). number_of (settle v Done Refused)) h)
      (λ number h. let x = refusals.put_refused t s sheet number p payload h in
      (Refused number, put_together x.0 refl refl x.1 refl))
  refused_on complete =
      let q = lent_to t s s.card sheet in
      by_verdict s b (kind_on complete) _ (effects.complete_verdict q)
      (λ h. ap (λ (v : Verdict). number_of (settle v
      (effects.out_of s.shape.free (effects.entry_of complete_mark entry.start entry.length) Done)
      (λ n. effects.out_of s.shape.free entry (cond (eqb n 9) (Blank (effects.blank_place q)) (Refused n)))).answer) h)
      (λ number h. let x = refusals.complete_refused t s sheet number h in
      (cond (eqb number 9) (Blank (effects.blank_place q)) (Refused number), put_together x.0 refl x.1 refl refl))
  refused_on (change c) =
      by_verdict s b (kind_on (change c)) _ (effects.change_verdict (lent_to t s no_card sheet) c)
      (λ h. answered _ _ _ _ h)
      (λ number h. let x = refusals.change_refused t s sheet number c h in
      (Refused number, put_together x.0 refl x.1 refl refl))
  refused_on release =
      by_verdict s b (kind_on release) _ (effects.release_verdict (lent_by t guided guide s no_card sheet))
      (λ h. answered _ _ _ _ h)
      (λ number h. let x = refusals.release_refused_by t guided guide s sheet number h in
      (Refused number, put_together x.0 x.1 x.3 refl (summary_back guided b _ x.2)))
  refused_on (show p buffer) =
      by_verdict s b (kind_on (show p buffer)) _ (effects.show_verdict (lent_to t s s.card sheet) p buffer)
      (λ h. ap (λ (v : Verdict). number_of (settle v Done Refused)) h)
      (λ number h. let x = refusals.show_refused t s sheet number p buffer h in
      (Refused number, λ y. telling s b (x.0 y) (x.1 y)))
  refused_on (show_dated p date buffer) =
      by_verdict s b (kind_on (show_dated p date buffer)) _
      (effects.show_dated_verdict (lent_to t s s.card sheet) p date buffer)
      (λ h. ap (λ (v : Verdict). number_of (settle v Done Refused)) h)
      (λ number h. let x = refusals.show_dated_refused t s sheet number p date buffer h in
      (Refused number, λ y. telling s b (x.0 y) (x.1 y)))
  refused_on standing = λ some. refl

-- ---- the whole card

module _ (t guided : Bool) (s : Kept) (b : Beside) where
  refused_fresh : (n : ℕ) → Refusal s b (kind_of (fresh n)) (end_fresh t guided s b n)
  refused_fresh n =
      by_verdict s b (kind_of (fresh n)) _ (fresh_verdict t n (length s.map) (length s.entries))
      (λ h. ap (λ (v : Verdict). number_of (refusals.fresh_by s.shape n (eqb (row_number v) 0) (row_number v)).answer) h)
      (λ number h. let x = refusals.fresh_refused t s.shape n s.map s.entries number h in
      (Refused number, put_together x.0 x.1 x.2 refl refl))

  refused_save : Refusal s b (kind_of save) (end_save t guided s b)
  unfolding images.save_number
  refused_save =
      by_verdict s b (kind_of save) _
      (save_verdict t (saved_state s.shape s.map s.entries) (length b.scratch) (length b.image))
      (λ h. ap (λ (v : Verdict). number_of (cond (eqb (row_number v) 0) Done (Refused (row_number v)))) h)
      (λ number h. let x = saved.save_refused t s.shape s.map s.entries b.scratch b.image number h in (
        Refused number,
        put_together x.0 refl refl refl
            (λ y. record { summary = b.summary; scratch = x.2 y; image = x.1 y }),
      ))

  refused_load : (image : List ℕ) → Refusal s b (kind_of (load image)) (end_load t guided s b image)
  unfolding images.load_result
  refused_load image =
      by_verdict s b (kind_of (load image)) _
      (load_verdict t image (length s.map) (length s.entries) (length b.scratch))
      (λ h. ap (λ (v : Verdict). number_of (load_outcome_by s.shape (settle v
      (record { number = 0; blocks = (state_in image).blocks; free = (state_in image).spare })
      (λ k. record { number = k; blocks = 0; free = 0 }))).answer) h)
      (λ number h. let x = saved.load_refused t s.shape image s.map s.entries b.scratch number h in
      (Refused number, put_together x.0 x.1 x.2 refl (ap (λ (zeros : List ℕ). with_scratch zeros b) x.3)))

  refused_build : Refusal s b (kind_of build) (end_build t guided s b)
  unfolding build_answer built_summary
  refused_build =
      let v = summary_verdict t s.shape.blocks s.shape.free s.map b.summary in
      by_verdict s b (kind_of build) _ v (λ h. ap (λ (w : Verdict). number_of (settle w Done Refused)) h)
      (λ number h.
      let same : build_summary t s.shape s.map b.summary ≡ b.summary = kept_back _ _ _ _ h in (
        Refused number,
        λ y. telling s (with_summary (same y) b)
            (told s.shape (ap (λ (w : Verdict). settle w Done Refused) h y)) [],
      ))

refused_close : (t guided : Bool) (s : Kept) (b : Beside) → Refusal s b (kind_of close) (end_close t guided s b)
refused_close t true s b =
    by_verdict s b (kind_of close) _ (closings.verdict_by t true b.summary s b.scratch)
    (λ h. ap (λ (a : Answer). number_of a) (ap (λ o. o.answer) (closings.close_accepted t true b.summary s b.scratch h
    ).outcome))
    (λ number h. let x = closings.close_refused t true b.summary s b.scratch number h in (
      Refused number,
      put_together x.outcome x.words x.sheets x.bytes
          (λ y. record { summary = x.beside y; scratch = x.zeros y; image = b.image }),
    ))
refused_close t false s b =
    by_verdict s b (kind_of close) _ (closings.verdict_by t false [] s b.scratch)
    (λ h. ap (λ (a : Answer). number_of a) (ap (λ o. o.answer) (closings.close_accepted t false [] s b.scratch h).outcome))
    (λ number h. let x = closings.close_refused t false [] s b.scratch number h in (
      Refused number,
      put_together x.outcome x.words x.sheets x.bytes
          (λ y. record { summary = b.summary; scratch = x.zeros y; image = b.image }),
    ))

module _ (m : Manner) (s : Kept) (b : Beside) where
  pub every_refusal : (c : Public) → (number_of (ends m s b c).outcome.answer ≡ 0 → ⊥)
      → ends m s b c ≡ unchanged (ends m s b c).outcome.answer s b (kind_of c)
  every_refusal (on sheet ask) = refused_on (turned m (on sheet ask)) m.guided s b sheet ask
  every_refusal (fresh n) = refused_fresh (turned m (fresh n)) m.guided s b n
  every_refusal (search k) = λ some. refl
  every_refusal survey = λ some. refl
  every_refusal save = refused_save (turned m save) m.guided s b
  every_refusal (load image) = refused_load (turned m (load image)) m.guided s b image
  every_refusal close = refused_close (turned m close) m.guided s b
  every_refusal build = refused_build (turned m build) m.guided s b
  every_refusal check = λ some. refl
