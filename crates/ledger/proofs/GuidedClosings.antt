-- Closing with a summary beside the map (document 02 (l)): of the wrong length it is refused with 1; of the right length it
-- changes nothing of the call but itself, and after a closing that was done it is the map's own, whatever it was before.
-- Assumes nothing.
use mathlib.Core.Path.{◌≡◌, refl, sym, ap, ◌∙◌}
use mathlib.Core.Bool.{Bool, true, false, cond, ◌&&◌}
use mathlib.Core.List.{List, []}
use Prim.Native.Nat.{ℕ, ◌<◌}
use native.Mathlib.Omega.{arith}
use lib.Dec.{eqb, leb}
use lib.ListN.{length}
use borrow.Author.Tests.{eq-eqb, ne_eqb, leb-false}
use Rattle.laws.proofs.Bools.{and_both, and_right, clash}
use Rattle.map_blocks.proofs.Maps.{map_length}
use Rattle.summary.specs.Summary.{summary_length, own_summary}
use Rattle.summary.proofs.Numbers.{own_length}
use Rattle.catalogue_standings.specs.Limits.{shape_fits}
use Rattle.catalogue_standings.specs.Rows.{Verdict, accepted, refused}
use Rattle.catalogue_standings.specs.declared.Answer.TheVariants.{Done}
use Rattle.call_summary.specs.Answers.{summary_fits, built_summary}
use Rattle.call_summary.proofs.Fits.{build-left, passes}
use Rattle.refusals.specs.Guides.{guide_tested}
use Rattle.closing.specs.Closed.{closed_map}
use Rattle.closing.specs.Table.{close_fits, close_verdict}
use Rattle.closing.proofs.Claimed.{accepted_fits}
use Rattle.closing.proofs.Closes.{close_fits_to, fits_beside, verdict-1}
use Rattle.card.specs.Calls.{Kept, saved_state, is_done}
use Rattle.card.specs.Closings.{close_map_by, close_summary_by}
use Rattle.card.specs.Public.{close, kind_of, Beside, with_summary, with_scratch, refused_end, end_close, kept_after}
use Rattle.card.proofs.Closings.{verdict_by, summary_for, close_refused, close_accepted}
use Rattle.card.proofs.TurnedAway.{put_together}
use Rattle.ledger.specs.Lists.{Long, own_of}
use Rattle.ledger.specs.Summaries.{apart}

pub own_fits : (s : Kept) → Long s (own_of s)
own_fits s = own_length s.map s.shape.blocks

-- ---- the verdict

no_fit : (a fits : Bool) → fits ≡ false → (a && fits) ≡ false
no_fit true fits e = e
no_fit false fits e = refl

by_cases : (b : Bool) {C : Type 0} → (b ≡ true → C) → (b ≡ false → C) → C
by_cases true t f = t refl
by_cases false t f = f refl

module _ (s : Kept) (summary scratch : List ℕ) where
  abbrev fitting : Bool → Bool
  fitting beside = close_fits s.shape.blocks s.shape.free beside (length s.entries) (length s.map)
      (length s.card) (length scratch)

  abbrev beside : Bool
  beside = guide_tested true (length s.map) (length summary)

  unfit : beside ≡ false → fitting beside ≡ false
  unfit e =
      by_cases (fitting beside)
      (λ t. absurd (clash beside (fits_beside s.shape.blocks s.shape.free beside (length s.entries)
      (length s.map) (length s.card) (length scratch) t) e))
      (λ f. f)

  verdict_unfit : beside ≡ false → verdict_by false true summary s scratch ≡ refused 1
  verdict_unfit e =
      verdict-1 false (saved_state s.shape s.map s.entries) beside (length s.card) (length scratch) refl (unfit e)

  -- with more than 4,096 words row 1 holds in any case
  verdict_long : 4096 < length s.map → verdict_by false false [] s scratch ≡ refused 1
  verdict_long l =
      verdict-1 false (saved_state s.shape s.map s.entries) true (length s.card) (length scratch) refl
      (by_cases (fitting true)
      (λ e. let f = close_fits_to s.shape.blocks s.shape.free true (length s.entries) (length s.map)
      (length s.card) (length scratch) e in
      absurd (omega (arith, f.saved.limits.words, f.saved.limits.limit)))
      (λ e. e))

  same_verdict : Long s summary → verdict_by false true summary s scratch ≡ verdict_by false false [] s scratch
  same_verdict long =
      by_cases (leb (length s.map) 4096)
      (λ e. ap (λ (b : Bool). close_verdict false (saved_state s.shape s.map s.entries) b (length s.card)
      (length scratch))
      (and_both (leb (length s.map) 4096) _ e (eq-eqb (length summary) (summary_length (length s.map)) long)))
      (λ e. verdict_unfit (ap (λ (b : Bool). b && eqb (length summary) (summary_length (length s.map))) e)
      ∙ sym (verdict_long (leb-false (length s.map) 4096 e)))

-- ---- what is handed back and left

module _ (s : Kept) (b : Beside) where
  abbrev lent : List ℕ
  lent = b.scratch

  pub same_close : Long s b.summary → apart (end_close false true s b) ≡ apart (end_close false false s b)
  same_close long = by (verdict_by false true b.summary s lent) refl
    where
      by : (v : Verdict) → verdict_by false true b.summary s lent ≡ v → apart (end_close false true s b)
          ≡ apart (end_close false false s b)
      by accepted e =
          let x = close_accepted false true b.summary s lent e in
          let y = close_accepted false false [] s lent (sym (same_verdict s b.summary lent long) ∙ e) in
          put_together (x.outcome ∙ sym y.outcome) (x.words ∙ sym y.words) (x.sheets ∙ sym y.sheets)
          (x.bytes ∙ sym y.bytes) (ap (λ (z : List ℕ). with_scratch z (with_summary [] b))
          (x.zeros ∙ sym y.zeros))
      by (refused number) e =
          let x = close_refused false true b.summary s lent number e in
          let y = close_refused false false [] s lent number (sym (same_verdict s b.summary lent long) ∙ e) in
          put_together (x.outcome ∙ sym y.outcome) (x.words ∙ sym y.words) (x.sheets ∙ sym y.sheets)
          (x.bytes ∙ sym y.bytes) (ap (λ (z : List ℕ). with_scratch z (with_summary [] b))
          (x.zeros ∙ sym y.zeros))

  pub close_refuses : (Long s b.summary → ⊥) → end_close false true s b ≡ refused_end 1 s b (kind_of close)
  close_refuses short =
      let v = verdict_unfit s b.summary lent (no_fit (leb (length s.map) 4096) _
      (ne_eqb (length b.summary) (summary_length (length s.map)) short)) in
      let r = close_refused false true b.summary s lent 1 v in
      put_together r.outcome r.words r.sheets r.bytes
      (λ x. with_scratch (r.zeros x) (with_summary (r.beside x) b))

-- ---- the summary afterwards

-- a lent summary is the map's own after an accepted closing, whatever it was
module _ (turned : Bool) (summary : List ℕ) (s : Kept) (scratch : List ℕ)
    (v : verdict_by turned true summary s scratch ≡ accepted)
  where
    abbrev left : List ℕ
    left = closed_map s.entries s.shape.blocks s.map

    long : length left ≡ length s.map
    unfolding closed_map
    long = map_length _ (length s.map)

    fit : close_fits s.shape.blocks s.shape.free (guide_tested true (length s.map) (length summary))
        (length s.entries) (length s.map) (length s.card) (length scratch) ≡ true
    fit = accepted_fits turned (saved_state s.shape s.map s.entries) _ (length s.card) (length scratch) v

    whole : summary_fits s.shape.blocks s.shape.free (length left) (length summary) ≡ true
    unfolding summary_fits
    whole =
        let l = close_fits_to s.shape.blocks s.shape.free _ (length s.entries) (length s.map) (length s.card)
        (length scratch) fit in
        let b = fits_beside s.shape.blocks s.shape.free (guide_tested true (length s.map) (length summary))
        (length s.entries) (length s.map) (length s.card) (length scratch) fit in
        ap (λ (w : ℕ). shape_fits s.shape.blocks s.shape.free w && eqb (length summary) (summary_length w)) long
        ∙ and_both _ _ l.saved.shape
        (and_right (leb (length s.map) 4096) (eqb (length summary) (summary_length (length s.map))) b)

    pub closed-summary : close_summary_by turned true summary s scratch
        ≡ own_summary (close_map_by turned true summary s scratch) s.shape.blocks
    closed-summary =
        let w : close_map_by turned true summary s scratch ≡ left = (close_accepted turned true summary s scratch v).words in
        summary_for turned true summary s scratch accepted v
        ∙ ap (λ (m : List ℕ). built_summary false s.shape.blocks s.shape.free m summary) w
        ∙ sym (build-left s.shape.blocks s.shape.free left summary false accepted
        (passes s.shape.blocks s.shape.free left summary false refl whole))
        ∙ ap (λ (m : List ℕ). own_summary m s.shape.blocks) (sym w)

module _ (turned : Bool) (s : Kept) (b : Beside) where
  abbrev verdict : Verdict
  verdict = verdict_by turned true b.summary s b.scratch

  pub close_anew : (end_close turned true s b).outcome.answer ≡ Done → (end_close turned true s b).beside.summary
      ≡ own_of (kept_after (end_close turned true s b))
  close_anew done-so = by verdict refl
    where
      by : (v : Verdict) → verdict ≡ v → (end_close turned true s b).beside.summary
          ≡ own_of (kept_after (end_close turned true s b))
      by accepted e = closed-summary turned b.summary s b.scratch e
      by (refused number) e =
          let o = (close_refused turned true b.summary s b.scratch number e).outcome in
          let z : false ≡ true = ap (λ x. is_done x.answer) (sym o) ∙ ap is_done done-so in
          let one : ◌≡◌ {A = ℕ} 0 1 = ap (λ (t : Bool). cond t 1 0) z in
          absurd (omega arith)

  pub own_close : b.summary ≡ own_of s → (end_close turned true s b).beside.summary
      ≡ own_of (kept_after (end_close turned true s b))
  own_close own = by verdict refl
    where
      by : (v : Verdict) → verdict ≡ v → (end_close turned true s b).beside.summary
          ≡ own_of (kept_after (end_close turned true s b))
      by accepted e = closed-summary turned b.summary s b.scratch e
      by (refused number) e =
          let r = close_refused turned true b.summary s b.scratch number e in
          r.beside ∙ own ∙ ap (λ (m : List ℕ). own_summary m s.shape.blocks) (sym r.words)
