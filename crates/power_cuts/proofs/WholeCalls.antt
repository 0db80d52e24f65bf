-- What the calls on the whole card do, and so what every public call does: `every_call`.
-- Assumes nothing.
use Prim.Native.Nat.{ℕ}
use mathlib.Core.Path.{◌≡◌, refl, sym, ap, ◌∙◌}
use mathlib.Core.Bool.{Bool, cond}
use mathlib.Core.List.{List, []}
use lib.Dec.{eqb}
use lib.ListN.{length}
use borrow.Author.Tests.{ne_eqb}
use Rattle.map_blocks.specs.Maps as maps
use Rattle.catalogue.specs.Entries.{cleared_if}
use Rattle.catalogue_standings.specs.Answers.{number_of}
use Rattle.catalogue_standings.specs.Rows.{Verdict, accepted, refused, settle, row_number}
use Rattle.catalogue_standings.specs.declared.Answer.TheVariants.{Done, Refused}
use Rattle.call_search.specs.Answers.{fresh_verdict}
use Rattle.refusals.specs.Guides.{guide_tested}
use Rattle.image_soundness.specs.Sound.{sound}
use Rattle.image.specs.Effects as images
use Rattle.image.specs.Image.{state_in}
use Rattle.image.specs.Table.{load_verdict}
use Rattle.image.proofs.Verdicts.{accepted_to}
use Rattle.closing.proofs.Closes.{refused_number}
use Rattle.card.specs.Calls.{Kept, told, is_done, saved_state, fresh_outcome, load_outcome_by, load_outcome}
use Rattle.card.specs.Calls.{load_map, load_entries}
use Rattle.card.specs.declared.Outcome.{Outcome}
use Rattle.card.specs.Public.{Public, on, fresh, search, survey, save, close, build, check, load, Manner, turned, Beside}
use Rattle.card.specs.Public.{kept_after, ends}
use Rattle.card.proofs.Closings.{verdict_by, close_refused, close_accepted}
use Rattle.card.proofs.Images.{load_refused}
use Rattle.card.proofs.Refusals.{fresh_refused}
use Rattle.power_cuts.specs.Sorts.{done}
use Rattle.power_cuts.proofs.Deeds.{Deed, nothing, closed, began, loaded}
use Rattle.power_cuts.proofs.EveryCall.{on_a_sheet}

module _ (m : Manner) (s : Kept) (b : Beside) where
  abbrev after : Public → Kept
  after c = kept_after (ends m s b c)

  abbrev was_done : Public → Bool
  was_done c = done (ends m s b c)

  -- ---- fresh

  module _ (n : ℕ) where
    abbrev away : Bool
    away = turned m (fresh n)

    abbrev outcome_for : Verdict → Outcome
    outcome_for v =
        cond (eqb (row_number v) 0) (told (record { blocks = n; free = n }) Done) (told s.shape (Refused (row_number v)))

    begins : (v : Verdict) → fresh_verdict away n (length s.map) (length s.entries) ≡ v
        → Deed s (after (fresh n)) (fresh n) (was_done (fresh n))
    begins accepted h =
        let handed : fresh_outcome away s.shape n s.map s.entries ≡ outcome_for accepted = ap outcome_for h in
        began refl (ap (λ (o : Outcome). eqb (number_of o.answer) 0) handed) (record {
          map_now = ap (λ (v : Verdict). settle v (maps.fresh_map n (length s.map)) (λ number. s.map)) h
              ∙ ap (λ (o : Outcome). maps.fresh_map o.shape.blocks (length s.map)) (sym handed);
          entries_now = ap (λ (o : Outcome). cleared_if s.entries (is_done o.answer)) handed;
          card_now = refl;
        })
    begins (refused number) h =
        let x = fresh_refused away s.shape n s.map s.entries number h in
        nothing (λ y. record { shape = (x.0 y).shape; map = x.1 y; entries = x.2 y; card = s.card }) refl

  -- ---- close

  abbrev guide : List ℕ
  guide = cond m.guided b.summary []

  closes : (v : Verdict) → verdict_by (turned m close) m.guided guide s b.scratch ≡ v
      → Deed s (after close) close (was_done close)
  closes accepted h =
      let x = close_accepted (turned m close) m.guided guide s b.scratch h in
      closed refl (ap (λ (o : Outcome). eqb (number_of o.answer) 0) x.outcome) (record {
        away = turned m close;
        fits = guide_tested m.guided (length s.map) (length guide);
        scratch = b.scratch;
        was_accepted = h;
        shape_now = ap (λ (o : Outcome). o.shape) x.outcome;
        map_now = x.words;
        entries_now = x.sheets;
        card_now = x.bytes;
      })
  closes (refused number) h =
      let x = close_refused (turned m close) m.guided guide s b.scratch number h in
      nothing (λ y. record {
        shape = (x.outcome y).shape;
        map = x.words y;
        entries = x.sheets y;
        card = x.bytes y;
      })
      (ap (λ (o : Outcome). eqb (number_of o.answer) 0) x.outcome
      ∙ ne_eqb number 0 (refused_number (turned m close) (saved_state s.shape s.map s.entries) _ (length s.card)
      (length b.scratch) number h))

  -- ---- load

  module _ (image : List ℕ) where
    abbrev off : Bool
    off = turned m (load image)

    abbrev verdict : Verdict
    verdict = load_verdict off image (length s.map) (length s.entries) (length b.scratch)

    -- what an accepted load hands back and leaves
    record Gives : Type 0 where
      outcome : load_outcome off s.shape image s.map s.entries b.scratch
          ≡ told (record { blocks = (state_in image).blocks; free = (state_in image).spare }) Done
      words : load_map off s.shape image s.map s.entries b.scratch ≡ (state_in image).map
      sheets : load_entries off s.shape image s.map s.entries b.scratch ≡ (state_in image).entries

    gives : verdict ≡ accepted → Gives
    unfolding images.load_result images.load_map images.load_entries
    gives h = record {
      outcome = ap (λ (v : Verdict). load_outcome_by s.shape (settle v
          (record { number = 0; blocks = (state_in image).blocks; free = (state_in image).spare })
          (λ number. record { number = number; blocks = 0; free = 0 }))) h;
      words = ap (λ (v : Verdict). settle v (state_in image).map (λ number. s.map)) h;
      sheets = ap (λ (v : Verdict). settle v (state_in image).entries (λ number. s.entries)) h;
    }

    loads : (v : Verdict) → verdict ≡ v → Deed s (after (load image)) (load image) (was_done (load image))
    loads accepted h =
        let x = gives h in
        loaded refl (ap (λ (o : Outcome). eqb (number_of o.answer) 0) x.outcome) (record {
          sound_now = ap sound (λ y. saved_state (x.outcome y).shape (x.words y) (x.sheets y))
              ∙ (accepted_to off image (length s.map) (length s.entries) (length b.scratch) h).whole;
          card_now = refl;
        })
    loads (refused number) h =
        let x = load_refused off s.shape image s.map s.entries b.scratch number h in
        nothing (λ y. record { shape = (x.0 y).shape; map = x.1 y; entries = x.2 y; card = s.card }) refl

  -- ---- every call

  pub every_call : (c : Public) → Deed s (after c) c (was_done c)
  every_call (on sheet ask) = on_a_sheet (turned m (on sheet ask)) m.guided s b sheet ask
  every_call (fresh n) = begins n (fresh_verdict (turned m (fresh n)) n (length s.map) (length s.entries)) refl
  every_call (load image) =
      loads image (load_verdict (turned m (load image)) image (length s.map) (length s.entries) (length b.scratch)) refl
  every_call close = closes (verdict_by (turned m close) m.guided guide s b.scratch) refl
  every_call (search k) = nothing refl refl
  every_call survey = nothing refl refl
  every_call save = nothing refl refl
  every_call build = nothing refl refl
  every_call check = nothing refl refl
