-- What comes of the verdict of a dated show (document 02 (m)): one of the first rows refuses it, or one of its date's, or the
-- block of the place decides; and that it does what show does, if it is accepted.
-- Assumes nothing.
use mathlib.Core.Path.{◌≡◌, sym, ap, ◌∙◌}
use mathlib.Core.Bool.{Bool, true, false, not}
use mathlib.Core.List.{List, [], ◌∷◌}
use Prim.Native.Nat.{ℕ, ◌+◌}
use native.Mathlib.Nat.{add-zero}
use Rattle.calendar.specs.Calendar.{Date, date_exists, day_number}
use Rattle.calendar.specs.Term.{Term, term_of, in_term}
use Rattle.blocks_of_card.specs.Card.{block_of}
use Rattle.block_seals.specs.Sealed.{sound, payload_of}
use Rattle.catalogue_standings.specs.Rows.{Row, row, Verdict, accepted, refused, first_of}
use Rattle.catalogue_standings.proofs.Openings.{skip, stop, none_left}
use Rattle.catalogue_standings.proofs.Rows.{clear, first_then}
use Rattle.refusals.specs.Effects.{showing_verdict, term_verdict, block_verdict, shown_answer, shown_buffer}
use Rattle.refusals.specs.Effects.{show_verdict, show_dated_verdict, show_dated_answer, show_dated_buffer}
use Rattle.refusals.specs.Lent.{Lent}
use Rattle.refusals.specs.Table.{on, show_dated, term_rows, table_of}
use Rattle.refusals.specs.Views.{view_on}
use Rattle.refusals.proofs.Beginnings.{behind}
use Rattle.refusals.proofs.Room.{view_of}
use Rattle.refusals.proofs.Show.{block_at, sound_at}
use Rattle.refusals.proofs.Showing.{showing_then}

-- ---- the rows of a date

module _ (s : Bool) (t : Term) (date : Date) where
  pub no_date : date_exists date ≡ false → term_verdict s t date ≡ refused 19
  unfolding term_verdict
  no_date e = stop 19 _ _ (ap not e)

  module _ (exists : date_exists date ≡ true) where
    pub first-unsound : s ≡ false → term_verdict s t date ≡ refused 4
    unfolding term_verdict
    first-unsound e = skip 19 _ _ (refused 4) (ap not exists) (stop 4 _ _ (ap not e))

    module _ (holds : s ≡ true) where
      pub outside : in_term t (day_number date) ≡ false → term_verdict s t date ≡ refused 20
      unfolding term_verdict
      outside e = skip 19 _ _ (refused 20) (ap not exists) (skip 4 _ _ (refused 20) (ap not holds) (stop 20 _ _ (ap not e)))

      pub within : in_term t (day_number date) ≡ true → term_verdict s t date ≡ accepted
      unfolding term_verdict
      within e =
          skip 19 _ _ accepted (ap not exists)
          (skip 4 _ _ accepted (ap not holds) (skip 20 _ _ accepted (ap not e) none_left))

  -- the rows behind them decide, where none of them holds
  term_then : (rows : List Row) → first_of (term_rows s t date rows) ≡ behind (term_verdict s t date) rows
  unfolding term_verdict
  term_then rows = first_then (term_rows s t date []) rows

-- ---- what the call answers

module _ (q : Lent) (place : ℕ) (date : Date) (buffer : List ℕ) where
  -- place 0 lies at the start of the extent
  abbrev pub first_block : List ℕ
  first_block = block_of q.card q.entry.start

  abbrev pub first_sound : Bool
  first_sound = sound q.sheet 0 first_block

  abbrev pub term : Term
  term = term_of (payload_of first_block)

  abbrev pub by_date : Verdict
  by_date = term_verdict first_sound term date

  abbrev last : List Row
  last = row 4 (not (sound_at q place)) ∷ []

  verdict_behind : show_dated_verdict q place date buffer
      ≡ behind (showing_verdict q place buffer) (term_rows first_sound term date last)
  unfolding show_dated_verdict view_on table_of
  verdict_behind =
      showing_then q place buffer (term_rows (sound q.sheet 0 (block_of q.card (q.entry.start + 0))) term date last)
      ∙ ap (λ (b : ℕ). behind (showing_verdict q place buffer)
      (term_rows (sound q.sheet 0 (block_of q.card b)) term date last))
      (add-zero q.entry.start)

  -- what the buffer holds, and what is answered, once the verdict is known
  pub left : {v : Verdict} → show_dated_verdict q place date buffer ≡ v
      → shown_buffer v (block_at q place) buffer ≡ show_dated_buffer q place date buffer
  unfolding show_dated_buffer
  left h = ap (λ (x : Verdict). shown_buffer x (block_at q place) buffer) (sym h)

  pub unchanged : (number : ℕ) → show_dated_verdict q place date buffer ≡ refused number
      → buffer ≡ show_dated_buffer q place date buffer
  unfolding show_dated_buffer
  unchanged number h = ap (λ (x : Verdict). shown_buffer x (block_at q place) buffer) (sym h)

  pub answered : {v : Verdict} → show_dated_verdict q place date buffer ≡ v → shown_answer v
      ≡ show_dated_answer q place date buffer
  unfolding show_dated_answer
  answered h = ap shown_answer (sym h)

  -- one of the first rows holds
  pub by_first : (number : ℕ) → showing_verdict q place buffer ≡ refused number
      → show_dated_verdict q place date buffer ≡ refused number
  by_first number h = verdict_behind ∙ ap (λ (x : Verdict). behind x (term_rows first_sound term date last)) h

  module _ (opens : showing_verdict q place buffer ≡ accepted) where
    past_first : show_dated_verdict q place date buffer ≡ behind by_date last
    past_first =
        verdict_behind ∙ ap (λ (x : Verdict). behind x (term_rows first_sound term date last)) opens
        ∙ term_then first_sound term date last

    -- one of the rows of the date does
    pub by-term : (number : ℕ) → by_date ≡ refused number → show_dated_verdict q place date buffer ≡ refused number
    by-term number h = past_first ∙ ap (λ (x : Verdict). behind x last) h

    -- none of them does
    pub by_block : by_date ≡ accepted → show_dated_verdict q place date buffer ≡ block_verdict (sound_at q place)
    unfolding block_verdict
    by_block holds = past_first ∙ ap (λ (x : Verdict). behind x last) holds

  -- ---- where it is accepted, so is a show of the place

  pub accepted_too : show_dated_verdict q place date buffer ≡ accepted → show_verdict q place buffer ≡ accepted
  unfolding show_dated_verdict show_verdict view_on table_of
  accepted_too h =
      let rows = table_of (view_of q) (on q.sheet (show_dated place date buffer)) in
      skip 21 _ _ _ (clear 21 rows h).0
      (skip 1 _ _ _ (clear 1 rows h).0
      (skip 2 _ _ _ (clear 2 rows h).0
      (skip 4 _ _ _ (clear 4 rows h).0
      (skip 5 _ _ _ (clear 5 rows h).0
      (skip 6 _ _ _ (clear 6 rows h).0
      (skip 7 _ _ _ (clear 7 rows h).0
      (skip 3 _ _ _ (clear 3 rows h).0 (skip 4 _ _ _ (clear 4 rows h).1.1.0 none_left))))))))
