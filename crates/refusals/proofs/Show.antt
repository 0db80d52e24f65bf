-- What comes of the verdict of show: one of the first rows refuses it, or the block of the place decides.
-- Assumes nothing.
use mathlib.Core.Path.{◌≡◌, sym, ap, ◌∙◌}
use mathlib.Core.Bool.{Bool, true, false, not}
use mathlib.Core.List.{List, [], ◌∷◌}
use Prim.Native.Nat.{ℕ, ◌+◌}
use Rattle.blocks_of_card.specs.Card.{block_of}
use Rattle.block_seals.specs.Sealed.{sound}
use Rattle.catalogue_standings.specs.Rows.{row, Verdict, accepted, refused}
use Rattle.catalogue_standings.specs.declared.Answer.{Answer}
use Rattle.catalogue_standings.proofs.Openings.{skip, stop, none_left}
use Rattle.refusals.specs.Effects.{showing_verdict, block_verdict, shown_answer, shown_buffer}
use Rattle.refusals.specs.Effects.{show_verdict, show_answer, show_buffer}
use Rattle.refusals.specs.Lent.{Lent}
use Rattle.refusals.specs.Table.{table_of}
use Rattle.refusals.specs.Views.{view_on}
use Rattle.refusals.proofs.Beginnings.{behind}
use Rattle.refusals.proofs.Showing.{showing_then}

-- ---- the block of the place

pub not_sound : (s : Bool) → s ≡ false → block_verdict s ≡ refused 4
unfolding block_verdict
not_sound s e = stop 4 _ [] (ap not e)

pub is_sound : (s : Bool) → s ≡ true → block_verdict s ≡ accepted
unfolding block_verdict
is_sound s e = skip 4 _ [] accepted (ap not e) none_left

-- what is answered and what the buffer becomes, once the verdict is known
pub told : (v w : Verdict) → v ≡ w → (block buffer : List ℕ) (r : Answer) (after : List ℕ) → r ≡ shown_answer w
    → after ≡ shown_buffer w block buffer → (r ≡ shown_answer v) × (after ≡ shown_buffer v block buffer)
told v w h block buffer r after made left = (
  made ∙ ap shown_answer (sym h),
  left ∙ ap (λ (x : Verdict). shown_buffer x block buffer) (sym h),
)

module _ (q : Lent) (place : ℕ) where
  abbrev pub block_at : List ℕ
  block_at = block_of q.card (q.entry.start + place)

  abbrev pub sound_at : Bool
  sound_at = sound q.sheet place block_at

module _ (q : Lent) (place : ℕ) (buffer : List ℕ) where
  verdict_behind : show_verdict q place buffer
      ≡ behind (showing_verdict q place buffer) (row 4 (not (sound_at q place)) ∷ [])
  unfolding show_verdict view_on table_of
  verdict_behind = showing_then q place buffer (row 4 (not (sound_at q place)) ∷ [])

  -- one of the first rows holds
  pub by_first : (number : ℕ) → showing_verdict q place buffer ≡ refused number → show_verdict q place buffer ≡ refused number
  by_first number h = verdict_behind ∙ ap (λ (x : Verdict). behind x (row 4 (not (sound_at q place)) ∷ [])) h

  -- none of them does
  pub by_block : showing_verdict q place buffer ≡ accepted → show_verdict q place buffer ≡ block_verdict (sound_at q place)
  unfolding block_verdict
  by_block opens = verdict_behind ∙ ap (λ (x : Verdict). behind x (row 4 (not (sound_at q place)) ∷ [])) opens

  -- what the buffer holds, and what is answered, once the verdict is known
  pub left : {v : Verdict} → show_verdict q place buffer ≡ v → shown_buffer v (block_at q place) buffer
      ≡ show_buffer q place buffer
  unfolding show_buffer
  left h = ap (λ (x : Verdict). shown_buffer x (block_at q place) buffer) (sym h)

  pub unchanged : (number : ℕ) → show_verdict q place buffer ≡ refused number → buffer ≡ show_buffer q place buffer
  unfolding show_buffer
  unchanged number h = ap (λ (x : Verdict). shown_buffer x (block_at q place) buffer) (sym h)

  pub answered : {v : Verdict} → show_verdict q place buffer ≡ v → shown_answer v ≡ show_answer q place buffer
  unfolding show_answer
  answered h = ap shown_answer (sym h)
