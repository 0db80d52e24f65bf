-- What the rows of complete and its effects say: the verdict in each case, and what the call then hands back and leaves.
-- Assumes nothing.
use Rattle.std.specs.Prelude.{Ok, Err}
use Rattle.catalogue_standings.specs.Refusals.{number}
use Rattle.catalogue_standings.specs.declared.Refusal.{Refusal}
use Rattle.catalogue_standings.specs.declared.Refusal.TheVariants as why-refused
use mathlib.Core.Path.{◌≡◌, refl, sym, ap, ◌∙◌}
use mathlib.Core.Bool.{Bool, false, not, ◌||◌, cond}
use mathlib.Core.List.{List, [], ◌∷◌}
use Prim.Native.Nat.{ℕ, ◌+◌}
use lib.Dec.{eqb}
use Rattle.catalogue.specs.Entries.{complete_mark}
use Rattle.map_blocks.specs.Blocks.{all, least}
use Rattle.blocks_of_card.specs.Card.{block_of}
use Rattle.block_seals.specs.Sealed.{blank, sound}
use Rattle.refusals.specs.Effects.{entry_of, out_of, refusal_out, complete_verdict, blank_place, complete_out}
use Rattle.catalogue_standings.specs.Searches.{start_at}
use Rattle.catalogue_standings.specs.Openings.{row_of}
use Rattle.catalogue_standings.specs.Rows.{Row, row, Verdict, refused, first_of, settle}
use Rattle.catalogue_standings.specs.Standings.{length_of}
use Rattle.refusals.specs.Table.{lowest_blank, table_of}
use Rattle.refusals.specs.Views.{view_on}
use Rattle.catalogue_standings.specs.declared.Answer.TheVariants as answer
use Rattle.refusals.specs.declared.Out.{Out}
use Rattle.catalogue_standings.specs.declared.Standing.{Standing}
use Rattle.catalogue_standings.specs.declared.Standing.TheVariants.{Open}
use Rattle.refusals.proofs.Admitted.{open_else, open_passes}
use Rattle.refusals.specs.Lent.{Lent}
use Rattle.refusals.proofs.Lent.{all_fits, standing, first, extent}
use Rattle.catalogue_standings.proofs.Openings.{NotOpen, closed, opened}

-- ---- 9 goes with a place, and is no refusal alone

pub not_nine : (why : Refusal) → eqb (number why) 9 ≡ false
not_nine why-refused.Misfit = refl
not_nine why-refused.NoSuchSheet = refl
not_nine why-refused.WrongLength = refl
not_nine why-refused.Damaged = refl
not_nine why-refused.IsAbsent = refl
not_nine why-refused.IsPaused = refl
not_nine why-refused.IsOpen = refl
not_nine why-refused.IsComplete = refl
not_nine why-refused.NoFit = refl
not_nine why-refused.NotFreeBehind = refl
not_nine why-refused.ImageLength = refl
not_nine why-refused.ImageFrame = refl
not_nine why-refused.ImageContent = refl
not_nine why-refused.WrongFigures = refl
not_nine why-refused.RunTaken = refl
not_nine why-refused.OverShare = refl
not_nine why-refused.NoDate = refl
not_nine why-refused.OutsideTerm = refl
not_nine why-refused.TurnedAway = refl

module _ (q : Lent) where
  abbrev pub verdict : Verdict
  verdict = complete_verdict q

  abbrev pub lowest : ℕ
  lowest = blank_place q

  abbrev pub refusal : ℕ → Out
  refusal number = out_of q.spare q.entry (cond (eqb number 9) (answer.Blank lowest) (answer.Refused number))

  -- what the call hands back after its verdict
  pub out : (v : Verdict) → verdict ≡ v → settle v
      (out_of q.spare (entry_of complete_mark q.entry.start q.entry.length) answer.Done) refusal ≡ complete_out q
  unfolding complete_out
  out v h =
      ap (λ (w : Verdict). settle w (out_of q.spare (entry_of complete_mark q.entry.start q.entry.length) answer.Done)
      refusal) (sym h)

  pub by_row : (number : ℕ) (r : Out) → r ≡ refusal_out q.spare q.entry number → verdict ≡ refused number
      → eqb number 9 ≡ false → r ≡ complete_out q
  by_row number r made h f =
      made ∙ ap (λ (b : Bool). out_of q.spare q.entry (cond b (answer.Blank lowest) (answer.Refused number))) (sym f)
      ∙ out (refused number) h

  pub shut : (why : Refusal) → first q ≡ Err why → verdict ≡ refused (number why)
  unfolding complete_verdict view_on table_of
  shut why h = closed _ _ _ _ _ _ why h

  pub other : (s : Standing) → first q ≡ Ok s → NotOpen s → verdict ≡ refused (row_of s)
  unfolding complete_verdict view_on table_of
  other s h differs = open_else _ _ _ _ _ _ s h differs

  -- a place of an extent, and the rows of its blocks: 4, then 9
  abbrev pub blank_at : ℕ → ℕ → Bool
  blank_at start p = blank (block_of q.card (start + p))

  abbrev pub sound_at : ℕ → ℕ → Bool
  sound_at start p = sound q.sheet p (block_of q.card (start + p))

  abbrev pub rest : ℕ → ℕ → List Row
  rest start blocks =
      row 4 (not (all (λ p. blank_at start p || sound_at start p) 0 blocks))
      ∷ row 9 (not (all (λ p. not (blank_at start p)) 0 blocks)) ∷ []

  module _ (start blocks : ℕ) (opens : first q ≡ Ok (Open start blocks)) where
    pub admitted : verdict ≡ first_of (rest start blocks)
    unfolding complete_verdict view_on table_of
    admitted =
        open_passes _ _ _ _ _ _ start blocks opens
        ∙ ap (λ (s : Standing). first_of (rest q.entry.start (length_of s)))
        (opened q.turned (all_fits q) q.sheets q.sheet (standing q) (Open start blocks) [] opens).same
        ∙ ap (λ (s : ℕ). first_of (rest s blocks)) (extent q start blocks opens).starts

    pub lowest-is : start_at (least (blank_at start) 0 blocks) ≡ lowest
    unfolding blank_place view_on lowest_blank
    lowest-is =
        ap (λ (s : ℕ). start_at (least (blank_at s) 0 blocks)) (sym (extent q start blocks opens).starts)
        ∙ ap (λ (s : Standing). start_at (least (blank_at q.entry.start) 0 (length_of s)))
        (sym (opened q.turned (all_fits q) q.sheets q.sheet (standing q) (Open start blocks) [] opens).same)
