-- What load and the survey come to is what is to be printed of the image.
-- Assumes nothing.
use Prim.Native.Nat.{ℕ, ◌*◌, ◌≤◌}
use mathlib.Core.Path.{◌≡◌, refl, sym, ap, subst, ◌∙◌}
use mathlib.Core.Bool.{Bool, true, false}
use mathlib.Core.List.{List}
use native.Mathlib.Omega.{arith}
use lib.Dec.{eqb}
use lib.ListN.{length}
use borrow.Author.Tests.{ne_eqb, eqb-true}
use Rattle.map_blocks.specs.Blocks.{free}
use Rattle.survey.specs.Survey.{counts_of}
use Rattle.survey.specs.declared.Counts.{Counts}
use Rattle.catalogue.specs.declared.Entry.{Entry}
use Rattle.catalogue_standings.specs.Limits.{shape_fits}
use Rattle.catalogue_standings.specs.Rows.{Verdict, accepted, refused, settle, row_number}
use Rattle.image.specs.Effects.{zeros_for, load_result, load_map, load_entries, load_scratch}
use Rattle.image_frames.specs.Frames.{total_of}
use Rattle.image.specs.Image.{sheets_in, state_in}
use Rattle.image.specs.Table.{load_verdict}
use Rattle.roles.specs.Roles as names
use Rattle.roles.specs.Roles.{turned_away}
use Rattle.card.specs.Calls.{load_outcome_by}
use Rattle.card.specs.Ends.{load_end}
use Rattle.card.specs.Public.{End}
use Rattle.card.specs.declared.Shape.{Shape}
use Rattle.pagunlit_replies.specs.Replies.{reply_of}
use Rattle.pagunlit_replies.specs.declared.Reply.{Reply}
use Rattle.catalogue_standings.proofs.Limits.{fits as shape_fits_to}
use Rattle.image.proofs.Fitting.{head_to}
use Rattle.image.proofs.Journey.{map_length}
use Rattle.image.proofs.Verdicts.{accepted_to, load_accepted}
use Rattle.printer.specs.Text.{card_text, state_text, refusal_text}
use Rattle.printer.specs.Writing.{Writes}
use Rattle.card_print.specs.Printed.{printed_of, Prints}

never : (number : ℕ) → refused number ≡ accepted → ⊥
never number e = let z : ◌≡◌ {A = ℕ} 0 1 = cc in omega arith

module _ (shape : Shape) (role : ℕ) (image map : List ℕ) (entries : List Entry) (scratch text : List ℕ) where
  abbrev turned : Bool
  turned = turned_away role names.load

  abbrev loads : End
  loads = load_end shape role image map entries scratch

  abbrev verdict : Verdict
  verdict = load_verdict turned image (length map) (length entries) (length scratch)

  -- what stands after the load, by its verdict
  abbrev left : Verdict → Reply
  left v = reply_of (load_outcome_by shape (settle v
      (record { number = 0; blocks = (state_in image).blocks; free = (state_in image).spare })
      (λ number. record { number = number; blocks = 0; free = 0 })))

  abbrev words : Verdict → List ℕ
  words v = settle v (state_in image).map (λ number. map)

  abbrev sheets : Verdict → List Entry
  sheets v = settle v (state_in image).entries (λ number. entries)

  abbrev reply : Reply
  reply = reply_of loads.outcome

  abbrev card : List ℕ
  card = state_text (state_in image).blocks (state_in image).spare (state_in image).map (state_in image).entries

  abbrev Printed : ℕ → List ℕ → Type 0
  Printed r text' = Writes (printed_of turned image (length map) (length entries) (length scratch)) text 0 r text'

  -- a refusal is told by its number
  numbered : (number : ℕ) → verdict ≡ refused number → number ≡ 0 → ⊥
  numbered number e z =
      never number (sym e ∙ load_accepted turned image (length map) (length entries) (length scratch) (ap row_number e ∙ z))

  told : (number : ℕ) → verdict ≡ refused number → (left (refused number)).number ≡ number
  told number e = let some : eqb number 0 ≡ false = ne_eqb number 0 (numbered number e) in rw some refl

  -- the number says whether the load was accepted
  is_accepted : reply.number ≡ 0 → verdict ≡ accepted
  unfolding load_result
  is_accepted z = go verdict refl z
    where
      go : (v : Verdict) → verdict ≡ v → (left v).number ≡ 0 → verdict ≡ accepted
      go accepted e z = e
      go (refused number) e z = absurd (numbered number e (sym (told number e) ∙ z))

  -- then the map that it left fits the card
  fits : reply.number ≡ 0 → shape_fits reply.shape.blocks reply.shape.free (length loads.map) ≡ true
  unfolding load_result load_map
  fits z =
      let e = is_accepted z in
      let a = accepted_to turned image (length map) (length entries) (length scratch) e in
      let n : ℕ = (state_in image).blocks in
      let spare : ℕ = (state_in image).spare in
      let shape_is : shape_fits n spare (length (state_in image).map) ≡ true =
      ap (shape_fits n spare) (map_length image n (sheets_in image))
      ∙ (head_to n spare (sheets_in image) (total_of image) a.first).shape in
      subst (λ (v : Verdict). shape_fits (left v).shape.blocks (left v).shape.free (length (words v)) ≡ true) (sym e) shape_is

  -- and the text of the card that is left there is what is to be printed
  card_printed : reply.number ≡ 0 → (r : ℕ) (text' : List ℕ)
      → Writes (card_text reply.shape.blocks reply.shape.free (counts_of (free loads.map) reply.shape.blocks) loads.entries)
      text 0 r text'
      → Printed r text'
  unfolding load_result load_map load_entries
  card_printed z r text' =
      subst (λ (v : Verdict). Writes (card_text (left v).shape.blocks (left v).shape.free
      (counts_of (free (words v)) (left v).shape.blocks) (sheets v)) text 0 r text'
      → Writes (settle v card refusal_text) text 0 r text') (sym (is_accepted z)) (λ w. w)

  -- else the text of the refusal is
  refusal_printed : (reply.number ≡ 0 → ⊥) → (r : ℕ) (text' : List ℕ) → Writes (refusal_text reply.number) text 0 r text'
      → Printed r text'
  unfolding load_result
  refusal_printed d r text' w = go verdict refl d w
    where
      go : (v : Verdict) → verdict ≡ v → ((left v).number ≡ 0 → ⊥) → Writes (refusal_text (left v).number) text 0 r text'
          → Writes (settle v card refusal_text) text 0 r text'
      go accepted e d w = absurd (d refl)
      go (refused number) e d w = subst (λ (k : ℕ). Writes (refusal_text k) text 0 r text') (told number e) w

  -- what load leaves
  leaves : (loads.map ≡ load_map turned image map entries scratch)
      × (loads.entries ≡ load_entries turned image map entries scratch)
      × (loads.beside.scratch ≡ zeros_for scratch)
  unfolding load_result load_map load_entries load_scratch
  leaves = (refl, refl, refl)

  -- of what load and the reply came to
  module _ (loaded : Reply) (map' : List ℕ) (entries' : List Entry) (scratch' : List ℕ) (is : loaded ≡ reply)
      (maps : map' ≡ loads.map) (sheets' : entries' ≡ loads.entries) (scratches : scratch' ≡ loads.beside.scratch) where
    number_is : loaded.number ≡ reply.number
    number_is = ap (λ (x : Reply). x.number) is

    pub surveyed : loaded.number ≡ 0 → (loaded.shape.blocks ≤ 262144) × (loaded.shape.blocks ≤ 64 * length map')
    surveyed z =
        let f = shape_fits_to _ _ _ (fits (sym number_is ∙ z)) in
        rw (is, maps) (f.limit, f.covered)

    refusal_ends : (r : ℕ) (text' : List ℕ) → (loaded.number ≡ 0 → ⊥) → Writes (refusal_text loaded.number) text 0 r text'
        → Prints shape role image map entries scratch text r map' entries' scratch' text'
    refusal_ends r text' d w = (
      refusal_printed (λ z. d (number_is ∙ z)) r text'
          (subst (λ (k : ℕ). Writes (refusal_text k) text 0 r text') number_is w),
      maps ∙ leaves.0,
      sheets' ∙ leaves.1,
      scratches ∙ leaves.2,
    )

    card_ends : (counts : Counts) (r : ℕ) (text' : List ℕ) → loaded.number ≡ 0
        → counts ≡ counts_of (free map') loaded.shape.blocks
        → Writes (card_text loaded.shape.blocks loaded.shape.free counts entries') text 0 r text'
        → Prints shape role image map entries scratch text r map' entries' scratch' text'
    card_ends counts r text' z e w = (
      card_printed (sym number_is ∙ z) r text' (rw (e, is, maps, sheets') at w),
      maps ∙ leaves.0,
      sheets' ∙ leaves.1,
      scratches ∙ leaves.2,
    )

    -- both together: the text of the card where the load was accepted, and else that of the refusal
    pub prints : (counts : Counts) (r : ℕ) (text' : List ℕ)
        → (loaded.number ≡ 0 → (counts ≡ counts_of (free map') loaded.shape.blocks)
        × Writes (card_text loaded.shape.blocks loaded.shape.free counts entries') text 0 r text')
        → ((loaded.number ≡ 0 → ⊥) → Writes (refusal_text loaded.number) text 0 r text')
        → Prints shape role image map entries scratch text r map' entries' scratch' text'
    prints counts r text' card refusal = go (eqb loaded.number 0) refl
      where
        go : (t : Bool) → eqb loaded.number 0 ≡ t
            → Prints shape role image map entries scratch text r map' entries' scratch' text'
        go true e =
            let z : loaded.number ≡ 0 = eqb-true loaded.number 0 e in
            let w = card z in card_ends counts r text' z w.0 w.1
        go false e =
            let d : loaded.number ≡ 0 → ⊥ = λ z. let h : eqb loaded.number 0 ≡ true = rw z refl in cc in
            refusal_ends r text' d (refusal d)
