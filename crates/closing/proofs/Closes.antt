-- What a closing answers and leaves, by its rows.
-- Assumes nothing.
use Rattle.std.proofs.Common.{◌≡◌, ℕ, ◌-◌, ◌*◌, ◌≤◌, Bool, true, false, cond, not, ◌&&◌, eqb, List, length, replicate, sym}
use Rattle.std.proofs.Common.{refl, Option, SomeIff, Result, Ok, Err, MatchResult}
use Rattle.std.proofs.Common.{ap, ◌∙◌, ap₂, arith, eqb-true}
use Rattle.laws.proofs.Bools.{and_left, and_right}
use Rattle.catalogue.specs.Entries.{held}
use Rattle.catalogue.specs.declared.Entry.{Entry}
use Rattle.catalogue_standings.specs.Rows.{Verdict, accepted, refused, first_of, settle, row_number}
use Rattle.catalogue_standings.proofs.Rows.{never_says}
use Rattle.image_soundness.specs.Sound.{State, sound}
use Rattle.image_soundness.specs.Windows.{state_tested}
use Rattle.image.proofs.Refused.{not_zero}
use Rattle.catalogue_standings.specs.Refusals.{number, number_in}
use Rattle.catalogue_standings.specs.declared.Refusal.{Refusal}
use Rattle.image_soundness.proofs.Tested.{subtracted_sound}
use Rattle.image_soundness.proofs.WhenSound.{sound_to}
use Rattle.image.specs.Table.{save_fits}
use Rattle.image.proofs.Fitting.{SaveFits, save_fits_to}
use Rattle.closing.specs.Closed.{first_taken, closed_entries, closed_card, closed_map}
use Rattle.closing.specs.Table.{close_fits, close_rows, close_verdict}
use Rattle.closing.specs.Effects.{close_number, close_map, close_entries, close_card, close_scratch, Closes}
use Rattle.closing.specs.Rounds.{rounds_at, rounds_entries, rounds_card}
use Rattle.closing.proofs.Closing.{Made, rounds_close}
use Rattle.closing.proofs.Kept.{held_fits}

-- what row 1 leaves
pub record Lengths (n spare c maplen cardlen scratchlen : ℕ) : Type 0 where
  pub saved : SaveFits n spare c maplen scratchlen
  pub bytes : cardlen ≡ 512 * n

pub close_fits_to : (n spare : ℕ) (fits : Bool) (c maplen cardlen scratchlen : ℕ)
    → close_fits n spare fits c maplen cardlen scratchlen ≡ true → Lengths n spare c maplen cardlen scratchlen
unfolding close_fits
close_fits_to n spare fits c maplen cardlen scratchlen e =
    let a : Bool = save_fits n spare c maplen scratchlen in
    let b : Bool = eqb cardlen (512 * n) in
    let ab = and_left (a && b) fits e in
    record {
      saved = save_fits_to n spare c maplen scratchlen (and_left a b ab);
      bytes = eqb-true cardlen (512 * n) (and_right a b ab);
    }

-- and of what else is lent
pub fits_beside : (n spare : ℕ) (fits : Bool) (c maplen cardlen scratchlen : ℕ)
    → close_fits n spare fits c maplen cardlen scratchlen ≡ true → fits ≡ true
unfolding close_fits
fits_beside n spare fits c maplen cardlen scratchlen e =
    and_right (save_fits n spare c maplen scratchlen && eqb cardlen (512 * n)) fits e

-- the verdict, by rows 21, 1 and 4
module _ (turned : Bool) (s : State) (fits : Bool) (cardlen scratchlen : ℕ) where
  abbrev fit : Bool
  fit = close_fits s.blocks s.spare fits (length s.entries) (length s.map) cardlen scratchlen

  abbrev rows : Bool → Bool → Bool → Verdict
  rows t f w = cond t (refused 21) (cond (not f) (refused 1) (cond (not w) (refused 4) accepted))

  verdict_is : close_verdict turned s fits cardlen scratchlen ≡ rows turned fit (sound s)
  unfolding close_verdict close_rows first_of
  verdict_is = refl

  pub verdict_21 : turned ≡ true → close_verdict turned s fits cardlen scratchlen ≡ refused 21
  verdict_21 t = verdict_is ∙ ap (λ (x : Bool). rows x fit (sound s)) t

  module _ (t : turned ≡ false) where
    pub verdict-1 : fit ≡ false → close_verdict turned s fits cardlen scratchlen ≡ refused 1
    verdict-1 e = verdict_is ∙ ap₂ (λ (x f : Bool). rows x f (sound s)) t e

    pub verdict-4 : fit ≡ true → sound s ≡ false → close_verdict turned s fits cardlen scratchlen ≡ refused 4
    verdict-4 e w = verdict_is ∙ ap (λ (x : Bool). rows x fit (sound s)) t ∙ ap₂ (rows false) e w

    pub verdict-0 : fit ≡ true → sound s ≡ true → close_verdict turned s fits cardlen scratchlen ≡ accepted
    verdict-0 e w = verdict_is ∙ ap (λ (x : Bool). rows x fit (sound s)) t ∙ ap₂ (rows false) e w

-- a refusal has a number
pub refused_number : (turned : Bool) (s : State) (fits : Bool) (cardlen scratchlen number : ℕ)
    → close_verdict turned s fits cardlen scratchlen ≡ refused number → number ≡ 0 → ⊥
unfolding close_verdict close_rows
refused_number turned s fits cardlen scratchlen number v z =
    never_says 0 (close_rows turned s fits cardlen scratchlen) refl (v ∙ ap refused z)

module _ (turned : Bool) (n spare : ℕ) (fits : Bool) (map : List ℕ) (entries : List Entry) (card scratch : List ℕ) where
  abbrev state : State
  state = record { blocks = n; spare = spare; entries = entries; map = map }

  abbrev row_1 : Bool
  row_1 = close_fits n spare fits (length entries) (length map) (length card) (length scratch)

  abbrev ruled : Verdict
  ruled = close_verdict turned state fits (length card) (length scratch)

  abbrev told : ℕ
  told = close_number turned n spare fits map entries card scratch

  -- the rows, one by one
  pub told_21 : turned ≡ true → 21 ≡ told
  unfolding close_number
  told_21 t = sym (ap row_number (verdict_21 turned state fits (length card) (length scratch) t))

  module _ (t : turned ≡ false) where
    pub told-1 : row_1 ≡ false → 1 ≡ told
    unfolding close_number
    told-1 f = sym (ap row_number (verdict-1 turned state fits (length card) (length scratch) t f))

    module _ (f : row_1 ≡ true) where
      long : Lengths n spare (length entries) (length map) (length card) (length scratch)
      long = close_fits_to n spare fits (length entries) (length map) (length card) (length scratch) f

      -- whether the state is sound, as it was tested
      pub whole_tested : (blocks : Option ℕ) → SomeIff blocks (spare ≤ n) (n - spare)
          → state_tested map entries (length scratch) n blocks ≡ sound state
      whole_tested = subtracted_sound state (length scratch) long.saved.shape long.saved.scratch

      pub told-4 : sound state ≡ false → 4 ≡ told
      unfolding close_number
      told-4 w = sym (ap row_number (verdict-4 turned state fits (length card) (length scratch) t f w))

      pub told-0 : sound state ≡ true → 0 ≡ told
      unfolding close_number
      told-0 w = sym (ap row_number (verdict-0 turned state fits (length card) (length scratch) t f w))

  pub cleared : (left : List ℕ) → left ≡ replicate (length scratch) 0
      → left ≡ close_scratch turned n spare fits map entries card scratch
  unfolding close_scratch
  cleared left e = e

  -- a refusal: nothing is changed
  pub refused_close : (r : Refusal) → number r ≡ told
      → (map ≡ close_map turned n spare fits map entries card scratch)
      × (entries ≡ close_entries turned n spare fits map entries card scratch)
      × (card ≡ close_card turned n spare fits map entries card scratch)
  unfolding close_number close_map close_entries close_card
  refused_close r e = by ruled (λ z. not_zero r (e ∙ z))
    where
      by : (v : Verdict) → (row_number v ≡ 0 → ⊥) → (map ≡ settle v (closed_map entries n map) (λ number. map))
          × (entries ≡ settle v (closed_entries entries) (λ number. entries))
          × (card ≡ settle v (closed_card entries card) (λ number. card))
      by accepted h = absurd (h refl)
      by (refused k) h = (refl, refl, refl)

  -- an accepted closing
  module _ (zero : 0 ≡ told) where
    record Held : Type 0 where
      verdict : ruled ≡ accepted
      fit : row_1 ≡ true
      whole : sound state ≡ true

    holding : Held
    holding = by turned row_1 (sound state) refl refl refl
      where
        by : (t f w : Bool) → turned ≡ t → row_1 ≡ f → sound state ≡ w → Held
        by true f w a e d = absurd (omega (arith, zero, told_21 a))
        by false false w a e d = absurd (omega (arith, zero, told-1 a e))
        by false true false a e d = absurd (omega (arith, zero, told-4 a e d))
        by false true true a e d = record {
          verdict = verdict-0 turned state fits (length card) (length scratch) a e d;
          fit = e;
          whole = d;
        }

    lens : Lengths n spare (length entries) (length map) (length card) (length scratch)
    lens = close_fits_to n spare fits (length entries) (length map) (length card) (length scratch) holding.fit

    made : Made entries card
    made =
        rounds_close state card (sound_to state holding.whole) lens.saved.limits.limit lens.saved.count.few
        (omega (arith, lens.bytes))

    pub markable : (h : ℕ) → h ≡ rounds_at entries card (length entries) 0
        → (length map ≤ 4096) × (n ≤ 262144) × (n ≤ 64 * length map) × (h ≤ n)
    markable h e =
        let l = lens.saved.limits in
        let few : held entries ≤ n = held_fits state (sound_to state holding.whole) in
        (omega (arith, l.words, l.limit), l.limit, l.covered, omega (arith, made.ends, few))

    pub closed : (h : ℕ) (map' : List ℕ) (entries' : List Entry) (card' : List ℕ)
        → h ≡ rounds_at entries card (length entries) 0 → map' ≡ first_taken h n (length map)
        → entries' ≡ rounds_entries entries card (length entries) 0 → card' ≡ rounds_card entries card (length entries) 0
        → (map' ≡ close_map turned n spare fits map entries card scratch)
        × (entries' ≡ close_entries turned n spare fits map entries card scratch)
        × (card' ≡ close_card turned n spare fits map entries card scratch)
    unfolding close_map close_entries close_card closed_map
    closed h map' entries' card' eh em ee ec =
        let v = sym holding.verdict in (
          em ∙ ap (λ (x : ℕ). first_taken x n (length map)) (eh ∙ made.ends)
              ∙ ap (λ (w : Verdict). settle w (closed_map entries n map) (λ number. map)) v,
          ee ∙ made.entries ∙ ap (λ (w : Verdict). settle w (closed_entries entries) (λ number. entries)) v,
          ec ∙ made.cards ∙ ap (λ (w : Verdict). settle w (closed_card entries card) (λ number. card)) v,
        )

  -- what a closing answers, with the scratch cleared: done, what the rounds made, and refused, what was lent
  pub record AllRounds (map' : List ℕ) (entries' : List Entry) (card' : List ℕ) : Type 0 where
    pub maps : map' ≡ first_taken (rounds_at entries card (length entries) 0) n (length map)
    pub sheets : entries' ≡ rounds_entries entries card (length entries) 0
    pub cards : card' ≡ rounds_card entries card (length entries) 0

  pub closes : (r : Result (Unit {0}) Refusal) (map' : List ℕ) (entries' : List Entry) (card' left : List ℕ)
      → number_in r ≡ told → left ≡ replicate (length scratch) 0
      → MatchResult r (λ _. AllRounds map' entries' card') (λ _. (map' ≡ map) × (entries' ≡ entries) × (card' ≡ card))
      → Closes turned n spare fits map entries card scratch (number_in r) map' entries' card' left
  closes (Ok done) map' entries' card' left e z made =
      let r = closed e _ map' entries' card' refl made.maps made.sheets made.cards in
      (e, r.0, r.1, r.2, cleared left z)
  closes (Err why) map' entries' card' left e z same =
      let r = refused_close why e in
      (e, same.0 ∙ r.0, same.1 ∙ r.1, same.2 ∙ r.2, cleared left z)
