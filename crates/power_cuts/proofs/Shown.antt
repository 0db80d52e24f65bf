-- A Complete sheet shows what it showed, or is refused with 4, where each of its blocks that is sound for it has the bytes
-- that it
-- had: `shows_or_refuses`.
-- Assumes nothing.
use Prim.Native.Nat.{ℕ, ◌+◌, ◌*◌, ◌<◌}
use mathlib.Core.Path.{◌≡◌, refl, sym, ap, subst, ◌∙◌}
use mathlib.Core.Logic.{◌⊎◌, inl, inr}
use mathlib.Core.Bool.{Bool, true, false, not, ◌&&◌, ◌||◌}
use mathlib.Core.List.{List, [], ◌∷◌, ◌++◌}
use native.Mathlib.Nat.{add-zero}
use native.Mathlib.Omega.{arith}
use lib.Dec.{leb, eqb}
use lib.ListN.{length}
use borrow.Author.Tests.{leb-false}
use Rattle.laws.proofs.Bools.{neither_left}
use Rattle.calendar.specs.Calendar.{Date, date_exists, day_number}
use Rattle.calendar.specs.Term.{Term, term_of, in_term}
use Rattle.blocks_of_card.specs.Card.{block_of}
use Rattle.block_seals.specs.Sealed.{sound, payload_of}
use Rattle.catalogue.specs.Entries.{entry_at}
use Rattle.catalogue_standings.specs.Limits.{shape_fits, sheets_fit}
use Rattle.catalogue_standings.specs.Rows.{Row, row, Verdict, accepted, refused, first_of, settle}
use Rattle.catalogue_standings.specs.Standings.{is_absent, is_paused, is_open, is_damaged, length_of}
use Rattle.catalogue_standings.specs.declared.Answer.TheVariants.{Refused}
use Rattle.catalogue_standings.specs.declared.Standing.{Standing}
use Rattle.catalogue_standings.specs.declared.Standing.TheVariants.{Complete}
use Rattle.catalogue_standings.proofs.Rows.{first_then, clear, not_refused}
use Rattle.refusals.specs.Effects as effects
use Rattle.refusals.specs.Guides.{guide_fits}
use Rattle.refusals.specs.Table.{table_of, rows_for, term_rows, show, show_dated}
use Rattle.refusals.specs.Views.{view_on}
use Rattle.card.specs.Calls.{Kept, lent_to, told}
use Rattle.card.specs.Public.{on, turned}
use Rattle.role_lists.specs.Carers.{stands}
use Rattle.power_cuts.specs.Images.{recalled}
use Rattle.power_cuts.specs.Rule.{ShowsOrRefuses}

-- ---- two verdicts and the blocks that they are of

-- the same verdict and, if it is acceptance, the same block; or a refusal with 4
abbrev SameOr4 : Verdict → Verdict → Type 0 → Type 0
SameOr4 v w Same = ((v ≡ w) × (w ≡ accepted → Same)) ⊎ (v ≡ refused 4)

-- rows that both have come first
behind_rows : (front first second : List Row) (Same : Type 0) → (first_of front ≡ accepted → SameOr4 (first_of first)
    (first_of second) Same)
    → SameOr4 (first_of (front ++ first)) (first_of (front ++ second)) Same
behind_rows front first second Same h =
    subst (λ (v : Verdict). SameOr4 v (first_of (front ++ second)) Same) (sym (first_then front first))
    (subst (λ (w : Verdict). SameOr4 (settle (first_of front) (first_of first) refused) w Same) (sym (first_then front second))
    (go (first_of front) h))
  where
    go : (v : Verdict) → (v ≡ accepted → SameOr4 (first_of first) (first_of second) Same)
        → SameOr4 (settle v (first_of first) refused) (settle v (first_of second) refused) Same
    go accepted k = k refl
    go (refused number) k = inl (refl, λ e. absurd (not_refused number e))

-- a place of a block that, if it is sound, has the bytes that it had
undated_rows : (sheet place : ℕ) (new old : List ℕ) → (sound sheet place new ≡ true → new ≡ old)
    → SameOr4 (first_of (row 4 (not (sound sheet place new)) ∷ [])) (first_of (row 4 (not (sound sheet place old)) ∷ []))
    (new ≡ old)
unfolding first_of
undated_rows sheet place new old same = go (sound sheet place new) refl
  where
    go : (b : Bool) → sound sheet place new ≡ b
        → SameOr4 (first_of (row 4 (not (sound sheet place new)) ∷ [])) (first_of (row 4 (not (sound sheet place old)) ∷ []))
        (new ≡ old)
    go true e = inl (ap (λ (x : List ℕ). first_of (row 4 (not (sound sheet place x)) ∷ [])) (same e), λ z. same e)
    go false e = inr (ap (λ (x : Bool). first_of (row 4 (not x) ∷ [])) e)

-- the same behind the rows of a date, which read place 0
dated_rows : (sheet place : ℕ) (date : Date) (zeroth first new old : List ℕ)
    → (sound sheet 0 zeroth ≡ true → zeroth ≡ first) → (sound sheet place new ≡ true → new ≡ old)
    → SameOr4
    (first_of (term_rows (sound sheet 0 zeroth) (term_of (payload_of zeroth)) date (row 4 (not (sound sheet place new)) ∷ [])))
    (first_of (term_rows (sound sheet 0 first) (term_of (payload_of first)) date (row 4 (not (sound sheet place old)) ∷ [])))
    (new ≡ old)
unfolding first_of
dated_rows sheet place date zeroth first new old same_first same = go (date_exists date) (sound sheet 0 zeroth) refl
  where
    rows : Bool → Bool → Term → List ℕ → List Row
    rows exists sound-first term block =
        row 19 (not exists) ∷ row 4 (not sound-first) ∷ row 20 (not (in_term term (day_number date)))
        ∷ row 4 (not (sound sheet place block)) ∷ []

    go : (exists b : Bool) → sound sheet 0 zeroth ≡ b
        → SameOr4 (first_of (rows exists (sound sheet 0 zeroth) (term_of (payload_of zeroth)) new))
        (first_of (rows exists (sound sheet 0 first) (term_of (payload_of first)) old)) (new ≡ old)
    go false b e = inl (refl, λ z. absurd (not_refused 19 z))
    go true false e = inr (ap (λ (x : Bool). first_of (rows true x (term_of (payload_of zeroth)) new)) e)
    go true true e =
        subst (λ (x : List ℕ). SameOr4 (first_of (rows true (sound sheet 0 zeroth) (term_of (payload_of zeroth)) new))
        (first_of (rows true (sound sheet 0 x) (term_of (payload_of x)) old)) (new ≡ old)) (same_first e)
        (subst (λ (x : Bool). SameOr4 (first_of (rows true x (term_of (payload_of zeroth)) new))
        (first_of (rows true x (term_of (payload_of zeroth)) old)) (new ≡ old)) (sym e)
        (behind_rows (row 19 false ∷ row 4 false ∷ row 20 (not (in_term (term_of (payload_of zeroth)) (day_number date))) ∷ [])
        (row 4 (not (sound sheet place new)) ∷ []) (row 4 (not (sound sheet place old)) ∷ []) (new ≡ old)
        (λ z. undated_rows sheet place new old same)))

-- ---- a state, and the same with another card

module _ (s : Kept) (card : List ℕ) (sheet start count : ℕ) (complete : stands s sheet ≡ Complete start count)
    (long : length card ≡ length s.card)
    (same : (q : ℕ) → q < count → sound sheet q (block_of card ((entry_at s.entries sheet).start + q)) ≡ true
    → block_of card ((entry_at s.entries sheet).start + q) ≡ block_of s.card ((entry_at s.entries sheet).start + q)) where
  abbrev e : ℕ
  e = (entry_at s.entries sheet).start

  abbrev misfit_with : ℕ → Bool
  misfit_with bytes =
      not (guide_fits false [] (length s.map) && (shape_fits s.shape.blocks s.shape.free (length s.map)
      && sheets_fit (length s.entries) && eqb bytes (512 * s.shape.blocks)))

  -- the rows before those that read blocks
  abbrev front_of : Bool → ℕ → ℕ → ℕ → Standing → List Row
  front_of away place bytes of-card st =
      row 21 away ∷ row 1 (misfit_with of-card) ∷ row 2 (leb (length s.entries) sheet) ∷ row 4 (is_damaged st)
      ∷ row 5 (is_absent st) ∷ row 6 (is_paused st) ∷ row 7 (is_open st)
      ∷ row 3 (leb (length_of st) place || not (eqb bytes 496)) ∷ []

  -- where they accept, the sheet has the place
  has_place : (away : Bool) (place bytes of-card : ℕ) → first_of (front_of away place bytes of-card (stands s sheet)) ≡ accepted
      → place < count
  has_place away place bytes of-card h =
      let r = (clear 3 (front_of away place bytes of-card (stands s sheet)) h).0 in
      let l = leb-false (length_of (stands s sheet)) place (neither_left _ (not (eqb bytes 496)) r) in
      omega (arith, l, ap length_of complete)

  abbrev rows_of : Bool → ℕ → ℕ → ℕ → List Row → List Row
  rows_of away place bytes of-card rest = front_of away place bytes of-card (stands s sheet) ++ rest

  -- what comes of two verdicts
  comes : (v w : Verdict) (new old buffer : List ℕ) → SameOr4 v w (new ≡ old)
      → ((told s.shape (effects.shown_answer v) ≡ told s.shape (effects.shown_answer w))
      × (effects.shown_buffer v new buffer ≡ effects.shown_buffer w old buffer))
      ⊎ ((effects.shown_answer v ≡ Refused 4) × (effects.shown_buffer v new buffer ≡ buffer))
  comes v w new old buffer (inl h) = inl (
    ap (λ (x : Verdict). told s.shape (effects.shown_answer x)) h.0,
    ap (λ (x : Verdict). effects.shown_buffer x new buffer) h.0 ∙ go w h.1,
  )
    where
      go : (x : Verdict) → (x ≡ accepted → new ≡ old) → effects.shown_buffer x new buffer ≡ effects.shown_buffer x old buffer
      go accepted k = ap payload_of (k refl)
      go (refused number) k = refl
  comes v w new old buffer (inr h) =
      inr (ap effects.shown_answer h, ap (λ (x : Verdict). effects.shown_buffer x new buffer) h)

  module _ (away : Bool) (place : ℕ) (buffer : List ℕ) where
    show-rows : (c : List ℕ) → effects.show_verdict (lent_to away (recalled s c) c sheet) place buffer
        ≡ first_of (rows_of away place (length buffer) (length c)
        (row 4 (not (sound sheet place (block_of c (e + place)))) ∷ []))
    unfolding effects.show_verdict table_of rows_for view_on
    show-rows c = refl

    show-so : SameOr4 (effects.show_verdict (lent_to away (recalled s card) card sheet) place buffer)
        (effects.show_verdict (lent_to away s s.card sheet) place buffer)
        (block_of card (e + place) ≡ block_of s.card (e + place))
    show-so =
        subst (λ (v : Verdict). SameOr4 v (effects.show_verdict (lent_to away s s.card sheet) place buffer)
        (block_of card (e + place) ≡ block_of s.card (e + place)))
        (sym (show-rows card ∙ ap (λ (n : ℕ). first_of (rows_of away place (length buffer) n
        (row 4 (not (sound sheet place (block_of card (e + place)))) ∷ []))) long))
        (subst (λ (w : Verdict). SameOr4 (first_of (rows_of away place (length buffer) (length s.card)
        (row 4 (not (sound sheet place (block_of card (e + place)))) ∷ []))) w
        (block_of card (e + place) ≡ block_of s.card (e + place)))
        (sym (show-rows s.card))
        (behind_rows (front_of away place (length buffer) (length s.card) (stands s sheet)) _ _ _
        (λ h. undated_rows sheet place (block_of card (e + place)) (block_of s.card (e + place))
        (same place (has_place away place (length buffer) (length s.card) h)))))

    module _ (date : Date) where
      dated-of : (c : List ℕ) → effects.show_dated_verdict (lent_to away (recalled s c) c sheet) place date buffer
          ≡ first_of (rows_of away place (length buffer) (length c)
          (term_rows (sound sheet 0 (block_of c (e + 0))) (term_of (payload_of (block_of c e))) date
          (row 4 (not (sound sheet place (block_of c (e + place)))) ∷ [])))
      unfolding effects.show_dated_verdict table_of rows_for view_on
      dated-of c = refl

      -- place 0 is read where the sheet starts
      zeroth : (c : List ℕ) → effects.show_dated_verdict (lent_to away (recalled s c) c sheet) place date buffer
          ≡ first_of (rows_of away place (length buffer) (length c)
          (term_rows (sound sheet 0 (block_of c (e + 0))) (term_of (payload_of (block_of c (e + 0)))) date
          (row 4 (not (sound sheet place (block_of c (e + place)))) ∷ [])))
      zeroth c = dated-of c ∙ ap (λ (b : ℕ). first_of (rows_of away place (length buffer) (length c)
          (term_rows (sound sheet 0 (block_of c (e + 0))) (term_of (payload_of (block_of c b))) date
          (row 4 (not (sound sheet place (block_of c (e + place)))) ∷ [])))) (sym (add-zero e))

      abbrev rest_of : List ℕ → List Row
      rest_of c = term_rows (sound sheet 0 (block_of c (e + 0))) (term_of (payload_of (block_of c (e + 0)))) date
          (row 4 (not (sound sheet place (block_of c (e + place)))) ∷ [])

      dated-so : SameOr4 (effects.show_dated_verdict (lent_to away (recalled s card) card sheet) place date buffer)
          (effects.show_dated_verdict (lent_to away s s.card sheet) place date buffer)
          (block_of card (e + place) ≡ block_of s.card (e + place))
      dated-so =
          subst (λ (v : Verdict). SameOr4 v (effects.show_dated_verdict (lent_to away s s.card sheet) place date buffer)
          (block_of card (e + place) ≡ block_of s.card (e + place)))
          (sym (zeroth card ∙ ap (λ (n : ℕ). first_of (rows_of away place (length buffer) n (rest_of card))) long))
          (subst (λ (w : Verdict). SameOr4 (first_of (rows_of away place (length buffer) (length s.card) (rest_of card))) w
          (block_of card (e + place) ≡ block_of s.card (e + place)))
          (sym (zeroth s.card))
          (behind_rows (front_of away place (length buffer) (length s.card) (stands s sheet)) (rest_of card) (rest_of
          s.card) _
          (λ h.
          let l = has_place away place (length buffer) (length s.card) h in
          dated_rows sheet place date (block_of card (e + 0)) (block_of s.card (e + 0)) (block_of card (e + place))
          (block_of s.card (e + place)) (same 0 (omega (arith, l))) (same place l))))

  pub shows_or_refuses : ShowsOrRefuses s (recalled s card) sheet
  unfolding effects.show_answer effects.show_buffer effects.show_dated_answer effects.show_dated_buffer
  shows_or_refuses = record {
    plainly = λ m b place buffer.
        comes _ _ (block_of card (e + place)) (block_of s.card (e + place)) buffer
        (show-so (turned m (on sheet (show place buffer))) place buffer);
    on_a_day = λ m b place date buffer.
        comes _ _ (block_of card (e + place)) (block_of s.card (e + place)) buffer
        (dated-so (turned m (on sheet (show_dated place date buffer))) place buffer date);
  }
