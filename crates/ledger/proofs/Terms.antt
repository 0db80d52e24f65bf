-- The term of a course (document 02 (m)): what specs/Terms.antt claims.
-- Assumes nothing.
use Prim.Native.Nat.{ℕ, ◌+◌, ◌*◌, ◌<◌}
use mathlib.Core.Path.{◌≡◌, refl, sym, ap, ◌∙◌}
use mathlib.Core.Bool.{Bool, true, false, not, cond}
use mathlib.Core.List.{List, []}
use native.Mathlib.Omega.{arith}
use lib.ListN.{length, get_or}
use borrow.Author.Tests.{lt-leb, eq-eqb}
use Rattle.laws.proofs.Bools.{clash}
use Rattle.calendar.specs.Calendar.{Date, date_exists, day_number}
use Rattle.calendar.specs.Term.{Term, term_of, in_term}
use Rattle.calendar.proofs.Terms.{term_first, term_last, term_holds}
use Rattle.blocks_of_card.specs.Card.{block_of}
use Rattle.block_seals.specs.Sealed.{payload_of}
use Rattle.catalogue.specs.Entries.{entry_at}
use Rattle.catalogue_standings.specs.Answers.{number_of}
use Rattle.catalogue_standings.specs.Rows.{Verdict, accepted, refused, first_of, settle}
use Rattle.catalogue_standings.specs.declared.Answer.TheVariants.{Done, Refused}
use Rattle.refusals.specs.Effects as effects
use Rattle.refusals.specs.Lent.{Lent}
use Rattle.roles.specs.Roles as roles
use Rattle.roles.specs.Roles.{may, turned_away}
use Rattle.refusals.specs.Table as table
use Rattle.refusals.specs.Table.{show, show_dated, lowest_blank, table_of}
use Rattle.refusals.specs.Views.{view_on}
use Rattle.refusals.proofs.ShowDated.{accepted_too}
use Rattle.card.specs.Calls.{Kept, lent_to, told}
use Rattle.card.specs.Public as public
use Rattle.card.specs.Public.{Manner, Beside, End, telling, ends, kept_after}
use Rattle.ledger.specs.Calls.{on}
use Rattle.ledger.specs.Ledger.{Place, Sheet, Complete, standing_in, bytes_of, sheet_at, place_at, view_in, listed, verdict_in}
use Rattle.ledger.specs.Ledger.{deed_in, after, begun}
use Rattle.ledger.specs.Answers.{Told, done, refused_with, told_in}
use Rattle.ledger.specs.Lists.{response_of, told_of, heard_in, heard_replies}
use Rattle.ledger.specs.Terms.{term_in, ShowsInTerm, ShowsExactlyInItsTerm, DoesWhatShowDoes}
use Rattle.ledger.proofs.Agreement.{Matches}
use Rattle.ledger.proofs.Demand.{Left, left_by_any, place_of}
use Rattle.ledger.proofs.Fresh.{Limits}
use Rattle.ledger.proofs.Pauses.{held_listed, told_after}
use Rattle.catalogue_standings.proofs.Rows.{clear, never_says}
use Rattle.ledger.proofs.Sheets.{holding}

-- ---- what the ledger answers to a dated show of a complete sheet's place

module _ (n : ℕ) (l : List Sheet) (card : List ℕ) (k : Matches n l card) (i s : ℕ) (xs : List (List ℕ))
    (e : sheet_at l i ≡ Complete s xs) (p : ℕ) (lp : p < length xs) (date : Date) (exists : date_exists date ≡ true)
    (role : ℕ) (may-show : may role roles.show_dated ≡ true) (buffer : List ℕ) (whole : length buffer ≡ 496)
  where
    abbrev day : ℕ
    day = day_number date

    abbrev outside : Told
    outside = record { number = 20; values = []; buffer = buffer }

    by-term : verdict_in n l (on role i (show_dated p date buffer))
        ≡ cond (not (in_term (term_of (bytes_of (place_at l i 0))) day)) (refused 20) accepted
    unfolding table_of listed first_of
    by-term =
        rw (
          may-show,
          ap standing_in e,
          lt-leb (length l) i (held_listed l i (ap holding e)),
          lt-leb (length xs) p lp,
          eq-eqb (length buffer) 496 whole,
          exists,
        ) refl

    first-place : term_of (bytes_of (place_at l i 0)) ≡ term_in xs
    first-place = ap (λ (x : Place). term_of (bytes_of x)) (place_of n l card k i s xs e 0 (omega arith))

    answers : told_in n l (on role i (show_dated p date buffer))
        ≡ cond (in_term (term_in xs) day) (done [] (get_or xs p [])) outside
    unfolding deed_in
    answers =
        ap (λ (v : Verdict). settle v (done [] (bytes_of (place_at l i p)))
        (refused_with buffer (lowest_blank (view_in n l i))))
        (by-term ∙ ap (λ (t : Term). cond (not (in_term t day)) (refused 20) accepted) first-place)
        ∙ go (in_term (term_in xs) day)
      where
        go : (t : Bool) → settle (cond (not t) (refused 20) accepted) (done [] (bytes_of (place_at l i p)))
            (refused_with buffer (lowest_blank (view_in n l i)))
            ≡ cond t (done [] (get_or xs p [])) outside
        go true = ap (λ (x : Place). done [] (bytes_of x)) (place_of n l card k i s xs e p lp)
        go false = refl

    pub in-term : (r : Told) → r ≡ told_in n l (on role i (show_dated p date buffer)) → ShowsInTerm xs p day buffer r
    in-term r is = by (in_term (term_in xs) day) refl (is ∙ answers)
      where
        by : (t : Bool) → in_term (term_in xs) day ≡ t → r ≡ cond t (done [] (get_or xs p [])) outside
            → ShowsInTerm xs p day buffer r
        by true h same = record {
          exactly = ((λ so. (term_first (term_in xs) day h, term_last (term_in xs) day h)), (λ within. same));
          otherwise = λ none. absurd (none (term_first (term_in xs) day h, term_last (term_in xs) day h));
        }
        by false h same = record {
          exactly = (
            (λ so. absurd (let z : ◌≡◌ {A = ℕ} 20 0 = ap (λ (x : Told). x.number) (sym same ∙ so) in omega arith)),
            (λ within. absurd (clash (in_term (term_in xs) day) (term_holds (term_in xs) day within.0 within.1) h)),
          );
          otherwise = λ none. same;
        }

module _ (n c : ℕ) (card : List ℕ) (limits : Limits n c) (room : length card ≡ 512 * n) where
  pub shows_exactly_in_its_term : ShowsExactlyInItsTerm n c card
  shows_exactly_in_its_term made es t any runs i s xs e p lp date exists buffer whole m may-show b =
      let w : Left n (begun c) (heard_in made es) (heard_replies made es) t =
      left_by_any n c card limits room made es t any runs in
      let came = ends m t b (public.on i (show_dated p date buffer)) in
      in-term n (after n (begun c) (heard_in made es)) w.card_left w.kept_left i s xs e p lp date exists m.role may-show
      buffer whole (told_of came)
      (told_after w (on m.role i (show_dated p date buffer)) (response_of came) (kept_after came) (refl, refl))

-- ---- a dated show that is done does what a show does

module _ (s : Kept) (m other : Manner) (b : Beside) (sheet p : ℕ) (may-show : may other.role roles.show ≡ true) (date : Date)
    (buffer : List ℕ) where
  abbrev away : Bool
  away = turned_away m.role roles.show_dated

  abbrev q : Lent
  q = lent_to away s s.card sheet

  -- what either comes to, by its verdict
  abbrev comes_to : Verdict → End
  comes_to v =
      telling s b (told s.shape (settle v Done Refused))
      (settle v (payload_of (block_of s.card ((entry_at s.entries sheet).start + p))) (λ number. buffer))

  done_accepted : number_of (effects.show_dated_answer q p date buffer) ≡ 0 → effects.show_dated_verdict q p date buffer
      ≡ accepted
  unfolding effects.show_dated_answer effects.show_dated_verdict table_of
  done_accepted h = go (effects.show_dated_verdict q p date buffer) refl h
    where
      go : (v : Verdict) → effects.show_dated_verdict q p date buffer ≡ v → number_of (settle v Done Refused) ≡ 0
          → effects.show_dated_verdict q p date buffer ≡ accepted
      go accepted e h = e
      go (refused number) e h =
          absurd (never_says 0 (table_of (view_on q) (table.on sheet (show_dated p date buffer))) refl (e ∙ ap refused h))

  not_turned : effects.show_dated_verdict q p date buffer ≡ accepted → away ≡ false
  unfolding effects.show_dated_verdict table_of view_on
  not_turned h = (clear 21 (table_of (view_on q) (table.on sheet (show_dated p date buffer))) h).0

  same_end : effects.show_dated_verdict q p date buffer ≡ accepted
      → ends m s b (public.on sheet (show_dated p date buffer)) ≡ ends other s b (public.on sheet (show p buffer))
  unfolding effects.show_dated_answer effects.show_dated_buffer effects.show_answer effects.show_buffer
  same_end h =
      ap comes_to (h ∙ sym (ap (λ (t : Bool). effects.show_verdict (lent_to t s s.card sheet) p buffer) same_turn
      ∙ accepted_too q p date buffer h))
    where
      same_turn : turned_away other.role roles.show ≡ away
      same_turn = ap not may-show ∙ sym (not_turned h)

pub does_what_show_does : DoesWhatShowDoes
does_what_show_does s m other b sheet p date buffer may-show zero =
    same_end s m other b sheet p may-show date buffer (done_accepted s m other b sheet p may-show date buffer zero)
