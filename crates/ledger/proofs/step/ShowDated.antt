-- The dated show (document 02 (m)): on a day of the term that its payload of place 0 starts with, a place's payload goes to the
-- buffer, and nothing changes.
-- Assumes nothing.
use Prim.Native.Nat.{ℕ}
use mathlib.Core.Path.{◌≡◌, refl}
use mathlib.Core.Bool.{Bool, true, false}
use mathlib.Core.List.{List}
use native.Mathlib.Omega.{arith}
use Rattle.calendar.specs.Calendar.{Date}
use Rattle.catalogue_standings.specs.Rows.{Row, first_of}
use Rattle.refusals.specs.Effects as effects
use Rattle.refusals.specs.Table.{Ask, show_dated, rows_for, table_of}
use Rattle.catalogue_standings.proofs.Rows.{clear}
use Rattle.ledger.specs.Calls.{on}
use Rattle.ledger.specs.Ledger.{Sheet, listed, rows_in, verdict_in, deed_in}
use Rattle.ledger.proofs.Agreement.{Matches, OwnPlaces, says_on}
use Rattle.ledger.proofs.Results.{Result}
use Rattle.ledger.proofs.Showing.{misses, inside, sound_there, shows_place}

module _ (n : ℕ) (l : List Sheet) (card : List ℕ) (k : Matches n l card) (role i p : ℕ) (date : Date) (buffer : List ℕ) where
  abbrev ask : Ask
  ask = show_dated p date buffer

  abbrev rows : List Row
  rows = rows_in n l (on role i ask)

  -- it looks at place 0 and at the place wanted only, where the sheet has them, and at the term only where place 0 is sound
  own : OwnPlaces n l role i ask
  unfolding rows_for first_of
  own x y alike = go (misses n l i p buffer) refl (y.sound 0) refl
    where
      go : (t : Bool) → misses n l i p buffer ≡ t → (s : Bool) → y.sound 0 ≡ s → says_on n l role i ask x
          ≡ says_on n l role i ask y
      go true h s e = rw h
      go false h true e =
          let first = inside n l i p buffer h 0 (omega arith) in
          rw (alike.sound p (inside n l i p buffer h p (omega arith)), alike.sound 0 first, alike.term first e)
      go false h false e = rw (
        alike.sound p (inside n l i p buffer h p (omega arith)),
        alike.sound 0 (inside n l i p buffer h 0 (omega arith)),
        e,
      )

  pub show_dated_result : Result n l card (on role i ask) (verdict_in n l (on role i ask))
  unfolding effects.show_dated_answer effects.show_dated_buffer rows_for table_of listed deed_in
  show_dated_result = shows_place n l card k role i p buffer ask (record {
    ends_so = refl;
    own = own;
    never = (
      (λ h. sound_there n l i p buffer ((clear 5 _ h).0, (clear 6 _ h).0, (clear 7 _ h).0, (clear 3 _ h).0) 0 (omega arith)),
      (
        (λ h. sound_there n l i p buffer ((clear 5 _ h).0, (clear 6 _ h).0, (clear 7 _ h).0, (clear 3 _ h).0) p (omega arith)),
        tt,
      ),
    );
    no_row_0 = refl;
    no_row_9 = refl;
    does = λ n l. refl;
    passed = λ h. ((clear 5 rows h).0, (clear 6 rows h).0, (clear 7 rows h).0, (clear 3 rows h).0);
  })
