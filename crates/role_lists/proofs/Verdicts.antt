-- A show, dated or not, reads a block only of a Complete sheet, and only if it has the place: where another row refuses, what
-- the blocks would tell is open.
-- Assumes nothing.
use Prim.Native.Nat.{ℕ, ◌<◌}
use mathlib.Core.Path.{◌≡◌, refl, ap}
use mathlib.Core.Bool.{Bool, true, false, not, ◌||◌}
use mathlib.Core.List.{List, [], ◌∷◌}
use lib.Dec.{leb, eqb}
use borrow.Author.Tests.{leb-false}
use Rattle.calendar.specs.Calendar.{Date}
use Rattle.calendar.specs.Term.{Term}
use Rattle.catalogue_standings.specs.Rows.{Row, row, first_of, settle}
use Rattle.catalogue_standings.specs.Standings.{is_absent, is_paused, is_open, is_damaged, length_of}
use Rattle.catalogue_standings.specs.declared.Standing.{Standing}
use Rattle.catalogue_standings.specs.declared.Standing.TheVariants.{Absent, Paused, PausedWith, Open, Complete, Damaged}
use Rattle.refusals.specs.Table.{term_rows}

-- What a show reads of blocks: whether place 0 is sound, the term that it starts with, whether the place wanted is sound; and
-- what comes of it if it is done.
pub record Seen (A : Type 0) : Type 0 where
  pub first : Bool
  pub term : Term
  pub wanted : Bool
  pub done : A

-- the rows that read them: of a show, and of a show on a date
abbrev pub undated : Bool → Term → Bool → List Row
undated first term wanted = row 4 (not wanted) ∷ []

abbrev pub dated : Date → Bool → Term → Bool → List Row
dated date first term wanted = term_rows first term date (row 4 (not wanted) ∷ [])

module _ {A : Type 0} (refusal : ℕ → A) (rest : Bool → Term → Bool → List Row) (place bytes : ℕ) where
  -- what comes of the rows from 3 on, of a sheet of so many blocks
  unfoldable pub comes_of : ℕ → Seen A → A
  comes_of count seen =
      settle (first_of (row 3 (leb count place || not (eqb bytes 496)) ∷ rest seen.first seen.term seen.wanted))
      seen.done refusal

  -- and of all the rows
  unfoldable pub comes : Bool → Bool → Bool → Standing → Seen A → A
  comes turned misfit beyond stands seen =
      settle (first_of (row 21 turned ∷ row 1 misfit ∷ row 2 beyond ∷ row 4 (is_damaged stands) ∷ row 5 (is_absent stands)
      ∷ row 6 (is_paused stands) ∷ row 7 (is_open stands) ∷ row 3 (leb (length_of stands) place || not (eqb bytes 496))
      ∷ rest seen.first seen.term seen.wanted))
      seen.done refusal

  module _ (seen other : Seen A) where
    at_places : (count : ℕ) → (place < count → seen ≡ other) → comes_of count seen ≡ comes_of count other
    unfolding comes_of first_of
    at_places count same = by (leb count place) refl
      where
        by : (outside : Bool) → leb count place ≡ outside → comes_of count seen ≡ comes_of count other
        by true e = rw (e) refl
        by false e = ap (comes_of count) (same (leb-false count place e))

    pub only_complete : (turned misfit beyond : Bool) (stands : Standing)
        → ((start count : ℕ) → beyond ≡ false → stands ≡ Complete start count → place < count → seen ≡ other)
        → comes turned misfit beyond stands seen ≡ comes turned misfit beyond stands other
    unfolding comes comes_of first_of
    only_complete true misfit beyond stands same = refl
    only_complete false true beyond stands same = refl
    only_complete false false true stands same = refl
    only_complete false false false Absent same = refl
    only_complete false false false Paused same = refl
    only_complete false false false (PausedWith start count) same = refl
    only_complete false false false (Open start count) same = refl
    only_complete false false false (Complete start count) same = at_places count (same start count refl refl)
    only_complete false false false Damaged same = refl

    -- wherever a complete sheet starts
    pub moved : (count : ℕ) → (place < count → seen ≡ other) → (turned misfit beyond : Bool) (start then : ℕ)
        → comes turned misfit beyond (Complete start count) seen ≡ comes turned misfit beyond (Complete then count) other
    unfolding comes comes_of first_of
    moved count same true misfit beyond start then = refl
    moved count same false true beyond start then = refl
    moved count same false false true start then = refl
    moved count same false false false start then = at_places count same
