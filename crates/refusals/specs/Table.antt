-- The table of refusals (document 01, "What the caller gets instead"): for each call its rows, in the order 21
-- (document 02, request n), 1, 2, 4 for the entry, 5 to 8, 3, 15 (document 02, request a), 18 (request k), 19 (request m), 4
-- for blocks, with 20 between place 0 and the
-- place wanted (request m), 9, 10, 11 or 17 (request f), and last 4 for the count. A call is refused with the first row that
-- holds.
-- Assumes nothing.
use Rattle.std.specs.Prelude.{Option}
use Rattle.std.specs.Prelude.{ℕ, ◌+◌, Bool, true, false, not, ◌&&◌, ◌||◌, List, [], ◌∷◌, eqb, leb, ltb, length}
use Rattle.calendar.specs.Calendar.{Date, date_exists, day_number}
use Rattle.calendar.specs.Term.{Term, in_term}
use Rattle.map_blocks.specs.Blocks.{all, fit, least, least_fit}
use Rattle.refusals.specs.Placement.{Placement, plain, figures_in, misfigured}
use Rattle.refusals.specs.Shares.{over_limit}
use Rattle.refusals.specs.declared.Admits.{Admits}
use Rattle.refusals.specs.declared.Figures.{Figures}
use Rattle.catalogue.specs.Entries.{paused_mark, complete_mark}
use Rattle.catalogue_standings.specs.Searches.{none, start_at}
use Rattle.catalogue_standings.specs.Rows.{Row, row, Verdict, first_of}
use Rattle.catalogue_standings.specs.Standings.{is_absent, is_paused, is_paused_without, is_open, is_complete, is_damaged}
use Rattle.catalogue_standings.specs.Standings.{start_of, length_of}
use Rattle.catalogue_standings.specs.declared.Standing.{Standing}

-- The calls that change the mark of an entry and nothing else of a card.
pub data Change : Type 0 where
  pause resume : Change

-- Which standings each admits (document 01; document 02 (g)), and the mark that it leaves.
abbrev pub admits_of : Change → Admits
admits_of pause = record { absent = true; paused = false; pausedwith = false; «open» = false; complete = true }
admits_of resume = record { absent = false; paused = false; pausedwith = true; «open» = false; complete = false }

abbrev pub mark_after : Change → ℕ
mark_after pause = paused_mark
mark_after resume = complete_mark

-- What is asked of a sheet. A reserve of k blocks is plain or placed. With each call that takes blocks, or would, go the limits
-- of the eight wings (document 02 (k)).
pub data Ask : Type 0 where
  reserve : List ℕ → ℕ → Placement → Ask
  put : ℕ → List ℕ → Ask
  grow : List ℕ → ℕ → Ask
  complete : Ask
  change : Change → Ask
  release : Ask
  show : ℕ → List ℕ → Ask
  standing : Ask
  -- of document 02 (f): an offer of k blocks; an accept of k blocks from a start on
  offer : List ℕ → ℕ → Ask
  accept : List ℕ → ℕ → ℕ → Ask
  -- of document 02 (m): a show of a place on a date
  show_dated : ℕ → Date → List ℕ → Ask

-- a pause with blocks
abbrev is_paused_with : Standing → Bool
is_paused_with s = is_paused s && not (is_paused_without s)

-- A call for a sheet: something is asked of it.
pub data SheetCall : Type 0 where
  on : ℕ → Ask → SheetCall

-- What the rows read, for the sheet that is called for. The program's view is of shape, map, entry and card; the ledger's
-- is of the ledger.
pub record View : Type 0 where
  -- row 21: whoever calls may not make this call (document 02 (n))
  pub turned : Bool
  -- row 1: a limit or a lent length is wrong
  pub misfit : Bool
  -- n, c and the free count
  pub blocks : ℕ
  pub sheets : ℕ
  pub spare : ℕ
  -- the sheet's standing, and which blocks are free
  pub stands : Standing
  pub free : ℕ → Bool
  -- what the search of a reserve finds, within its figures, for k
  pub found : Figures → ℕ → Option ℕ
  -- a place of the sheet is blank, or its block is sound
  pub blank : ℕ → Bool
  pub sound : ℕ → Bool
  -- the two days that the payload of place 0 starts with
  pub term : Term
  -- the sheet's wing, and how many blocks it holds
  pub wing : ℕ
  pub held : ℕ

-- Rows 5 to 8, for a standing that a call does not admit.
abbrev pub absent_row : View → Row
absent_row v = row 5 (is_absent v.stands)

abbrev pub paused_row : View → Row
paused_row v = row 6 (is_paused v.stands)

abbrev pub open_row : View → Row
open_row v = row 7 (is_open v.stands)

abbrev pub complete_row : View → Row
complete_row v = row 8 (is_complete v.stands)

-- Rows 5 to 8 of a call that changes the mark: for what it does not admit.
abbrev pub refusing : Admits → View → List Row
refusing a v =
    let s = v.stands in
    row 5 (is_absent s && not a.absent)
    ∷ row 6 (is_paused_without s && not a.paused || is_paused_with s && not a.pausedwith)
    ∷ row 7 (is_open s && not a.open) ∷ row 8 (is_complete s && not a.complete) ∷ []

-- Rows 21, 1, 2 and 4 for the entry, before the rows of the call.
abbrev pub opening : View → ℕ → List Row → List Row
opening v sheet rows =
    row 21 v.turned ∷ row 1 v.misfit ∷ row 2 (leb v.sheets sheet) ∷ row 4 (is_damaged v.stands) ∷ rows

-- Rows 6 to 8 and 3 of a call that gives k blocks to an Absent sheet, before its own.
abbrev pub giving : View → ℕ → List Row → List Row
giving v k rows = paused_row v ∷ open_row v ∷ complete_row v ∷ row 3 (eqb k 0) ∷ rows

-- Rows 5, 6, 8 and 3 of a call that adds m blocks to an Open sheet, before its own.
abbrev pub adding : View → ℕ → List Row → List Row
adding v m rows = absent_row v ∷ paused_row v ∷ complete_row v ∷ row 3 (eqb m 0) ∷ rows

-- A place that the sheet does not have, or a slice that is not 496 bytes long.
abbrev pub misplaced : View → ℕ → List ℕ → Bool
misplaced v place slice = leb (length_of v.stands) place || not (eqb (length slice) 496)

-- Rows 5 to 7 and 3 of a call that shows a place of a Complete sheet, before its own.
abbrev pub showing : View → ℕ → List ℕ → List Row → List Row
showing v place buffer rows = absent_row v ∷ paused_row v ∷ open_row v ∷ row 3 (misplaced v place buffer) ∷ rows

-- The rows of a date (document 02 (m)), before those behind them: 19 "for a date that doesn't exist or lies outside the span";
-- 4 where place 0 is not sound; "20 for a day outside the term".
abbrev pub term_rows : Bool → Term → Date → List Row → List Row
term_rows sound term date rows =
    row 19 (not (date_exists date)) ∷ row 4 (not sound) ∷ row 20 (not (in_term term (day_number date))) ∷ rows

-- Every place of the sheet passes the test.
abbrev pub every_place : View → (ℕ → Bool) → Bool
every_place v test = all test 0 (length_of v.stands)

-- The lowest blank place of the sheet, which goes with 9 (document 02 (d)).
unfoldable pub lowest_blank : View → ℕ
unfolding least
lowest_blank v = start_at (least v.blank 0 (length_of v.stands))

-- Row 18 of a call that wants k blocks.
abbrev pub limit_row : View → List ℕ → ℕ → Row
limit_row v limits k = row 18 (over_limit limits v.wing v.held k)

-- The rows of a run that is asked for, of k blocks from a start on: not all of it is free and inside n, by the call's own
-- number; and 4 for the count.
abbrev pub run_rows : ℕ → View → ℕ → ℕ → List Row
run_rows number v start k = row number (not (fit v.free 0 v.blocks 1 k start)) ∷ row 4 (ltb v.spare k) ∷ []

-- The rows of a reserve, plain or placed. An offer has those of the plain one.
unfoldable pub reserve_rows : View → List ℕ → ℕ → Placement → List Row
unfolding fit least_fit
reserve_rows v limits k placement =
    let g = figures_in v.blocks placement in
    giving v k
    (row 15 (misfigured v.blocks g) ∷ limit_row v limits k ∷ row 10 (none (v.found g k)) ∷ row 4 (ltb v.spare k) ∷ [])

-- The rows of each, behind those that all begin with.
unfoldable pub rows_for : View → Ask → List Row
unfolding all fit reserve_rows
rows_for v (reserve limits k placement) = reserve_rows v limits k placement
rows_for v (put place payload) = absent_row v ∷ paused_row v ∷ complete_row v ∷ row 3 (misplaced v place payload) ∷ []
rows_for v (grow limits m) =
    adding v m (limit_row v limits m ∷ run_rows 11 v (start_of v.stands + length_of v.stands) m)
rows_for v complete =
    absent_row v ∷ paused_row v ∷ complete_row v ∷ row 4 (not (every_place v (λ p. v.blank p || v.sound p)))
    ∷ row 9 (not (every_place v (λ p. not (v.blank p)))) ∷ []
rows_for v (change c) = refusing (admits_of c) v
rows_for v release = absent_row v ∷ row 4 (ltb v.blocks (v.spare + length_of v.stands)) ∷ []
rows_for v (show place buffer) = showing v place buffer (row 4 (not (v.sound place)) ∷ [])
rows_for v (show_dated place date buffer) =
    showing v place buffer (term_rows (v.sound 0) v.term date (row 4 (not (v.sound place)) ∷ []))
rows_for v standing = []
rows_for v (offer limits k) = reserve_rows v limits k plain
rows_for v (accept limits start k) = giving v k (limit_row v limits k ∷ run_rows 17 v start k)

unfoldable pub table_of : View → SheetCall → List Row
unfolding rows_for
table_of v (on sheet ask) = opening v sheet (rows_for v ask)

-- The verdict on a call.
abbrev pub verdict_of : View → SheetCall → Verdict
verdict_of v c = first_of (table_of v c)
