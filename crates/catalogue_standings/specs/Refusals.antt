-- The refusals that the program names, by their rows in document 01's table ("What the caller gets instead") and, from 15 on,
-- in document 02.
-- Assumes nothing.
use Rattle.std.specs.Prelude.{ℕ, ◌≡◌, Result, MatchResult, Ok, Err}
use Rattle.catalogue_standings.specs.Rows.{Verdict, accepted, refused}
use Rattle.catalogue_standings.specs.declared.Refusal.{Refusal}
use Rattle.catalogue_standings.specs.declared.Refusal.TheVariants.{Misfit, NoSuchSheet, WrongLength, Damaged, IsAbsent}
use Rattle.catalogue_standings.specs.declared.Refusal.TheVariants.{IsPaused, IsOpen, IsComplete, NoFit, NotFreeBehind}
use Rattle.catalogue_standings.specs.declared.Refusal.TheVariants.{ImageLength, ImageFrame, ImageContent, WrongFigures}
use Rattle.catalogue_standings.specs.declared.Refusal.TheVariants.{RunTaken, OverShare, NoDate, OutsideTerm, TurnedAway}

-- The number of the row.
abbrev pub number : Refusal → ℕ
number Misfit = 1
number NoSuchSheet = 2
number WrongLength = 3
number Damaged = 4
number IsAbsent = 5
number IsPaused = 6
number IsOpen = 7
number IsComplete = 8
number NoFit = 10
number NotFreeBehind = 11
number ImageLength = 12
number ImageFrame = 13
number ImageContent = 14
number WrongFigures = 15
number RunTaken = 17
number OverShare = 18
number NoDate = 19
number OutsideTerm = 20
number TurnedAway = 21

-- What a call's answer says of its verdict, and of the verdict's number: 0 where it goes on.
module _ {T : Type 0} where
  abbrev pub Follows : Verdict → Result T Refusal → Type 0
  Follows v r = MatchResult r (λ x. v ≡ accepted) (λ why. v ≡ refused (number why))

  abbrev pub number_in : Result T Refusal → ℕ
  number_in (Ok x) = 0
  number_in (Err r) = number r
