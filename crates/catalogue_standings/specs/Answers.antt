-- The numbers and values that document 01 gives for each answer.
-- Assumes nothing.
use Rattle.std.specs.Prelude.{ℕ, List, [], ◌∷◌, Result, Ok, Err}
use Rattle.catalogue_standings.specs.Refusals.{number}
use Rattle.catalogue_standings.specs.declared.Refusal.{Refusal}
use Rattle.catalogue_standings.specs.declared.Answer.{Answer}
use Rattle.catalogue_standings.specs.declared.Answer.TheVariants.{Done, Start, Reads, Counted, Own, Blank, Refused}

-- 0 for a call that was accepted, or the refusal's number.
abbrev pub number_of : Answer → ℕ
number_of Done = 0
number_of (Start s space) = 0
number_of (Reads m s l) = 0
number_of (Counted f r l) = 0
number_of (Own own) = 0
number_of (Blank p) = 9
number_of (Refused k) = k

-- The values that go with it: a reserve's or a search's start and the space behind it (document 02 (b)); mark, start and
-- length; a survey's counts; 1 if a summary is the map's own, else 0 (document 02 (j)); the place with 9.
abbrev pub values_of : Answer → List ℕ
values_of Done = []
values_of (Start s space) = s ∷ space ∷ []
values_of (Reads m s l) = m ∷ s ∷ l ∷ []
values_of (Counted f r l) = f ∷ r ∷ l ∷ []
values_of (Own own) = own ∷ []
values_of (Blank p) = p ∷ []
values_of (Refused k) = []

-- What is answered for a call that goes on to an answer of its own, or is refused.
abbrev pub answer_in : Result Answer Refusal → Answer
answer_in (Ok answer) = answer
answer_in (Err r) = Refused (number r)
