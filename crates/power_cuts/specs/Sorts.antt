-- What each public call is to the blocks that the sheets hold.
-- Assumes nothing.
use Rattle.std.specs.Prelude.{Bool, true, false, eqb}
use Rattle.catalogue_standings.specs.Answers.{number_of}
use Rattle.refusals.specs.Table.{Ask, reserve, put, grow, complete, change, release, show, standing, offer, accept, show_dated}
use Rattle.card.specs.Public.{Public, on, fresh, search, survey, save, close, build, check, load, End}

-- It takes blocks (reserve, accept, grow), writes to a block of its sheet, changes a mark, gives blocks back, moves them,
-- begins a
-- card, loads an image, saves one, or does none of these.
pub data Sort : Type 0 where
  taking putting marking releasing closing beginning loading saving telling : Sort

abbrev pub sort_on : Ask → Sort
sort_on (reserve limits k placement) = taking
sort_on (accept limits start k) = taking
sort_on (grow limits m) = taking
sort_on (put place payload) = putting
sort_on complete = marking
sort_on (change c) = marking
sort_on release = releasing
sort_on (offer limits k) = telling
sort_on (show place buffer) = telling
sort_on (show_dated place date buffer) = telling
sort_on standing = telling

abbrev pub sort_of : Public → Sort
sort_of (on sheet ask) = sort_on ask
sort_of (fresh n) = beginning
sort_of (load image) = loading
sort_of close = closing
sort_of save = saving
sort_of (search k) = telling
sort_of survey = telling
sort_of build = telling
sort_of check = telling

-- Release, close, fresh and load: the calls after which a sheet may not have the blocks that it had.
abbrev pub unsettles : Sort → Bool
unsettles taking = false
unsettles putting = false
unsettles marking = false
unsettles releasing = true
unsettles closing = true
unsettles beginning = true
unsettles loading = true
unsettles saving = false
unsettles telling = false

-- Reserve, placed reserve, accept and grow.
abbrev pub takes : Sort → Bool
takes taking = true
takes putting = false
takes marking = false
takes releasing = false
takes closing = false
takes beginning = false
takes loading = false
takes saving = false
takes telling = false

-- Release, of a sheet of any standing, and fresh.
abbrev pub frees : Sort → Bool
frees taking = false
frees putting = false
frees marking = false
frees releasing = true
frees closing = false
frees beginning = true
frees loading = false
frees saving = false
frees telling = false

-- Close.
abbrev pub moves : Sort → Bool
moves taking = false
moves putting = false
moves marking = false
moves releasing = false
moves closing = true
moves beginning = false
moves loading = false
moves saving = false
moves telling = false

-- Load.
abbrev pub loads : Sort → Bool
loads taking = false
loads putting = false
loads marking = false
loads releasing = false
loads closing = false
loads beginning = false
loads loading = true
loads saving = false
loads telling = false

-- Save.
abbrev pub saves : Sort → Bool
saves taking = false
saves putting = false
saves marking = false
saves releasing = false
saves closing = false
saves beginning = false
saves loading = false
saves saving = true
saves telling = false

-- The call was accepted: its answer is none of the refusals.
abbrev pub done : End → Bool
done e = eqb (number_of e.outcome.answer) 0
