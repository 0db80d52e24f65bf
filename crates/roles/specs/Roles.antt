-- Who may do what (document 02, request (n)): the table of roles and calls. Seal and check of a block and the dose count calls
-- take no role, so they have no name here.
-- Assumes nothing.
use Rattle.std.specs.Prelude.{ℕ, Bool, true, false, not, ◌||◌, cond, List, [], ◌∷◌, eqb}

-- The roles. No other number is one.
abbrev pub pharmacist : ℕ
pharmacist = 1

abbrev pub carer : ℕ
carer = 2

abbrev pub service : ℕ
service = 3

-- The call is one of a row's.
abbrev pub among : List ℕ → ℕ → Bool
among [] call = false
among (c ∷ row) call = eqb call c || among row call

-- The names of the calls, each a number of its own. A reserve is plain or placed, and a call that is lent a summary has the
-- name of the call without it.
abbrev pub fresh : ℕ
fresh = 1

abbrev pub search : ℕ
search = 2

abbrev pub survey : ℕ
survey = 3

abbrev pub reserve : ℕ
reserve = 4

abbrev pub offer : ℕ
offer = 5

abbrev pub accept : ℕ
accept = 6

abbrev pub grow : ℕ
grow = 7

abbrev pub put : ℕ
put = 8

abbrev pub complete : ℕ
complete = 9

abbrev pub pause : ℕ
pause = 10

abbrev pub resume : ℕ
resume = 11

abbrev pub release : ℕ
release = 12

abbrev pub show : ℕ
show = 13

abbrev pub show_dated : ℕ
show_dated = 14

abbrev pub standing : ℕ
standing = 15

abbrev pub save : ℕ
save = 16

abbrev pub load : ℕ
load = 17

abbrev pub close : ℕ
close = 18

abbrev pub build_summary : ℕ
build_summary = 19

abbrev pub check_summary : ℕ
check_summary = 20

-- "Role 2, carer: dated show, standing, survey."
unfoldable pub carer_may : ℕ → Bool
carer_may = among (show_dated ∷ standing ∷ survey ∷ [])

-- "Role 3, service: fresh, save, load, closing, standing, survey."
unfoldable pub service_may : ℕ → Bool
service_may = among (fresh ∷ save ∷ load ∷ close ∷ standing ∷ survey ∷ [])

-- "Role 1, pharmacist: every call." An unknown role may make none.
unfoldable pub may : ℕ → ℕ → Bool
unfolding carer_may service_may
may role call =
    cond (eqb role pharmacist) true
    (cond (eqb role carer) (carer_may call)
    (cond (eqb role service) (service_may call) false))

-- "21 for an unknown role or a call not in its row".
abbrev pub turned_away : ℕ → ℕ → Bool
turned_away role call = not (may role call)
