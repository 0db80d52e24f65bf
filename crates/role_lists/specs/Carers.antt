-- What a carer can learn (document 02, request (n)): "Two cards that agree in length, shape, map, catalogue and every block of
-- Complete sheets give a carer's equal calls equal answers if the show buffers lent are equally long and, if these are equal,
-- equal show buffers, however the other blocks differ." Claimed of every public call that a carer makes, turned away or not,
-- alone and in lists. That it holds is `learns_the_same`, `changes_nothing`, `lists_learn_the_same`, `lists_change_nothing` and
-- `leaves_the_ledger` in proofs/Carers.antt; that other blocks may differ is `other_blocks_may_differ` in proofs/Learning.antt.
-- Assumes nothing.
use Rattle.std.specs.Prelude.{ℕ, ◌+◌, ◌*◌, ◌≤◌, ◌<◌, ◌≡◌, List, [], ◌∷◌, length}
use Rattle.map_blocks.specs.Blocks.{free}
use Rattle.blocks_of_card.specs.Card.{block_of, with_block}
use Rattle.catalogue.specs.Entries.{entry_at}
use Rattle.catalogue_standings.specs.Standings.{standing_of}
use Rattle.catalogue_standings.specs.declared.Standing.{Standing}
use Rattle.catalogue_standings.specs.declared.Standing.TheVariants.{Complete}
use Rattle.roles.specs.Roles.{carer}
use Rattle.refusals.specs.Table.{Ask, reserve, put, grow, complete, change, release, show, standing, offer, accept, show_dated}
use Rattle.card.specs.Calls.{Kept, kept}
use Rattle.card.specs.Public.{Public, on, fresh, search, survey, save, load, close, build, check, kind_of, Manner, Beside, End}
use Rattle.card.specs.Public.{ends, kept_after}
use Rattle.ledger.specs.Ledger.{Sheet, after}
use Rattle.ledger.specs.Lists.{Made, Runs, calls_in}

-- How a sheet stands, as its entry says.
abbrev pub stands : Kept → ℕ → Standing
stands s sheet = standing_of s.shape.blocks (free s.map) (entry_at s.entries sheet)

-- Two cards agree in every block of the Complete sheets of a state.
abbrev pub AgreeInBlocks : Kept → List ℕ → List ℕ → Type 0
AgreeInBlocks s card other =
    (sheet start count : ℕ) → sheet < length s.entries → stands s sheet ≡ Complete start count
    → (place : ℕ) → place < count → block_of card (start + place) ≡ block_of other (start + place)

-- Two states agree in the card's length, in shape, map and catalogue, and in every block of Complete sheets. The other blocks
-- may differ.
pub record Agree (s t : Kept) : Type 0 where
  pub lengths : length s.card ≡ length t.card
  pub shapes : s.shape ≡ t.shape
  pub maps : s.map ≡ t.map
  pub catalogues : s.entries ≡ t.entries
  pub blocks : AgreeInBlocks s s.card t.card

-- Any other block may differ: where no Complete sheet holds it, it may be of any bytes.
abbrev pub Unheld : Kept → ℕ → Type 0
Unheld s b =
    (sheet start count : ℕ) → sheet < length s.entries → stands s sheet ≡ Complete start count
    → start ≤ b → b < start + count → ⊥

abbrev pub OtherBlocksMayDiffer : Type 0
OtherBlocksMayDiffer =
    (s : Kept) (b : ℕ) (bytes : List ℕ) → length bytes ≡ 512 → 512 * b + 512 ≤ length s.card → Unheld s b
    → Agree s (kept s.shape s.map s.entries (with_block s.card b bytes))

-- ---- one call

-- A call with another buffer, if it brings one.
abbrev pub asked_with : List ℕ → Ask → Ask
asked_with buffer (reserve limits k placement) = reserve limits k placement
asked_with buffer (offer limits k) = offer limits k
asked_with buffer (accept limits start k) = accept limits start k
asked_with buffer (put place payload) = put place payload
asked_with buffer (grow limits m) = grow limits m
asked_with buffer complete = complete
asked_with buffer (change c) = change c
asked_with buffer release = release
asked_with buffer (show place other) = show place buffer
asked_with buffer (show_dated place date other) = show_dated place date buffer
asked_with buffer standing = standing

abbrev pub bringing : List ℕ → Public → Public
bringing buffer (on sheet ask) = on sheet (asked_with buffer ask)
bringing buffer (fresh n) = fresh n
bringing buffer (search k) = search k
bringing buffer survey = survey
bringing buffer save = save
bringing buffer (load image) = load image
bringing buffer close = close
bringing buffer build = build
bringing buffer check = check

-- Whatever a carer calls, in whatever form, with whatever arguments and whatever else lent: from either state the same is
-- handed back, if the buffers are equally long, and, if these are equal, the buffers are equal afterwards.
abbrev pub LearnsTheSame : Type 0
LearnsTheSame =
    (s t : Kept) → Agree s t → (m o : Manner) → m.role ≡ carer → o.role ≡ carer → (a b : Beside)
    → (c : Public) (buffer : List ℕ) → length (kind_of c).brings ≡ length buffer
    → ((ends m s a c).outcome ≡ (ends o t b (bringing buffer c)).outcome)
    × ((kind_of c).brings ≡ buffer → (ends m s a c).buffer ≡ (ends o t b (bringing buffer c)).buffer)

-- A carer changes nothing: neither what is kept nor an image nor a summary.
abbrev pub ChangesNothing : Type 0
ChangesNothing =
    (s : Kept) (m : Manner) → m.role ≡ carer → (b : Beside) (c : Public)
    → (kept_after (ends m s b c) ≡ s) × ((ends m s b c).beside.image ≡ b.image)
    × ((ends m s b c).beside.summary ≡ b.summary)

-- ---- lists

-- Every call of a list is made by one who has the role.
abbrev pub AllBy : ℕ → List Made → Type 0
AllBy role [] = Unit {0}
AllBy role (m ∷ made) = (m.manner.role ≡ role) × AllBy role made

-- Two lists of the same calls, with buffers that are equally long.
abbrev pub SameCalls : List Made → List Made → Type 0
SameCalls [] [] = Unit {0}
SameCalls [] (y ∷ ys) = ⊥
SameCalls (x ∷ xs) [] = ⊥
SameCalls (x ∷ xs) (y ∷ ys) =
    ((buffer : List ℕ) × (bringing buffer x.call ≡ y.call) × (length (kind_of x.call).brings ≡ length buffer))
    × SameCalls xs ys

-- What came of them is the same, call by call: each outcome, and each buffer where the two that were lent are equal.
abbrev pub SameCame : List Made → List Made → List End → List End → Type 0
SameCame [] ys gs hs = Unit {0}
SameCame (x ∷ xs) [] gs hs = ⊥
SameCame (x ∷ xs) (y ∷ ys) [] hs = ⊥
SameCame (x ∷ xs) (y ∷ ys) (g ∷ gs) [] = ⊥
SameCame (x ∷ xs) (y ∷ ys) (g ∷ gs) (h ∷ hs) =
    (g.outcome ≡ h.outcome) × ((kind_of x.call).brings ≡ (kind_of y.call).brings → g.buffer ≡ h.buffer)
    × SameCame xs ys gs hs

abbrev pub ListsLearnTheSame : Type 0
ListsLearnTheSame =
    (s t : Kept) → Agree s t → (xs ys : List Made) → AllBy carer xs → AllBy carer ys → SameCalls xs ys
    → (gs hs : List End) (s' t' : Kept) → Runs s xs gs s' → Runs t ys hs t' → SameCame xs ys gs hs

abbrev pub ListsChangeNothing : Type 0
ListsChangeNothing = (s t : Kept) (made : List Made) (es : List End) → AllBy carer made → Runs s made es t → t ≡ s

-- and the ledger is left alone
abbrev pub LeavesTheLedger : Type 0
LeavesTheLedger = (n : ℕ) (ledger : List Sheet) (made : List Made) → AllBy carer made → after n ledger (calls_in made) ≡ ledger
