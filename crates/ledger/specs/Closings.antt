-- What is claimed of a closing (document 02 (l)): that a plain reserve that comes to the search next, lent no false summary,
-- is answered 10 exactly when it wants more blocks than are free. That it holds is `closed_full` in proofs/Closings.antt, of
-- every closing that was done, from any state: after a list of calls and after a load alike; and `closed_full_in_lists`, by
-- the ledger's rows.
-- Assumes nothing.
use Rattle.std.specs.Prelude.{ℕ, ◌<◌, ◌≡◌, ◌↔◌, true, List}
use Rattle.catalogue_standings.specs.Rows.{accepted}
use Rattle.catalogue_standings.specs.declared.Answer.TheVariants.{Done}
use Rattle.refusals.specs.Effects.{unsearched_verdict}
use Rattle.refusals.specs.Placement.{Placement, plain}
use Rattle.refusals.specs.Table.{reserve}
use Rattle.card.specs.Calls.{Kept, lent_to_within}
use Rattle.roles.specs.Roles as roles
use Rattle.roles.specs.Roles.{may}
use Rattle.card.specs.Public.{on, close, Manner, turned, Beside, End, ends, kept_after}
use Rattle.ledger.specs.Calls as ledgers
use Rattle.ledger.specs.Claim.{Came}
use Rattle.ledger.specs.Ledger.{step_in, after, begun}
use Rattle.ledger.specs.Lists.{Made, end_of, told_of, Runs, Listed, IsOwn, ByOwn, calls_in, fresh_state, own_of}

-- A reserve comes to the search if no row before 10 holds, those that ask for the length of a summary not counted.
abbrev pub Comes : Manner → Kept → List ℕ → ℕ → ℕ → Placement → Type 0
Comes m s limits sheet k p =
    unsearched_verdict (lent_to_within (turned m (on sheet (reserve limits k p))) s s.card limits sheet) k p ≡ accepted

-- A plain reserve is told 10 exactly when more blocks are wanted than are free.
abbrev pub TenWhenMoreWanted : Manner → Kept → Beside → List ℕ → ℕ → ℕ → Type 0
TenWhenMoreWanted m t b limits sheet k =
    ((told_of (ends m t b (on sheet (reserve limits k plain)))).number ≡ 10) ↔ (t.shape.free < k)

-- The closing leaves state t, with its free count.
abbrev pub FullWhenMoreWanted : Type 0
FullWhenMoreWanted =
    (s : Kept) (closer : Manner) (lent : Beside) → (ends closer s lent close).outcome.answer ≡ Done
    → (t : Kept) → t ≡ kept_after (ends closer s lent close)
    → (m : Manner) (b : Beside) → (m.guided ≡ true → b.summary ≡ own_of t)
    → (limits : List ℕ) (sheet k : ℕ) → Comes m t limits sheet k plain
    → TenWhenMoreWanted m t b limits sheet k

-- The same in a list, where a call comes to the search by the ledger's rows: a list from a fresh card, by the map or by the
-- map's own summary, leaves state s; one who may close closes; and the plain reserve is next.
abbrev pub FullInLists : ℕ → ℕ → List ℕ → Type 0
FullInLists n c card =
    (made : List Made) (es : List End) (s : Kept) → ByOwn (fresh_state n c card) made → Runs (fresh_state n c card) made es s
    → (closing : Made) → closing.call ≡ close → Listed IsOwn s closing → may closing.manner.role roles.close ≡ true
    → (t : Kept) → t ≡ kept_after (end_of s closing)
    → (m : Manner) (b : Beside) → (m.guided ≡ true → b.summary ≡ own_of t) → (limits : List ℕ) (sheet k : ℕ)
    → Came 10 n (step_in n (after n (begun c) (calls_in made)) (ledgers.close closing.manner.role))
    (ledgers.on m.role sheet (reserve limits k plain))
    → TenWhenMoreWanted m t b limits sheet k
