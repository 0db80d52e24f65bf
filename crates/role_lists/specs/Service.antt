-- What service leaves alone (document 02, request (n)): service moves sheets, and after any list of its calls but fresh and
-- load, turned away or not, every sheet that stands Complete shows what it showed, from any state, sound or not. That it
-- holds is `service_shows_as_before` in proofs/Service.antt; of lists from a fresh card, `service_shows_the_same`.
-- Assumes nothing.
use Rattle.std.specs.Prelude.{ℕ, ◌<◌, ◌≡◌, List, [], ◌∷◌, length}
use Rattle.calendar.specs.Calendar.{Date}
use Rattle.roles.specs.Roles as roles
use Rattle.roles.specs.Roles.{service}
use Rattle.catalogue_standings.specs.declared.Standing.TheVariants as standings
use Rattle.refusals.specs.Table.{show, show_dated}
use Rattle.card.specs.Calls.{Kept}
use Rattle.card.specs.Public.{on, kind_of, Manner, Beside, End, ends}
use Rattle.ledger.specs.Claim.{Gives}
use Rattle.ledger.specs.Ledger.{Complete, sheet_at, after, begun}
use Rattle.ledger.specs.Lists.{Made, Runs, ByAny, heard_in, fresh_state}
use Rattle.role_lists.specs.Carers.{stands, AllBy}

-- A sheet shows in state u what it showed in state s: whoever asks for whatever place, with whatever beside, and on whatever
-- date if it is a dated show, is handed back the same and has the same in the buffer.
pub record ShowsAsBefore (s u : Kept) (sheet : ℕ) : Type 0 where
  pub plainly : (m : Manner) (b : Beside) (place : ℕ) (buffer : List ℕ)
      → ((ends m u b (on sheet (show place buffer))).outcome ≡ (ends m s b (on sheet (show place buffer))).outcome)
      × ((ends m u b (on sheet (show place buffer))).buffer ≡ (ends m s b (on sheet (show place buffer))).buffer)
  pub on_a_day : (m : Manner) (b : Beside) (place : ℕ) (date : Date) (buffer : List ℕ)
      → ((ends m u b (on sheet (show_dated place date buffer))).outcome
      ≡ (ends m s b (on sheet (show_dated place date buffer))).outcome)
      × ((ends m u b (on sheet (show_dated place date buffer))).buffer
      ≡ (ends m s b (on sheet (show_dated place date buffer))).buffer)

-- No fresh and no load.
abbrev pub NeitherFreshNorLoad : List Made → Type 0
NeitherFreshNorLoad [] = Unit {0}
NeitherFreshNorLoad (m ∷ made) =
    ((kind_of m.call).name ≡ roles.fresh → ⊥) × ((kind_of m.call).name ≡ roles.load → ⊥) × NeitherFreshNorLoad made

-- Every sheet that stands Complete in a state shows after such a list of service's calls what it showed before, and stands
-- Complete with as many places.
abbrev pub ServiceShowsAsBefore : Type 0
ServiceShowsAsBefore =
    (s u : Kept) (made : List Made) (es : List End) → AllBy service made → NeitherFreshNorLoad made → Runs s made es u
    → (sheet start count : ℕ) → sheet < length s.entries → stands s sheet ≡ standings.Complete start count
    → (start' : ℕ) × (stands u sheet ≡ standings.Complete start' count) × ShowsAsBefore s u sheet

-- A list of calls from a fresh card, guided by whatever summaries, leaves state t, and such a list of service's calls from
-- there state u: each place of each sheet that is complete in t shows in both the same payload.
abbrev pub ServiceShowsTheSame : ℕ → ℕ → List ℕ → Type 0
ServiceShowsTheSame n c card =
    (made : List Made) (es : List End) (t : Kept) → ByAny (fresh_state n c card) made → Runs (fresh_state n c card) made es t
    → (more : List Made) (came : List End) (u : Kept) → AllBy service more → NeitherFreshNorLoad more → Runs t more came u
    → (sheet start : ℕ) (payloads : List (List ℕ)) → sheet_at (after n (begun c) (heard_in made es)) sheet
    ≡ Complete start payloads
    → (p : ℕ) → p < length payloads
    → (payload : List ℕ) × Gives t sheet p payload × Gives u sheet p payload
