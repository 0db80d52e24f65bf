-- What is claimed of the wings' shares of a card (document 02 (k)): over a list with unchanging limits from a fresh card no
-- wing ever holds more than its limit, whatever summaries guide it; and where the limits leave room for the whole card,
-- accepted calls are those that were accepted before there were limits. That it holds is `no_wing_over` in
-- proofs/Shares.antt, `under_limit` and `wide_limits` in proofs/WideLimits.antt.
-- Assumes nothing.
use Rattle.std.specs.Prelude.{ℕ, ◌≤◌, ◌<◌, ◌≡◌, ◌⊎◌, false, List, [], ◌∷◌}
use Rattle.catalogue_wings.specs.Wings.{wing_of, held_by}
use Rattle.catalogue_standings.specs.Rows.{Verdict, accepted, refused, first_of, row_number}
use Rattle.refusals.specs.Shares.{limit_of, over_limit, without_limits}
use Rattle.refusals.specs.Table.{reserve, put, grow, complete, change, release, show, standing, offer, accept}
use Rattle.refusals.specs.Table.{show_dated}
use Rattle.card.specs.Calls.{Kept}
use Rattle.ledger.specs.Calls.{Call, on, close}
use Rattle.card.specs.Public.{End, kept_after}
use Rattle.ledger.specs.Ledger.{Sheet, held_in, rows_in, after, begun}
use Rattle.ledger.specs.Lists.{Made, end_of, told_of, Runs, Listed, IsOwn, ByAny, ByOwn, All, call_in, calls_in}
use Rattle.ledger.specs.Lists.{fresh_state}

-- ---- unchanging limits

-- What a call takes, if it takes blocks, or would, it takes under these limits.
abbrev pub GoesWith : List ℕ → Call → Type 0
GoesWith limits (on role sheet (reserve given k placement)) = given ≡ limits
GoesWith limits (on role sheet (offer given k)) = given ≡ limits
GoesWith limits (on role sheet (accept given start k)) = given ≡ limits
GoesWith limits (on role sheet (grow given m)) = given ≡ limits
GoesWith limits (on role sheet (put p payload)) = Unit {0}
GoesWith limits (on role sheet complete) = Unit {0}
GoesWith limits (on role sheet (change c)) = Unit {0}
GoesWith limits (on role sheet release) = Unit {0}
GoesWith limits (on role sheet (show p buffer)) = Unit {0}
GoesWith limits (on role sheet (show_dated p date buffer)) = Unit {0}
GoesWith limits (on role sheet standing) = Unit {0}
GoesWith limits (close role) = Unit {0}

abbrev pub Unchanging : List ℕ → List Call → Type 0
Unchanging limits = All (GoesWith limits)

-- No wing holds more than its limit: the wing of any sheet, by the lengths in its sheets' entries.
abbrev pub WithinLimits : List ℕ → Kept → Type 0
WithinLimits limits t = (sheet : ℕ) → held_by t.entries sheet ≤ limit_of limits (wing_of sheet)

-- A state has the property, and so has the state after each call of a list.
abbrev pub Throughout : (Kept → Type 0) → Kept → List Made → Type 0
Throughout P s [] = P s
Throughout P s (m ∷ made) = P s × Throughout P (kept_after (end_of s m)) made

abbrev pub NoWingOver : ℕ → ℕ → List ℕ → Type 0
NoWingOver n c card =
    (made : List Made) (limits : List ℕ) → ByAny (fresh_state n c card) made → Unchanging limits (calls_in made)
    → Throughout (WithinLimits limits) (fresh_state n c card) made

-- ---- beside the calls as they were before they carried limits

-- The ledger's verdict without row 18.
abbrev pub verdict_before : ℕ → List Sheet → Call → Verdict
verdict_before n ledger c = first_of (without_limits (rows_in n ledger c))

-- The blocks that a call wants under limits do not pass that of the sheet's wing. A call without limits wants none.
abbrev pub Under : List Sheet → Call → Type 0
Under ledger (on role sheet (reserve limits k placement)) = over_limit limits (wing_of sheet) (held_in ledger sheet) k ≡ false
Under ledger (on role sheet (offer limits k)) = over_limit limits (wing_of sheet) (held_in ledger sheet) k ≡ false
Under ledger (on role sheet (accept limits start k)) = over_limit limits (wing_of sheet) (held_in ledger sheet) k ≡ false
Under ledger (on role sheet (grow limits m)) = over_limit limits (wing_of sheet) (held_in ledger sheet) m ≡ false
Under ledger (on role sheet (put p payload)) = Unit {0}
Under ledger (on role sheet complete) = Unit {0}
Under ledger (on role sheet (change c)) = Unit {0}
Under ledger (on role sheet release) = Unit {0}
Under ledger (on role sheet (show p buffer)) = Unit {0}
Under ledger (on role sheet (show_dated p date buffer)) = Unit {0}
Under ledger (on role sheet standing) = Unit {0}
Under ledger (close role) = Unit {0}

-- Each of the eight limits is n or more.
abbrev pub Wide : ℕ → List ℕ → Type 0
Wide n limits = (wing : ℕ) → wing < 8 → n ≤ limit_of limits wing

-- After a list guided by the map's own summary or by none, such a call that is fed to the ledger as c.
abbrev pub Next : ℕ → ℕ → List ℕ → (List Sheet → Call → ℕ → Type 0) → Type 0
Next n c card P =
    (made : List Made) (es : List End) (t : Kept) → ByOwn (fresh_state n c card) made → Runs (fresh_state n c card) made es t
    → (next : Made) → Listed IsOwn t next → (call : Call) → call_in next.manner.role next.call ≡ call ∷ []
    → P (after n (begun c) (calls_in made)) call (told_of (end_of t next)).number

-- Where the limit is not passed its number is that of the rows without 18, 0 if none of them holds.
abbrev pub UnderLimit : ℕ → ℕ → List ℕ → Type 0
UnderLimit n c card = Next n c card (λ ledger call number. Under ledger call → number
    ≡ row_number (verdict_before n ledger call))

-- Under wide limits a call is accepted exactly if it was before. A refusal is the one that it was; or it is 18, and was one
-- that found no room: 10, 11 or 17.
pub record AsBefore (n : ℕ) (ledger : List Sheet) (c : Call) (number : ℕ) : Type 0 where
  pub accepted_still : verdict_before n ledger c ≡ accepted → number ≡ 0
  pub accepted_then : number ≡ 0 → verdict_before n ledger c ≡ accepted
  pub refused_so : (number ≡ 0 → ⊥) → (verdict_before n ledger c ≡ refused number)
      ⊎ ((number ≡ 18) × (was : ℕ) × (verdict_before n ledger c ≡ refused was) × ((was ≡ 10) ⊎ ((was ≡ 11) ⊎ (was ≡ 17))))

abbrev pub WideLimits : ℕ → ℕ → List ℕ → Type 0
WideLimits n c card = Next n c card (λ ledger call number. (limits : List ℕ) → Wide n limits → GoesWith limits call
    → AsBefore n ledger call number)
