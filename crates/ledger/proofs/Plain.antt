-- The calls that the ledger is fed, one after the other, as they are made by the map alone, or, of the calls that have such a
-- form, guided by a summary: what they hand back and leave of what is kept. Every list of public calls is held to these.
-- Assumes nothing.
use Prim.Native.Nat.{ℕ}
use mathlib.Core.Path.{◌≡◌}
use mathlib.Core.Bool.{Bool, false}
use mathlib.Core.List.{List, [], ◌∷◌}
use lib.ListN.{length, replicate}
use Rattle.catalogue.specs.declared.Entry.{Entry}
use Rattle.image_soundness.specs.Scratch.{scratch_words}
use Rattle.card.specs.Calls.{Kept}
use Rattle.card.specs.Public as public
use Rattle.card.specs.Public.{Public, Manner, Beside, ends}
use Rattle.card.specs.declared.Outcome.{Outcome}
use Rattle.ledger.specs.Calls.{Call, on, close}
use Rattle.ledger.specs.Lists.{Response}

-- what a call comes to, but for what it is lent beside
pub record End : Type 0 where
  pub outcome : Outcome
  pub map : List ℕ
  pub entries : List Entry
  pub card : List ℕ
  pub buffer : List ℕ

abbrev pub ending : Outcome → List ℕ → List Entry → List ℕ → List ℕ → End
ending outcome map entries card buffer = record {
  outcome = outcome;
  map = map;
  entries = entries;
  card = card;
  buffer = buffer;
}

abbrev pub came : public.End → End
came e = ending e.outcome e.map e.entries e.card e.buffer

-- the public call, and who makes it
abbrev pub public_of : Call → Public
public_of (on role sheet ask) = public.on sheet ask
public_of (close role) = public.close

abbrev pub manner_of : Bool → Call → Manner
manner_of guided (on role sheet ask) = record { role = role; guided = guided }
manner_of guided (close role) = record { role = role; guided = guided }

-- a scratch of the length that row 1 asks for; what it holds decides nothing
abbrev pub scratch_of : Kept → List ℕ
scratch_of s = replicate (scratch_words (length s.map)) 0

abbrev pub lends : Kept → List ℕ → Beside
lends s summary = record { summary = summary; scratch = scratch_of s; image = [] }

abbrev pub end_in : Bool → List ℕ → Kept → Call → End
end_in guided summary s c = came (ends (manner_of guided c) s (lends s summary) (public_of c))

abbrev pub end_of : Kept → Call → End
end_of s c = end_in false [] s c

abbrev pub response_of : End → Response
response_of e = record { answer = e.outcome.answer; buffer = e.buffer }

abbrev pub state_on : End → Kept
state_on e = record { shape = e.outcome.shape; map = e.map; entries = e.entries; card = e.card }

abbrev pub Step : Kept → Call → Response → Kept → Type 0
Step s c reply t = (reply ≡ response_of (end_of s c)) × (t ≡ state_on (end_of s c))

abbrev pub Runs : Kept → List Call → List Response → Kept → Type 0
Runs s [] [] t = t ≡ s
Runs s [] (reply ∷ replies) t = ⊥
Runs s (c ∷ calls) [] t = ⊥
Runs s (c ∷ calls) (reply ∷ replies) t = (m : Kept) × Step s c reply m × Runs m calls replies t
