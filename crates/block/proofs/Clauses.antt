-- What it is that a function ensures a proposition, and that it asks one of its caller, or nothing: said of the clauses that
-- the check reads in the source, so that a theorem of this form no longer holds if a clause is made weaker.
-- Assumes nothing.
use mathlib.Core.Path.{◌≡◌}
use seplogic.Ra.Ura.{Ura}
use contract.Lifetimes.{Lfts}
use contract.Notation.{connectives, Connectives}
use denote.Triple.Clauses.{Ended, Clauses, AtExit}
use denote.Triple.Entry.{Args, Res}

module _ {M : Type 1} (𝓤 : Ura M) (T : Ended) (clauses : Clauses 𝓤 T) where
  abbrev 𝓛 : Connectives 𝓤
  𝓛 = connectives 𝓤

  open 𝓛 use {⌜◌⌝, ⊤ₛ}

  -- A proposition of what is passed, the result, and what is there of the parameters at exit.
  abbrev pub Said : Type 1
  Said = (κs : Lfts T.signature.lifetimes) → Args T.signature κs → Res T.signature κs → AtExit T κs → Type 0

  -- What the function ensures is that proposition, and nothing else.
  abbrev pub Ensures : Said → Type 2
  Ensures says =
      (κs : Lfts T.signature.lifetimes) (a : Args T.signature κs) (r : Res T.signature κs) (t : AtExit T κs)
      (g : (clauses κs a).ghost) → (clauses κs a).ensures g r t ≡ ⌜ says κs a r t ⌝

  -- What it requires is a proposition of what is passed, and nothing else.
  abbrev pub Asks : ((κs : Lfts T.signature.lifetimes) → Args T.signature κs → Type 0) → Type 2
  Asks wanted =
      (κs : Lfts T.signature.lifetimes) (a : Args T.signature κs) (g : (clauses κs a).ghost)
      → (clauses κs a).requires g ≡ ⌜ wanted κs a ⌝

  -- What it requires is nothing.
  abbrev pub AsksNothing : Type 2
  AsksNothing =
      (κs : Lfts T.signature.lifetimes) (a : Args T.signature κs) (g : (clauses κs a).ghost)
      → (clauses κs a).requires g ≡ ⊤ₛ
