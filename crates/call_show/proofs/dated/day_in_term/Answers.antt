-- `day_in_term` meets its contract: the part that is lent is the payload of block b.
-- Assumes nothing.

use mathlib.Core.Path.{ap, ◌∙◌}
use mathlib.Core.List.{List}
use Prim.Native.Nat.{ℕ}
use Rattle.blocks_of_card.proofs.Card.{lent_payload}
use Rattle.calendar.specs.Term.{term_of, in_term}
use Rattle.call_show.proofs.dated.day_in_term.Goals as goal

pub returns : goal.returns
returns c = let a = c.args in
    c.in_term.ensures
    ∙ ap (λ (payload : List ℕ). in_term (term_of payload) a.day) (lent_payload a.card.now a.b)
