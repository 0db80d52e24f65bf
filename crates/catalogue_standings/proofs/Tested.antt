-- A test `if !f(..)` of a function that answers whether p holds: what each branch shows of p.
-- Assumes nothing.
use mathlib.Core.Path.{◌≡◌, sym, ◌∙◌}
use mathlib.Core.Bool.{Bool, true, false, not}
use borrow.Author.Tests.{not-true, not-false}

pub fails : {answer p : Bool} → answer ≡ p → not answer ≡ true → p ≡ false
fails {answer} e taken = sym e ∙ not-true answer taken

pub holds : {answer p : Bool} → answer ≡ p → not answer ≡ false → p ≡ true
holds {answer} e left = sym e ∙ not-false answer left
