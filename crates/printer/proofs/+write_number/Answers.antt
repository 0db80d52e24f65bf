-- `write_number` meets its contract.
-- Assumes nothing.
use Rattle.std.proofs.Common.{ℕ, ◌+◌, ◌/◌, ◌%◌, ◌<◌, ◌≤◌, List, [], ◌∷◌, sym, subst}
use Rattle.printer.specs.Decimal.{decimal}
use Rattle.printer.specs.Writing.{Writes}
use Rattle.printer.proofs.Decimals.{decimal_less, decimal_more}
use Rattle.printer.proofs.Written.{then}
use Rattle.printer.proofs.+write_number.Goals as goal

one_digit : (n : ℕ) (text text' : List ℕ) (at r : ℕ) → n < 10 → Writes ((0x30 + n) ∷ []) text at r text'
    → Writes (decimal n) text at r text'
one_digit n text text' at r h = subst (λ (bytes : List ℕ). Writes bytes text at r text') (sym (decimal_less n h))

one_more : (n : ℕ) (text text' text'' : List ℕ) (at at' r : ℕ) → 10 ≤ n → Writes (decimal (n / 10)) text at at' text'
    → Writes ((0x30 + n % 10) ∷ []) text' at' r text'' → Writes (decimal n) text at r text''
one_more n text text' text'' at at' r h w w' =
    subst (λ (bytes : List ℕ). Writes bytes text at r text'') (sym (decimal_more n h))
    (then w w')

pub returns-then-number-lt10 : goal.returns-then-number-lt10
returns-then-number-lt10 t c = one_digit _ _ _ _ _ c.if-number-lt10.true c.write_byte.ensures

pub returns : goal.returns
returns t c = one_more _ _ _ _ _ _ _ c.if-number-lt10.false c.write_number-last.ensures c.write_byte-2.ensures
