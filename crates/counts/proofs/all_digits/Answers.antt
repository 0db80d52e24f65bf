-- `all_digits` meets its contract: one test of all eight digits.
-- Assumes nothing.

use borrow.Author.Rules.{rules}
use Rattle.counts.proofs.Digits.{all_tested}
use Rattle.counts.proofs.all_digits.Goals as goal

pub returns : goal.returns
returns c = all_tested c.args.n (search rules)
