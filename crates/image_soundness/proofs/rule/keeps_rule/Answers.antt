-- `rule::keeps_rule` meets its contract, mark by mark.
-- Assumes nothing.

use Rattle.std.proofs.Common.{◌∙◌, arith}
use Rattle.image_soundness.proofs.Marks.{rule_absent, rule-paused, rule-open, rule-complete, rule-none}
use Rattle.image_soundness.proofs.rule.keeps_rule.Goals as goal

pub returns-in-65 : goal.returns-in-65
returns-in-65 c = c.no_extent.ensures ∙ rule_absent _ _ c.in-65.is

pub returns-in-80 : goal.returns-in-80
returns-in-80 c = c.pause_keeps.ensures ∙ rule-paused _ _ (omega arith) c.in-80.is

pub returns-in-79 : goal.returns-in-79
returns-in-79 c = c.extent_inside.ensures ∙ rule-open _ _ (omega arith) (omega arith) c.in-79.is

pub returns-in-67 : goal.returns-in-67
returns-in-67 c = c.extent_inside-in-67.ensures ∙ rule-complete _ _ (omega arith) (omega arith) (omega arith) c.in-67.is

pub returns-in_default : goal.returns-in_default
returns-in_default c = rule-none _ _ (omega arith) (omega arith) (omega arith) (omega arith)
