-- `write_sheets` meets its contract: each turn writes a line more.
-- Assumes nothing.
use Rattle.std.proofs.Common.{length, min, ap, ◌∙◌}
use Rattle.printer.specs.Text.{sheet_lines}
use Rattle.printer.proofs.Written.{writes_none}
use Rattle.printer.proofs.Lines.{line_more, lines_all}
use Rattle.printer.proofs.write_sheets.Goals as goal

pub loop-index-init : goal.loop-index-init
unfolding sheet_lines
loop-index-init c = writes_none c.args.text.now c.args.at

pub loop-index-preserved : goal.loop-index-preserved
loop-index-preserved c =
    line_more _ _ _ _ _ _ _ _ _ c.loop-index-test.true c.loop-index.invariant c.write_line-place.ensures

pub returns : goal.returns
returns c =
    lines_all _ _ _ _ _ _ _ _ _ (c.min.ensures ∙ ap (min (length c.args.catalogue.now)) c.saturating_sub-most.ensures)
    c.loop-index-test.false c.loop-index.invariant
