-- `judge::judged_line` meets its contract.
use Rattle.std.proofs.Common.{ap, ◌∙◌}
use Rattle.fold.specs.Codes.{coded}
use Rattle.judge.proofs.judged_line.Goals as goal

pub returns : goal.returns
returns c = c.verdict_line.ensures _ (c.from.ensures ∙ ap coded c.judge_sheet.ensures)
