-- `judge::judge_sheet` meets its contract: the slice that is lent is answered as one of the sizes' length. Assumes nothing.
use mathlib.Core.Path.{sym, ◌∙◌}
use native.Mathlib.Omega.{arith}
use lib.Seq.{length-take-le}
use Rattle.judge.specs.Laws.ReadLaws.{longer, text-judged}
use Rattle.judge.proofs.judge_sheet.Goals as goal

pub returns-then-text-gt65536 : goal.returns-then-text-gt65536
returns-then-text-gt65536 c = longer c.args.text.now (omega (arith, c.if-text-gt65536.true))

pub slice_bounds-judge_into-end : goal.slice_bounds-judge_into-end
slice_bounds-judge_into-end c = sym (length-take-le c.lent_count-count.result _ (omega (arith, c.lent_count-count.ensures)))

pub returns : goal.returns
returns c =
    text-judged c.args.text.now (omega (arith, c.if-text-gt65536.false)) _
    (length-take-le c.lent_count-count.result _ (omega (arith, c.lent_count-count.ensures)) ∙ c.lent_count-count.ensures)
    c.judge_into.ensures
