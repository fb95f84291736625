-- `sheet::reader::body_refusal` meets its contract.
use Rattle.std.proofs.Common.{sym, ap, ◌∙◌}
use Rattle.std.specs.Prelude.{eqb}
use Rattle.fold.specs.Rows.{row_of}
use Rattle.fold.specs.Laws.TestLaws.{passing, failing}
use Rattle.fold.specs.Laws.ResultLaws.{required}
use Rattle.sheet.specs.Reading.{body_tests}
use Rattle.sheet.specs.Laws.ReadingLaws.{lines-positive, laid-is, laid-inside}
use Rattle.sheet.proofs.reader.body_refusal.Goals as goal

pub laid_end-requires : goal.laid_end-requires
laid_end-requires c = lines-positive c.requires c.sections_of-q.ensures

pub returns-in_err-require : goal.returns-in_err-require
unfolding body_tests
returns-in_err-require c =
    required row_of _ c.from_residual.ensures.1 c.in_err-require.ensures.told
    (failing 12 _ (sym (c.eq-laid.ensures ∙ laid-is c.args.s c.args.text.now c.sections_of-q.result c.sections_of-q.ensures c.total_numbers-count.ensures c.laid_end.ensures) ∙ c.in_err-require.ensures.told.0))

pub returns-in_err-require-2 : goal.returns-in_err-require-2
unfolding body_tests
returns-in_err-require-2 c =
    required row_of _ c.from_residual-in_err-require-2.ensures.1 c.in_err-require-2.ensures.told
    (passing 12 _ (sym (c.eq-laid.ensures ∙ laid-is c.args.s c.args.text.now c.sections_of-q.result c.sections_of-q.ensures c.total_numbers-count.ensures c.laid_end.ensures) ∙ c.in_ok-require.ensures.told)
    (failing 7 _ (rw c.total_numbers-count.ensures at c.in_err-require-2.ensures.told.0)))

pub number_refusal-requires : goal.number_refusal-requires
number_refusal-requires c =
    laid-inside c.args.s c.args.text.now c.sections_of-q.result c.sections_of-q.ensures c.total_numbers-count.ensures c.laid_end.ensures c.requires
    (sym (c.eq-laid.ensures ∙ laid-is c.args.s c.args.text.now c.sections_of-q.result c.sections_of-q.ensures c.total_numbers-count.ensures c.laid_end.ensures) ∙ c.in_ok-require.ensures.told)

pub returns : goal.returns
unfolding body_tests
returns c =
    passing 12 _ (sym (c.eq-laid.ensures ∙ laid-is c.args.s c.args.text.now c.sections_of-q.result c.sections_of-q.ensures c.total_numbers-count.ensures c.laid_end.ensures) ∙ c.in_ok-require.ensures.told)
    (passing 7 _ (rw c.total_numbers-count.ensures at c.in_ok-require-2.ensures.told) c.number_refusal.ensures)
