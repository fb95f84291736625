-- `writer::refusal::slice_refusal` meets its contract.
use Rattle.fold.specs.Rows.{row_of}
use Rattle.fold.specs.Laws.TestLaws.{passing, failing}
use Rattle.fold.specs.Laws.ResultLaws.{required}
use Rattle.writer.proofs.refusal.slice_refusal.Goals as goal

pub returns-in_err-require : goal.returns-in_err-require
returns-in_err-require c =
    required row_of _ c.from_residual.ensures.1 c.in_err-require.ensures.told
    (failing 7 _ (rw c.total_numbers.ensures at c.in_err-require.ensures.told.0))

pub returns : goal.returns
returns c = passing 7 _ (rw c.total_numbers.ensures at c.in_ok-require.ensures.told) c.number_refusal.ensures
