-- `writer::refusal::write_refusal` meets its contract.
use Rattle.std.proofs.Common.{refl, arith}
use Rattle.fold.specs.declared.answers.Refusal.TheVariants.{Buffer}
use Rattle.fold.specs.Rows.{row_of}
use Rattle.fold.specs.Answers.{first_failing}
use Rattle.fold.specs.Laws.ResultLaws.{handed_on, last_row}
use Rattle.sheet.specs.Laws.AnswerLaws.{row_positive}
use Rattle.writer.proofs.Laws.RefusalLaws.{good_sizes, refused-header, refused_slice, last_refusal}
use Rattle.writer.proofs.refusal.write_refusal.Goals as goal

pub returns-in_err-next_bounds : goal.returns-in_err-next_bounds
returns-in_err-next_bounds c = handed_on row_of _ _ c.from_residual.ensures.1 (refused-header _ _ _ c.in_err-next_bounds.ensures (row_positive _))

pub slice_refusal-requires : goal.slice_refusal-requires
slice_refusal-requires c =
    let a = c.args in good_sizes a.room a.s a.numbers.now c.in_ok-next_bounds.ensures (omega arith)

pub returns-in_err-slice_refusal : goal.returns-in_err-slice_refusal
returns-in_err-slice_refusal c =
    handed_on row_of _ _ c.from_residual-in_err-slice_refusal.ensures.1
    (refused_slice _ _ _ c.in_ok-next_bounds.ensures (omega arith) c.in_err-slice_refusal.ensures (row_positive _))

pub text_bytes-requires : goal.text_bytes-requires
text_bytes-requires c = let a = c.args in good_sizes a.room a.s a.numbers.now c.in_ok-next_bounds.ensures (omega arith)

pub returns : goal.returns
returns c =
    last_refusal _ _ _ c.in_ok-next_bounds.ensures (omega arith) c.in_ok-slice_refusal.ensures (omega arith) c.text_bytes.ensures
    (last_row row_of Buffer c.require.ensures.value refl)
