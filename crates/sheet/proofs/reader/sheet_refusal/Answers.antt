-- `sheet::reader::sheet_refusal` meets its contract.
use Rattle.std.proofs.Common.{arith}
use Rattle.fold.specs.Rows.{row_of}
use Rattle.fold.specs.Laws.ResultLaws.{handed_on}
use Rattle.sheet.specs.Laws.AnswerLaws.{row_positive, refused-header, good_header, rest_refusal}
use Rattle.sheet.proofs.reader.sheet_refusal.Goals as goal

pub returns-in_err-header_refusal : goal.returns-in_err-header_refusal
returns-in_err-header_refusal c =
    handed_on row_of _ _ c.from_residual.ensures.1 (refused-header c.args.room c.args.text.now c.in_err-header_refusal.ensures (row_positive _))

pub body_refusal-requires : goal.body_refusal-requires
body_refusal-requires c = good_header c.args.room c.args.text.now c.in_ok-header_refusal.ensures (omega arith) c.sheet_sizes.ensures

pub returns : goal.returns
returns c = rest_refusal c.args.room c.args.text.now c.in_ok-header_refusal.ensures (omega arith) c.sheet_sizes.ensures c.body_refusal.ensures
