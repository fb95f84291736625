-- `writer::sheet_bytes` meets its contract.
use Rattle.std.proofs.Common.{[], arith}
use Rattle.sheet.specs.Laws.AnswerLaws.{row_positive}
use Rattle.writer.proofs.Laws.RefusalLaws.{good_sizes, bytes_refused, bytes_good}
use Rattle.writer.proofs.sheet_bytes.Goals as goal

pub returns-in-Err : goal.returns-in-Err
returns-in-Err c = bytes_refused c.args.s c.in-Err.ensures (row_positive _)

pub text_bytes-requires : goal.text_bytes-requires
text_bytes-requires c = good_sizes 0 c.args.s [] c.in-Ok.ensures (omega arith)

pub returns : goal.returns
returns c = bytes_good c.args.s c.in-Ok.ensures (omega arith) c.text_bytes.ensures
