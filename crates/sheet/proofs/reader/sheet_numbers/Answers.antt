-- `sheet::reader::sheet_numbers` meets its contract.
use Rattle.std.proofs.Common.{arith}
use Rattle.sheet.specs.Laws.AnswerLaws.{row_positive, good_header, count-refused, count_good}
use Rattle.sheet.proofs.reader.sheet_numbers.Goals as goal

pub returns-in-Err : goal.returns-in-Err
returns-in-Err c = count-refused c.args.text.now c.in-Err.ensures (row_positive _)

pub total_numbers-requires : goal.total_numbers-requires
total_numbers-requires c = good_header 0 c.args.text.now c.in-Ok.ensures (omega arith) c.sheet_sizes.ensures

pub returns : goal.returns
returns c = count_good c.args.text.now c.in-Ok.ensures (omega arith) c.sheet_sizes.ensures c.total_numbers.ensures
