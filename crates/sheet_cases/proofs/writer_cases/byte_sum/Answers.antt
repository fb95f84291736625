-- `sheet_cases::writer_cases::byte_sum` meets its contract. Assumes nothing.
use Rattle.std.proofs.Common.{arith}
use Rattle.integers.specs.Laws.RemainderLaws.{emod-lt}
use Rattle.sheet_cases.proofs.writer_cases.byte_sum.Goals as goal

pub loop-i-preserved : goal.loop-i-preserved
loop-i-preserved c = rw c.with_number-sum.ensures (emod-lt 2147483647 (omega arith) _)
