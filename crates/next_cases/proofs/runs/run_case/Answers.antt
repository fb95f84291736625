-- `next_cases::runs::run_case` meets its contract. Assumes nothing.
use Rattle.std.proofs.Common.{arith}
use Rattle.next_cases.specs.Laws.RunLaws.{case-instance, case-part, case_twice, case-none}
use Rattle.next_cases.proofs.runs.run_case.Goals as goal

pub returns-in-1 : goal.returns-in-1
returns-in-1 c =
    case-instance c.args.wides.now c.args.one_digit c.past_wides.ensures c.read_sizes-sizes.ensures c.size_at-nu.ensures
    c.size_at-mu.ensures c.in-1.is c.run_instance.ensures

pub returns-in-2 : goal.returns-in-2
returns-in-2 c =
    rw c.from.ensures
    (case-part c.args.wides.now c.args.one_digit c.past_wides.ensures c.read_sizes-sizes.ensures c.size_at-nu.ensures
    c.size_at-mu.ensures c.in-2.is c.size_at.ensures c.run_part.ensures)

pub returns-in-3 : goal.returns-in-3
returns-in-3 c =
    case_twice c.args.wides.now c.args.one_digit c.past_wides.ensures c.read_sizes-sizes.ensures c.size_at-nu.ensures
    c.size_at-mu.ensures c.in-3.is c.run_twice.ensures

pub returns-in_default : goal.returns-in_default
returns-in_default c = case-none (omega arith) (omega arith) (omega arith)
