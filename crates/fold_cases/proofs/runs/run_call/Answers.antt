-- `fold_cases::runs::run_call` meets its contract. Assumes nothing.
use Rattle.fold_cases.specs.Laws.AnswerLaws.{call_1, call_2, call_3, call_4, call_5, call_6}
use Rattle.std.proofs.Common.{arith}
use Rattle.fold_cases.proofs.runs.run_call.Goals as goal

pub returns-in-1 : goal.returns-in-1
returns-in-1 c = rw (call_1 c.args.call c.args.sizes c.args.lists.now c.in-1.is) c.run_commit.ensures

pub returns-in-2 : goal.returns-in-2
returns-in-2 c = rw (call_2 c.args.call c.args.sizes c.args.lists.now c.in-2.is) c.run_project.ensures

pub returns-in-3 : goal.returns-in-3
returns-in-3 c = rw (call_3 c.args.call c.args.sizes c.args.lists.now c.in-3.is) c.run_aggregate.ensures

pub returns-in-4 : goal.returns-in-4
returns-in-4 c = rw (call_4 c.args.call c.args.sizes c.args.lists.now c.in-4.is) c.run_commit_garbage.ensures

pub returns-in-5 : goal.returns-in-5
returns-in-5 c = rw (call_5 c.args.call c.args.sizes c.args.lists.now c.in-5.is) c.run_amortize.ensures

pub returns-in_default : goal.returns-in_default
returns-in_default c = rw (call_6 c.args.call c.args.sizes c.args.lists.now (omega arith) (omega arith) (omega arith) (omega arith) (omega arith)) c.run_verify.ensures
