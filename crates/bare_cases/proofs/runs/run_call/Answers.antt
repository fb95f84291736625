-- `bare_cases::runs::run_call` meets its contract. Assumes nothing.
use Rattle.bare_cases.specs.Laws.AnswerLaws.{call_1, call_2, call_3, call_4}
use Rattle.std.proofs.Common.{arith}
use Rattle.bare_cases.proofs.runs.run_call.Goals as goal

pub returns-in-1 : goal.returns-in-1
returns-in-1 c =
    let s = c.args in
    rw (call_1 s.call s.sizes s.turn s.lists.now c.in-1.is) c.run_commit.ensures

pub returns-in-2 : goal.returns-in-2
returns-in-2 c =
    let s = c.args in
    rw (call_2 s.call s.sizes s.turn s.lists.now c.in-2.is) c.run_phi.ensures

pub returns-in-3 : goal.returns-in-3
returns-in-3 c =
    let s = c.args in
    rw (call_3 s.call s.sizes s.turn s.lists.now c.in-3.is) c.run_turn.ensures

pub returns-in_default : goal.returns-in_default
returns-in_default c = rw (call_4 c.args.call c.args.sizes c.args.turn c.args.lists.now (omega arith) (omega arith) (omega arith)) c.run_verify.ensures
