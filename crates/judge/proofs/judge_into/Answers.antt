-- `judge::judge_into` meets its contract: the reader's promise, and what the verifier makes of it.
use Rattle.std.proofs.Common.{refl}
use Rattle.judge.specs.Laws.ReadLaws.{refused_judging, read-bounded, read-judged}
use Rattle.judge.proofs.judge_into.Goals as goal

pub returns-in_err-s : goal.returns-in_err-s
returns-in_err-s c =
    let a = c.args in rw (refused_judging _ _ c.from_residual.ensures.1) (read-judged a.text.now a.numbers.now c.in_err-s.ensures refl)

pub judge_sheet_numbers-requires : goal.judge_sheet_numbers-requires
judge_sheet_numbers-requires c = let a = c.args in read-bounded a.text.now a.numbers.now c.in_ok-s.ensures

pub returns : goal.returns
returns c = let a = c.args in read-judged a.text.now a.numbers.now c.in_ok-s.ensures c.judge_sheet_numbers.ensures
