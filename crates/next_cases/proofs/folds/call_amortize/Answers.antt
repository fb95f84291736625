-- `next_cases::folds::call_amortize` meets its contract: by the flag of the sizes. Assumes nothing.
use Rattle.capi.proofs.Laws.FlagLaws.{flag_digits}
use Rattle.next_cases.proofs.folds.call_amortize.Goals as goal

pub returns-then-sizes-eq0 : goal.returns-then-sizes-eq0
returns-then-sizes-eq0 c = rw c.if-sizes-eq0.true c.lizkarg_amortize.ensures

pub returns-else-sizes-eq0 : goal.returns-else-sizes-eq0
returns-else-sizes-eq0 c =
    let s = c.args.sizes in
    rw (← flag_digits s.one_digit s.b c.if-sizes-eq0.false) c.lizkarg_amortize_one_digit.ensures
