use Rattle.std.proofs.Common.{rules}
use Rattle.cases.specs.Numbers.{one_digit}
use Rattle.cases.proofs.numbers.one_digit.Goals as goal

pub returns : goal.returns
unfolding one_digit
returns c = search rules
