use Rattle.std.proofs.Common.{rules}
use Rattle.cases.specs.Numbers.{two_digits}
use Rattle.cases.proofs.numbers.two_digits.Goals as goal

pub returns-then-last-number : goal.returns-then-last-number
unfolding two_digits
returns-then-last-number c = search rules

pub returns-else-last-number : goal.returns-else-last-number
unfolding two_digits
returns-else-last-number c = search rules
