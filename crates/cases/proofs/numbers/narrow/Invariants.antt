use Rattle.std.proofs.Common.{◌≡◌, get_or, pos}
use Rattle.integers.specs.Over.{over}
use Rattle.integers.specs.Lists.{tab}
use Rattle.cases.specs.Numbers.{word}
use Rattle.cases.proofs.numbers.narrow.Given as goal

abbrev pub invariant-loop-i : goal.invariant-loop-i
invariant-loop-i l = l.words ≡ over l.initial.words 0 (tab l.i (λ k. word (get_or l.wides k (pos 0))))
