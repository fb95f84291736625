use Rattle.std.proofs.Common.{◌≡◌, get_or, pos}
use Rattle.integers.specs.Over.{over}
use Rattle.integers.specs.Lists.{tab}
use Rattle.cases.proofs.lists.put.Given as goal

abbrev pub invariant-loop-i : goal.invariant-loop-i
invariant-loop-i l = l.number-items ≡ over l.initial.number-items 0 (tab l.i (λ k. get_or l.part k (pos 0)))
