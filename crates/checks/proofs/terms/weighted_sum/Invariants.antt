use Rattle.std.proofs.Common.{of_z, w32}
use Rattle.checks.specs.ConstantTerms.{weighted}
use Rattle.checks.specs.Laws.ConstantTermLaws.{Weighed}
use Rattle.checks.proofs.terms.weighted_sum.Given as goal

abbrev pub invariant-loop-l : goal.invariant-loop-l
invariant-loop-l l = Weighed l.count (weighted l.weights l.at l.xs l.first l.step) l.l (of_z w32 l.acc)
