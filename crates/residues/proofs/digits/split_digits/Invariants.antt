use Rattle.residues.proofs.Laws.DigitBlockLaws.{Splitting}
use Rattle.residues.proofs.digits.split_digits.Given as goal

abbrev pub invariant-loop-k : goal.invariant-loop-k
invariant-loop-k l = Splitting l.base l.count l.width l.k l.initial.block l.block
