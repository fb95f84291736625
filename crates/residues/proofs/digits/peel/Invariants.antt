use Rattle.residues.specs.DigitBlocks.{Peeled}
use Rattle.residues.proofs.digits.peel.Given as goal

abbrev pub invariant-loop-i : goal.invariant-loop-i
invariant-loop-i l = Peeled l.base l.to l.from l.i l.initial.block l.block
