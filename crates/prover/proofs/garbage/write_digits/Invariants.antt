use Rattle.std.proofs.Common.{◌*◌}
use Rattle.ring.specs.Element.{el, coeffs}
use Rattle.residues.specs.Digits.{split}
use Rattle.ring.specs.Laws.Writers.{Blocks}
use Rattle.prover.proofs.garbage.write_digits.Given as goal

abbrev pub invariant-loop-e : goal.invariant-loop-e
invariant-loop-e l = Blocks 0 l.count l.width (λ i. split l.base l.t (coeffs l.d (el l.d l.values i))) l.initial.out l.e (l.e * l.width) l.out
