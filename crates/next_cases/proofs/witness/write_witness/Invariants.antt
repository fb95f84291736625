use Rattle.next_cases.specs.Laws.WitnessLaws.{Writing}
use Rattle.next_cases.proofs.witness.write_witness.Given as goal

abbrev pub invariant-loop-i : goal.invariant-loop-i
invariant-loop-i l = Writing l.sizes l.parts l.width l.opening l.initial.out l.out l.at l.i
