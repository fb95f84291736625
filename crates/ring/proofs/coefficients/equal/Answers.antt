-- `ring::coefficients::equal` meets its contract. The loop's invariant: `all` says that the first k numbers are congruent, one by one.
use Rattle.std.proofs.Common.{eqb, sym, ap, ◌∙◌, ap₂, arith}
use Rattle.integers.specs.Remainder.{emod}
use Rattle.residues.specs.Modulus.{q}
use Rattle.ring.specs.Laws.ElementSteps.{bits32-small}
use Rattle.ring.specs.Laws.ElementEquality.{same-lift}
use Rattle.ring.specs.Laws.Loops.{tested-start, tested-step, tested-end}
use Rattle.ring.proofs.coefficients.equal.Goals as goal

pub loop-k-init : goal.loop-k-init
loop-k-init c = tested-start

pub loop-k-preserved : goal.loop-k-preserved
loop-k-preserved c =
    let first = c.residue.ensures ∙ ap (λ z. emod z q) (bits32-small _ c.residue-arg-1.given) in
    let second = c.residue-in-loop-k.ensures ∙ ap (λ z. emod z q) (bits32-small _ c.residue-arg-in-loop-k-1.given) in
    tested-step c.loop-k.invariant (omega arith) (ap₂ eqb first second)

pub returns : goal.returns
returns c = tested-end c.loop-k.invariant c.loop-k-test.false ∙ sym (same-lift _ _ _)
