-- `ring::coefficients::scaled` meets its contract.
use Rattle.std.proofs.Common.{rules, get_or, pos, ◌*ℤ◌, sym, ◌∙◌}
use Rattle.residues.specs.Modulus.{centred}
use Rattle.ring.specs.Laws.ElementArrays.{array-scale}
use Rattle.ring.proofs.coefficients.scaled.Goals as goal

pub returns : goal.returns
returns c =
    c.tabulated.ensures (λ k. centred (c.args.c *ℤ get_or c.args.a k (pos 0))) (λ k x inside computes. search rules)
    ∙ sym (array-scale _ _ _)
