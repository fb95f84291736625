-- `ring::coefficients::loaded` meets its contract.
use Rattle.std.proofs.Common.{rules, ◌+◌, ◌*◌, get_or, pos, sym, ◌∙◌}
use Rattle.residues.specs.Modulus.{centred}
use Rattle.ring.specs.Laws.ElementArrays.{array-el}
use Rattle.ring.proofs.coefficients.loaded.Goals as goal

pub returns : goal.returns
returns c =
    c.tabulated.ensures (λ k. centred (get_or c.args.xs.now (c.args.p * c.args.d + k) (pos 0))) (λ k x inside computes. search rules)
    ∙ sym (array-el _ _ _)
