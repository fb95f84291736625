-- `ring::coefficients::added` meets its contract.
use Rattle.std.proofs.Common.{rules, get_or, pos, ◌+ℤ◌, sym, ◌∙◌}
use Rattle.residues.specs.Modulus.{centred}
use Rattle.ring.specs.Laws.ElementArrays.{array-add}
use Rattle.ring.proofs.coefficients.added.Goals as goal

pub returns : goal.returns
returns c =
    c.tabulated.ensures (λ k. centred (get_or c.args.a k (pos 0) +ℤ get_or c.args.b k (pos 0))) (λ k x inside computes. search rules)
    ∙ sym (array-add _ _ _)
