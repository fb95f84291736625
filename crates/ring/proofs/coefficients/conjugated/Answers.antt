-- `ring::coefficients::conjugated` meets its contract.
use Rattle.std.proofs.Common.{rules, sym, ◌∙◌}
use Rattle.ring.specs.Laws.ElementArrays.{turned, array-conjugate}
use Rattle.ring.proofs.coefficients.conjugated.Goals as goal

pub returns : goal.returns
unfolding turned
returns c =
    c.tabulated.ensures (turned c.args.d c.args.a) (λ k x inside computes. search rules)
    ∙ sym (array-conjugate _ c.requires.positive _)
