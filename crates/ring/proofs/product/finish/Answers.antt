-- `ring::product::finish` meets its contract.
use Rattle.std.proofs.Common.{rules, get_or, pos}
use Rattle.residues.specs.Modulus.{centred}
use Rattle.ring.proofs.product.finish.Goals as goal

pub returns : goal.returns
returns c = c.tabulated.ensures (λ k. centred (pos (get_or c.args.acc.now k 0))) (λ k x inside computes. search rules)
