-- `ring::product::multiply` meets its contract: a product is an inner product of one pair.
use Rattle.std.proofs.Common.{ap, ◌∙◌}
use Rattle.ring.specs.Element.{array}
use Rattle.ring.specs.Laws.ProductLaws.{one-pair}
use Rattle.ring.proofs.product.multiply.Goals as goal

pub returns : goal.returns
returns c = c.inner.ensures ∙ ap (array _) (one-pair _ _ _)
