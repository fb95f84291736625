-- `ring_cases::product::element` meets its contract. Assumes nothing.
use Rattle.ring_cases.specs.Laws.ResultLaws.{element-is}
use Rattle.ring_cases.proofs.product.element.Goals as goal

pub returns : goal.returns
returns c = element-is 64 _ _ c.put.ensures.1
