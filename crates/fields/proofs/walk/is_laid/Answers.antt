-- `fields::walk::is_laid` meets its contract.
use Rattle.std.proofs.Common.{not, ap, ◌∙◌, arith}
use Rattle.fields.specs.Laws.PlaceLaws.{number-inside, laid_none, laid-feed, laid-inner}
use Rattle.fields.proofs.walk.is_laid.Goals as goal

pub returns-else-is_some : goal.returns-else-is_some
returns-else-is_some c = c.if-is_some.false ∙ laid_none _ _ _ c.read_field.ensures c.is_some.ensures c.if-is_some.false

pub overflow_add-at : goal.overflow_add-at
overflow_add-at c = omega (arith, number-inside _ _ c.read_field.ensures c.is_some.ensures c.if-is_some.true)

pub returns-then-not-last : goal.returns-then-not-last
returns-then-not-last c = ap not c.if-not-last.true ∙ laid-inner _ _ _ c.read_field.ensures c.is_some.ensures c.if-is_some.true c.if-not-last.true

pub returns-else-not-last : goal.returns-else-not-last
returns-else-not-last c = laid-feed _ _ _ c.read_field.ensures c.is_some.ensures c.if-is_some.true c.if-not-last.false c.is_feed.ensures
