-- `fields::sizes::ends_term` meets its contract.
use Rattle.std.proofs.Common.{◌∙◌, eq-eqb}
use Rattle.fields.specs.Laws.SectionLaws.{ends_alone, ends_other}
use Rattle.fields.proofs.sizes.ends_term.Goals as goal

pub returns-then-p-period : goal.returns-then-p-period
returns-then-p-period c = eq-eqb _ _ c.if-p-period.true ∙ ends_alone _ _ _ c.if-p-period.true

pub returns-else-p-period : goal.returns-else-p-period
returns-else-p-period c = ends_other _ _ _ c.if-p-period.false c.ends_element.ensures
