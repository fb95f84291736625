-- `fields::sizes::projections_from` meets its contract.
use Rattle.fields.specs.Laws.SectionLaws.{projections-is}
use Rattle.fields.proofs.sizes.projections_from.Goals as goal

pub returns : goal.returns
returns c = projections-is _ _ c.sections_of-q.ensures.is
