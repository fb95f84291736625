-- `fields::sizes::challenges_from` meets its contract.
use Rattle.fields.specs.Laws.SectionLaws.{challenges-is}
use Rattle.fields.proofs.sizes.challenges_from.Goals as goal

pub returns : goal.returns
returns c = challenges-is _ _ c.sections_of-q.ensures.is
