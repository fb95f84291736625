-- `fields::sizes::total_numbers` meets its contract.
use Rattle.fields.specs.Laws.SectionLaws.{total-is}
use Rattle.fields.proofs.sizes.total_numbers.Goals as goal

pub returns : goal.returns
returns c =
    total-is _ _ c.sections_of-q.ensures.is
    c.last_count.ensures.0
