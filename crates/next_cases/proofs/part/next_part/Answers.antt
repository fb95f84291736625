-- `next_cases::part::next_part` meets its contract: what stands at the place is the part. Assumes nothing.
use mathlib.Core.Path.{◌∙◌}
use Rattle.next_cases.proofs.part.next_part.Goals as goal

pub at_place-requires : goal.at_place-requires
at_place-requires c = c.lizkarg_next_part-place.ensures.inside

pub returns : goal.returns
returns c = c.at_place.ensures ∙ c.lizkarg_next_part-place.ensures.part-is
