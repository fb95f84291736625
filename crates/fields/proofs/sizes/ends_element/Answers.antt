-- `fields::sizes::ends_element` meets its contract.
use mathlib.Core.Path.{refl}
use Rattle.fields.specs.Sections.{ends_element}
use Rattle.fields.proofs.sizes.ends_element.Goals as goal

pub returns : goal.returns
unfolding ends_element
returns c = refl
