-- `ring_cases::runs::is_element` meets its contract. Assumes nothing.
use mathlib.Core.Path.{refl}
use Rattle.ring_cases.specs.Results.{is_element}
use Rattle.ring_cases.proofs.runs.is_element.Goals as goal

pub returns : goal.returns
unfolding is_element
returns c = refl
