-- `ring_cases::elements::is_two` meets its contract. Assumes nothing.
use mathlib.Core.Path.{refl}
use Rattle.ring_cases.specs.Results.{is_two}
use Rattle.ring_cases.proofs.elements.is_two.Goals as goal

pub returns : goal.returns
unfolding is_two
returns c = refl
