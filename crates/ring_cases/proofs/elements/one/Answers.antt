-- `ring_cases::elements::one` meets its contract. Assumes nothing.
use mathlib.Core.Path.{refl, ◌∙◌}
use native.Mathlib.Omega.{arith}
use Rattle.ring.specs.Laws.ElementLaws.{lift-array}
use Rattle.ring_cases.specs.Results.{one_at}
use Rattle.ring_cases.specs.Laws.ResultLaws.{rest-length}
use Rattle.ring_cases.proofs.elements.one.Goals as goal

pub from_slice-requires : goal.from_slice-requires
from_slice-requires c =
    record { degree = c.requires.degree; d_in_bounds = omega (arith, c.requires.degree.small, rest-length c.args.xs.now 2 c.requires.xs_len c.past_numbers.ensures) }

pub returns : goal.returns
unfolding one_at
returns c =
    c.of_one.ensures
    ∙ rw (c.from_slice.ensures, lift-array c.args.d _ c.requires.degree.small, c.past_numbers.ensures) refl
