-- `ring_cases::elements::two` meets its contract. Assumes nothing.
use mathlib.Core.Path.{refl, ◌∙◌}
use native.Mathlib.Omega.{arith}
use Rattle.ring.specs.Laws.ElementLaws.{lift-array}
use Rattle.ring_cases.specs.Results.{two_at}
use Rattle.ring_cases.specs.Laws.ResultLaws.{rest-length}
use Rattle.ring_cases.proofs.elements.two.Goals as goal

pub from_slice-a-requires : goal.from_slice-a-requires
from_slice-a-requires c =
    record { degree = c.requires.degree; d_in_bounds = omega (arith, c.requires.degree.small, rest-length c.args.xs.now 2 c.requires.xs_len c.past_numbers-both.ensures) }

pub from_slice-b-requires : goal.from_slice-b-requires
from_slice-b-requires c =
    record {
      degree = c.requires.degree;
      d_in_bounds = omega (
        arith,
        c.requires.degree.small,
        rest-length c.args.xs.now 2 c.requires.xs_len c.past_numbers-both.ensures,
      );
    }

pub returns : goal.returns
unfolding two_at
returns c =
    let small = c.requires.degree.small in
    c.of_two.ensures
    ∙ rw (
      c.from_slice-a.ensures,
      c.from_slice-b.ensures,
      lift-array c.args.d _ small,
      lift-array c.args.d _ small,
      c.past_numbers-both.ensures,
    )
    refl
