-- `fields::sizes::sections_of` meets its contract.
use mathlib.Core.Path.{refl}
use native.Mathlib.Nat.{mul-le-mul}
use native.Mathlib.Omega.{arith}
use Rattle.fields.specs.Sections.{ones_count, sections_of}
use Rattle.fields.proofs.sizes.sections_of.Goals as goal

pub returns : goal.returns
unfolding sections_of ones_count
returns c =
    record {
      is =
          rw (
            c.head_numbers.ensures.0,
            c.term_size-period.ensures.0,
            c.middle_numbers.ensures.0,
          ) refl;
      head = c.head_numbers.ensures.1;
      terms =
          omega (
            arith,
            mul-le-mul c.requires.L-small
                c.term_size-period.ensures.1,
          );
      middle = c.middle_numbers.ensures.1;
      ones =
          omega (
            arith,
            c.requires.L-small,
            c.requires.w-small,
          );
    }
