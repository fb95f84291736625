-- z has one digit or two.
--     flag_few, digits-few     by whether there is one, and by the digits that a call is given
--     flag_says                both say the same
--     one-base-taken           where there is one, row 4 refuses no base of z: it takes the one that stands in its place
use Rattle.std.specs.Prelude.{◌≡◌, refl, Bool, true, false, ◌<◌, ◌≤◌, pos}
use Rattle.std.proofs.Common.{arith}
use Rattle.fold.specs.declared.ZDigits.{ZDigits}
use Rattle.fold.specs.declared.ZDigits.TheVariants.{One, Two}
use Rattle.fold.specs.Sizes.{count_if}
use Rattle.fold.specs.Arguments.{count_of, is_one, base_of}
use Rattle.fold.specs.Refusals.{between, base}

pub flag_few : (one : Bool) → (0 < count_if one) × (count_if one ≤ 2)
flag_few true = (omega arith, omega arith)
flag_few false = (omega arith, omega arith)

pub digits-few : (z : ZDigits) → (0 < count_of z) × (count_of z ≤ 2)
digits-few One = (omega arith, omega arith)
digits-few (Two b) = (omega arith, omega arith)

pub flag_says : (z : ZDigits) → count_if (is_one z) ≡ count_of z
flag_says One = refl
flag_says (Two b) = refl

pub one-base-taken : base (pos (base_of One)) ≡ true
unfolding base between
one-base-taken = refl
