-- The numbers of the bare level's checks, SPECIFICATION 14.7.
use Rattle.std.specs.Prelude.{ℕ}
use Rattle.bare.specs.declared.BareCheck.{BareCheck}
use Rattle.bare.specs.declared.BareCheck.TheVariants.{ProjectionLength, ConstantTerms, Amortized, GarbageOfZ, GarbageOfPhi, Aggregate, LengthOfZ}

abbrev pub bare_check_number : BareCheck → ℕ
bare_check_number ProjectionLength = 1
bare_check_number ConstantTerms = 2
bare_check_number Amortized = 3
bare_check_number GarbageOfZ = 4
bare_check_number GarbageOfPhi = 5
bare_check_number Aggregate = 6
bare_check_number LengthOfZ = 7
