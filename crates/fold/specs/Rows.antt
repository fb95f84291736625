-- The numbers of refusals and checks: the rows of SPECIFICATION 7, "check 1" to "check 9" of SPECIFICATION 6.
use Rattle.std.specs.Prelude.{ℕ, Result, Ok, Err}
use Rattle.fold.specs.declared.answers.Refusal.{Refusal}
use Rattle.fold.specs.declared.answers.Refusal.TheVariants.{Degree, Size, CommitmentRank, Digits, Chunks, LengthBound, SliceLength, Coefficient, ProjectionEntry, Challenge, NextRank, Layout, Buffer, MixedProduct, LowDigit}
use Rattle.fold.specs.declared.answers.Check.{Check}
use Rattle.fold.specs.declared.answers.Check.TheVariants.{ProjectionLength, ConstantTerms, FirstOuter, SecondOuter, Amortized, SelfProduct, Linear, Relation, OpeningLength}

abbrev pub row_of : Refusal → ℕ
row_of Degree = 1
row_of Size = 2
row_of CommitmentRank = 3
row_of Digits = 4
row_of Chunks = 5
row_of LengthBound = 6
row_of SliceLength = 7
row_of Coefficient = 8
row_of ProjectionEntry = 9
row_of Challenge = 10
row_of NextRank = 11
row_of Layout = 12
row_of Buffer = 13
row_of MixedProduct = 14
row_of LowDigit = 15

abbrev pub check_number : Check → ℕ
check_number ProjectionLength = 1
check_number ConstantTerms = 2
check_number FirstOuter = 3
check_number SecondOuter = 4
check_number Amortized = 5
check_number SelfProduct = 6
check_number Linear = 7
check_number Relation = 8
check_number OpeningLength = 9

-- the number of a failure: 0 where there is none
abbrev pub failure : {A E : Type 0} → (E → ℕ) → Result A E → ℕ
failure number (Ok a) = 0
failure number (Err e) = number e
