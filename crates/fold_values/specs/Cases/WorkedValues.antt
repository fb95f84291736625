-- SPECIFICATION 12.1: the proved values, in its order, a field each. Each is closed and holds by
-- computation alone, so the definitions that the contracts cite are pinned to numbers that stand in the specification.
use Rattle.std.specs.Prelude.{◌≡◌, refl, [], ◌∷◌, ◌^◌}
use Rattle.integers.specs.Literals.{+◌, -◌}
use Rattle.integers.specs.Sums.{norm_sq}
use Rattle.algebra.specs.Indeterminate.{indeterminate}
use Rattle.algebra.specs.Conjugation.{conjugate}
use Rattle.residues.specs.Modulus.{Zq, centred}
use Rattle.residues.specs.Digits.{split}
use Rattle.ring.specs.Element.{R, lift, coeffs}
use Rattle.fold.specs.Answers.{Accepted, Failed}
use Rattle.fold.specs.Statement.{Relation}
use Rattle.fold.specs.Messages.{elements, half, z}
use Rattle.fold.specs.Verdict.{verdict}
use Rattle.fold.specs.NextInstance.{m, next_relation}
use Rattle.fold_values.specs.Cases.WholeCase.{case, witness, draws, transcript, digits}
use Rattle.fold_values.specs.Cases.Computing.{fold_computes}

-- X, and 1+2X, at d = 2
abbrev pub X : (R 2).Carrier
X = indeterminate Zq 2

abbrev pub 1+2X : (R 2).Carrier
1+2X = lift 2 (+ 1 ∷ + 2 ∷ [])

-- the next instance of the whole case, ν = μ = 1
abbrev pub next : Relation
next = next_relation (case 13) draws transcript 1 1

pub record WorkedValues : Type 0 where
  -- "d=2: (1+2X)² = -3+4X."
  pub square : coeffs 2 ((R 2).mul 1+2X 1+2X) ≡ - 3 ∷ + 4 ∷ []
  -- "X·X = -1."
  pub X-squared : coeffs 2 ((R 2).mul X X) ≡ - 1 ∷ + 0 ∷ []
  -- "d=4: σ(1+2X+3X²+4X³) = 1-4X-3X²-2X³."
  pub conjugated : coeffs 4 (conjugate Zq (lift 4 (+ 1 ∷ + 2 ∷ + 3 ∷ + 4 ∷ []))) ≡ + 1 ∷ - 4 ∷ - 3 ∷ - 2 ∷ []
  -- "2147483598 stays;"
  pub stays : centred (+ 2147483598) ≡ + 2147483598
  -- "2147483599 centres to -2147483598."
  pub centres : centred (+ 2147483599) ≡ - 2147483598
  -- "Half of 1 is -2147483598."
  pub half_of_1 : coeffs 2 ((R 2).mul (half 2) (R 2).one) ≡ - 2147483598 ∷ + 0 ∷ []
  -- "Base 4, two digits: -3 is (1,-1);"
  pub digits_of_minus_3 : split 4 2 (- 3 ∷ []) ≡ + 1 ∷ - 1 ∷ []
  -- "2 is (2,0);"
  pub digits_of_2 : split 4 2 (+ 2 ∷ []) ≡ + 2 ∷ + 0 ∷ []
  -- "-2 is (-2,0);"
  pub digits_of_minus_2 : split 4 2 (- 2 ∷ []) ≡ - 2 ∷ + 0 ∷ []
  -- "6 is (-2,2)."
  pub digits_of_6 : split 4 2 (+ 6 ∷ []) ≡ - 2 ∷ + 2 ∷ []
  -- "Base 2, three digits: 3 is (-1,0,1)."
  pub binary_digits_of_3 : split 2 3 (+ 3 ∷ []) ≡ - 1 ∷ + 0 ∷ + 1 ∷ []
  -- "65536² is 99."
  pub square_of_65536 : centred (+ (65536 ^ 2)) ≡ + 99
  -- "Whole case: z = -2+X, squared length 13;" that of all digits
  pub folded : (elements 2 1 (z 2 1 1 draws.c witness) ≡ - 2 ∷ + 1 ∷ []) × (norm_sq digits ≡ 13)
  -- "with β'² = 12, failed 9."
  pub failed : verdict (case 12) draws transcript digits ≡ Failed 9
  -- "Its margin is 0; with β'² = 20 it is 7."
  pub margins : (verdict (case 13) draws transcript digits ≡ Accepted 0) × (verdict (case 20) draws transcript digits ≡ Accepted 7)
  -- "m = 6, n' = 6, r' = 3, K' = 6."
  pub next-sizes : (m (case 13) draws transcript 1 1 ≡ 6) × ((next.n ≡ 6) × ((next.r ≡ 3) × (next.K ≡ 6)))

pub worked_values : WorkedValues
unfolding fold_computes
worked_values =
    record {
      square = refl;
      X-squared = refl;
      conjugated = refl;
      stays = refl;
      centres = refl;
      half_of_1 = refl;
      digits_of_minus_3 = refl;
      digits_of_2 = refl;
      digits_of_minus_2 = refl;
      digits_of_6 = refl;
      binary_digits_of_3 = refl;
      square_of_65536 = refl;
      folded = (refl, refl);
      failed = refl;
      margins = (refl, refl);
      next-sizes = (refl, (refl, (refl, refl)));
    }
