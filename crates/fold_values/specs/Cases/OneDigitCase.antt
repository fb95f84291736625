-- The whole case of SPECIFICATION 12.4 with z in one digit, computed, the sides of rows 2 and 5, and the sizes as a statement has them: z = -2+X is its own digit, and the opening has one element
-- less. The base that stands in the statement is looked at by row 4 alone.
use Rattle.std.specs.Prelude.{◌≡◌, refl, Bool, true, false, List, [], ◌∷◌, ◌++◌, map, ℕ, length, ℤ}
use Rattle.integers.specs.Literals.{+◌, -◌}
use Rattle.fold.specs.Answers.{Accepted, Failed}
use Rattle.fold.specs.declared.PartSizes.{PartSizes}
use Rattle.fold.specs.declared.ZDigits.{ZDigits}
use Rattle.fold.specs.declared.ZDigits.TheVariants.{One, Two}
use Rattle.fold.specs.declared.StatementSizes.{StatementSizes}
use Rattle.fold.specs.Answers.{first_failing}
use Rattle.fold.specs.Arguments.{statement_of, part_refusal_of}
use Rattle.fold.specs.NextCall.{part_refusal}
use Rattle.fold.specs.Statement.{Statement}
use Rattle.fold.specs.Verdict.{verdict}
use Rattle.fold.specs.Honest.{honest_opening}
use Rattle.fold.specs.Refusals.{chunks, prover_tests, verify_tests}
use Rattle.fold.specs.NextInstance.{n', r', next_whole}
use Rattle.fold_values.specs.Cases.Computing.{fold_computes}
use Rattle.fold_values.specs.Cases.WholeCase.{whole, witness, draws, transcript, case, digits}

abbrev sizes : StatementSizes
sizes =
    record {
      shape = record { d = 2; n = 1; r = 1 };
      k = 1;
      l = 0;
      w = 0;
      kappa = 1;
      kappa1 = 1;
      kappa2 = 1;
      z = One;
      b1 = 8;
      b2 = 4;
      t1 = 2;
      t2 = 2;
      bound = 5;
      target = 13;
    }

abbrev one : Statement
one = statement_of sizes (case 13).A (case 13).B (case 13).C (case 13).D whole []

-- z, t, g, h: an element a line
abbrev pub one_digits : (z : ℤ) → List ℤ
one_digits z =
    z ∷ + 1
    ∷ + 1 ∷ + 2
    ∷ + 0 ∷ + 0
    ∷ + 1 ∷ + 0
    ∷ - 1 ∷ + 1
    ∷ + 0 ∷ + 0
    ∷ + 0 ∷ + 0
    ∷ []

abbrev cut : Bool → PartSizes
cut one = record { shape = record { d = 2; n = 1; r = 1 }; kappa = 1; t1 = 2; t2 = 2; nu = 8; mu = 1; one_digit = one }

abbrev apart : ZDigits → StatementSizes
apart z =
    record {
      shape = record { d = 3; n = 4; r = 5 };
      k = 6;
      l = 7;
      w = 8;
      kappa = 9;
      kappa1 = 10;
      kappa2 = 11;
      z = z;
      b1 = 12;
      b2 = 13;
      t1 = 14;
      t2 = 15;
      bound = 16;
      target = 18;
    }

abbrev stated : (tz b : ℕ) → Statement
stated tz b =
    record {
      relation = record { d = 3; n = 4; r = 5; K = 6; L = 7; bound = 16; whole = []; constant_terms = [] };
      w = 8;
      tz = tz;
      κ = 9;
      κ₁ = 10;
      κ₂ = 11;
      b = b;
      b₁ = 12;
      b₂ = 13;
      t₁ = 14;
      t₂ = 15;
      target = 18;
      A = [];
      B = [];
      C = [];
      D = [];
    }

pub record OneDigitCase : Type 0 where
  pub opening_honest : honest_opening one draws witness ≡ one_digits (- 2)
  pub accepted : verdict one draws transcript (one_digits (- 2)) ≡ Accepted 0
  -- another z is another value: A z is no longer c t
  pub other-z : verdict one draws transcript (one_digits (- 1)) ≡ Failed 5
  pub not_refused : first_failing (prover_tests one draws witness) ∷ first_failing (verify_tests one draws transcript (one_digits (- 2))) ∷ [] ≡ 0 ∷ 0 ∷ []
  -- its one digit is free of row 15, and an opening with two digits has the wrong length
  pub z-free : first_failing (verify_tests one draws transcript (one_digits (+ 2147483598))) ≡ 0
  pub two_digits : first_failing (verify_tests one draws transcript digits) ≡ 7
  -- with ν = 1, μ = 1: n' = 6 and r' = 2, K' = 6 constraints on 3 pairs and 2 parts
  pub next-sizes : n' one draws transcript 1 1 ∷ r' one draws transcript 1 1 ∷ length (next_whole one draws transcript 1 1) ∷ [] ≡ 6 ∷ 2 ∷ 192 ∷ []
  -- "ν+μ above 16": (9,7), (15,1), (1,15) and (16,1), (8,9); with two digits (9,7) is refused
  pub row_5 : chunks 1 (+ 9) (+ 7) ∷ chunks 1 (+ 15) (+ 1) ∷ chunks 1 (+ 1) (+ 15) ∷ chunks 1 (+ 16) (+ 1) ∷ chunks 1 (+ 8) (+ 9) ∷ chunks 2 (+ 9) (+ 7) ∷ []
      ≡ true ∷ true ∷ true ∷ false ∷ false ∷ false ∷ []
  -- "with ν = 8 and μ = 1, part 17 is 5 and part 18 is 2; with one z digit part 9 is taken and part 10 is 2"
  pub part-numbers : map (λ i. part_refusal_of (cut true) i (one_digits (- 2))) (9 ∷ 10 ∷ []) ++ map (λ i. part_refusal_of (cut false) i digits) (17 ∷ 18 ∷ [])
      ≡ 0 ∷ 2 ∷ 5 ∷ 2 ∷ []
  -- a statement has each size under its name, with one digit and with two: a number of its own in every field
  pub one-stated : statement_of (apart One) [] [] [] [] [] [] ≡ stated 1 2
  pub two-stated : statement_of (apart (Two 17)) [] [] [] [] [] [] ≡ stated 2 17

pub one-digit-case : OneDigitCase
unfolding fold_computes part_refusal
one-digit-case =
    record {
      opening_honest = refl;
      accepted = refl;
      other-z = refl;
      not_refused = refl;
      z-free = refl;
      two_digits = refl;
      next-sizes = refl;
      row_5 = refl;
      part-numbers = refl;
      one-stated = refl;
      two-stated = refl;
    }
