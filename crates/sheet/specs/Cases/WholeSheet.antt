-- The whole case of SPECIFICATION 12.4 as a sheet: the lines that the header gives are those that stand there, and no row of the
-- reader refuses its numbers, nor those with a wide low digit.
use Rattle.std.specs.Prelude.{◌≡◌, refl, List, [], ◌∷◌, ◌++◌, ℕ, ℤ}
use Rattle.integers.specs.Literals.{+◌, -◌, ◌zeros∷◌}
use Rattle.algebra.specs.Triangle.{start, pairs-count}
use Rattle.ring.specs.Element.{every}
use Rattle.integers.specs.Lists.{tab, all}
use Rattle.residues.specs.Range.{all_within, coefficients, projection_entries, short_challenge, challenge}
use Rattle.integers.specs.Sums.{norm_sq, sq}
use Rattle.fold.specs.Answers.{first_failing}
use Rattle.fold.specs.Sizes.{pairs, function_size, t_size, garbage_size, rest_size, opening_size}
use Rattle.fold.specs.Refusals.{all_of, any_of, between, degree, rank, parts, constraint_count, projection_count, commitment_rank, base, digit_count}
use Rattle.fold.specs.Refusals.{chunks, length_bound, challenges, whole_length, constant_terms_length, projection_length}
use Rattle.fold.specs.declared.Sizes.{Sizes}
use Rattle.sheet.specs.Lists.{list_lengths, list_at}
use Rattle.sheet.specs.Reading.{header_tests, size, sizes_of, projections_in, challenges_in, number_tests}
use Rattle.sheet.specs.Layout.{copies, elements, fields, matrix_lines, whole_lines, term_lines, row_lines, number_lines, last_lines, body_lines}
use Rattle.sheet.specs.Layout.{sheet_text, SheetNumbers}
use Rattle.sheet.specs.Laws.SheetLaws.{coefficients-fit}
use Rattle.sheet.specs.Theorems.SheetTheorems.{Read, sheet_exactly}

-- 2 1 1 1 0 0 1 1 1 4 8 4 2 2 1 1 5 13, and with another β'²
abbrev pub header_with : (target : ℕ) → List ℤ
header_with target =
    + 2
    ∷ + 1
    ∷ + 1
    ∷ + 1
    ∷ + 0
    ∷ + 0
    ∷ + 1
    ∷ + 1
    ∷ + 1
    ∷ + 4
    ∷ + 8
    ∷ + 4
    ∷ + 2
    ∷ + 2
    ∷ + 1
    ∷ + 1
    ∷ + 5
    ∷ + target
    ∷ []

abbrev pub header : List ℤ
header = header_with 13

-- A, B, C, D; the constraint; u1; b''; α; δ; u2; c; the opening, with the first number of z low and of z high
abbrev pub numbers_with : (low high : ℤ) → List ℤ
numbers_with low high =
    + 1 ∷ + 0 ∷ + 1 ∷ 3 zeros∷ + 1 ∷ 3 zeros∷ + 1 ∷ + 0 ∷ + 1 ∷ + 0
    ∷ + 1 ∷ 3 zeros∷ - 3 ∷ + 4
    ∷ + 2 ∷ + 2
    ∷ 10 zeros∷ + 1 ∷ 11 zeros∷ 2 zeros∷ + 0 ∷ + 1
    ∷ low ∷ + 1 ∷ high ∷ + 0 ∷ + 1 ∷ + 2 ∷ 2 zeros∷ + 1 ∷ + 0 ∷ - 1 ∷ + 1 ∷ 4 zeros∷ []

abbrev pub numbers : List ℤ
numbers = numbers_with (- 2) (+ 0)

-- with the same z as -6 + 4·1
abbrev pub wide_numbers : List ℤ
wide_numbers = numbers_with (- 6) (+ 1)

-- 32 lines of two fields
whole-lines : (target : ℕ) → body_lines (sizes_of (header_with target)) ≡ copies 32 (2 ∷ [])
unfolding body_lines matrix_lines whole_lines term_lines row_lines number_lines last_lines elements copies size sizes_of
    pairs pairs-count start t_size garbage_size rest_size opening_size
whole-lines target = refl

whole_sheets : SheetNumbers header numbers × SheetNumbers (header_with 20) numbers × SheetNumbers (header_with 46) wide_numbers
unfolding header_tests number_tests first_failing size sizes_of all_of any_of between degree rank parts constraint_count projection_count commitment_rank base
    digit_count chunks length_bound coefficients projection_entries all_within challenges challenge short_challenge every all tab norm_sq sq projections_in challenges_in list_at list_lengths
    whole_length constant_terms_length projection_length function_size fields copies pairs pairs-count start t_size garbage_size opening_size rest_size
whole_sheets = (
  record { header = refl; fit = coefficients-fit header refl; sizes = refl; count = rw (whole-lines 13) refl; numbers = refl },
  record { header = refl; fit = coefficients-fit (header_with 20) refl; sizes = refl; count = rw (whole-lines 20) refl; numbers = refl },
  record { header = refl; fit = coefficients-fit (header_with 46) refl; sizes = refl; count = rw (whole-lines 46) refl; numbers = refl },
)

pub whole_numbers : SheetNumbers header numbers
whole_numbers = whole_sheets.0

pub whole_numbers_20 : SheetNumbers (header_with 20) numbers
whole_numbers_20 = whole_sheets.1

-- the reader does not test digits
pub wide-numbers : SheetNumbers (header_with 46) wide_numbers
wide-numbers = whole_sheets.2

-- the reader takes the whole case and gives its numbers back
pub whole-read : Read 64 (sheet_text header numbers) header numbers
whole-read = (sheet_exactly 64 (sheet_text header numbers) header numbers).1 (refl, whole_numbers, refl)

-- lines for sizes that differ, with two constant-term constraints, one projection row and three g digits; the second implementation
-- gives the same
abbrev pub second : Sizes
second = record {
  shape = record { d = 2; n = 2; r = 2 };
  k = 1;
  l = 2;
  w = 1;
  kappa = 1;
  kappa1 = 2;
  kappa2 = 1;
  b = 4;
  b1 = 8;
  b2 = 4;
  t1 = 2;
  t2 = 3;
  bound = 5;
  target = 13;
}

pub second-lines : body_lines second ≡ elements 2 49 ++ (1 ∷ (elements 2 7 ++ (1 ∷ (elements 2 6 ++ (elements 1 16 ++ elements 2 37)))))
unfolding body_lines matrix_lines whole_lines term_lines row_lines number_lines last_lines elements copies
    pairs pairs-count start t_size garbage_size rest_size opening_size
second-lines = refl
