-- How many elements and numbers each part of a sheet has, and where its lines end, by the place of a number among those after the header.
--     matrix_count .. last_count    elements of A, B, C, D; of the whole constraints; of u1 and the projection rows; of b'', α, δ, u2, c and the opening
--     sections_of, ends_line        the parts in numbers, and whether number i is the last of its line
--     total, projections_from, challenges_from    numbers in all, and before the projection rows and before c
use Rattle.std.specs.Prelude.{◌≡◌, Bool, true, cond, ℕ, ◌+◌, ◌*◌, ◌-◌, ◌%◌, ◌≤◌, ltb, eqb}
use Rattle.fold.specs.Limits.{most_constraints, most_projections}
use Rattle.fold.specs.Sizes.{z_count, function_size, t_size, garbage_size, opening_size}
use Rattle.fold.specs.declared.Sizes.{Sizes}
use Rattle.fields.specs.declared.sizes.Sections.{Sections}

module _ (s : Sizes) where
  open s use {shape, k, l, w, kappa, kappa1, kappa2, t1, t2}
  open shape use {d, n, r}

  unfoldable pub matrix_count : ℕ
  matrix_count =
      kappa * n
      + (kappa1 * t_size r kappa t1
      + (kappa1 * garbage_size r t2 + kappa2 * garbage_size r t1))

  unfoldable pub whole_count : ℕ
  whole_count = k * (function_size n r + 1)

  unfoldable pub row_count : ℕ
  row_count = kappa1 + w * (r * n)

  unfoldable pub last_count : ℕ
  last_count = 5 + (k + (5 + (kappa2 + (r + opening_size z_count n r kappa t1 t2))))

  -- numbers of one constant-term constraint, and numbers on lines of their own
  unfoldable pub term_size : ℕ
  term_size = function_size n r * d + 1

  unfoldable pub ones_count : ℕ
  ones_count = w + (5 * l + 5 * w)

  unfoldable pub sections_of : Sections
  sections_of = record {
    d = d;
    head = (matrix_count + whole_count) * d;
    period = term_size;
    terms = l * term_size;
    middle = row_count * d;
    ones = ones_count;
  }

  unfoldable pub total : ℕ
  total = (matrix_count + whole_count) * d + (l * term_size + (row_count * d + (ones_count + last_count * d)))

  unfoldable pub projections_from : ℕ
  projections_from = (matrix_count + whole_count) * d + (l * term_size + kappa1 * d)

  unfoldable pub challenges_from : ℕ
  challenges_from =
      (matrix_count + whole_count) * d
      + (l * term_size + (row_count * d + (ones_count + (5 + (k + (5 + kappa2))) * d)))

-- the parts, and that they are few numbers
pub record Sectioned (s : Sizes) (q : Sections) : Type 0 where
  pub is : q ≡ sections_of s
  pub head : q.head ≤ (27648 + most_constraints * 4233) * 64
  pub terms : q.terms ≤ most_constraints * 270849
  pub middle : q.middle ≤ 67109376
  pub ones : q.ones ≤ 5 * most_constraints + 6 * most_projections

-- number i, on lines of d numbers, is the last of its line
unfoldable pub ends_element : ℕ → ℕ → Bool
ends_element d i = eqb (i % d + 1) d

-- number i, among constraints of `period` numbers each, whose last stands alone
unfoldable pub ends_term : ℕ → ℕ → ℕ → Bool
ends_term d period i = cond (eqb (i % period + 1) period) true (ends_element d (i % period))

unfoldable pub ends_line : Sections → ℕ → Bool
ends_line s i =
    cond (ltb i s.head) (ends_element s.d i)
    (cond (ltb (i - s.head) s.terms) (ends_term s.d s.period (i - s.head))
    (cond (ltb (i - s.head - s.terms) s.middle) (ends_element s.d (i - s.head - s.terms))
    (cond (ltb (i - s.head - s.terms - s.middle) s.ones) true
    (ends_element s.d (i - s.head - s.terms - s.middle - s.ones)))))
