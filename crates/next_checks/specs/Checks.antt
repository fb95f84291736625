-- The constraint of each check, by the lists that its writer is lent, and how it is laid out. `minus` holds minus the challenges; `products`,
-- `aggregated_a` and `diagonal` hold an element for each pair (i, j).
--     laid                   a constraint laid out on the parts of a cut
--     check5 .. check4       the constraints, of openings whose z has tz digits
use Rattle.std.specs.Prelude.{List, ◌++◌, ℕ, ◌+◌, ◌*◌, ℤ}
use Rattle.integers.specs.Lists.{tab}
use Rattle.algebra.specs.Triangle.{pair}
use Rattle.ring.specs.Element.{R, el}
use Rattle.fold.specs.declared.Sizes.{Sizes}
use Rattle.fold.specs.Sizes.{t_size, garbage_size}
use Rattle.fold.specs.Constraint.{Constraint, laid_out}
use Rattle.fold.specs.NextInstance.{zeros, no-a, z_table, t_table, garbage_table, squares}
use Rattle.next_constraints.specs.declared.blocks.Digits.{Digits}
use Rattle.next_checks.specs.declared.cut.Cut.{Cut}
use Rattle.next_constraints.specs.Blocks.{digit_row}
use Rattle.next_checks.specs.Spread.{widths}

abbrev pub laid : (s : Sizes) (cut : Cut) → Constraint s.shape.d → List ℤ
laid s cut x = laid_out s.shape.d cut.rank cut.parts (widths s cut) x

module _ (s : Sizes) (tz : ℕ) where
  open R s.shape.d use {Carrier as Rd, zero as 𝟘}

  abbrev pub no_z : List Rd
  no_z = zeros s.shape.d (tz * s.shape.n)

  abbrev pub no_t : List Rd
  no_t = zeros s.shape.d (t_size s.shape.r s.kappa s.t1)

  abbrev pub no_g : List Rd
  no_g = zeros s.shape.d (garbage_size s.shape.r s.t2)

  abbrev pub no_h : List Rd
  no_h = zeros s.shape.d (garbage_size s.shape.r s.t1)

  -- the elements of a list on z from element `first` on, and on g and h
  abbrev pub on_z : (xs : List ℤ) (first : ℕ) → List Rd
  on_z xs first = z_table s.shape.d s.shape.n tz s.b (λ k. el s.shape.d xs (first + k))

  abbrev pub on_g : (xs : List ℤ) → List Rd
  on_g xs = garbage_table s.shape.d s.shape.r s.b2 s.t2 (λ i j. el s.shape.d xs (pair s.shape.r i j))

  abbrev pub on_h : (xs : List ℤ) → List Rd
  on_h xs = garbage_table s.shape.d s.shape.r s.b1 s.t1 (λ i j. el s.shape.d xs (pair s.shape.r i j))

  -- row k of a matrix with m columns
  abbrev pub row : (m : ℕ) (xs : List ℤ) (k : ℕ) → List Rd
  row m xs k = tab m (λ y. el s.shape.d xs (k * m + y))

  -- how the digits of t stand on row k
  abbrev pub row_digits : (k : ℕ) → Digits
  row_digits k = record { base = s.b1; count = s.t1; rows = s.kappa; row = k }

  abbrev pub on_t : (xs : List ℤ) (k : ℕ) → List Rd
  on_t xs k = t_table s.shape.d s.shape.r s.kappa s.t1 (digit_row s.shape.d (row_digits k) xs)

  abbrev pub check5 : (A minus : List ℤ) (k : ℕ) → Constraint s.shape.d
  check5 A minus k = record { a = no-a s.shape.d; table = on_z A (k * s.shape.n) ++ (on_t minus k ++ (no_g ++ no_h)); constant = 𝟘 }

  abbrev pub check6 : (ν : ℕ) (products : List ℤ) → Constraint s.shape.d
  check6 ν products = record { a = squares s.shape.d tz ν s.b; table = no_z ++ (no_t ++ (on_g products ++ no_h)); constant = 𝟘 }

  abbrev pub check7 : (folded products : List ℤ) → Constraint s.shape.d
  check7 folded products = record { a = no-a s.shape.d; table = on_z folded 0 ++ (no_t ++ (no_g ++ on_h products)); constant = 𝟘 }

  abbrev pub check8 : (aggregated_a diagonal : List ℤ) (b : Rd) → Constraint s.shape.d
  check8 aggregated_a diagonal b =
      record { a = no-a s.shape.d; table = no_z ++ (no_t ++ (on_g aggregated_a ++ on_h diagonal)); constant = b }

  abbrev pub check3 : (B C u₁ : List ℤ) (k : ℕ) → Constraint s.shape.d
  check3 B C u₁ k =
      record {
        a = no-a s.shape.d;
        table = no_z ++ (row (t_size s.shape.r s.kappa s.t1) B k ++ (row (garbage_size s.shape.r s.t2) C k ++ no_h));
        constant = el s.shape.d u₁ k;
      }

  abbrev pub check4 : (D u₂ : List ℤ) (k : ℕ) → Constraint s.shape.d
  check4 D u₂ k =
      record {
        a = no-a s.shape.d;
        table = no_z ++ (no_t ++ (no_g ++ row (garbage_size s.shape.r s.t1) D k));
        constant = el s.shape.d u₂ k;
      }
