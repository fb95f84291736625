-- Laws of the lists of a sheet.
--     before, list-part     where list k starts, and that it is that part of the numbers
--     length-list           its length
--     coefficients-list, list-coefficients    all numbers are in range exactly when each list is
--     lengths-total, rows-part, challenges-part    the lengths together; the projection rows and the challenges by the place where they start
use Rattle.std.specs.Prelude.{◌≡◌, refl, true, List, [], ◌∷◌, ℕ, zero, suc, ◌+◌, ◌*◌, ◌≤◌, ◌<◌, length, get_or, drop, ℤ}
use Rattle.std.proofs.Math.Path.{ap}
use Rattle.std.proofs.Common.{subst, ◌∙◌, length-drop, take-append-drop, length-take-le, drop-drop}
use native.Mathlib.Omega.{arith}
use Rattle.std.proofs.Math.ListN.{take}
use Rattle.residues.specs.Range.{coefficients}
use Rattle.residues.proofs.Laws.RangeLaws.{coefficients_of, coefficients-join, coefficients-part}
use Rattle.fold.specs.Refusals.{whole_length, constant_terms_length, projection_length}
use Rattle.fold.specs.declared.Sizes.{Sizes}
use Rattle.sheet.specs.Lists.{list_lengths, list_at}
use Rattle.fields.specs.Sections.{matrix_count, whole_count, row_count, last_count, term_size, ones_count, total, projections_from, challenges_from}
use Rattle.sheet.specs.Reading.{projections_in, challenges_in}

-- ---- lists of any lengths

-- the numbers before list k
unfoldable pub before : List ℕ → ℕ → ℕ
before [] k = 0
before (m ∷ ms) zero = 0
before (m ∷ ms) (suc k) = m + before ms k

-- the numbers of all lists
unfoldable pub together : List ℕ → ℕ
together [] = 0
together (m ∷ ms) = m + together ms

no-numbers : (xs : List ℤ) → [] ≡ take 0 xs
no-numbers [] = refl
no-numbers (x ∷ xs) = refl

pub list-part : (ms : List ℕ) (xs : List ℤ) (k : ℕ) → list_at ms xs k ≡ take (get_or ms k 0) (drop (before ms k) xs)
unfolding list_at before
list-part [] xs k = no-numbers (drop 0 xs)
list-part (m ∷ ms) xs zero = refl
list-part (m ∷ ms) xs (suc k) = list-part ms (drop m xs) k ∙ ap (take (get_or ms k 0)) (drop-drop (before ms k) m xs)

pub length-list : (ms : List ℕ) (xs : List ℤ) (k : ℕ) → k < length ms → together ms ≤ length xs → length (list_at ms xs k) ≡ get_or ms k 0
unfolding list_at together
length-list [] xs k h fits = let never : ⊥ = omega arith in absurd never
length-list (m ∷ ms) xs zero h fits = length-take-le m xs (omega arith)
length-list (m ∷ ms) xs (suc k) h fits = length-list ms (drop m xs) k (omega arith) (omega (arith, length-drop m xs))

pub coefficients-list : (ms : List ℕ) (xs : List ℤ) (k : ℕ) → coefficients xs ≡ true → coefficients (list_at ms xs k) ≡ true
coefficients-list ms xs k e = rw (list-part ms xs k) (coefficients-part (before ms k) (get_or ms k 0) xs e)

-- where every list is in range, and there are no other numbers, all numbers are
pub list-coefficients : (ms : List ℕ) (xs : List ℤ) → length xs ≤ together ms
    → ((k : ℕ) → k < length ms → coefficients (list_at ms xs k) ≡ true) → coefficients xs ≡ true
unfolding list_at together
list-coefficients [] xs fits h = coefficients_of xs (λ i l. let never : ⊥ = omega arith in absurd never)
list-coefficients (m ∷ ms) xs fits h =
    subst (λ (l : List ℤ). coefficients l ≡ true) (take-append-drop m xs)
    (coefficients-join (take m xs) (drop m xs) (h 0 (omega arith))
    (list-coefficients ms (drop m xs) (omega (arith, length-drop m xs)) (λ k l. h (suc k) (omega arith))))

-- ---- the lists of a sheet

module _ (s : Sizes) where
  pub lengths-total : together (list_lengths s) ≡ total s
  unfolding together list_lengths total matrix_count whole_count row_count last_count term_size ones_count whole_length constant_terms_length projection_length
  lengths-total = omega arith

  pub rows_start : before (list_lengths s) 7 ≡ projections_from s
  unfolding before list_lengths projections_from matrix_count whole_count term_size whole_length constant_terms_length
  rows_start = omega arith

  pub challenges-start : before (list_lengths s) 15 ≡ challenges_from s
  unfolding before list_lengths challenges_from matrix_count whole_count row_count term_size ones_count whole_length constant_terms_length projection_length
  challenges-start = omega arith

  pub rows-part : (xs : List ℤ) → projections_in s xs ≡ take (projection_length s.shape.d s.shape.n s.shape.r s.w) (drop (projections_from s) xs)
  unfolding projections_in list_lengths
  rows-part xs =
      list-part (list_lengths s) xs 7 ∙ ap (λ (m : ℕ). take (projection_length s.shape.d s.shape.n s.shape.r s.w) (drop m xs)) rows_start

  pub challenges-part : (xs : List ℤ) → challenges_in s xs ≡ take (s.shape.r * s.shape.d) (drop (challenges_from s) xs)
  unfolding challenges_in list_lengths
  challenges-part xs = list-part (list_lengths s) xs 15 ∙ ap (λ (m : ℕ). take (s.shape.r * s.shape.d) (drop m xs)) challenges-start
