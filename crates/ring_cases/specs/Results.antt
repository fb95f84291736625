-- The results of each case. Its numbers are xs as numbers of 32 bits, and wides with all their bits; the first is the operation.
--     2 sum  3 difference  4 opposite  5 product  6 conjugate  7 multiple  8 half  12 inner product     ring elements
--     9, 10 digits of a number, of an element                                                           lists
--     1 centred  11 recomposed  13, 14, 15 ranges  16, 17 squared lengths  18 constant term             one number
--     19 the product under the name that C uses                                                         kind, number, element
use Rattle.std.specs.Prelude.{◌≡◌, Bool, cond, ◌&&◌, ◌||◌, List, [], ◌∷◌, map, ℕ, ◌+◌, ◌*◌, min, eqb, ltb, ℤ, pos, length, get_or, take, drop}
use Rattle.integers.specs.Laws.Bridge.{P}
use Rattle.integers.specs.Over.{over}
use Rattle.integers.specs.Sums.{norm_sq}
use Rattle.algebra.specs.Conjugation.{conjugate}
use Rattle.algebra.specs.Sum.{sum}
use Rattle.residues.specs.Modulus.{Zq, centred}
use Rattle.residues.specs.Digits.{split, value}
use Rattle.residues.specs.Length.{remaining, lessened, holds}
use Rattle.residues.specs.Range.{coefficients, projection_entries, challenge}
use Rattle.ring.specs.Element.{R, el, array, coeffs, number}
use Rattle.capi.specs.declared.types.CProduct.{CProduct}
use Rattle.capi.specs.Codes.{product_code}
use Rattle.lizkarg.specs.Calls.{product_of}
use Rattle.cases.specs.Numbers.{padded, word, size_at}
use Rattle.cases.specs.Text.{line_numbers}
use Rattle.ring_cases.specs.Input.{degree_at, base_at, count_at}

-- n numbers written at a list's start
pub record Results (numbers out out' : List ℤ) (n : ℕ) : Type 0 where
  pub count-is : n ≡ length numbers
  pub out-is : out' ≡ over out 0 numbers

-- ---- ring elements

unfoldable pub of_one : ℕ → (d : ℕ) → (R d).Carrier → (R d).Carrier
of_one op d u = cond (eqb op 4) ((R d).neg u) (cond (eqb op 6) (conjugate Zq u) ((R d).mul (number d (pos 2147483599)) u))

unfoldable pub of_two : ℕ → (d : ℕ) → (R d).Carrier → (R d).Carrier → (R d).Carrier
of_two op d u v = cond (eqb op 2) ((R d).add u v) (cond (eqb op 3) ((R d).add u ((R d).neg v)) ((R d).mul u v))

-- `d a[d]`
unfoldable pub one_at : ℕ → (d : ℕ) → List ℤ → (R d).Carrier
one_at op d xs = of_one op d (el d (drop 2 xs) 0)

-- `d a[d] b[d]`
unfoldable pub two_at : ℕ → (d : ℕ) → List ℤ → (R d).Carrier
two_at op d xs = of_two op d (el d (drop 2 xs) 0) (el d (drop 2 xs) 1)

-- `d c a[d]`
unfoldable pub scaled_at : (d : ℕ) → List ℤ → (R d).Carrier
scaled_at d xs = (R d).mul (number d (get_or xs 2 (pos 0))) (el d (drop 3 xs) 0)

-- `d n u[n*d] v[n*d]`
unfoldable pub inner_at : (d : ℕ) → List ℤ → (R d).Carrier
inner_at d xs = sum (R d) (size_at 8 xs 2) (λ k. (R d).mul (el d (drop 3 xs) (0 + k)) (el d (drop 3 xs) (size_at 8 xs 2 + k)))

unfoldable pub is_two : ℕ → Bool
is_two op = eqb op 2 || eqb op 3 || eqb op 5

unfoldable pub element_of : ℕ → (d : ℕ) → List ℤ → (R d).Carrier
element_of op d xs = cond (eqb op 7) (scaled_at d xs) (cond (eqb op 12) (inner_at d xs) (cond (is_two op) (two_at op d xs) (one_at op d xs)))

unfoldable pub element_numbers : ℕ → List ℤ → List ℤ
element_numbers op xs = coeffs (degree_at xs) (element_of op (degree_at xs) xs)

-- ---- digits

-- `B t x`
unfoldable pub number_digits : List ℤ → List ℤ
number_digits xs = split (base_at xs 1) (count_at xs 2) (get_or xs 3 (pos 0) ∷ [])

-- `d B t a[d]`
unfoldable pub element_digits : List ℤ → List ℤ
element_digits xs = split (base_at xs 2) (count_at xs 3) (coeffs (degree_at xs) (el (degree_at xs) (drop 4 xs) 0))

-- ---- yes or no

-- n numbers from number k on
unfoldable pub list_at : (n k : ℕ) → List ℤ → List ℤ
list_at n k xs = take n (drop k xs)

unfoldable pub list_test : ℕ → List ℤ → Bool
list_test op xs = cond (eqb op 13) (coefficients xs) (cond (eqb op 14) (projection_entries xs) (challenge xs))

-- `bound n x[n]`
unfoldable pub norm_at : (xs wides : List ℤ) → Bool
norm_at xs wides = holds (remaining (P (get_or wides 1 (pos 0))) (norm_sq (list_at (size_at 64 xs 2) 3 xs)))

-- `bound n m x[n] y[m]`
unfoldable pub two_norms_at : (xs wides : List ℤ) → Bool
two_norms_at xs wides =
    holds
    (lessened (remaining (P (get_or wides 1 (pos 0))) (norm_sq (list_at (size_at 64 xs 2) 4 xs)))
    (norm_sq (list_at (size_at 64 xs 3) (4 + size_at 64 xs 2) xs)))

-- the others: `n x[n]`
unfoldable pub test_of : ℕ → (xs wides : List ℤ) → Bool
test_of op xs wides =
    cond (eqb op 16) (norm_at xs wides) (cond (eqb op 17) (two_norms_at xs wides) (list_test op (list_at (size_at 64 xs 1) 2 xs)))

-- ---- one number

-- `B t digits[t]`
unfoldable pub recomposed_at : List ℤ → ℤ
recomposed_at xs = centred (value (base_at xs 1) (count_at xs 2) (λ e. get_or xs (3 + e * 1) (pos 0)))

-- `d a[d]`
unfoldable pub constant_at : List ℤ → ℤ
constant_at xs = centred (get_or (array (degree_at xs) (el (degree_at xs) (drop 2 xs) 0)) 0 (pos 0))

unfoldable pub value_of : ℕ → (xs wides : List ℤ) → ℤ
value_of op xs wides =
    cond (eqb op 1) (centred (get_or wides 1 (pos 0)))
    (cond (eqb op 11) (recomposed_at xs) (cond (eqb op 18) (constant_at xs) (cond (test_of op xs wides) (pos 1) (pos 0))))

-- ---- the product under the name that C uses: `d x[64] y[64]`

unfoldable pub product_at : (xs wides : List ℤ) → CProduct
product_at xs wides = product_code (product_of (P (get_or wides 1 (pos 0))) (padded 64 (drop 2 xs)) (padded 64 (drop 66 xs)))

unfoldable pub product_numbers : CProduct → List ℤ
product_numbers x = pos x.kind ∷ pos (min x.number 2147483647) ∷ padded 64 x.element.coefficients

-- ---- all

unfoldable pub is_element : ℕ → Bool
is_element op = (ltb 1 op && ltb op 9) || eqb op 12

unfoldable pub results_of : ℕ → (xs wides : List ℤ) → List ℤ
results_of op xs wides =
    cond (eqb op 9) (number_digits xs)
    (cond (eqb op 10) (element_digits xs)
    (cond (eqb op 19) (product_numbers (product_at xs wides)) (cond (is_element op) (element_numbers op xs) (value_of op xs wides ∷ []))))

-- the results of a line, of at most 2048 numbers
unfoldable pub line_results : List ℕ → List ℤ
line_results line =
    results_of (size_at 19 (map word (padded 2048 (line_numbers line))) 0) (map word (padded 2048 (line_numbers line))) (padded 2048 (line_numbers line))
