-- Laws of finite sums of natural numbers and of squared norms.
use Rattle.std.specs.Prelude.{◌≡◌, refl, List, [], ◌∷◌, ◌++◌, ℕ, zero, suc, ◌+◌, ◌-◌, ◌*◌, ◌≤◌, ◌<◌, length, get_or, take, drop, ℤ, pos}
use Rattle.std.proofs.Common.{sym, ap, add-zero, add-suc, add-sub_of_le, lt-suc_self, zero-mul, suc-mul, add-one, arith, take-append-drop, take-suc}
use Rattle.std.proofs.Math.Nat.{le_step}
use Rattle.std.proofs.Math.Seq.{take-length}
use Rattle.integers.specs.Lists.{tab}
use Rattle.integers.specs.Sums.{total, sq, norm_sq}

-- ---- one more summand

pub total-suc : (n : ℕ) (f : ℕ → ℕ) → total (suc n) f ≡ total n f + f n
unfolding total
total-suc n f = refl

pub total-add-one : (n : ℕ) (f : ℕ → ℕ) → total (n + 1) f ≡ total n f + f n
total-add-one n f = rw add-one (total-suc n f)

-- ---- two families compared

pub total_cong : (n : ℕ) (f g : ℕ → ℕ) → ((i : ℕ) → i < n → f i ≡ g i) → total n f ≡ total n g
unfolding total
total_cong zero f g e = refl
total_cong (suc n) f g e = omega (arith, total_cong n f g (λ i h. e i (le_step h)), e n (lt-suc_self n))

pub total_mono : (n : ℕ) (f g : ℕ → ℕ) → ((i : ℕ) → i < n → f i ≤ g i) → total n f ≤ total n g
unfolding total
total_mono zero f g e = omega arith
total_mono (suc n) f g e = omega (arith, total_mono n f g (λ i h. e i (le_step h)), e n (lt-suc_self n))

-- ---- sums, multiples and constants

pub total-sum : (n : ℕ) (f g : ℕ → ℕ) → total n (λ i. f i + g i) ≡ total n f + total n g
unfolding total
total-sum zero f g = omega arith
total-sum (suc n) f g = omega (arith, total-sum n f g)

pub total-times : (n c : ℕ) (f : ℕ → ℕ) → total n (λ i. c * f i) ≡ c * total n f
unfolding total
total-times zero c f = omega arith
total-times (suc n) c f = omega (arith, total-times n c f)

pub total_const : (n c : ℕ) → total n (λ i. c) ≡ n * c
unfolding total
total_const zero c = omega arith
total_const (suc n) c = omega (arith, total_const n c)

pub total-bound : (n c : ℕ) (f : ℕ → ℕ) → ((i : ℕ) → i < n → f i ≤ c) → total n f ≤ n * c
total-bound n c f h = omega (arith, total_mono n f (λ i. c) h, total_const n c)

pub total-zeros : (n : ℕ) (f : ℕ → ℕ) → ((i : ℕ) → i < n → f i ≡ 0) → total n f ≡ 0
total-zeros n f h = omega (arith, total_cong n f (λ i. 0) h, total_const n 0)

-- ---- a part of the summands

pub total-split : (m n : ℕ) (f : ℕ → ℕ) → total (m + n) f ≡ total m f + total n (λ i. f (m + i))
unfolding total
total-split m zero f = rw (add-zero m) (omega arith)
total-split m (suc n) f = rw add-suc (omega (arith, total-split m n f))

-- the first summand apart
pub total_first : (n : ℕ) (f : ℕ → ℕ) → total (suc n) f ≡ f 0 + total n (λ i. f (suc i))
unfolding total
total_first zero f = omega arith
total_first (suc n) f = omega (arith, total_first n f)

pub total-part : (m n : ℕ) (f : ℕ → ℕ) → m ≤ n → total m f ≤ total n f
total-part m n f h = omega (arith, total-split m (n - m) f, ap (λ (k : ℕ). total k f) (add-sub_of_le h))

pub total-summand : (n : ℕ) (f : ℕ → ℕ) (i : ℕ) → i < n → f i ≤ total n f
total-summand n f i h = omega (arith, total-part (suc i) n f h, total-suc i f)

-- ---- sums of sums

pub total_swap : (n m : ℕ) (f : ℕ → ℕ → ℕ) → total n (λ i. total m (λ j. f i j)) ≡ total m (λ j. total n (λ i. f i j))
unfolding total
total_swap zero m f = sym (total-zeros m (λ j. 0) (λ j h. refl))
total_swap (suc n) m f = omega (arith, total_swap n m f, total-sum m (λ j. total n (λ i. f i j)) (f n))

-- n blocks of m summands
pub total_blocks : (n m : ℕ) (f : ℕ → ℕ) → total (n * m) f ≡ total n (λ i. total m (λ j. f (i * m + j)))
unfolding total
total_blocks zero m f = rw zero-mul
total_blocks (suc n) m f = rw suc-mul (omega (arith, total-split (n * m) m f, total_blocks n m f))

-- ---- the squared norm

pub norm_sq-append : (xs ys : List ℤ) → norm_sq (xs ++ ys) ≡ norm_sq xs + norm_sq ys
unfolding norm_sq
norm_sq-append [] ys = omega arith
norm_sq-append (x ∷ xs) ys = omega (arith, norm_sq-append xs ys)

pub norm_sq-take-suc : (xs : List ℤ) (i : ℕ) → i < length xs → norm_sq (take (suc i) xs) ≡ norm_sq (take i xs) + sq (get_or xs i (pos 0))
unfolding norm_sq
norm_sq-take-suc xs i h = rw (take-suc xs i (pos 0)) (omega (arith, norm_sq-append (take i xs) (get_or xs i (pos 0) ∷ [])))

pub norm_sq-take-le : (xs : List ℤ) (i : ℕ) → norm_sq (take i xs) ≤ norm_sq xs
norm_sq-take-le xs i = omega (arith, norm_sq-append (take i xs) (drop i xs), ap norm_sq (take-append-drop i xs))

pub norm_sq-take : (xs : List ℤ) (i : ℕ) → i ≤ length xs → norm_sq (take i xs) ≡ total i (λ j. sq (get_or xs j (pos 0)))
unfolding total norm_sq
norm_sq-take xs zero h = refl
norm_sq-take xs (suc i) h = omega (arith, norm_sq-take xs i (omega arith), norm_sq-take-suc xs i h)

pub norm_sq-total : (xs : List ℤ) → norm_sq xs ≡ total (length xs) (λ i. sq (get_or xs i (pos 0)))
norm_sq-total xs = rw take-length at (norm_sq-take xs (length xs) (omega arith))

pub norm_sq-summand : (xs : List ℤ) (i : ℕ) → i < length xs → sq (get_or xs i (pos 0)) ≤ norm_sq xs
norm_sq-summand xs i h = omega (arith, norm_sq-total xs, total-summand (length xs) (λ j. sq (get_or xs j (pos 0))) i h)

pub norm_sq-tab : (n : ℕ) (f : ℕ → ℤ) → norm_sq (tab n f) ≡ total n (λ i. sq (f i))
unfolding total norm_sq tab
norm_sq-tab zero f = refl
norm_sq-tab (suc n) f = omega (arith, total_first n (λ i. sq (f i)), norm_sq-tab n (λ i. f (suc i)))
