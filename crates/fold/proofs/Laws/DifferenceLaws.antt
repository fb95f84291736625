-- Laws of the centred difference of two lists: its elements, its squared length, and where it is not zero.
use Rattle.std.specs.Prelude.{◌≡◌, refl, ◌≢◌, List, [], ◌∷◌, ℕ, zero, suc, ◌+◌, ◌*◌, ◌<◌, ◌≤◌, length, get_or, ℤ, pos, nat_abs, ◌-ℤ◌}
use Rattle.std.proofs.Common.{sym, ap, ap₂, ◌∙◌, le_trans, arith}
use Rattle.std.proofs.Math.Nat.{suc_inj}
use Rattle.std.proofs.Math.IntN.{ℤ_discrete}
use Rattle.integers.specs.Laws.ListLaws.{length-tab, get_d_tab}
use Rattle.integers.specs.Laws.SumLaws.{total_mono, total-sum, total-times, norm_sq-total, norm_sq-tab}
use Rattle.integers.specs.Sums.{sq, norm_sq}
use Rattle.integers.specs.Laws.Squares.{sq_mono, sq-difference}
use Rattle.algebra.specs.CommRing.{sub}
use Rattle.algebra.specs.Laws.RingLaws.{sub_zero_iff}
use Rattle.algebra.specs.Polynomial.{coeff}
use Rattle.algebra.specs.Laws.PolynomialLaws.{coeff-add, coeff-neg}
use Rattle.residues.specs.Modulus.{Zq, red, centred}
use Rattle.residues.proofs.Laws.ModulusLaws.{red-zero, red-sub, red-centred, centred-shorter, centred_fixed, centred-eq}
use Rattle.ring.specs.Element.{R, el}
use Rattle.ring.specs.Laws.ElementLaws.{element-ext}
use Rattle.ring.specs.Laws.ElementPlaces.{coeff-el}
use Rattle.fold.specs.Differences.{difference}

-- ---- length and entries

pub length-difference : (xs ys : List ℤ) → length (difference xs ys) ≡ length xs
unfolding difference
length-difference xs ys = length-tab (length xs) _

pub get_d_difference : (xs ys : List ℤ) (i : ℕ) → i < length xs
    → get_or (difference xs ys) i (pos 0) ≡ centred (get_or xs i (pos 0) -ℤ get_or ys i (pos 0))
unfolding difference
get_d_difference xs ys i h = get_d_tab (length xs) _ i (pos 0) h

-- ---- elements

pub el-difference : (d : ℕ) (xs ys : List ℤ) (p : ℕ) → p * d + d ≤ length xs
    → el d (difference xs ys) p ≡ sub (R d) (el d xs p) (el d ys p)
unfolding sub
el-difference d xs ys p h = element-ext d _ _ entry
  where
    entry : (k : ℕ) → k < d
        → coeff Zq (el d (difference xs ys) p) k ≡ coeff Zq ((R d).add (el d xs p) ((R d).neg (el d ys p))) k
    entry k l =
        let x = get_or xs (p * d + k) (pos 0) in
        let y = get_or ys (p * d + k) (pos 0) in
        coeff-el d (difference xs ys) p k l
        ∙ ap red (get_d_difference xs ys (p * d + k) (omega arith))
        ∙ red-centred (x -ℤ y)
        ∙ red-sub x y
        ∙ sym (coeff-add Zq (el d xs p) ((R d).neg (el d ys p)) k
        ∙ ap₂ Zq.add (coeff-el d xs p k l) (coeff-neg Zq (el d ys p) k ∙ ap Zq.neg (coeff-el d ys p k l)))

-- ---- squared length

pub difference-short : (xs ys : List ℤ) → length xs ≡ length ys → norm_sq (difference xs ys) ≤ 2 * norm_sq xs + 2 * norm_sq ys
unfolding difference
difference-short xs ys e =
    let m = length xs in
    let x : ℕ → ℕ = λ i. sq (get_or xs i (pos 0)) in
    let y : ℕ → ℕ = λ i. sq (get_or ys i (pos 0)) in
    omega (
      arith,
      norm_sq-tab m (λ i. centred (get_or xs i (pos 0) -ℤ get_or ys i (pos 0))),
      total_mono m _ (λ i. 2 * x i + 2 * y i) (λ i _. entry (get_or xs i (pos 0)) (get_or ys i (pos 0))),
      total-sum m (λ i. 2 * x i) (λ i. 2 * y i),
      total-times m 2 x,
      total-times m 2 y,
      norm_sq-total xs,
      rw (← e) at (norm_sq-total ys),
    )
  where
    entry : (x y : ℤ) → sq (centred (x -ℤ y)) ≤ 2 * sq x + 2 * sq y
    entry x y = le_trans (sq_mono (centred (x -ℤ y)) (x -ℤ y) (centred-shorter (x -ℤ y))) (sq-difference x y)

-- ---- where it is not zero

-- lists of one length that are not equal differ at some place
pub record Differ (xs ys : List ℤ) : Type 0 where
  pub place : ℕ
  pub below : place < length xs
  pub apart : get_or xs place (pos 0) ≢ get_or ys place (pos 0)

pub differ : (xs ys : List ℤ) → length xs ≡ length ys → xs ≢ ys → Differ xs ys
differ [] [] e ne = absurd (ne refl)
differ [] (y ∷ ys) e ne = let no : ⊥ = omega arith in absurd no
differ (x ∷ xs) [] e ne = let no : ⊥ = omega arith in absurd no
differ (x ∷ xs) (y ∷ ys) e ne = first (ℤ_discrete x y) (differ xs ys (suc_inj e))
  where
    first : Dec (x ≡ y) → (xs ≢ ys → Differ xs ys) → Differ (x ∷ xs) (y ∷ ys)
    first (no f) rest = record { place = 0; below = omega arith; apart = f }
    first (yes f) rest =
        let later = rest (λ g. ne (ap₂ (λ (z : ℤ) (zs : List ℤ). z ∷ zs) f g)) in
        record { place = suc later.place; below = omega (arith, later.below); apart = later.apart }

-- numbers in range that differ have a difference that is not zero modulo q
centred-nonzero : (x y : ℤ) → nat_abs x ≤ 2147483598 → nat_abs y ≤ 2147483598 → x ≢ y → centred (x -ℤ y) ≢ pos 0
unfolding sub
centred-nonzero x y h k ne e =
    let zero_residue : sub Zq (red x) (red y) ≡ Zq.zero = sym (red-sub x y) ∙ sym (red-centred (x -ℤ y)) ∙ ap red e ∙ red-zero in
    ne (sym (centred_fixed h) ∙ centred-eq x y ((sub_zero_iff Zq (red x) (red y)).0 zero_residue) ∙ centred_fixed k)

pub difference-nonzero : (xs ys : List ℤ) (i : ℕ) → i < length xs → nat_abs (get_or xs i (pos 0)) ≤ 2147483598
    → nat_abs (get_or ys i (pos 0)) ≤ 2147483598 → get_or xs i (pos 0) ≢ get_or ys i (pos 0) → get_or (difference xs ys) i (pos 0) ≢ pos 0
difference-nonzero xs ys i l h k ne e =
    centred-nonzero (get_or xs i (pos 0)) (get_or ys i (pos 0)) h k ne (sym (get_d_difference xs ys i l) ∙ e)
