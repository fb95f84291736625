-- The values of the aggregated functions at a witness: what checks 2 and 8 ask of an honest prover.
--     half_law            2147483599 is one half
--     ct-projection       the value of projection row j has the constant term p_j
--     ct-second           the constant term of b''_k is Σψ b' + Σω p
--     value-aggregate     the aggregate's value is its constant Σα b + Σδ b''
use Rattle.std.specs.Prelude.{◌≡◌, List, ℕ, ◌+◌, ◌-◌, ◌*◌, ◌<◌, ℤ, pos, ◌*ℤ◌}
use Rattle.std.proofs.Math.Path.{sym, ap, ap₂}
use Rattle.std.proofs.Common.{◌∙◌}
use native.Mathlib.Omega.{arith}
use Rattle.std.proofs.Math.ListN.{get_or}
use Rattle.integers.specs.Laws.ListLaws.{get_d_tab}
use Rattle.algebra.specs.Laws.RingLaws.{add-mul, one-mul, zero-mul, zero-add}
use Rattle.algebra.specs.Integers.{ℤ-ring}
use Rattle.algebra.specs.Laws.SumMaps.{reduce-sum}
use Rattle.algebra.specs.Sum.{sum}
use Rattle.algebra.specs.Laws.SumLaws.{sum_cong, sum_vanish, sum_blocks}
use Rattle.algebra.specs.Triangle.{rows}
use Rattle.algebra.specs.Polynomial.{coeff, constant}
use Rattle.algebra.specs.Laws.ConstantLaws.{constant-add}
use Rattle.algebra.specs.Conjugation.{conjugate, ct}
use Rattle.algebra.proofs.Laws.ConjugationLaws.{ct-add, ct-sum, ct-constant-mul, ct-conjugate}
use Rattle.algebra.specs.DotProduct.{Function, inner, value, combination}
use Rattle.algebra.specs.Laws.DotProductLaws.{value-plus, value-combination}
use Rattle.residues.specs.Modulus.{q-positive, Zq, red, centred}
use Rattle.residues.specs.Modulus as Modulus
use Rattle.residues.proofs.Laws.ModulusLaws.{red-mul, red-centred, two-halves}
use Rattle.ring.specs.Element.{R, el, number}
use Rattle.ring.specs.Laws.ElementPlaces.{coeff-el}
use Rattle.fold.specs.Statement.{Relation, Meets, part, function, whole_at, term_at, term_constant}
use Rattle.fold.specs.Messages.{half, p, projection, second, b'', aggregate, aggregate_constant}
use Rattle.fold.specs.Sizes.{five}
use Rattle.fold.proofs.Laws.MessageLaws.{el-elements}

pub half_law : (d : ℕ) → (R d).mul ((R d).add (R d).one (R d).one) (half d) ≡ (R d).one
unfolding half number
half_law d =
    add-mul (R d) (R d).one (R d).one (half d)
    ∙ ap₂ (R d).add (one-mul (R d) (half d)) (one-mul (R d) (half d))
    ∙ sym (constant-add Zq d (red (pos 2147483599)) (red (pos 2147483599)))
    ∙ ap (constant Zq d) doubled
  where
    doubled : Zq.add (red (pos 2147483599)) (red (pos 2147483599)) ≡ Zq.one
    doubled =
        sym (ap₂ Zq.add (Zq.mul-one (red (pos 2147483599))) (Zq.mul-one (red (pos 2147483599)))) ∙ two-halves Zq.one

red-sum : (n : ℕ) (f : ℕ → ℤ) → red (sum ℤ-ring n f) ≡ sum Zq n (λ i. red (f i))
unfolding red
red-sum n f = reduce-sum Modulus.q q-positive n f

-- a sum over r parts of n elements of d numbers
sum-numbers : (d n r : ℕ) (f : ℕ → Zq.Carrier)
    → sum Zq (r * n * d) f ≡ sum Zq r (λ i. sum Zq n (λ k. sum Zq d (λ j. f ((i * n + k) * d + j))))
sum-numbers d n r f = sum_blocks Zq (r * n) d f ∙ sum_blocks Zq r n (λ x. sum Zq d (λ j. f (x * d + j)))

module _ (d n r w : ℕ) (projections s : List ℤ) (positive : 0 < d) where
  -- the product of entries of row j and of the witness
  summand : ℕ → ℕ → ℤ
  summand j y = get_or projections (j * (r * n * d) + y) (pos 0) *ℤ get_or s y (pos 0)

  red-p : (j : ℕ) → j < w → red (get_or (p d n r w projections s) j (pos 0)) ≡ sum Zq (r * n * d) (λ y. red (summand j y))
  unfolding p summand
  red-p j h =
      ap red (get_d_tab w (λ j. centred (sum ℤ-ring (r * n * d) (summand j))) j (pos 0) h)
      ∙ red-centred (sum ℤ-ring (r * n * d) (summand j))
      ∙ red-sum (r * n * d) (summand j)

  product : ℕ → ℕ → ℕ → (R d).Carrier
  product j i k = (R d).mul (conjugate Zq (el d projections ((j * r + i) * n + k))) (part d n s i k)

  ct-product : (j i k : ℕ) → ct Zq (product j i k) ≡ sum Zq d (λ c. red (summand j ((i * n + k) * d + c)))
  unfolding summand product part
  ct-product j i k =
      ct-conjugate Zq (el d projections ((j * r + i) * n + k)) (el d s (i * n + k)) positive ∙ sum_cong Zq d _ _ entry
    where
      entry : (c : ℕ) → c < d
          → Zq.mul (coeff Zq (el d projections ((j * r + i) * n + k)) c) (coeff Zq (el d s (i * n + k)) c)
          ≡ red (get_or projections (j * (r * n * d) + ((i * n + k) * d + c)) (pos 0) *ℤ get_or s ((i * n + k) * d + c) (pos 0))
      entry c l =
          let place : ((j * r + i) * n + k) * d + c ≡ j * (r * n * d) + ((i * n + k) * d + c) = omega arith in
          ap₂ Zq.mul
          (coeff-el d projections ((j * r + i) * n + k) c l ∙ ap (λ y. red (get_or projections y (pos 0))) place)
          (coeff-el d s (i * n + k) c l)
          ∙ sym (red-mul _ _)

  value-projection : (j : ℕ)
      → value (R d) r n (projection d n r projections j) (part d n s) ≡ sum (R d) r (λ i. sum (R d) n (λ k. product j i k))
  unfolding value rows inner product
  value-projection j =
      ap (λ x. (R d).add x (sum (R d) r (λ i. sum (R d) n (λ k. product j i k)))) vanish ∙ zero-add (R d) _
    where
      vanish : rows (R d) r (λ i j. (R d).mul (R d).zero (inner (R d) n (part d n s i) (part d n s j))) ≡ (R d).zero
      vanish = sum_vanish (R d) r _ (λ i _. sum_vanish (R d) (r - i) _ (λ k _. zero-mul (R d) _))

  pub ct-projection : (j : ℕ) → j < w
      → ct Zq (value (R d) r n (projection d n r projections j) (part d n s)) ≡ red (get_or (p d n r w projections s) j (pos 0))
  ct-projection j h =
      ap (λ u. ct Zq u) (value-projection j)
      ∙ ct-sum Zq r (λ i. sum (R d) n (λ k. product j i k))
      ∙ sum_cong Zq r _ _ (λ i _. ct-sum Zq n (λ k. product j i k) ∙ sum_cong Zq n _ _ (λ k _. ct-product j i k))
      ∙ sym (sum-numbers d n r (λ y. red (summand j y)))
      ∙ sym (red-p j h)

module _ (𝓡 : Relation) (s : List ℤ) (meets : Meets 𝓡 s) (w : ℕ) (projections ψ ω : List ℤ) where
  open 𝓡 use {d, n, r, K, L, whole, constant_terms}

  pub ct-second : 0 < d → (k : ℕ)
      → ct Zq (value (R d) r n (second d n r L w constant_terms projections ψ ω k) (part d n s))
      ≡ Zq.add
      (sum Zq L (λ l. Zq.mul (red (get_or ψ (k * L + l) (pos 0))) (red (term_constant d n r constant_terms l))))
      (sum Zq w (λ j. Zq.mul (red (get_or ω (k * w + j) (pos 0))) (red (get_or (p d n r w projections s) j (pos 0)))))
  unfolding number
  ct-second positive k =
      ap (λ u. ct Zq u) (value-plus (R d) r n given projected (part d n s))
      ∙ ct-add Zq (value (R d) r n given (part d n s)) (value (R d) r n projected (part d n s))
      ∙ ap₂ Zq.add
      (scaled L ψ (k * L) (λ l. function d n r (term_at d n r constant_terms l))
      ∙ sum_cong Zq L _ _ (λ l h. ap (Zq.mul _) (meets.in_constant_term l h)))
      (scaled w ω (k * w) (projection d n r projections)
      ∙ sum_cong Zq w _ _ (λ j h. ap (Zq.mul _) (ct-projection d n r w projections s positive j h)))
    where
      given : Function (R d)
      given = combination (R d) L (λ l. number d (get_or ψ (k * L + l) (pos 0))) (λ l. function d n r (term_at d n r constant_terms l))

      projected : Function (R d)
      projected = combination (R d) w (λ j. number d (get_or ω (k * w + j) (pos 0))) (projection d n r projections)

      -- the constant term of a combination by numbers
      scaled : (m : ℕ) (xs : List ℤ) (a : ℕ) (f : ℕ → Function (R d))
          → ct Zq (value (R d) r n (combination (R d) m (λ l. number d (get_or xs (a + l) (pos 0))) f) (part d n s))
          ≡ sum Zq m (λ l. Zq.mul (red (get_or xs (a + l) (pos 0))) (ct Zq (value (R d) r n (f l) (part d n s))))
      scaled m xs a f =
          ap (λ u. ct Zq u) (value-combination (R d) r n m (λ l. number d (get_or xs (a + l) (pos 0))) f (part d n s))
          ∙ ct-sum Zq m (λ l. (R d).mul (number d (get_or xs (a + l) (pos 0))) (value (R d) r n (f l) (part d n s)))
          ∙ sum_cong Zq m _ _ (λ l _. ct-constant-mul Zq (red (get_or xs (a + l) (pos 0))) (value (R d) r n (f l) (part d n s)))

  pub value-aggregate : (α δ : List ℤ)
      → value (R d) r n (aggregate d n r K L w whole constant_terms projections ψ ω α δ) (part d n s)
      ≡ aggregate_constant d n r K whole α δ (b'' d n r L w constant_terms projections ψ ω s)
  unfolding aggregate_constant b''
  value-aggregate α δ =
      value-plus (R d) r n
      (combination (R d) K (el d α) (λ k. function d n r (whole_at d n r whole k)))
      (combination (R d) five (el d δ) (second d n r L w constant_terms projections ψ ω))
      (part d n s)
      ∙ ap₂ (R d).add
      (value-combination (R d) r n K (el d α) (λ k. function d n r (whole_at d n r whole k)) (part d n s)
      ∙ sum_cong (R d) K _ _ (λ k h. ap ((R d).mul (el d α k)) (meets.wholly k h)))
      (value-combination (R d) r n five (el d δ) (second d n r L w constant_terms projections ψ ω) (part d n s)
      ∙ sum_cong (R d) five _ _ (λ k h. ap ((R d).mul (el d δ k))
      (sym (el-elements d five (λ k. value (R d) r n (second d n r L w constant_terms projections ψ ω k) (part d n s)) k h))))
