-- The entries of Entries.antt are the functions of Messages.antt, and the value of a function whose entries are known by place.
--     second-a, second-φ            f''_k by place
--     aggregate-a, aggregate-φ      the aggregate by place
--     value_places                  a value as one sum over the pairs and one over the witness
--     el_inners                     the list of the <s_i,s_j>, by place
use Rattle.std.specs.Prelude.{◌≡◌, List, get_or, ℤ, pos}
use Rattle.std.proofs.Math.Path.{sym, ap, ap₂}
use Rattle.std.proofs.Common.{◌∙◌}
use Prim.Native.Nat.{ℕ, zero, suc, ◌+◌, ◌-◌, ◌*◌, ◌≤◌, ◌<◌}
use native.Mathlib.Omega.{arith}
use Rattle.integers.specs.Flat.{flat}
use Rattle.algebra.specs.CommRing.{CommRing}
use Rattle.algebra.specs.Laws.RingLaws.{mul-zero}
use Rattle.algebra.specs.Sum.{sum}
use Rattle.algebra.specs.Laws.SumLaws.{sum_cong, sum_vanish, sum_blocks}
use Rattle.algebra.specs.Triangle.{pair}
use Rattle.algebra.specs.Laws.TriangleLaws.{rows_cong, sum-pairs}
use Rattle.algebra.specs.Vec.{Vec}
use Rattle.algebra.specs.Negacyclic.{Negacyclic}
use Rattle.algebra.specs.Polynomial.{constant, zeros, times}
use Rattle.algebra.specs.Laws.ConstantLaws.{constant-zero}
use Rattle.algebra.specs.Conjugation.{conjugate}
use Rattle.algebra.proofs.Laws.ConjugationLaws.{conjugate-add}
use Rattle.algebra.proofs.Laws.ConjugationProduct.{conjugate-constant, conjugate-mul}
use Rattle.algebra.specs.DotProduct.{Function, inner, value}
use Rattle.residues.specs.Modulus.{Zq, red}
use Rattle.ring.specs.Element.{R, el, coeffs, number}
use Rattle.ring.specs.Laws.ElementLaws.{length-coeffs, lift-coeffs}
use Rattle.ring.specs.Laws.ElementPlaces.{el_cong, el-zero}
use Rattle.fold.specs.Sizes.{pairs}
use Rattle.fold.specs.Statement.{part}
use Rattle.fold.specs.Messages.{elements, g, second, aggregate}
use Rattle.fold.specs.Sizes.{five}
use Rattle.fold.specs.Entries.{term_entry, projection_entry, second_a, secondΦ, whole_entry, aggregate_a, aggregateΦ}
use Rattle.fold.proofs.Laws.Layout.{get_d_triangle}

-- ---- the conjugation of a linear combination

module _ (𝓚 : CommRing) where
  conjugate-zero : (d : ℕ) → conjugate 𝓚 (zeros 𝓚 d) ≡ zeros 𝓚 d
  conjugate-zero d =
      ap (conjugate 𝓚) (sym (constant-zero 𝓚 d)) ∙ conjugate-constant 𝓚 d 𝓚.zero ∙ constant-zero 𝓚 d

  pub conjugate-sum : {d : ℕ} (n : ℕ) (f : ℕ → Vec 𝓚.Carrier d)
      → conjugate 𝓚 (sum (Negacyclic 𝓚 d) n f) ≡ sum (Negacyclic 𝓚 d) n (λ k. conjugate 𝓚 (f k))
  unfolding sum
  conjugate-sum {d} zero f = conjugate-zero d
  conjugate-sum {d} (suc n) f =
      conjugate-add 𝓚 (sum (Negacyclic 𝓚 d) n f) (f n)
      ∙ ap (λ x. (Negacyclic 𝓚 d).add x (conjugate 𝓚 (f n))) (conjugate-sum n f)

  pub conjugate-constant-mul : {d : ℕ} (c : 𝓚.Carrier) (u : Vec 𝓚.Carrier d)
      → conjugate 𝓚 (times 𝓚 (constant 𝓚 d c) u) ≡ times 𝓚 (constant 𝓚 d c) (conjugate 𝓚 u)
  conjugate-constant-mul {d} c u =
      conjugate-mul 𝓚 (constant 𝓚 d c) u ∙ ap (λ x. times 𝓚 x (conjugate 𝓚 u)) (conjugate-constant 𝓚 d c)

-- ---- the functions by place

module _ (d n r : ℕ) where
  -- Σ ω_j σ(row_j) = σ(Σ ω_j row_j)
  conjugate-projections : (w : ℕ) (projections ω : List ℤ) (k i y : ℕ)
      → sum (R d) w (λ j. (R d).mul (number d (get_or ω (k * w + j) (pos 0))) (conjugate Zq (el d projections ((j * r + i) * n + y))))
      ≡ conjugate Zq (projection_entry d n r w projections ω k (i * n + y))
  unfolding projection_entry number
  conjugate-projections w projections ω k i y =
      sum_cong (R d) w _ _ (λ j _. one j)
      ∙ sym (conjugate-sum Zq w (λ j. (R d).mul (number d (get_or ω (k * w + j) (pos 0))) (el d projections (j * (r * n) + (i * n + y)))))
    where
      place : (j : ℕ) → (j * r + i) * n + y ≡ j * (r * n) + (i * n + y)
      place j = omega arith

      one : (j : ℕ)
          → (R d).mul (number d (get_or ω (k * w + j) (pos 0))) (conjugate Zq (el d projections ((j * r + i) * n + y)))
          ≡ conjugate Zq ((R d).mul (number d (get_or ω (k * w + j) (pos 0))) (el d projections (j * (r * n) + (i * n + y))))
      one j =
          ap (λ p. (R d).mul (number d (get_or ω (k * w + j) (pos 0))) (conjugate Zq (el d projections p))) (place j)
          ∙ sym (conjugate-constant-mul Zq (red (get_or ω (k * w + j) (pos 0))) (el d projections (j * (r * n) + (i * n + y))))

  module _ (L w : ℕ) (constant_terms projections ψ ω : List ℤ) where
    pub second-a : (k i j : ℕ) → (second d n r L w constant_terms projections ψ ω k).a i j ≡ second_a d n r L constant_terms ψ k (pair r i j)
    unfolding second_a term_entry
    second-a k i j =
        ap ((R d).add (term_entry d n r L constant_terms ψ k (pair r i j)))
        (sum_vanish (R d) w _ (λ l _. mul-zero (R d) (number d (get_or ω (k * w + l) (pos 0)))))
        ∙ (R d).add-zero (term_entry d n r L constant_terms ψ k (pair r i j))

    pub second-φ : (k i y : ℕ) → (second d n r L w constant_terms projections ψ ω k).φ i y ≡ secondΦ d n r L w constant_terms projections ψ ω k (i * n + y)
    unfolding secondΦ term_entry
    second-φ k i y =
        ap ((R d).add (term_entry d n r L constant_terms ψ k (pairs r + (i * n + y)))) (conjugate-projections w projections ω k i y)

    module _ (K : ℕ) (whole α δ : List ℤ) where
      pub aggregate-a : (i j : ℕ)
          → (aggregate d n r K L w whole constant_terms projections ψ ω α δ).a i j ≡ aggregate_a d n r K L whole constant_terms ψ α δ (pair r i j)
      unfolding aggregate_a whole_entry
      aggregate-a i j =
          ap ((R d).add (whole_entry d n r K whole α (pair r i j)))
          (sum_cong (R d) five _ _ (λ k _. ap ((R d).mul (el d δ k)) (second-a k i j)))

      pub aggregate-φ : (i y : ℕ)
          → (aggregate d n r K L w whole constant_terms projections ψ ω α δ).φ i y
          ≡ aggregateΦ d n r K L w whole constant_terms projections ψ ω α δ (i * n + y)
      unfolding aggregateΦ whole_entry
      aggregate-φ i y =
          ap ((R d).add (whole_entry d n r K whole α (pairs r + (i * n + y))))
          (sum_cong (R d) five _ _ (λ k _. ap ((R d).mul (el d δ k)) (second-φ k i y)))

  -- ---- a value by place

  -- F has the entries A at the pairs and Φ at the elements of the witness, and gs holds the <s_i,s_j>
  pub value_places : (F : Function (R d)) (A Φ : ℕ → (R d).Carrier) (s gs : List ℤ)
      → ((i j : ℕ) → i ≤ j → j < r → F.a i j ≡ A (pair r i j))
      → ((i y : ℕ) → i < r → y < n → F.φ i y ≡ Φ (i * n + y))
      → ((i j : ℕ) → i ≤ j → j < r → el d gs (pair r i j) ≡ g d n s i j)
      → value (R d) r n F (part d n s)
      ≡ (R d).add (sum (R d) (pairs r) (λ p. (R d).mul (A p) (el d gs p))) (sum (R d) (r * n) (λ e. (R d).mul (Φ e) (el d s e)))
  unfolding value inner part pairs g
  value_places F A Φ s gs a φ inners =
      ap₂ (R d).add
      (rows_cong (R d) r _ _ (λ i j h l. ap₂ (R d).mul (a i j h l) (sym (inners i j h l)))
      ∙ sym (sum-pairs (R d) r (λ p. (R d).mul (A p) (el d gs p))))
      (sum_cong (R d) r _ _ (λ i l. sum_cong (R d) n _ _ (λ y b. ap (λ u. (R d).mul u (el d s (i * n + y))) (φ i y l b)))
      ∙ sym (sum_blocks (R d) r n (λ e. (R d).mul (Φ e) (el d s e))))

  -- elements given for the pairs i ≤ j, row after row
  pub el_triangle : (x : ℕ → ℕ → (R d).Carrier) (i j : ℕ) → i ≤ j → j < r
      → el d (flat r (λ i. elements d (r - i) (λ k. x i (i + k)))) (pair r i j) ≡ x i j
  unfolding elements
  el_triangle x i j h l =
      el_cong d _ (coeffs d (x i j)) (pair r i j) 0 entry ∙ el-zero d (coeffs d (x i j)) ∙ lift-coeffs d (x i j)
    where
      first : (y : ℕ) → y ≡ 0 * d + y
      first y = omega arith

      entry : (y : ℕ) → y < d
          → get_or (flat r (λ i. flat (r - i) (λ k. coeffs d (x i (i + k))))) (pair r i j * d + y) (pos 0)
          ≡ get_or (coeffs d (x i j)) (0 * d + y) (pos 0)
      entry y b =
          get_d_triangle r d (λ i j. coeffs d (x i j)) (λ i j _ _. length-coeffs d (x i j)) i j y (pos 0) h l b
          ∙ ap (λ p. get_or (coeffs d (x i j)) p (pos 0)) (first y)

  -- the list of the <s_i,s_j>, as value_places asks for it
  pub el_inners : (s : List ℤ) (i j : ℕ) → i ≤ j → j < r
      → el d (flat r (λ i. elements d (r - i) (λ k. g d n s i (i + k)))) (pair r i j) ≡ g d n s i j
  el_inners s i j h l = el_triangle (g d n s) i j h l

  -- the value of f''_k, which message 3 holds
  pub second-value : (L w : ℕ) (constant_terms projections ψ ω s gs : List ℤ) (k : ℕ)
      → ((i j : ℕ) → i ≤ j → j < r → el d gs (pair r i j) ≡ g d n s i j)
      → value (R d) r n (second d n r L w constant_terms projections ψ ω k) (part d n s)
      ≡ (R d).add
      (sum (R d) (pairs r) (λ p. (R d).mul (second_a d n r L constant_terms ψ k p) (el d gs p)))
      (sum (R d) (r * n) (λ e. (R d).mul (secondΦ d n r L w constant_terms projections ψ ω k e) (el d s e)))
  second-value L w constant_terms projections ψ ω s gs k inners =
      value_places (second d n r L w constant_terms projections ψ ω k) (second_a d n r L constant_terms ψ k) (secondΦ d n r L w constant_terms projections ψ ω k) s gs
      (λ i j _ _. second-a L w constant_terms projections ψ ω k i j) (λ i y _ _. second-φ L w constant_terms projections ψ ω k i y) inners
