-- The constraints that the writers lay out are those of the next instance, where the lists that they are lent hold what they should.
--     minus-held           minus the challenges, as they are written
--     check_5 .. check_4   each check
use Rattle.std.specs.Prelude.{◌≡◌, refl, ℕ, ◌+◌, ◌-◌, ◌*◌, ◌≤◌, ◌<◌, eqb, ℤ, negsuc}
use Rattle.std.proofs.Math.Path.{ap, ap₂}
use Rattle.std.proofs.Common.{◌∙◌, zero-add, arith}
use Rattle.std.proofs.Math.Bool.{cond}
use mathlib.Core.List.{List, ◌++◌}
use Rattle.integers.specs.Lists.{tab}
use Rattle.integers.specs.Laws.ListLaws.{tab_cong}
use Rattle.integers.specs.Over.{over}
use Rattle.integers.specs.Laws.FlatLaws.{flat_cong}
use Rattle.algebra.specs.Laws.RingLaws.{neg-mul}
use Rattle.ring.specs.Element.{R, el, number}
use Rattle.ring.specs.Laws.Numbers.{minus_one}
use Rattle.fold.specs.declared.Sizes.{Sizes}
use Rattle.fold.specs.Messages.{elements, aggregate_constant}
use Rattle.fold.specs.Statement.{Statement, Draws, Transcript}
use Rattle.fold.specs.Arguments.{statement_with, draws_of, transcript_of}
use Rattle.fold.specs.Constraint.{Constraint}
use Rattle.fold.specs.NextInstance.{power, no-a, z_table, t_table, garbage_table, squares}
use Rattle.fold.specs.NextInstance.{constraint₃, constraint₄, constraint₅, constraint₆, constraint₇, constraint₈}
use Rattle.fold.proofs.Laws.WriterLaws.{el-written}
use Rattle.next_constraints.specs.Blocks.{digit_row}
use Rattle.next_constraints.specs.Tables.{Tables}
use Rattle.next_checks.specs.Checks as own

-- ---- blocks of equal entries

module _ (d : ℕ) where
  z_cong : (n tz b : ℕ) (f g : ℕ → (R d).Carrier) → ((k : ℕ) → k < n → f k ≡ g k) → z_table d n tz b f ≡ z_table d n tz b g
  unfolding z_table
  z_cong n tz b f g e = flat_cong tz _ _ (λ j _. tab_cong n _ _ (λ k h. ap ((R d).mul (power d b j)) (e k h)))

  garbage_cong : (r b t : ℕ) (f g : ℕ → ℕ → (R d).Carrier) → ((i j : ℕ) → i ≤ j → j < r → f i j ≡ g i j)
      → garbage_table d r b t f ≡ garbage_table d r b t g
  unfolding garbage_table
  garbage_cong r b t f g e =
      flat_cong r _ _ (λ i h. flat_cong (r - i) _ _ (λ k l. ap (λ u. tab t (λ x. (R d).mul u (power d b x))) (e i (i + k) (omega arith) (omega arith))))

  pub minus-held : (m : ℕ) (c old : List ℤ) {minus : List ℤ}
      → minus ≡ over old (0 * d) (elements d m (λ k. (R d).mul (number d (negsuc 0)) (el d c (0 + k)))) → (i : ℕ) → i < m
      → el d minus i ≡ (R d).neg (el d c i)
  minus-held m c old {minus} written i h =
      let none : 0 * d ≡ 0 = omega arith in
      el-written d m (λ k. (R d).mul (number d (negsuc 0)) (el d c (0 + k))) old (rw none at written) i h
      ∙ minus_one d (el d c (0 + i))
      ∙ ap (λ (k : ℕ). (R d).neg (el d c k)) (zero-add i)

-- ---- the checks

module _ (s : Sizes) (tz : ℕ) (A B C D whole constant_terms projections ψ ω α δ c u₁ p b'' u₂ : List ℤ) (ν μ : ℕ) where
  abbrev d : ℕ
  d = s.shape.d

  abbrev 𝓢 : Statement
  𝓢 = statement_with tz s A B C D whole constant_terms

  abbrev 𝓓 : Draws
  𝓓 = draws_of projections ψ ω α δ c

  abbrev 𝓣 : Transcript
  𝓣 = transcript_of u₁ p b'' u₂

  pub check_3 : (k : ℕ) → own.check3 s tz B C u₁ k ≡ constraint₃ 𝓢 𝓓 𝓣 ν μ k
  check_3 k = refl

  pub check_4 : (k : ℕ) → own.check4 s tz D u₂ k ≡ constraint₄ 𝓢 𝓓 𝓣 ν μ k
  check_4 k = refl

  -- minus the challenges on t
  t-is : (minus : List ℤ) (k : ℕ) → ((i : ℕ) → i < s.shape.r → el d minus i ≡ (R d).neg (el d c i))
      → own.on_t s tz minus k
      ≡ t_table d s.shape.r s.kappa s.t1 (λ i e k'. cond (eqb k' k) ((R d).neg ((R d).mul (el d c i) (power d s.b1 e))) (R d).zero)
  unfolding t_table digit_row
  t-is minus k held =
      flat_cong s.shape.r _ _ (λ i h. flat_cong s.t1 _ _ (λ e _. tab_cong s.kappa _ _ (λ j _.
      ap (λ u. cond (eqb j k) u (R d).zero)
      (ap (λ u. (R d).mul u (power d s.b1 e)) (held i h) ∙ neg-mul (R d) (el d c i) (power d s.b1 e)))))

  -- constraints with one a, by their tables and constants
  of : (ℕ → ℕ → (R d).Carrier) → List (R d).Carrier → (R d).Carrier → Constraint d
  of a table constant = record { a = a; table = table; constant = constant }

  pub check_5 : (minus : List ℤ) → ((i : ℕ) → i < s.shape.r → el d minus i ≡ (R d).neg (el d c i)) → (k : ℕ)
      → own.check5 s tz A minus k ≡ constraint₅ 𝓢 𝓓 𝓣 ν μ k
  unfolding of
  check_5 minus held k =
      ap (λ (t : List (R d).Carrier). of (no-a d) (own.on_z s tz A (k * s.shape.n) ++ (t ++ (own.no_g s tz ++ own.no_h s tz))) (R d).zero) (t-is minus k held)

  module _ (folded products aggregated_a diagonal : List ℤ)
      (tables : Tables d s.shape.n s.shape.r s.k s.l s.w whole constant_terms projections ψ ω α δ c folded products aggregated_a diagonal) where
    pub check_6 : own.check6 s tz ν products ≡ constraint₆ 𝓢 𝓓 𝓣 ν μ
    unfolding of
    check_6 =
        ap (λ (g : List (R d).Carrier). of (squares d tz ν s.b) (own.no_z s tz ++ (own.no_t s tz ++ (g ++ own.no_h s tz))) (R d).zero)
        (garbage_cong d s.shape.r s.b2 s.t2 _ _ tables.products_is)

    pub check_7 : own.check7 s tz folded products ≡ constraint₇ 𝓢 𝓓 𝓣 ν μ
    unfolding of
    check_7 =
        ap₂ (λ (z h : List (R d).Carrier). of (no-a d) (z ++ (own.no_t s tz ++ (own.no_g s tz ++ h))) (R d).zero)
        (z_cong d s.shape.n tz s.b _ _ (λ k h. ap (el d folded) (zero-add k) ∙ tables.folded-is k h))
        (garbage_cong d s.shape.r s.b1 s.t1 _ _ tables.products_is)

    pub check_8 : (b : (R d).Carrier) → b ≡ aggregate_constant d s.shape.n s.shape.r s.k whole α δ b''
        → own.check8 s tz aggregated_a diagonal b ≡ constraint₈ 𝓢 𝓓 𝓣 ν μ
    unfolding of
    check_8 b e =
        ap₂ (λ (g h : List (R d).Carrier). of (no-a d) (own.no_z s tz ++ (own.no_t s tz ++ (g ++ h))) b)
        (garbage_cong d s.shape.r s.b2 s.t2 _ _ tables.aggregate-a-is)
        (garbage_cong d s.shape.r s.b1 s.t1 _ _ tables.diagonal_is)
        ∙ ap (λ u. of (no-a d) (constraint₈ 𝓢 𝓓 𝓣 ν μ).table u) e
