-- Laws of what Relation.antt defines.
use Rattle.std.specs.Prelude.{◌≡◌, refl, Bool, List, ℕ, ◌+◌, ◌<◌, ◌≤◌, ℤ}
use Rattle.std.proofs.Common.{sym, ◌∙◌, zero-add}
use Rattle.std.proofs.Math.Path.{ap, ap₂}
use Rattle.integers.specs.Over.{over}
use Rattle.algebra.specs.Sum.{sum}
use Rattle.algebra.specs.Laws.SumLaws.{sum_cong}
use Rattle.algebra.specs.Triangle.{pair, rows}
use Rattle.algebra.specs.Laws.TriangleLaws.{rows_cong, sum-pairs}
use Rattle.algebra.specs.DotProduct.{inner, mixed}
use Rattle.ring.specs.Element.{R, lift, el, array, same}
use Rattle.fold.specs.declared.Sizes.{Sizes}
use Rattle.fold.specs.Sizes.{pairs}
use Rattle.fold.specs.Entries.{aggregate_a}
use Rattle.fold.proofs.Laws.EntryLaws.{aggregate-a}
use Rattle.fold.specs.Messages.{elements, aggregate, aggregate_constant}
use Rattle.fold.proofs.Laws.WriterLaws.{el-written}
use Rattle.fold.specs.Opening.{block, g_place, h_place, garbage_of}
use Rattle.fold.specs.Verdict.{check₇, check₈}
use Rattle.ring.specs.Laws.Loops.{held, held-product}
use Rattle.checks.specs.Known.Facts.{g_block_of, g_value, h_value}
use Rattle.checks.specs.Laws.PlaceLaws.{garbage-at}
use Rattle.checks.specs.Laws.Rows.{check_seven_cong}
use Rattle.checks.specs.Places.{garbage_at}
use Rattle.checks.specs.Relation.{linear_summand, relation_summand}

-- ---- check 7

-- φ_i and z stand at the beginning of lists
pub linear_summand_lem : (d n : ℕ) (phi c z : List ℤ) (i : ℕ) {product challenge r : List ℤ} → d ≤ 64
    → product ≡ array d (sum (R d) n (λ y. (R d).mul (el d phi (0 + y)) (el d z (0 + y))))
    → challenge ≡ array d (el d c i) → r ≡ array d ((R d).mul (lift d product) (lift d challenge))
    → r ≡ array d (linear_summand d n (λ _. el d phi) c z i)
unfolding linear_summand inner
linear_summand_lem d n phi c z i small is by product =
    held-product _ _ small (is ∙ ap (array d) (sum_cong (R d) n _ _ (λ y _. rw (zero-add y) refl))) by product

pub linear_written : (d n : ℕ) (φ : ℕ → ℕ → (R d).Carrier) (c z : List ℤ) (i : ℕ) (old : List ℤ) {phi r : List ℤ}
    → phi ≡ over old 0 (elements d n (φ i)) → r ≡ array d (linear_summand d n (λ _. el d phi) c z i) → r ≡ array d (linear_summand d n φ c z i)
unfolding linear_summand inner
linear_written d n φ c z i old written is =
    is ∙ ap (λ u. array d ((R d).mul u (el d c i))) (sum_cong (R d) n _ _ (λ y h. ap (λ u. (R d).mul u (el d z y)) (el-written d n (φ i) old written y h)))

-- h from the given place on
pub linear_holds : (tz : ℕ) (s : Sizes) (c o left : List ℤ) {place : ℕ} {right : List ℤ} {t : Bool} → s.shape.d ≤ 64
    → place ≡ h_place tz s.shape.n s.shape.r s.kappa s.t1 s.t2
    → right ≡ array s.shape.d (mixed (R s.shape.d) s.shape.r (garbage_of s.shape.d s.shape.r s.b1 s.t1 (block s.shape.d o place)) (el s.shape.d c))
    → t ≡ same s.shape.d (lift s.shape.d left) (lift s.shape.d right)
    → t ≡ same s.shape.d (lift s.shape.d left) (mixed (R s.shape.d) s.shape.r (h_value tz s o) (el s.shape.d c))
linear_holds tz s c o left small ep er result = result ∙ ap (same s.shape.d (lift s.shape.d left)) (held small er ∙ rw ep refl)

-- the sum is that of a z that agrees with the list's
pub check_seven : (d n r : ℕ) (φ h : ℕ → ℕ → (R d).Carrier) (c z : List ℤ) (y : ℕ → (R d).Carrier) {linear : List ℤ} {t : Bool} → d ≤ 64
    → ((i : ℕ) → i < n → el d z i ≡ y i) → linear ≡ array d (sum (R d) r (linear_summand d n φ c z))
    → t ≡ same d (lift d linear) (mixed (R d) r h (el d c)) → t ≡ check₇ d n r c φ y h
unfolding check₇ linear_summand
check_seven d n r φ h c z y small agree e result =
    result ∙ ap (λ u. same d u (mixed (R d) r h (el d c))) (held small e) ∙ check_seven_cong d n r c (el d z) y agree φ h

-- ---- check 8

module _ (s : Sizes) (whole constant_terms ψ α δ o : List ℤ) where
  pub relation-summand : (place q : ℕ) (a g r : List ℤ) → s.shape.d ≤ 64
      → a ≡ array s.shape.d (aggregate_a s.shape.d s.shape.n s.shape.r s.k s.l whole constant_terms ψ α δ q)
      → g ≡ array s.shape.d (garbage_at s.shape.d s.b2 s.t2 (block s.shape.d o place) q)
      → r ≡ array s.shape.d ((R s.shape.d).mul (lift s.shape.d a) (lift s.shape.d g)) → r ≡ array s.shape.d (relation_summand s whole constant_terms ψ α δ o place q)
  unfolding relation_summand
  relation-summand place q a g r small ea eg er = er ∙ ap (array s.shape.d) (ap₂ (R s.shape.d).mul (held small ea) (held small eg))

  module _ (tz w : ℕ) (projections ω : List ℤ) where
    relation-sum : sum (R s.shape.d) (pairs s.shape.r) (relation_summand s whole constant_terms ψ α δ o (g_place tz s.shape.n s.shape.r s.kappa s.t1))
        ≡ rows (R s.shape.d) s.shape.r (λ i j. (R s.shape.d).mul ((aggregate s.shape.d s.shape.n s.shape.r s.k
        s.l w whole constant_terms projections ψ ω α δ).a i j) (g_value tz s o i j))
    unfolding relation_summand pairs
    relation-sum =
        sum-pairs (R s.shape.d) s.shape.r (relation_summand s whole constant_terms ψ α δ o (g_place tz s.shape.n s.shape.r s.kappa s.t1))
        ∙ rows_cong (R s.shape.d) s.shape.r _ _ (λ i j _ _. ap₂ (R s.shape.d).mul
        (sym (aggregate-a s.shape.d s.shape.n s.shape.r s.l w constant_terms projections ψ ω s.k whole α δ i j))
        (garbage-at s.shape.d s.shape.r s.b2 s.t2 (g_block_of tz s o) i j (pair s.shape.r i j) refl))

    pub check_eight : (b'' : List ℤ) (gplace hplace : ℕ) (gsum hsum left right : List ℤ) (t : Bool) → s.shape.d ≤ 64
        → gplace ≡ g_place tz s.shape.n s.shape.r s.kappa s.t1 → gsum ≡ array s.shape.d (sum (R s.shape.d) (pairs s.shape.r) (relation_summand s whole constant_terms ψ α δ o gplace))
        → hplace ≡ h_place tz s.shape.n s.shape.r s.kappa s.t1 s.t2
        → hsum ≡ array s.shape.d (sum (R s.shape.d) s.shape.r (λ i. garbage_of s.shape.d s.shape.r s.b1 s.t1 (block s.shape.d o hplace) i i))
        → left ≡ array s.shape.d ((R s.shape.d).add (lift s.shape.d gsum) (lift s.shape.d hsum))
        → right ≡ array s.shape.d (aggregate_constant s.shape.d s.shape.n s.shape.r s.k whole α δ b'')
        → t ≡ same s.shape.d (lift s.shape.d left) (lift s.shape.d right)
        → t ≡ check₈ s.shape.d s.shape.r (aggregate s.shape.d s.shape.n s.shape.r s.k s.l w whole constant_terms projections ψ ω α δ).a
        (aggregate_constant s.shape.d s.shape.n s.shape.r s.k whole α δ b'') (g_value tz s o) (h_value tz s o)
    unfolding check₈
    check_eight b'' gplace hplace gsum hsum left right t small eg egs eh ehs el er result =
        result ∙ ap₂ (same s.shape.d) (held small el
        ∙ ap₂ (R s.shape.d).add (held small (rw eg at egs) ∙ relation-sum) (held small ehs ∙ rw eh refl)) (held small er)
