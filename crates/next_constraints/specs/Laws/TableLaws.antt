-- The lists of Tables.antt as the functions of tables.rt and folded.rt write them, each at the beginning of a list.
--     cond-equal, cond-apart    the two values of a test for i = j
--     product-end               what a function returns, from what its calls return
--     tables_of                 the four contracts give the record Tables
use Rattle.std.specs.Prelude.{◌≡◌, refl, Bool, true, false, cond, List, ℕ, ◌≤◌, ◌<◌, eqb, ℤ, pos}
use Rattle.std.proofs.Common.{sym, ap, ap₂, ◌∙◌, eq-eqb, ne_eqb, to_z, of_z}
use Rattle.std.specs.Int.{w32}
use Rattle.integers.specs.Over.{over}
use Rattle.algebra.specs.Triangle.{pair}
use Rattle.algebra.specs.Laws.TriangleLaws.{pair-bound}
use Rattle.ring.specs.Element.{R, Degree, lift, el, array, number}
use Rattle.ring.specs.Laws.ElementLaws.{lift-array}
use Rattle.fold.specs.Sizes.{pairs}
use Rattle.fold.specs.Messages.{elements, aggregate}
use Rattle.fold.specs.Entries.{aggregate_a}
use Rattle.fold.proofs.Laws.EntryLaws.{aggregate-a}
use Rattle.fold.specs.NextInstance.{product}
use Rattle.fold.proofs.Laws.WriterLaws.{el-written, el-pairs}
use Rattle.fold.specs.PairElements.{pair_elements}
use Rattle.constraints.specs.Laws.AggregatedLaws.{values-product}
use Rattle.next_constraints.specs.Tables.{TableRoom, Tables}
use Rattle.next_constraints.specs.Folded.{folded_sum}

-- ---- the two values of a test for i = j

pub cond-equal {ℓ} : {A : Type ℓ} (i j : ℕ) (x y : A) → i ≡ j → x ≡ cond (eqb i j) x y
cond-equal i j x y e = rw (eq-eqb i j e) refl

pub cond-apart {ℓ} : {A : Type ℓ} (i j : ℕ) (x y : A) → (i ≡ j → ⊥) → y ≡ cond (eqb i j) x y
cond-apart i j x y e = rw (ne_eqb i j e) refl

-- ---- what functions return

factor_word : (b : Bool) → to_z w32 (of_z w32 (cond b (pos 1) (pos 2))) ≡ cond b (pos 1) (pos 2)
factor_word true = refl
factor_word false = refl

pub product-end : (d : ℕ) (c : List ℤ) (i j : ℕ) (factor : ℤ) {left right once counted out : List ℤ} → Degree d
    → left ≡ array d (el d c i) → right ≡ array d (el d c j)
    → once ≡ array d ((R d).mul (lift d left) (lift d right))
    → factor ≡ cond (eqb i j) (pos 1) (pos 2)
    → counted ≡ array d ((R d).mul (number d (to_z w32 (of_z w32 factor))) (lift d once))
    → out ≡ array d ((R d).neg (lift d counted))
    → out ≡ array d ((R d).neg (product d (el d c) i j))
unfolding product
product-end d c i j factor degree is by product times scaled out =
    let once = values-product d degree (el d c i) (el d c j) is by product in
    let small = degree.small in
    let word = ap (λ x. to_z w32 (of_z w32 x)) times ∙ factor_word (eqb i j) in
    let counted = scaled ∙ ap₂ (λ x u. array d ((R d).mul (number d x) u)) word (ap (lift d) once ∙ lift-array d _ small) in
    out ∙ ap (λ u. array d ((R d).neg u)) (ap (lift d) counted ∙ lift-array d _ small)

-- ---- the lists read back

pair_place : (r i j : ℕ) → i ≤ j → j < r → pair r i j < pairs r
unfolding pairs
pair_place r i j h l = pair-bound r i j h l

pub tables_of : (d n r K L w : ℕ) (whole constant_terms projections ψ ω α δ c : List ℤ) (folded products aggregated_a diagonal : List ℤ)
    {folded' products' aggregated_a' diagonal' : List ℤ}
    → TableRoom d n r folded products aggregated_a diagonal
    → folded' ≡ over folded 0 (elements d n (folded_sum d r (aggregate d n r K L w whole constant_terms projections ψ ω α δ).φ c))
    → products' ≡ over products 0 (pair_elements d r (λ i j. (R d).neg (product d (el d c) i j)))
    → aggregated_a' ≡ over aggregated_a 0 (elements d (pairs r) (aggregate_a d n r K L whole constant_terms ψ α δ))
    → diagonal' ≡ over diagonal 0 (pair_elements d r (λ i j. cond (eqb i j) (R d).one (R d).zero))
    → Tables d n r K L w whole constant_terms projections ψ ω α δ c folded' products' aggregated_a' diagonal'
unfolding folded_sum
tables_of d n r K L w whole constant_terms projections ψ ω α δ c folded products aggregated_a diagonal room φ g a δ' =
    record {
      folded-is = λ k h. el-written d n _ folded φ k h;
      products_is = λ i j h l.
          ap (λ (xs : List ℤ). el d xs (pair r i j)) g ∙ el-pairs d r _ products room.products_length i j h l;
      aggregate-a-is = λ i j h l.
          el-written d (pairs r) _ aggregated_a a (pair r i j) (pair_place r i j h l)
          ∙ sym (aggregate-a d n r L w constant_terms projections ψ ω K whole α δ i j);
      diagonal_is = λ i j h l.
          ap (λ (xs : List ℤ). el d xs (pair r i j)) δ' ∙ el-pairs d r _ diagonal room.diagonal_length i j h l;
    }
