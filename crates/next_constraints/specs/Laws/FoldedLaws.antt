-- Laws of what Folded.antt defines.
--     multiple_end     one element with its multiple added
--     Folding          the loop over the parts: the sums over the first i parts stand at the beginning of a list
use Rattle.std.specs.Prelude.{◌≡◌, refl, List, ◌++◌, ℕ, ◌+◌, ◌*◌, ◌≤◌, ◌<◌, drop, ℤ}
use Rattle.std.proofs.Math.Path.{sym, ap, ap₂}
use Rattle.std.proofs.Common.{◌∙◌, zero-add, zero-mul, arith}
use Rattle.std.proofs.Math.ListN.{length}
use Rattle.integers.specs.Over.{over}
use Rattle.integers.specs.Flat.{flat}
use Rattle.integers.specs.Laws.OverLaws.{over-is, drop-over, length_over}
use Rattle.integers.specs.Laws.FlatLaws.{length-flat, flat_cong}
use Rattle.algebra.specs.Sum.{sum}
use Rattle.algebra.specs.Laws.SumLaws.{sum-one-more}
use Rattle.ring.specs.Element.{R, lift, el, coeffs, array}
use Rattle.ring.specs.Laws.ElementLaws.{length-coeffs}
use Rattle.ring.specs.Laws.Loops.{held, held-sum}
use Rattle.ring.specs.Laws.Writers.{Elements}
use Rattle.fold.specs.Messages.{elements}
use Rattle.fold.proofs.Laws.WriterLaws.{length-elements, el-written}
use Rattle.next_constraints.specs.Folded.{folded_sum, plus_multiple}

-- the next element is not written yet
el-next : {d n : ℕ} {x : ℕ → (R d).Carrier} {old : List ℤ} {k : ℕ} {now : List ℤ} → Elements d 0 n x old k now → el d now k ≡ el d old k
unfolding el
el-next {d} {n} {x} {old} {k} sofar =
    let written = flat k (λ i. coeffs d (x i)) in
    let size : 0 + length written ≡ k * d = rw (length-flat k d (λ i. coeffs d (x i)) (λ i _. length-coeffs d (x i))) (zero-add (k * d)) in
    ap (λ (xs : List ℤ). lift d (drop (k * d) xs)) (rw (zero-mul d) at sofar.is) ∙ ap (lift d) (rw size at (drop-over old 0 written (omega arith)))

pub multiple_end : {d n : ℕ} (list weight : List ℤ) {old now : List ℤ} {k : ℕ} {entry multiple before out : List ℤ} → d ≤ 64
    → Elements d 0 n (plus_multiple d old list (lift d weight)) old k now
    → entry ≡ array d (el d list k) → multiple ≡ array d ((R d).mul (lift d entry) (lift d weight))
    → before ≡ array d (el d now k) → out ≡ array d ((R d).add (lift d before) (lift d multiple))
    → out ≡ array d (plus_multiple d old list (lift d weight) k)
unfolding plus_multiple
multiple_end {d} list weight small sofar entry multiple before out =
    held-sum _ _ small (before ∙ ap (array d) (el-next sofar))
    (multiple ∙ ap (λ u. array d ((R d).mul u (lift d weight))) (held small entry)) out

-- ---- the loop over the parts

-- the beginning of a list, written twice
over_again : (out l m : List ℤ) → length m ≡ length l → over (over out 0 l) 0 m ≡ over out 0 m
over_again out l m e =
    over-is (over out 0 l) 0 m ∙ ap (λ (xs : List ℤ). m ++ xs) (rw e (drop-over out 0 l (omega arith))) ∙ sym (over-is out 0 m)

-- `zeros` has n zeros at its beginning
pub record Folding (d n r : ℕ) (φ : ℕ → ℕ → (R d).Carrier) (c zeros : List ℤ) (i : ℕ) (new : List ℤ) : Type 0 where
  pub within : i ≤ r
  pub room : n * d ≤ length new
  pub is : new ≡ over zeros 0 (elements d n (folded_sum d i φ c))
  pub same : length new ≡ length zeros

length-written : (d n : ℕ) (old : List ℤ) (x : ℕ → (R d).Carrier) → n * d ≤ length old → length (over old 0 (elements d n x)) ≡ length old
length-written d n old x room = length_over old 0 (elements d n x) (omega (arith, length-elements d n x))

elements_again : (d n : ℕ) (x y : ℕ → (R d).Carrier) (old : List ℤ) {new : List ℤ} → new ≡ over old 0 (elements d n x)
    → over new 0 (elements d n y) ≡ over old 0 (elements d n y)
elements_again d n x y old written =
    ap (λ (xs : List ℤ). over xs 0 (elements d n y)) written
    ∙ over_again old (elements d n x) (elements d n y) (length-elements d n y ∙ sym (length-elements d n x))

module _ {d n r : ℕ} {φ : ℕ → ℕ → (R d).Carrier} {c : List ℤ} where
  pub folding_start : (old : List ℤ) {zeros : List ℤ} → n * d ≤ length old → zeros ≡ over old 0 (elements d n (λ _. (R d).zero))
      → Folding d n r φ c zeros 0 zeros
  unfolding folded_sum sum
  folding_start old {zeros} room written =
      let size : length zeros ≡ length old = ap length written ∙ length-written d n old (λ _. (R d).zero) room in
      record {
        within = omega arith;
        room = omega (arith, size);
        is = written ∙ sym (elements_again d n (λ _. (R d).zero) (λ _. (R d).zero) old written);
        same = refl;
      }

  module _ {zeros : List ℤ} {i : ℕ} {new : List ℤ} (sofar : Folding d n r φ c zeros i new) where
    -- φ_i stands at the beginning of a list
    pub folding_step : (old : List ℤ) {phi challenge next : List ℤ} → d ≤ 64 → i < r → phi ≡ over old 0 (elements d n (φ i))
        → challenge ≡ array d (el d c i) → next ≡ over new 0 (elements d n (plus_multiple d new phi (lift d challenge)))
        → Folding d n r φ c zeros (i + 1) next
    unfolding elements plus_multiple folded_sum
    folding_step old {phi} {challenge} {next} small h written weight added =
        let entry : (k : ℕ) → k < n → plus_multiple d new phi (lift d challenge) k ≡ folded_sum d (i + 1) φ c k =
        λ k l. ap₂ (R d).add (el-written d n (folded_sum d i φ c) zeros sofar.is k l)
        (ap₂ (R d).mul (el-written d n (φ i) old written k l) (held small weight))
        ∙ sym (sum-one-more (R d) i (λ j. (R d).mul (φ j k) (el d c j))) in
        let sums : next ≡ over new 0 (elements d n (folded_sum d (i + 1) φ c)) =
        added ∙ ap (over new 0) (flat_cong n _ _ (λ k l. ap (coeffs d) (entry k l))) in
        let size : length next ≡ length new = ap length sums ∙ length-written d n new (folded_sum d (i + 1) φ c) sofar.room in
        record {
          within = omega arith;
          room = omega (arith, size, sofar.room);
          is = sums ∙ elements_again d n (folded_sum d i φ c) (folded_sum d (i + 1) φ c) zeros sofar.is;
          same = size ∙ sofar.same;
        }

    pub folding_end : (old : List ℤ) → zeros ≡ over old 0 (elements d n (λ _. (R d).zero)) → r ≤ i
        → new ≡ over old 0 (elements d n (folded_sum d r φ c))
    folding_end old written h =
        let all : i ≡ r = omega (arith, sofar.within) in
        (rw all at sofar.is) ∙ elements_again d n (λ _. (R d).zero) (folded_sum d r φ c) old written
