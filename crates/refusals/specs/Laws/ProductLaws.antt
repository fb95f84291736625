-- The tests of the ring product as code makes them, and the degree of a product that is not refused.
use Rattle.std.specs.Prelude.{◌≡◌, refl, Bool, true, ◌&&◌, List, [], ℕ, ◌<◌, ◌≤◌, ◌-◌, ℤ, length, take, drop}
use Rattle.std.proofs.Common.{sym, ap, ◌∙◌, arith, length-drop, drop_of_length-le, take_all}
use Rattle.ring.specs.Element.{Degree}
use Rattle.residues.specs.Range.{all_within, coefficients}
use Rattle.residues.proofs.Laws.RangeLaws.{all_within_of}
use Rattle.fold.specs.Arguments.{product_refusal}
use Rattle.fold.specs.Refusals.{is_element, product_tests}
use Rattle.fold.specs.Laws.RefusalLaws.{refusal_passes, degree-fits}
use Rattle.limits.specs.Laws.RowLaws.{joined-row, end, ◌&◌}

-- the numbers from d on, where there are none and where the slice is cut at d
pub none_from : (d : ℕ) (xs : List ℤ) → length xs < d → true ≡ all_within 0 (drop d xs)
none_from d xs short = rw (drop_of_length-le xs (lt-le short)) (sym (all_within_of 0 [] (λ i h. let never : ⊥ = omega arith in absurd never)))
  where
    lt-le : {a b : ℕ} → a < b → a ≤ b
    lt-le h = omega (arith, h)

pub rest_from : (d : ℕ) (xs : List ℤ) {t : Bool} → t ≡ all_within 0 (take (length xs - d) (drop d xs)) → t ≡ all_within 0 (drop d xs)
rest_from d xs e = e ∙ ap (all_within 0) (take_all (length xs - d) (drop d xs) (omega (arith, length-drop d xs)))

pub element-tests : (d : ℕ) (xs : List ℤ) {s t : Bool} → s ≡ coefficients xs → t ≡ all_within 0 (drop d xs) → s && t ≡ is_element d xs
unfolding is_element
element-tests d xs s-is t-is = joined-row (s-is & t-is & end)

pub product-degree : (d : ℕ) (x y : List ℤ) {n : ℕ} → n ≡ product_refusal d x y → n ≡ 0 → Degree d
unfolding product_tests
product-degree d x y number passes = degree-fits d (refusal_passes (product_tests d x y) refl (sym number ∙ passes)).0
