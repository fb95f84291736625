-- Row 14 of SPECIFICATION 7: "some constraint has a nonzero a_ij with i < j (bare level only)". The test by index, and what it leaves of the aggregate.
--     row_14               the test holds exactly when no constraint has mixed products
--     Mixed, mixed-refused     it fails exactly when some constraint has a nonzero a_ij with i < j
--     MixedNumbers, mixed-numbers-refused     "nonzero says that some of its d numbers is not 0" (7.l), where the numbers are in range
--     aggregate-unmixed    then no a_ij with i < j of the aggregate is other than zero
use Rattle.std.specs.Prelude.{◌≡◌, refl, ◌↔◌, ◌⊎◌, ◌≢◌, true, eqb, get_or, ℤ, pos}
use Rattle.std.proofs.Common.{sym, ap, ap₂, ◌∙◌, inl, inr, get_or-drop, eq-eqb}
use Rattle.std.proofs.Math.Bool.{false}
use mathlib.Core.List.{List, [], ◌∷◌}
use Prim.Native.Nat.{ℕ, suc, ◌+◌, ◌*◌, ◌-◌, ◌≤◌, ◌<◌}
use native.Mathlib.Omega.{arith}
use Rattle.std.proofs.Math.IntN.{nat_abs}
use Rattle.algebra.specs.Sum.{sum}
use Rattle.algebra.specs.Triangle.{pair}
use Rattle.algebra.specs.Polynomial.{coeff}
use Rattle.algebra.specs.Laws.PolynomialLaws.{coeff-zero}
use Rattle.algebra.specs.Laws.RingLaws.{mul-zero}
use Rattle.algebra.specs.Laws.SumLaws.{sum_vanish}
use Rattle.residues.specs.Modulus.{Zq, red}
use Rattle.residues.proofs.Laws.ModulusLaws.{red-zero, centred_fixed, centred-eq}
use Rattle.residues.specs.Range.{coefficients}
use Rattle.residues.proofs.Laws.RangeLaws.{coefficients-at}
use Rattle.ring.specs.Element.{R, el, every, same}
use Rattle.ring.specs.Laws.ElementPlaces.{coeff-el}
use Rattle.ring.specs.Laws.ElementEquality.{every_true, true-every, FailsBelow, every_false, same_iff}
use Rattle.fold.specs.Sizes.{five}
use Rattle.fold.specs.Statement.{Relation, Draws, whole_at, term_at}
use Rattle.fold.specs.Laws.RefusalLaws.{◌&◌, never_true, false_true, all_of_all, all_all_of, SomeFails, all_of_false}
use Rattle.fold.proofs.Theorems.OneDigit.{Unmixed}
use Rattle.bare.specs.Statement.{BareStatement, bare_aggregate}
use Rattle.bare.specs.Refusals.{unmixed, all_unmixed}

-- ---- one constraint, the one that starts where the list does

module _ (d r : ℕ) (xs : List ℤ) where
  -- the a of its function
  abbrev entry : ℕ → ℕ → (R d).Carrier
  entry i j = el d xs (pair r i j)

  unmixed-true : unmixed d r xs ≡ true → (i j : ℕ) → i < j → j < r → entry i j ≡ (R d).zero
  unfolding unmixed
  unmixed-true e i j h l =
      let place : suc i + (j - suc i) ≡ j = omega arith in
      rw place at ((same_iff d _ _).0 (every_true (r - suc i) _ (every_true r _ e i (omega arith)) (j - suc i) (omega arith)))

  true-unmixed : ((i j : ℕ) → i < j → j < r → entry i j ≡ (R d).zero) → unmixed d r xs ≡ true
  unfolding unmixed
  true-unmixed e =
      true-every r _ (λ i h. true-every (r - suc i) _ (λ k l. (same_iff d _ _).1 (e i (suc i + k) (omega arith) (omega arith))))

  -- one that is other than zero
  pub record MixedProduct : Type 0 where
    pub i : ℕ
    pub j : ℕ
    pub mixed : i < j
    pub below : j < r
    pub nonzero : entry i j ≢ (R d).zero

  unmixed_false : unmixed d r xs ≡ false → MixedProduct
  unfolding unmixed
  unmixed_false e =
      let row = every_false r _ e in
      let column = every_false (r - suc row.place) _ row.fails in
      record {
        i = row.place;
        j = suc row.place + column.place;
        mixed = omega arith;
        below = omega (arith, row.below, column.below);
        nonzero = λ z. false_true (sym column.fails ∙ (same_iff d _ _).1 z);
      }

-- ---- all constraints

-- one of so many constraints has P
pub record SomeConstraint (count : ℕ) (P : ℕ → Type 0) : Type 0 where
  pub place : ℕ
  pub below : place < count
  pub has : P place

module _ (𝓡 : Relation) where
  open 𝓡 use {d, n, r, K, L, whole, constant_terms}

  -- "some constraint has a nonzero a_ij with i < j", of either kind
  abbrev pub Mixed : Type 0
  Mixed =
      SomeConstraint K (λ k. MixedProduct d r (whole_at d n r whole k)) ⊎ SomeConstraint L (λ l. MixedProduct d r (term_at d n r constant_terms l))

  pub row_14 : (all_unmixed d n r K L whole constant_terms ≡ true) ↔ Unmixed 𝓡
  unfolding all_unmixed
  row_14 = (
    λ e.
        let both = all_of_all _ e in
        record {
          wholly = λ k i j h. unmixed-true d r (whole_at d n r whole k) (every_true K _ both.0 k h) i j;
          in_constant_term = λ l i j h. unmixed-true d r (term_at d n r constant_terms l) (every_true L _ both.1.0 l h) i j;
        },
    λ u.
        all_all_of _
        (true-every K _ (λ k h. true-unmixed d r (whole_at d n r whole k) (λ i j. u.wholly k i j h))
        & true-every L _ (λ l h. true-unmixed d r (term_at d n r constant_terms l) (λ i j. u.in_constant_term l i j h))
        & tt),
  )

  pub mixed-refused : (all_unmixed d n r K L whole constant_terms ≡ false) ↔ Mixed
  unfolding all_unmixed
  mixed-refused = (λ e. found (all_of_false _ e), λ m. never_true _ (λ e. none m (row_14.0 e)))
    where
      some : (count : ℕ) (constraints : ℕ → List ℤ) → every count (λ k. unmixed d r (constraints k)) ≡ false
          → SomeConstraint count (λ k. MixedProduct d r (constraints k))
      some count constraints e =
          let one = every_false count _ e in
          record { place = one.place; below = one.below; has = unmixed_false d r (constraints one.place) one.fails }

      found : SomeFails (every K (λ k. unmixed d r (whole_at d n r whole k)) ∷ every L (λ l. unmixed d r (term_at d n r constant_terms l)) ∷ []) → Mixed
      found (inl e) = inl (some K (whole_at d n r whole) e)
      found (inr (inl e)) = inr (some L (term_at d n r constant_terms) e)
      found (inr (inr e)) = elim e [ ]

      none : Mixed → Unmixed 𝓡 → ⊥
      none (inl m) u = m.has.nonzero (u.wholly m.place m.has.i m.has.j m.below m.has.mixed m.has.below)
      none (inr m) u = m.has.nonzero (u.in_constant_term m.place m.has.i m.has.j m.below m.has.mixed m.has.below)

-- ---- by numbers

-- the same of a constraint by its numbers, d to an element
pub record MixedNumber (d r : ℕ) (xs : List ℤ) : Type 0 where
  pub i : ℕ
  pub j : ℕ
  pub x : ℕ
  pub mixed : i < j
  pub below : j < r
  pub inside : x < d
  pub nonzero : get_or xs (pair r i j * d + x) (pos 0) ≢ pos 0

module _ (d r : ℕ) (xs : List ℤ) (small : (k : ℕ) → nat_abs (get_or xs k (pos 0)) ≤ 2147483598) where
  zero-at : (p : ℕ) → el d xs p ≡ (R d).zero → (x : ℕ) → x < d → get_or xs (p * d + x) (pos 0) ≡ pos 0
  zero-at p e x h =
      sym (centred_fixed (small (p * d + x)))
      ∙ centred-eq _ _ (sym (coeff-el d xs p x h) ∙ ap (λ u. coeff Zq u x) e ∙ coeff-zero Zq d x ∙ sym red-zero)
      ∙ centred_fixed (omega arith)

  -- an element other than zero has such a number
  number_of : (p : ℕ) → el d xs p ≢ (R d).zero → FailsBelow d (λ x. eqb (coeff Zq (el d xs p) x).val (coeff Zq (R d).zero x).val)
  unfolding same
  number_of p nonzero = every_false d _ (never_true _ (λ e. nonzero ((same_iff d _ _).0 e)))

  pub mixed-number : MixedProduct d r xs ↔ MixedNumber d r xs
  mixed-number = (
    λ m.
        let one = number_of (pair r m.i m.j) m.nonzero in
        record {
          i = m.i;
          j = m.j;
          x = one.place;
          mixed = m.mixed;
          below = m.below;
          inside = one.below;
          nonzero = λ e.
              false_true (sym one.fails
              ∙ eq-eqb _ _ (ap (λ x. x.val)
              (coeff-el d xs (pair r m.i m.j) one.place one.below ∙ ap red e ∙ red-zero ∙ sym (coeff-zero Zq d one.place))));
        },
    λ m.
        record {
          i = m.i;
          j = m.j;
          mixed = m.mixed;
          below = m.below;
          nonzero = λ e. m.nonzero (zero-at (pair r m.i m.j) e m.x m.inside);
        },
  )

module _ (𝓡 : Relation) where
  open 𝓡 use {d, n, r, K, L, whole, constant_terms}

  abbrev pub MixedNumbers : Type 0
  MixedNumbers =
      SomeConstraint K (λ k. MixedNumber d r (whole_at d n r whole k)) ⊎ SomeConstraint L (λ l. MixedNumber d r (term_at d n r constant_terms l))

  pub mixed-numbers-refused : coefficients whole ≡ true → coefficients constant_terms ≡ true
      → (all_unmixed d n r K L whole constant_terms ≡ false) ↔ MixedNumbers
  unfolding whole_at term_at
  mixed-numbers-refused whole-small terms-small = (λ e. to ((mixed-refused 𝓡).0 e), λ m. (mixed-refused 𝓡).1 (back m))
    where
      small-whole : (k x : ℕ) → nat_abs (get_or (whole_at d n r whole k) x (pos 0)) ≤ 2147483598
      small-whole k x = rw (get_or-drop _ whole x (pos 0)) (coefficients-at whole whole-small _)

      small-term : (l x : ℕ) → nat_abs (get_or (term_at d n r constant_terms l) x (pos 0)) ≤ 2147483598
      small-term l x = rw (get_or-drop _ constant_terms x (pos 0)) (coefficients-at constant_terms terms-small _)

      to : Mixed 𝓡 → MixedNumbers
      to (inl m) = inl (record { place = m.place; below = m.below; has = (mixed-number d r _ (small-whole m.place)).0 m.has })
      to (inr m) = inr (record { place = m.place; below = m.below; has = (mixed-number d r _ (small-term m.place)).0 m.has })

      back : MixedNumbers → Mixed 𝓡
      back (inl m) = inl (record { place = m.place; below = m.below; has = (mixed-number d r _ (small-whole m.place)).1 m.has })
      back (inr m) = inr (record { place = m.place; below = m.below; has = (mixed-number d r _ (small-term m.place)).1 m.has })

-- ---- the aggregate

module _ (𝓢 : BareStatement) (𝓓 : Draws) (u : Unmixed 𝓢.relation) where
  open 𝓢 use {relation, w}
  open relation use {d, r, K, L}

  both_zero : {x y : (R d).Carrier} → x ≡ (R d).zero → y ≡ (R d).zero → (R d).add x y ≡ (R d).zero
  both_zero e h = ap₂ (R d).add e h ∙ (R d).add-zero (R d).zero

  -- factors c k before the zeros f k
  products_zero : (m : ℕ) (c f : ℕ → (R d).Carrier) → ((k : ℕ) → k < m → f k ≡ (R d).zero) → sum (R d) m (λ k. (R d).mul (c k) (f k)) ≡ (R d).zero
  products_zero m c f e = sum_vanish (R d) m _ (λ k h. ap ((R d).mul (c k)) (e k h) ∙ mul-zero (R d) (c k))

  pub aggregate-unmixed : (i j : ℕ) → i < j → j < r → (bare_aggregate 𝓢 𝓓).a i j ≡ (R d).zero
  aggregate-unmixed i j h l =
      both_zero
      (products_zero K _ _ (λ k b. u.wholly k i j b h l))
      (products_zero five _ _
      (λ k _. both_zero (products_zero L _ _ (λ y b. u.in_constant_term y i j b h l)) (products_zero w _ _ (λ _ _. refl))))
