-- Which check each constraint of the next instance is: "checks 5 (κ), 6, 7, 8, 3 (κ1), 4 (κ2)".
--     Each P              P holds of the constraint of every check
--     each, each_of       the same, constraint by constraint
use Rattle.std.specs.Prelude.{◌≡◌, refl, Bool, true, false, List, ◌∷◌, ◌++◌, ltb, length, get_or}
use Rattle.std.proofs.Common.{sym, ap, ◌∙◌, add-sub_of_le, get_or-append-add, ltb-true, ltb-false}
use Rattle.std.proofs.Math.Path.{subst}
use Prim.Native.Nat.{ℕ, zero, suc, ◌+◌, ◌-◌, ◌≤◌, ◌<◌}
use native.Mathlib.Omega.{arith}
use Rattle.std.proofs.Math.ListN.{length-append, get_or-append}
use Rattle.integers.specs.Lists.{tab}
use Rattle.integers.specs.Laws.ListLaws.{length-tab, get_d_tab}
use Rattle.fold.specs.Sizes.{next_count}
use Rattle.fold.specs.Statement.{Statement, Draws, Transcript}
use Rattle.fold.specs.Constraint.{Constraint}
use Rattle.fold.specs.NextInstance.{constraint, constraint₃, constraint₄, constraint₅, constraint₆, constraint₇, constraint₈}

-- ---- elements of lists laid out one after the other

module _ {ℓ} {A : Type ℓ} (z : A) where
  -- an element of the second list
  get_d_after : (xs ys : List A) (a k : ℕ) → length xs ≡ a → get_or (xs ++ ys) (a + k) z ≡ get_or ys k z
  get_d_after xs ys a k e = ap (λ n. get_or (xs ++ ys) (n + k) z) (sym e) ∙ get_or-append-add xs ys k z

  module _ (P : A → Type 0) where
    record All (xs : List A) : Type 0 where
      at : (x : ℕ) → x < length xs → P (get_or xs x z)

    all_append : (xs ys : List A) → All xs → All ys → All (xs ++ ys)
    all_append xs ys h g = record { at = λ x l. side x l (ltb x (length xs)) refl }
      where
        side : (x : ℕ) → x < length (xs ++ ys) → (t : Bool) → ltb x (length xs) ≡ t → P (get_or (xs ++ ys) x z)
        side x l true e =
            let before : x < length xs = ltb-true x (length xs) e in
            subst P (sym (get_or-append xs ys z x before)) (h.at x before)
        side x l false e =
            let past : length xs ≤ x = ltb-false x (length xs) e in
            let place : length xs + (x - length xs) ≡ x = add-sub_of_le past in
            let there : get_or (xs ++ ys) x z ≡ get_or ys (x - length xs) z =
            ap (λ k. get_or (xs ++ ys) k z) (sym place) ∙ get_or-append-add xs ys (x - length xs) z in
            subst P (sym there) (g.at (x - length xs) (omega (arith, length-append xs ys)))

    all_cons : (y : A) (ys : List A) → P y → All ys → All (y ∷ ys)
    all_cons y ys h g = record { at = side }
      where
        side : (x : ℕ) → x < length (y ∷ ys) → P (get_or (y ∷ ys) x z)
        side zero l = h
        side (suc x) l = g.at x (omega arith)

    all-tab : (n : ℕ) (f : ℕ → A) → ((k : ℕ) → k < n → P (f k)) → All (tab n f)
    all-tab n f h =
        record {
          at = λ x l.
              let inside : x < n = omega (arith, length-tab n f) in
              subst P (sym (get_d_tab n f x z inside)) (h x inside);
        }

-- ---- the constraints

module _ (𝓢 : Statement) (𝓓 : Draws) (𝓣 : Transcript) (ν μ : ℕ) where
  open 𝓢 use {relation, κ, κ₁, κ₂}
  open relation use {d}

  pub record Each (P : Constraint d → Type 0) : Type 0 where
    pub five : (k : ℕ) → k < κ → P (constraint₅ 𝓢 𝓓 𝓣 ν μ k)
    pub six : P (constraint₆ 𝓢 𝓓 𝓣 ν μ)
    pub seven : P (constraint₇ 𝓢 𝓓 𝓣 ν μ)
    pub eight : P (constraint₈ 𝓢 𝓓 𝓣 ν μ)
    pub three : (k : ℕ) → k < κ₁ → P (constraint₃ 𝓢 𝓓 𝓣 ν μ k)
    pub four : (k : ℕ) → k < κ₂ → P (constraint₄ 𝓢 𝓓 𝓣 ν μ k)

  fives : List (Constraint d)
  fives = tab κ (constraint₅ 𝓢 𝓓 𝓣 ν μ)

  threes : List (Constraint d)
  threes = tab κ₁ (constraint₃ 𝓢 𝓓 𝓣 ν μ)

  fours : List (Constraint d)
  fours = tab κ₂ (constraint₄ 𝓢 𝓓 𝓣 ν μ)

  others : List (Constraint d)
  others = constraint₆ 𝓢 𝓓 𝓣 ν μ ∷ constraint₇ 𝓢 𝓓 𝓣 ν μ ∷ constraint₈ 𝓢 𝓓 𝓣 ν μ ∷ (threes ++ fours)

  length-all : length (fives ++ others) ≡ next_count κ κ₁ κ₂
  unfolding fives threes fours others next_count
  length-all =
      omega (
        arith,
        length-append fives others,
        length-append threes fours,
        length-tab κ (constraint₅ 𝓢 𝓓 𝓣 ν μ),
        length-tab κ₁ (constraint₃ 𝓢 𝓓 𝓣 ν μ),
        length-tab κ₂ (constraint₄ 𝓢 𝓓 𝓣 ν μ),
      )

  after : (k : ℕ) → constraint 𝓢 𝓓 𝓣 ν μ (κ + k) ≡ get_or others k (constraint₆ 𝓢 𝓓 𝓣 ν μ)
  unfolding constraint fives threes fours others
  after k = get_d_after (constraint₆ 𝓢 𝓓 𝓣 ν μ) fives others κ k (length-tab κ (constraint₅ 𝓢 𝓓 𝓣 ν μ))

  module _ (P : Constraint d → Type 0) where
    pub each : Each P → (x : ℕ) → x < next_count κ κ₁ κ₂ → P (constraint 𝓢 𝓓 𝓣 ν μ x)
    unfolding constraint fives threes fours others
    each h x l =
        (all_append (constraint₆ 𝓢 𝓓 𝓣 ν μ) P fives others
        (all-tab _ P κ _ h.five)
        (all_cons _ P _ _ h.six (all_cons _ P _ _ h.seven (all_cons _ P _ _ h.eight
        (all_append _ P threes fours (all-tab _ P κ₁ _ h.three) (all-tab _ P κ₂ _ h.four)))))
        ).at x (omega (arith, length-all))

    pub each_of : ((x : ℕ) → x < next_count κ κ₁ κ₂ → P (constraint 𝓢 𝓓 𝓣 ν μ x)) → Each P
    unfolding constraint next_count fives threes fours others
    each_of h =
        record {
          five = λ k l. subst P (in-first k l) (h k (omega arith));
          six = subst P (after 0) (h (κ + 0) (omega arith));
          seven = subst P (after 1) (h (κ + 1) (omega arith));
          eight = subst P (after 2) (h (κ + 2) (omega arith));
          three = λ k l. subst P (in-third k l) (h (κ + suc (suc (suc k))) (omega arith));
          four = λ k l. subst P (in-fourth k l) (h (κ + suc (suc (suc (κ₁ + k)))) (omega arith));
        }
      where
        last : Constraint d
        last = constraint₆ 𝓢 𝓓 𝓣 ν μ

        in-first : (k : ℕ) → k < κ → constraint 𝓢 𝓓 𝓣 ν μ k ≡ constraint₅ 𝓢 𝓓 𝓣 ν μ k
        in-first k l =
            get_or-append fives others last k (omega (arith, length-tab κ (constraint₅ 𝓢 𝓓 𝓣 ν μ)))
            ∙ get_d_tab κ (constraint₅ 𝓢 𝓓 𝓣 ν μ) k last l

        in-third : (k : ℕ) → k < κ₁ → constraint 𝓢 𝓓 𝓣 ν μ (κ + suc (suc (suc k))) ≡ constraint₃ 𝓢 𝓓 𝓣 ν μ k
        in-third k l =
            after (suc (suc (suc k)))
            ∙ get_or-append threes fours last k (omega (arith, length-tab κ₁ (constraint₃ 𝓢 𝓓 𝓣 ν μ)))
            ∙ get_d_tab κ₁ (constraint₃ 𝓢 𝓓 𝓣 ν μ) k last l

        in-fourth : (k : ℕ) → k < κ₂ → constraint 𝓢 𝓓 𝓣 ν μ (κ + suc (suc (suc (κ₁ + k)))) ≡ constraint₄ 𝓢 𝓓 𝓣 ν μ k
        in-fourth k l =
            after (suc (suc (suc (κ₁ + k))))
            ∙ get_d_after last threes fours κ₁ k (length-tab κ₁ (constraint₃ 𝓢 𝓓 𝓣 ν μ))
            ∙ get_d_tab κ₂ (constraint₄ 𝓢 𝓓 𝓣 ν μ) k last l
