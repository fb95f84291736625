-- Where z has one digit, that digit is z, and verdict, digits and next constraints do not depend on the base b.
--     one-digit-is, one-digit-recomposed     z is neither split nor recomposed
--     one-digit-z                       what is recomposed does not depend on b
--     one-digit-verdict                 the verdict does not depend on b
--     one-digit-next                    nor do the constraints of the next instance
--     one_digit_diagonal                whose a_ij is zero for i ≠ j
use Rattle.std.specs.Prelude.{◌≡◌, ◌≢◌, Bool, false, cond, List, [], ◌∷◌, ◌++◌, map, ℕ, ◌+◌, ◌*◌, ◌/◌, ◌%◌, ◌^◌, eqb, ℤ, pos}
use Rattle.std.proofs.Math.Path.{refl, ap}
use Rattle.std.proofs.Common.{sym, ap₂, ◌∙◌, one-mul, arith, ltb-true, ne_eqb}
use Rattle.std.proofs.Math.Bool.{true}
use Rattle.std.proofs.Math.Nat.{pow-zero, div-eq_of_lt, mod-eq_of_lt}
use Rattle.std.proofs.Math.Dec.{ltb}
use Rattle.std.proofs.Math.ListN.{get_or}
use Rattle.integers.specs.Lists.{tab}
use Rattle.integers.specs.Flat.{flat}
use Rattle.residues.specs.Digits.{split, digit, rests}
use Rattle.algebra.specs.Sum.{sum}
use Rattle.ring.specs.Element.{R, el, number}
use Rattle.ring.specs.Joined.{joined}
use Rattle.ring.specs.Laws.Recomposition.{joined-one}
use Rattle.fold.specs.Statement.{Statement, Draws, Transcript}
use Rattle.fold.specs.Opening.{z_of}
use Rattle.fold.specs.Messages.{elements, z, z_digits}
use Rattle.fold.specs.Verdict.{verdict}
use Rattle.fold.specs.Sizes.{next_count}
use Rattle.fold.specs.Chunks.{width}
use Rattle.fold.specs.Constraint.{Constraint, laid_out}
use Rattle.fold.specs.NextInstance.{z_table, squares}
use Rattle.fold.specs.NextInstance.{constraint₃, constraint₄, constraint₅, constraint₆, constraint₇, constraint₈, constraint, m, n', r', next_whole}

-- the same statement with another base for z
abbrev pub with_base : Statement → (b : ℕ) → Statement
with_base 𝓢 b =
    record {
      relation = 𝓢.relation;
      w = 𝓢.w;
      tz = 𝓢.tz;
      κ = 𝓢.κ;
      κ₁ = 𝓢.κ₁;
      κ₂ = 𝓢.κ₂;
      b = b;
      b₁ = 𝓢.b₁;
      b₂ = 𝓢.b₂;
      t₁ = 𝓢.t₁;
      t₂ = 𝓢.t₂;
      target = 𝓢.target;
      A = 𝓢.A;
      B = 𝓢.B;
      C = 𝓢.C;
      D = 𝓢.D;
    }

unit-weight : (b b' : ℕ) → b ^ 0 ≡ b' ^ 0
unit-weight b b' = pow-zero b ∙ sym (pow-zero b')

pub one-digit-z : (d n tz b b' : ℕ) → tz ≡ 1 → (x : ℕ → (R d).Carrier) → z_of d n tz b x ≡ z_of d n tz b' x
unfolding z_of joined sum
one-digit-z d n tz b b' one x = rw one (λ i k. at k i)
  where
    at : (k : ℕ) → (R d).add (R d).zero ((R d).mul (number d (pos (b ^ 0))) (x (0 * n + k))) ≡ (R d).add (R d).zero ((R d).mul (number d (pos (b' ^ 0))) (x (0 * n + k)))
    at k = ap (λ (p : ℕ). (R d).add (R d).zero ((R d).mul (number d (pos p)) (x (0 * n + k)))) (unit-weight b b')

-- "z itself, centred, is its only digit"
same-list : (xs : List ℤ) (f : ℤ → ℤ) → ((x : ℤ) → f x ≡ x) → map f xs ≡ xs
same-list [] f e = refl
same-list (x ∷ xs) f e = ap₂ ◌∷◌ (e x) (same-list xs f e)

pub one-digit-is : (d n r b : ℕ) (c s : List ℤ) → z_digits d n r 1 b c s ≡ elements d n (z d n r c s)
unfolding z_digits split digit rests flat
one-digit-is d n r b c s = same-list (elements d n (z d n r c s)) _ (λ x. refl)

pub one-digit-recomposed : (d n b : ℕ) (x : ℕ → (R d).Carrier) (k : ℕ) → z_of d n 1 b x k ≡ x k
unfolding z_of
one-digit-recomposed d n b x k = joined-one d b (λ e. x (e * n + k)) ∙ ap x (omega arith)

-- ---- the tables of the next instance

module _ (d : ℕ) where
  one-digit-table : (n tz b b' : ℕ) → tz ≡ 1 → z_table d n tz b ≡ z_table d n tz b'
  unfolding z_table flat
  one-digit-table n tz b b' one = rw one (λ i f. ap (λ (p : ℕ). flat 1 (λ e. tab n (λ k. (R d).mul (number d (pos p)) (f k)))) (unit-weight b b') i)

  -- three tests before a value that two of them bear on
  tested : (p q t : Bool) (x y : (R d).Carrier) → (p ≡ true → q ≡ true → x ≡ y)
      → cond p (cond q (cond t x (R d).zero) (R d).zero) (R d).zero ≡ cond p (cond q (cond t y (R d).zero) (R d).zero) (R d).zero
  tested true true t x y e = ap (λ v. cond t v (R d).zero) (e refl refl)
  tested true false t x y e = refl
  tested false q t x y e = refl

  one-digit-squares : (tz ν b b' : ℕ) → tz ≡ 1 → squares d tz ν b ≡ squares d tz ν b'
  unfolding squares
  one-digit-squares tz ν b b' one = rw one (λ i s s'. at s s' i)
    where
      first : (s : ℕ) → ltb s (1 * ν) ≡ true → s / ν ≡ 0
      first s e = div-eq_of_lt (rw (one-mul ν) at (ltb-true s (1 * ν) e))

      at : (s s' : ℕ) → squares d 1 ν b s s' ≡ squares d 1 ν b' s s'
      at s s' =
          tested (ltb s (1 * ν)) (ltb s' (1 * ν)) (eqb (s % ν) (s' % ν)) _ _
          (λ e f. rw (first s e, first s' f) (ap (λ (p : ℕ). (R d).mul (number d (cond (eqb s s') (pos 1) (pos 2))) (number d (pos p))) (unit-weight b b')))

  -- "a_ij" for i ≠ j
  pub one_digit_diagonal : (ν b s s' : ℕ) → s ≢ s' → squares d 1 ν b s s' ≡ (R d).zero
  unfolding squares
  one_digit_diagonal ν b s s' apart = off (ltb s (1 * ν)) (ltb s' (1 * ν)) refl refl
    where
      same : (s : ℕ) → ltb s (1 * ν) ≡ true → s % ν ≡ s
      same s e = mod-eq_of_lt (rw (one-mul ν) at (ltb-true s (1 * ν) e))

      off : (p q : Bool) → ltb s (1 * ν) ≡ p → ltb s' (1 * ν) ≡ q → squares d 1 ν b s s' ≡ (R d).zero
      off true true e f = rw (e, f, ne_eqb (s % ν) (s' % ν) (λ g. apart (sym (same s e) ∙ g ∙ same s' f))) refl
      off true false e f = rw (e, f) refl
      off false q e f = rw e refl

module _ (𝓢 : Statement) (one : 𝓢.tz ≡ 1) (b' : ℕ) where
  open 𝓢 use {relation, tz, κ, κ₁, κ₂, b}
  open relation use {d, n}

  pub one-digit-verdict : (𝓓 : Draws) (𝓣 : Transcript) (o : List ℤ) → verdict (with_base 𝓢 b') 𝓓 𝓣 o ≡ verdict 𝓢 𝓓 𝓣 o
  unfolding verdict
  one-digit-verdict 𝓓 𝓣 o = rw (one-digit-z d n tz b' b one (el d o)) refl

  -- ---- the constraints of the next instance

  module _ (𝓓 : Draws) (𝓣 : Transcript) (ν μ : ℕ) where
    open R d use {Carrier as Rd}

    with_table : {T T' : (ℕ → Rd) → List Rd} → T ≡ T' → (a : ℕ → ℕ → Rd) (f : ℕ → Rd) (rest : List Rd) (constant : Rd)
        → ◌≡◌ {A = Constraint d} (record { a = a; table = T f ++ rest; constant = constant }) (record { a = a; table = T' f ++ rest; constant = constant })
    with_table e a f rest constant = λ i. record { a = a; table = e i f ++ rest; constant = constant }

    fifth : (k : ℕ) → constraint₅ (with_base 𝓢 b') 𝓓 𝓣 ν μ k ≡ constraint₅ 𝓢 𝓓 𝓣 ν μ k
    fifth k = with_table (one-digit-table d n tz b' b one) _ _ _ _

    sixth : constraint₆ (with_base 𝓢 b') 𝓓 𝓣 ν μ ≡ constraint₆ 𝓢 𝓓 𝓣 ν μ
    sixth =
        let e = one-digit-squares d tz ν b' b one in
        λ i. record { a = e i; table = (constraint₆ 𝓢 𝓓 𝓣 ν μ).table; constant = (constraint₆ 𝓢 𝓓 𝓣 ν μ).constant }

    seventh : constraint₇ (with_base 𝓢 b') 𝓓 𝓣 ν μ ≡ constraint₇ 𝓢 𝓓 𝓣 ν μ
    seventh = with_table (one-digit-table d n tz b' b one) _ _ _ _

    each : constraint (with_base 𝓢 b') 𝓓 𝓣 ν μ ≡ constraint 𝓢 𝓓 𝓣 ν μ
    unfolding constraint
    each =
        λ i x. get_or
        (tab κ (λ k. fifth k i)
        ++ (sixth i
        ∷ seventh i
        ∷ constraint₈ 𝓢 𝓓 𝓣 ν μ
        ∷ (tab κ₁ (constraint₃ 𝓢 𝓓 𝓣 ν μ) ++ tab κ₂ (constraint₄ 𝓢 𝓓 𝓣 ν μ))))
        x
        (sixth i)

    pub one-digit-next : next_whole (with_base 𝓢 b') 𝓓 𝓣 ν μ ≡ next_whole 𝓢 𝓓 𝓣 ν μ
    unfolding next_whole
    one-digit-next =
        ap (λ f. flat (next_count κ κ₁ κ₂) (λ x. laid_out d (n' 𝓢 𝓓 𝓣 ν μ) (r' 𝓢 𝓓 𝓣 ν μ) (width tz n ν (m 𝓢 𝓓 𝓣 ν μ) μ) (f x))) each
