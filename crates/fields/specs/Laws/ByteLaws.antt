-- Laws of bytes: lists of bytes compared, and the value of the digits among them.
use Rattle.std.specs.Prelude.{◌≡◌, refl, Bool, true, false, cond, List, [], ◌∷◌, ◌++◌, ℕ, ◌+◌, ◌*◌, ◌-◌, ◌≤◌, ◌<◌, T, leb, eqb, length}
use Rattle.std.proofs.Common.{sym, ap, subst, arith, le-leb, leb-true, eq-eqb, eqb-true}
use Rattle.std.proofs.lemmas.Bool.{lt-leb}
use Rattle.fields.specs.Fields.{digit_step, value_from, same_bytes}

-- ---- lists of bytes compared

pub same_refl : (l : List ℕ) → same_bytes l l ≡ true
unfolding same_bytes
same_refl [] = refl
same_refl (x ∷ l) = rw (eq-eqb x x refl) (same_refl l)

pub same_equal : (l m : List ℕ) → l ≡ m → same_bytes l m ≡ true
same_equal l m e = rw e (same_refl m)

pub same_true : (l m : List ℕ) → same_bytes l m ≡ true → l ≡ m
unfolding same_bytes
same_true [] [] e = refl
same_true [] (y ∷ m) e = absurd (subst T (sym e) tt)
same_true (x ∷ l) [] e = absurd (subst T (sym e) tt)
same_true (x ∷ l) (y ∷ m) e = step (eqb x y) refl (same_true l m) e
  where
    step : (t : Bool) → eqb x y ≡ t → (same_bytes l m ≡ true → l ≡ m) → cond t (same_bytes l m) false ≡ true → x ∷ l ≡ y ∷ m
    step true q rest e = cc (eqb-true x y q, rest e)
    step false q rest e = absurd (subst T (sym e) tt)

pub same_false : (l m : List ℕ) → (l ≡ m → ⊥) → same_bytes l m ≡ false
same_false l m differ = step (same_bytes l m) refl
  where
    step : (t : Bool) → same_bytes l m ≡ t → t ≡ false
    step true e = absurd (differ (same_true l m e))
    step false e = refl

-- one more byte at the end
pub same_snoc : (l m : List ℕ) (x y : ℕ) → length l ≡ length m
    → same_bytes (l ++ (x ∷ [])) (m ++ (y ∷ [])) ≡ cond (same_bytes l m) (eqb x y) false
unfolding same_bytes
same_snoc [] [] x y e = last (eqb x y)
  where
    last : (t : Bool) → cond t true false ≡ t
    last true = refl
    last false = refl
same_snoc [] (b ∷ m) x y e = let no : ⊥ = omega arith in absurd no
same_snoc (a ∷ l) [] x y e = let no : ⊥ = omega arith in absurd no
same_snoc (a ∷ l) (b ∷ m) x y e = rw (same_snoc l m x y (omega arith)) (assoc (eqb a b))
  where
    assoc : (s : Bool)
        → cond s (cond (same_bytes l m) (eqb x y) false) false ≡ cond (cond s (same_bytes l m) false) (eqb x y) false
    assoc true = refl
    assoc false = refl

-- ---- the digits' value

pub value-append : (n : ℕ) (l m : List ℕ) → value_from n (l ++ m) ≡ value_from (value_from n l) m
unfolding value_from
value-append n [] m = refl
value-append n (x ∷ l) m = value-append (digit_step n x) l m

pub value_snoc : (l : List ℕ) (x : ℕ) → value_from 0 (l ++ (x ∷ [])) ≡ digit_step (value_from 0 l) x
unfolding value_from
value_snoc l x = value-append 0 l (x ∷ [])

pub digit-step : (m k : ℕ) → k < 10 → digit_step m (48 + k) ≡ m * 10 + k
unfolding digit_step
digit-step m k h =
    let e : 48 + k - 48 ≡ k = omega arith in
    rw (le-leb 48 (48 + k) (omega arith), le-leb (48 + k) 57 (omega arith)) (ap (λ (x : ℕ). m * 10 + x) e)

pub other_step : (m x : ℕ) → x < 48 → digit_step m x ≡ m
unfolding digit_step
other_step m x h = rw (lt-leb 48 x h) refl

pub high-step : (m x : ℕ) → 57 < x → digit_step m x ≡ m
unfolding digit_step
high-step m x h = rw (le-leb 48 x (omega arith), lt-leb x 57 h) refl

pub digit-sum : (m x : ℕ) → 48 ≤ x → x ≤ 57 → digit_step m x ≡ m * 10 + (x - 48)
unfolding digit_step
digit-sum m x h k = rw (le-leb 48 x h, le-leb x 57 k) refl

pub step-bound : (m x b : ℕ) → m < b → digit_step m x < b * 10
unfolding digit_step
step-bound m x b h = step (leb 48 x) (leb x 57) refl refl
  where
    step : (s t : Bool) → leb 48 x ≡ s → leb x 57 ≡ t → cond (cond s t false) (m * 10 + (x - 48)) m < b * 10
    step true true e f = omega (arith, leb-true x 57 f)
    step true false e f = omega arith
    step false t e f = omega arith
