-- Laws of residues: those of a commutative ring, and those of the map from the integers.
use Rattle.std.specs.Prelude.{◌≡◌, ℕ, ◌+◌, ◌-◌, ◌*◌, ◌%◌, ◌<◌, T, ltb, ℤ, pos, neg_ℤ, ◌+ℤ◌, ◌-ℤ◌, ◌*ℤ◌}
use Rattle.std.proofs.Math.Path.{refl, ap}
use Rattle.std.proofs.Common.{sym, ◌∙◌, arith}
use mathlib.Core.HLevel.{Discrete, hedberg, is_prop→PathP}
use Rattle.std.proofs.Math.Decide.{ℕ_discrete}
use Rattle.std.proofs.Math.Nat as Nat
use Rattle.std.proofs.Math.Dec.{T_prop, ltb→lt}
use Rattle.integers.specs.Remainder.{emod, centre}
use Rattle.integers.specs.Laws.RemainderLaws.{mul-mod, mod-mul-left, mod-mul-right, emod-pos, emod-emod}
use Rattle.integers.specs.Laws.RemainderLaws.{emod-add, emod-neg, emod-mul}
use Rattle.integers.specs.Laws.CentreLaws.{centre-emod, centre-eq}
use Rattle.algebra.specs.Residue.{Residue, centred, make, add, mul, neg, reduce}

pub residue_eq : {m : ℕ} {x y : Residue m} → x.val ≡ y.val → x ≡ y
residue_eq {m} {x} {y} e = λ i. record { val = e i; ok = is_prop→PathP (λ j. T (ltb (e j) m)) (λ j. T_prop (ltb (e j) m)) x.ok y.ok i }

residue_discrete : {m : ℕ} → Discrete (Residue m)
residue_discrete {m} x y = decide (ℕ_discrete x.val y.val)
  where
    decide : Dec (x.val ≡ y.val) → Dec (x ≡ y)
    decide (yes e) = yes (residue_eq e)
    decide (no f) = no (λ e. f (ap (λ z. z.val) e))

pub Residue-set : (m : ℕ) → IsSet (Residue m)
Residue-set m = hedberg residue_discrete

module _ (m : ℕ) (m>0 : T (ltb 0 m)) where
  pub val-make : (n : ℕ) → (make m m>0 n).val ≡ n % m
  unfolding make
  val-make n = refl

  pub make-val : (x : Residue m) → make m m>0 x.val ≡ x
  make-val x = residue_eq (val-make x.val ∙ Nat.mod-eq_of_lt (ltb→lt x.val m x.ok))

  -- numbers with the same remainder have the same residue
  pub make-eq : (a b : ℕ) → a % m ≡ b % m → make m m>0 a ≡ make m m>0 b
  make-eq a b e = residue_eq (val-make a ∙ e ∙ sym (val-make b))

  pub make-add : (a b : ℕ) → make m m>0 (a + b) ≡ add m m>0 (make m m>0 a) (make m m>0 b)
  unfolding add make
  make-add a b = make-eq (a + b) (a % m + b % m) (Nat.add-mod a b m)

  pub make-mul : (a b : ℕ) → make m m>0 (a * b) ≡ mul m m>0 (make m m>0 a) (make m m>0 b)
  unfolding mul make
  make-mul a b = make-eq (a * b) (a % m * (b % m)) (mul-mod a b m)

  -- ---- the ring laws

  below : (x : Residue m) → x.val % m ≡ x.val
  below x = Nat.mod-eq_of_lt (ltb→lt x.val m x.ok)

  pub residue_add_assoc : (x y z : Residue m) → add m m>0 (add m m>0 x y) z ≡ add m m>0 x (add m m>0 y z)
  unfolding add make
  residue_add_assoc x y z = residue_eq (rw (Nat.mod-add-mod, Nat.add-mod-mod, Nat.add_assoc))

  pub residue_add_comm : (x y : Residue m) → add m m>0 x y ≡ add m m>0 y x
  unfolding add
  residue_add_comm x y = ap (make m m>0) (Nat.add_comm x.val y.val)

  pub residue_add_zero : (x : Residue m) → add m m>0 x (make m m>0 0) ≡ x
  unfolding add make
  residue_add_zero x = residue_eq (rw (Nat.add-mod-mod, Nat.add-zero) (below x))

  pub residue_add_neg : (x : Residue m) → add m m>0 x (neg m m>0 x) ≡ make m m>0 0
  unfolding add neg make
  residue_add_neg x = residue_eq (rw (Nat.add-mod-mod, whole, Nat.mod_self, Nat.zero-mod))
    where
      whole : x.val + (m - x.val) ≡ m
      whole = omega (arith, ltb→lt x.val m x.ok)

  pub residue_mul_assoc : (x y z : Residue m) → mul m m>0 (mul m m>0 x y) z ≡ mul m m>0 x (mul m m>0 y z)
  unfolding mul make
  residue_mul_assoc x y z = residue_eq (rw (← mod-mul-left, ← mod-mul-right, Nat.mul_assoc))

  pub residue_mul_comm : (x y : Residue m) → mul m m>0 x y ≡ mul m m>0 y x
  unfolding mul
  residue_mul_comm x y = ap (make m m>0) (Nat.mul_comm x.val y.val)

  pub residue_mul_one : (x : Residue m) → mul m m>0 x (make m m>0 1) ≡ x
  unfolding mul make
  residue_mul_one x = residue_eq (rw (← mod-mul-right, Nat.mul-one) (below x))

  pub residue_mul_add : (x y z : Residue m) → mul m m>0 x (add m m>0 y z) ≡ add m m>0 (mul m m>0 x y) (mul m m>0 x z)
  unfolding add mul make
  residue_mul_add x y z = residue_eq (rw (← mod-mul-right, ← Nat.add-mod, Nat.mul-add))

module _ (m : ℕ) (m>0 : T (ltb 0 m)) where
  above : 0 < m
  above = ltb→lt 0 m m>0

  pub val-reduce : (z : ℤ) → (reduce m m>0 z).val ≡ emod z m
  unfolding reduce
  val-reduce z = refl

  -- two integers have one residue exactly when they have one remainder
  pub reduce-eq : (a b : ℤ) → emod a m ≡ emod b m → reduce m m>0 a ≡ reduce m m>0 b
  reduce-eq a b e = residue_eq (val-reduce a ∙ e ∙ sym (val-reduce b))

  pub eq-reduce : (a b : ℤ) → reduce m m>0 a ≡ reduce m m>0 b → emod a m ≡ emod b m
  eq-reduce a b e = sym (val-reduce a) ∙ ap (λ x. x.val) e ∙ val-reduce b

  -- it is a morphism of rings
  pub reduce-pos : (n : ℕ) → reduce m m>0 (pos n) ≡ make m m>0 n
  reduce-pos n = residue_eq (val-reduce (pos n) ∙ emod-pos m above n ∙ sym (val-make m m>0 n))

  pub reduce-zero : (reduce m m>0) (pos 0) ≡ make m m>0 0
  reduce-zero = reduce-pos 0

  pub reduce-one : (reduce m m>0) (pos 1) ≡ make m m>0 1
  reduce-one = reduce-pos 1

  pub reduce-add : (a b : ℤ) → reduce m m>0 (a +ℤ b) ≡ add m m>0 (reduce m m>0 a) (reduce m m>0 b)
  unfolding reduce add make
  reduce-add a b = residue_eq (emod-add m above a b)

  pub reduce-mul : (a b : ℤ) → reduce m m>0 (a *ℤ b) ≡ mul m m>0 (reduce m m>0 a) (reduce m m>0 b)
  unfolding reduce mul make
  reduce-mul a b = residue_eq (emod-mul m above a b)

  pub reduce-neg : (a : ℤ) → reduce m m>0 (neg_ℤ a) ≡ neg m m>0 (reduce m m>0 a)
  unfolding reduce neg make
  reduce-neg a = residue_eq (emod-neg m above a)

  pub reduce-sub : (a b : ℤ) → reduce m m>0 (a -ℤ b) ≡ add m m>0 (reduce m m>0 a) (neg m m>0 (reduce m m>0 b))
  reduce-sub a b = reduce-add a (neg_ℤ b) ∙ ap (add m m>0 (reduce m m>0 a)) (reduce-neg b)

  -- ---- the centred integer of a residue

  pub reduce-centre : (z : ℤ) → reduce m m>0 (centre m z) ≡ reduce m m>0 z
  reduce-centre z = reduce-eq (centre m z) z (centre-emod m above z)

  pub reduce-val : (x : Residue m) → reduce m m>0 (pos x.val) ≡ x
  reduce-val x = reduce-pos x.val ∙ make-val m m>0 x

  pub reduce-centred : (x : Residue m) → reduce m m>0 (centred x) ≡ x
  unfolding centred
  reduce-centred x = reduce-centre (pos x.val) ∙ reduce-val x

  pub centre-reduce : (a b : ℤ) → reduce m m>0 a ≡ reduce m m>0 b → centre m a ≡ centre m b
  centre-reduce a b e = centre-eq m above a b (eq-reduce a b e)

  pub centred-reduce : (z : ℤ) → centred (reduce m m>0 z) ≡ centre m z
  unfolding centred reduce
  centred-reduce z = centre-eq m above (pos (emod z m)) z (emod-emod m above z)
