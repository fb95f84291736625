-- Two naturals for each integer, so that `omega`, which reads only ℕ, proves linear facts on ℤ.
--     P x, N x              the positive and the negative part: x is P x - N x, and one of the two is 0
--     eq_pn .. pn_lt        =, ≤ and < on ℤ as facts on the parts, and back
--     add_pn .. mul_pn      the parts of a sum, a difference, an opposite and a product
--     bnd, sfits_pn, pn_sfits    the parts and the range of a signed width
--     lt_z-true .. le_z_false      what the outcome of a test says, and lt-lt_z .. lt-le_z back
--     zarith                the set to hand to omega: `omega (zarith, bnd x, bnd y, add_pn x y)`
-- The facts with arguments are listed for each term that stands in the goal, the others are rules of the set.
use Rattle.std.specs.Prelude.{◌≡◌, refl, Bool, true, false, cond, ℕ, zero, suc, ◌+◌, ◌-◌, ◌*◌, ◌^◌, ◌≤◌, ◌<◌, min, max, T, ltb, ℤ, pos, negsuc, neg_ℤ, nat_abs, ◌+ℤ◌, ◌-ℤ◌, ◌*ℤ◌, ◌≤ℤ◌, ◌<ℤ◌}
use Rattle.std.proofs.Common.{ap, subst, mul-le-mul, arith, leb→le, ltb→lt, le→leb, lt→ltb, ltb-true, ltb-false, leb-false, lt-ltb, le-ltb, le-leb}
use Rattle.std.proofs.Math.IntN.{sub_ℕ}
use Rattle.std.specs.Int.Signed.{mag, lt_z, le_z}
use Rattle.std.specs.Int.{Width, w32, w64}
use mir.Val.{SFits, hbits}
use Rattle.std.proofs.lemmas.Bool.{lt-leb}

-- the positive part of an integer
abbrev pub P : ℤ → ℕ
P (pos n) = n
P (negsuc n) = 0

-- the negative part of an integer
abbrev pub N : ℤ → ℕ
N (pos n) = 0
N (negsuc n) = suc n

-- ---- the two parts

pub pn_min : (x : ℤ) → min (P x) (N x) ≡ 0
pn_min (pos n) = omega arith
pn_min (negsuc n) = omega arith

pub nat_abs_pn : (x : ℤ) → nat_abs x ≡ P x + N x
nat_abs_pn (pos n) = omega arith
nat_abs_pn (negsuc n) = omega arith

pub pos_pn : (n : ℕ) → (P (pos n) ≡ n) × (N (pos n) ≡ 0)
pos_pn n = (refl, refl)

-- ---- equality and order

pub eq_pn : {x y : ℤ} → x ≡ y → P x + N y ≡ P y + N x
eq_pn {x} {y} e = rw e refl

pub pn_eq : {x y : ℤ} → P x + N y ≡ P y + N x → x ≡ y
pn_eq {x = pos a} {y = pos b} h = let e : a ≡ b = omega arith in ap pos e
pn_eq {x = pos a} {y = negsuc b} h = let f : ⊥ = omega arith in absurd f
pn_eq {x = negsuc a} {y = pos b} h = let f : ⊥ = omega arith in absurd f
pn_eq {x = negsuc a} {y = negsuc b} h = let e : a ≡ b = omega arith in ap negsuc e

le_z_pn : (x y : ℤ) → T (le_z x y) → P x + N y ≤ P y + N x
le_z_pn (pos a) (pos b) t = omega (arith, leb→le a b t)
le_z_pn (pos a) (negsuc b) t = absurd t
le_z_pn (negsuc a) (pos b) t = omega arith
le_z_pn (negsuc a) (negsuc b) t = omega (arith, leb→le b a t)

pn_le_z : (x y : ℤ) → P x + N y ≤ P y + N x → T (le_z x y)
pn_le_z (pos a) (pos b) h = le→leb a b (omega arith)
pn_le_z (pos a) (negsuc b) h = omega arith
pn_le_z (negsuc a) (pos b) h = tt
pn_le_z (negsuc a) (negsuc b) h = le→leb b a (omega arith)

lt_z_pn : (x y : ℤ) → T (lt_z x y) → P x + N y < P y + N x
lt_z_pn (pos a) (pos b) t = omega (arith, ltb→lt a b t)
lt_z_pn (pos a) (negsuc b) t = absurd t
lt_z_pn (negsuc a) (pos b) t = omega arith
lt_z_pn (negsuc a) (negsuc b) t = omega (arith, ltb→lt b a t)

pn_lt_z : (x y : ℤ) → P x + N y < P y + N x → T (lt_z x y)
pn_lt_z (pos a) (pos b) h = lt→ltb a b (omega arith)
pn_lt_z (pos a) (negsuc b) h = omega arith
pn_lt_z (negsuc a) (pos b) h = tt
pn_lt_z (negsuc a) (negsuc b) h = lt→ltb b a (omega arith)

pub le_pn : {x y : ℤ} → x ≤ℤ y → P x + N y ≤ P y + N x
le_pn {x} {y} h = le_z_pn x y h.le

pub pn_le : {x y : ℤ} → P x + N y ≤ P y + N x → x ≤ℤ y
pn_le {x} {y} h = record { le = pn_le_z x y h }

pub lt_pn : {x y : ℤ} → x <ℤ y → P x + N y < P y + N x
lt_pn {x} {y} h = lt_z_pn x y h.lt

pub pn_lt : {x y : ℤ} → P x + N y < P y + N x → x <ℤ y
pn_lt {x} {y} h = record { lt = pn_lt_z x y h }

-- ---- what a branch's flag says

pub lt_z-true : (x y : ℤ) → lt_z x y ≡ true → P x + N y < P y + N x
lt_z-true x y e = lt_z_pn x y (rw e tt)

pub le_z-true : (x y : ℤ) → le_z x y ≡ true → P x + N y ≤ P y + N x
le_z-true x y e = le_z_pn x y (rw e tt)

true_false : {X : Type 0} → true ≡ false → X
true_false e = absurd (subst T e tt)

pub lt_z_false : (x y : ℤ) → lt_z x y ≡ false → P y + N x ≤ P x + N y
lt_z_false (pos a) (pos b) e = omega (arith, ltb-false a b e)
lt_z_false (pos a) (negsuc b) e = omega arith
lt_z_false (negsuc a) (pos b) e = true_false e
lt_z_false (negsuc a) (negsuc b) e = omega (arith, ltb-false b a e)

pub le_z_false : (x y : ℤ) → le_z x y ≡ false → P y + N x < P x + N y
le_z_false (pos a) (pos b) e = omega (arith, leb-false a b e)
le_z_false (pos a) (negsuc b) e = omega arith
le_z_false (negsuc a) (pos b) e = true_false e
le_z_false (negsuc a) (negsuc b) e = omega (arith, leb-false b a e)

-- and back, for a goal that is a test
pub lt-lt_z : (x y : ℤ) → P x + N y < P y + N x → lt_z x y ≡ true
lt-lt_z (pos a) (pos b) h = lt-ltb a b (omega arith)
lt-lt_z (pos a) (negsuc b) h = let no : ⊥ = omega arith in absurd no
lt-lt_z (negsuc a) (pos b) h = refl
lt-lt_z (negsuc a) (negsuc b) h = lt-ltb b a (omega arith)

pub le-le_z : (x y : ℤ) → P x + N y ≤ P y + N x → le_z x y ≡ true
le-le_z (pos a) (pos b) h = le-leb a b (omega arith)
le-le_z (pos a) (negsuc b) h = let no : ⊥ = omega arith in absurd no
le-le_z (negsuc a) (pos b) h = refl
le-le_z (negsuc a) (negsuc b) h = le-leb b a (omega arith)

pub le-lt_z : (x y : ℤ) → P y + N x ≤ P x + N y → lt_z x y ≡ false
le-lt_z (pos a) (pos b) h = le-ltb a b (omega arith)
le-lt_z (pos a) (negsuc b) h = refl
le-lt_z (negsuc a) (pos b) h = let no : ⊥ = omega arith in absurd no
le-lt_z (negsuc a) (negsuc b) h = le-ltb b a (omega arith)

pub lt-le_z : (x y : ℤ) → P y + N x < P x + N y → le_z x y ≡ false
lt-le_z (pos a) (pos b) h = lt-leb a b (omega arith)
lt-le_z (pos a) (negsuc b) h = refl
lt-le_z (negsuc a) (pos b) h = let no : ⊥ = omega arith in absurd no
lt-le_z (negsuc a) (negsuc b) h = lt-leb b a (omega arith)

-- ---- sums, differences, opposites, products

sub_parts : (a b : ℕ) (t : Bool) → ltb a b ≡ t
    → P (cond t (negsuc (b - suc a)) (pos (a - b))) + b ≡ N (cond t (negsuc (b - suc a)) (pos (a - b))) + a
sub_parts a b true e = omega (arith, ltb-true a b e)
sub_parts a b false e = omega (arith, ltb-false a b e)

pub subℕ_pn : (a b : ℕ) → P (sub_ℕ a b) + b ≡ N (sub_ℕ a b) + a
subℕ_pn a b = sub_parts a b (ltb a b) refl

pub add_pn : (x y : ℤ) → P (x +ℤ y) + (N x + N y) ≡ N (x +ℤ y) + (P x + P y)
add_pn (pos a) (pos b) = omega arith
add_pn (pos a) (negsuc b) = omega (arith, subℕ_pn a (suc b))
add_pn (negsuc a) (pos b) = omega (arith, subℕ_pn b (suc a))
add_pn (negsuc a) (negsuc b) = omega arith

pub neg_pn : (x : ℤ) → (P (neg_ℤ x) ≡ N x) × (N (neg_ℤ x) ≡ P x)
neg_pn (pos zero) = (refl, refl)
neg_pn (pos (suc n)) = (refl, refl)
neg_pn (negsuc n) = (refl, refl)

pub sub_pn : (x y : ℤ) → P (x -ℤ y) + (N x + P y) ≡ N (x -ℤ y) + (P x + N y)
sub_pn x y = omega (arith, add_pn x (neg_ℤ y), neg_pn y)

pub mul_pn : (x y : ℤ) → P (x *ℤ y) + (P x * N y + N x * P y) ≡ N (x *ℤ y) + (P x * P y + N x * N y)
mul_pn (pos a) (pos b) = omega arith
mul_pn (pos a) (negsuc b) = omega (arith, neg_pn (pos (a * suc b)))
mul_pn (negsuc a) (pos b) = omega (arith, neg_pn (pos (suc a * b)))
mul_pn (negsuc a) (negsuc b) = omega arith

pub abs_mul : (x y : ℤ) → P (x *ℤ y) + N (x *ℤ y) ≡ (P x + N x) * (P y + N y)
abs_mul (pos a) (pos b) = omega arith
abs_mul (pos a) (negsuc b) = omega (arith, neg_pn (pos (a * suc b)))
abs_mul (negsuc a) (pos b) = omega (arith, neg_pn (pos (suc a * b)))
abs_mul (negsuc a) (negsuc b) = omega arith

pub mul-bnd : (x y : ℤ) {a b : ℕ} → P x + N x ≤ a → P y + N y ≤ b → P (x *ℤ y) + N (x *ℤ y) ≤ a * b
mul-bnd x y h k = omega (arith, abs_mul x y, mul-le-mul h k)

-- ---- the range of a signed width

pub bnd : (x : ℤ) → (P x ≤ mag x) × (N x ≤ mag x + 1)
bnd (pos n) = (omega arith, omega arith)
bnd (negsuc n) = (omega arith, omega arith)

pub sfits_pn : {w : Width} {x : ℤ} → SFits w x → (P x < 2 ^ hbits w) × (N x ≤ 2 ^ hbits w)
sfits_pn {x} h = let k = h.sfits in (omega (arith, k, bnd x), omega (arith, k, bnd x))

pub abs_bnd : {w : Width} {x : ℤ} → SFits w x → P x + N x ≤ 2 ^ hbits w
abs_bnd {x} h = omega (arith, h.sfits, pn_min x, bnd x)

mag_pn : (x : ℤ) → mag x ≡ max (P x - N x) (N x - (P x + 1))
mag_pn (pos n) = omega arith
mag_pn (negsuc n) = omega arith

pub pn_sfits : {w : Width} {x : ℤ} → max (P x - N x) (N x - (P x + 1)) < 2 ^ hbits w → SFits w x
pn_sfits {x} h = record { sfits = rw (mag_pn x) h }

pub ruleset zarith = (
  arith,
  eq_pn,
  pn_eq,
  le_pn,
  pn_le,
  lt_pn,
  pn_lt,
  pn_sfits,
  lt_z-true,
  lt_z_false,
  le_z-true,
  le_z_false,
  lt-lt_z,
  le-le_z,
  le-lt_z,
  lt-le_z,
)

-- ---- examples of its use

sum_fits : (x y : ℤ) → SFits w32 x → SFits w32 y → SFits w64 (x +ℤ y)
sum_fits x y h k = omega (zarith, bnd x, bnd y, add_pn x y)

product-fits : (x y : ℤ) → SFits w32 x → SFits w32 y → SFits w64 (x *ℤ y)
product-fits x y h k = omega (zarith, mul-bnd x y (abs_bnd h) (abs_bnd k))

between : (x y z : ℤ) → x ≤ℤ y → y <ℤ z → (x +ℤ pos 1) ≤ℤ z
between x y z h k = omega (zarith, add_pn x (pos 1))

test : (x y z : ℤ) → x ≤ℤ y → le_z z y ≡ false → lt_z z x ≡ false
test x y z h k = omega zarith
