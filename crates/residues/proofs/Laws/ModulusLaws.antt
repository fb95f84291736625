-- Laws of numbers modulo q and of their centred numbers. Callers use these and keep q shut.
use Rattle.std.specs.Prelude.{◌≡◌, refl, ℕ, ◌/◌, ◌%◌, ◌≤◌, ◌<◌, ℤ, pos, neg_ℤ, nat_abs, ◌+ℤ◌, ◌-ℤ◌, ◌*ℤ◌}
use Rattle.std.proofs.Common.{sym, ap, ◌∙◌, arith, ltb→lt, SFits}
use Rattle.std.proofs.Math.Nat.{mod-mod}
use Rattle.std.specs.Int.{w32}
use Rattle.integers.specs.Laws.Bridge.{nat_abs_pn, add_pn, mul_pn, zarith}
use Rattle.integers.specs.Remainder.{emod}
use Rattle.integers.specs.Laws.RemainderLaws.{emod-pos, emod-eq}
use Rattle.integers.specs.Laws.CentreLaws.{centre_abs, centre-shorter, centre_fixed}
use Rattle.algebra.specs.Laws.ResidueLaws as Residue
use Rattle.residues.specs.Modulus.{q, q-positive, Zq, red, cent, centred}

-- ---- the size of q

pub q-value : q ≡ 4294967197
unfolding q
q-value = refl

pub q-half : q / 2 ≡ 2147483598
unfolding q
q-half = refl

pub q-above : 0 < q
q-above = ltb→lt 0 q q-positive

-- ---- residues and centred numbers

pub red_residue : (z : ℤ) → (red z).val ≡ emod z q
unfolding red
red_residue z = Residue.val-reduce q q-positive z

pub red-eq : (a b : ℤ) → emod a q ≡ emod b q → red a ≡ red b
unfolding red
red-eq a b e = Residue.reduce-eq q q-positive a b e

pub red-val : (x : Zq.Carrier) → red (pos x.val) ≡ x
unfolding red
red-val x = Residue.reduce-val q q-positive x

pub red-centred : (z : ℤ) → red (centred z) ≡ red z
unfolding red centred
red-centred z = Residue.reduce-centre q q-positive z

pub cent-red : (z : ℤ) → cent (red z) ≡ centred z
unfolding red cent centred
cent-red z = Residue.centred-reduce q q-positive z

pub red-cent : (x : Zq.Carrier) → red (cent x) ≡ x
unfolding red cent
red-cent x = Residue.reduce-centred q q-positive x

pub centred-eq : (a b : ℤ) → red a ≡ red b → centred a ≡ centred b
unfolding red centred
centred-eq a b e = Residue.centre-reduce q q-positive a b e

-- a natural number and its remainder
pub centred-mod : (n : ℕ) → centred (pos (n % 4294967197)) ≡ centred (pos n)
centred-mod n = rw (← q-value) (centred-eq (pos (n % q)) (pos n) (red-eq (pos (n % q)) (pos n)
    (emod-pos q q-above (n % q) ∙ mod-mod n q ∙ sym (emod-pos q q-above n))))

-- ---- red is a morphism of rings

pub red-zero : red (pos 0) ≡ Zq.zero
unfolding red
red-zero = Residue.reduce-zero q q-positive

pub red-one : red (pos 1) ≡ Zq.one
unfolding red
red-one = Residue.reduce-one q q-positive

pub red-add : (a b : ℤ) → red (a +ℤ b) ≡ Zq.add (red a) (red b)
unfolding red
red-add a b = Residue.reduce-add q q-positive a b

pub red-mul : (a b : ℤ) → red (a *ℤ b) ≡ Zq.mul (red a) (red b)
unfolding red
red-mul a b = Residue.reduce-mul q q-positive a b

pub red-neg : (a : ℤ) → red (neg_ℤ a) ≡ Zq.neg (red a)
unfolding red
red-neg a = Residue.reduce-neg q q-positive a

pub red-sub : (a b : ℤ) → red (a -ℤ b) ≡ Zq.add (red a) (Zq.neg (red b))
unfolding red
red-sub a b = Residue.reduce-sub q q-positive a b

-- one half: 2 * 2147483599 = q + 1
halves : (z : ℤ) → Zq.add (Zq.mul (red (pos 2147483599)) (red z)) (Zq.mul (red (pos 2147483599)) (red z)) ≡ red z
halves z =
    let h = pos 2147483599 *ℤ z in
    sym (ap (λ (r : Zq.Carrier). Zq.add r r) (red-mul (pos 2147483599) z))
    ∙ sym (red-add h h)
    ∙ red-eq (h +ℤ h) z (emod-eq q q-above (h +ℤ h) z z (rw q-value (omega (
      zarith,
      add_pn h h,
      mul_pn (pos 2147483599) z,
      add_pn z (z *ℤ pos 4294967197),
      mul_pn z (pos 4294967197),
    ))))

pub two-halves : (x : Zq.Carrier) → Zq.add (Zq.mul (red (pos 2147483599)) x) (Zq.mul (red (pos 2147483599)) x) ≡ x
two-halves x = rw (red-val x) at (halves (pos x.val))

-- ---- ranges

pub centred_fixed : {z : ℤ} → nat_abs z ≤ 2147483598 → centred z ≡ z
unfolding centred
centred_fixed {z} h =
    centre_fixed q q-above (record { low = omega (arith, nat_abs_pn z, q-half); high = omega (arith, nat_abs_pn z, q-half, q-value) })

pub centred-bound : (z : ℤ) → nat_abs (centred z) ≤ 2147483598
unfolding centred
centred-bound z = omega (arith, centre_abs q q-above z, q-half)

pub centred-shorter : (z : ℤ) → nat_abs (centred z) ≤ nat_abs z
unfolding centred
centred-shorter z = centre-shorter q q-above z

pub cent-bound : (x : Zq.Carrier) → nat_abs (cent x) ≤ 2147483598
cent-bound x = rw (← (red-cent x), cent-red (cent x)) (centred-bound (cent x))

pub small-fits : {z : ℤ} → nat_abs z ≤ 2147483598 → SFits w32 z
small-fits {z} h = omega (zarith, nat_abs_pn z)

pub centred-fits : (z : ℤ) → SFits w32 (centred z)
centred-fits z = small-fits (centred-bound z)

pub cent-fits : (x : Zq.Carrier) → SFits w32 (cent x)
cent-fits x = small-fits (cent-bound x)
