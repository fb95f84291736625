-- An i32 read back. The code holds the bits `of_z w32 x` of a signed number, and reads them as `to_z w32 (of_z w32 x)`, which is x.
--     word             an i32 itself: a parameter, or an element of a slice, from the bound that reading it gives
--     held             a number as a 64-bit signed local holds it
--     wide             an i32 cast to i64
--     wide-opposite    the opposite of an i32, formed as an i64
use Rattle.std.specs.Prelude.{◌≡◌, ◌^◌, ◌<◌, ℤ, pos, ◌-ℤ◌}
use Rattle.std.proofs.Common.{ap, ◌∙◌, SFits, to_z, of_z, to_z-of_z}
use Rattle.std.specs.Int.Signed.{mag}
use Rattle.std.specs.Int.{w32, w64}
use Rattle.std.proofs.Math.Facts.{sfits_widen}
use Rattle.integers.specs.Laws.Bridge.{zarith, bnd, sub_pn}

pub word : (x : ℤ) → mag x < 2 ^ 31 → to_z w32 (of_z w32 x) ≡ x
word x h = to_z-of_z {w = w32} {z = x} (record { sfits = h })

abbrev pub held : ℤ → ℤ
held z = to_z w64 (of_z w64 z)

pub widen : {x : ℤ} → SFits w32 x → SFits w64 x
widen f = sfits_widen tt f

pub wide : {x : ℤ} → SFits w32 x → held (to_z w32 (of_z w32 x)) ≡ x
wide f = ap held (to_z-of_z f) ∙ to_z-of_z (widen f)

pub opposite-fits : (x : ℤ) → SFits w32 x → SFits w64 (pos 0 -ℤ x)
opposite-fits x f = omega (zarith, bnd x, sub_pn (pos 0) x)

pub wide-opposite : (x : ℤ) → SFits w32 x → held (pos 0 -ℤ held (to_z w32 (of_z w32 x))) ≡ pos 0 -ℤ x
wide-opposite x f = rw (wide f) (to_z-of_z (opposite-fits x f))
