-- `cases::text::with_sign` meets its contract. Assumes nothing.
use Rattle.std.proofs.Common.{◌≡◌, ◌∙◌, ℕ, ◌<◌, ◌≤◌, Bool, true, false, ltb, refl, pos, neg_ℤ, ◌-ℤ◌, arith, of_z, to_z, SFits, ltb-true, ltb-false}
use Rattle.std.proofs.lemmas.Int.{ints}
use Rattle.std.specs.Int.{w64}
use Rattle.cases.specs.Laws.TextLaws.{sign-least, sign-largest, sign-minus, sign_plain}
use Rattle.cases.proofs.text.with_sign.Goals as goal

fits : (m : ℕ) → SFits w64 (pos m) → m ≤ 9223372036854775807
fits m f = omega (arith, f.sfits)

past : (m : ℕ) → (SFits w64 (pos m) → ⊥) → 9223372036854775807 < m
past m h = either (ltb 9223372036854775807 m) refl
  where
    either : (t : Bool) → ltb 9223372036854775807 m ≡ t → 9223372036854775807 < m
    either true e = ltb-true _ _ e
    either false e = absurd (h (record { sfits = omega (arith, ltb-false _ _ e) }))

pub overflow_sub-result : goal.overflow_sub-result
overflow_sub-result c = omega (arith, ints, c.in-Ok.ensures.1, fits c.args.magnitude c.in-Ok.ensures.0)

pub returns-then-minus : goal.returns-then-minus
returns-then-minus c =
    let small = fits c.args.magnitude c.in-Ok.ensures.0 in
    let is : to_z w64 (of_z w64 (pos 0 -ℤ to_z w64 (of_z w64 c.in-Ok.x))) ≡ neg_ℤ (pos c.args.magnitude) =
    omega (arith, ints, c.in-Ok.ensures.1, small) in
    rw c.if-minus.true (is ∙ sign-minus c.args.magnitude small)

pub returns-else-minus : goal.returns-else-minus
returns-else-minus c =
    let small = fits c.args.magnitude c.in-Ok.ensures.0 in
    let is : to_z w64 (of_z w64 c.in-Ok.x) ≡ pos c.args.magnitude = omega (arith, ints, c.in-Ok.ensures.1, small) in
    rw c.if-minus.false (is ∙ sign_plain c.args.magnitude small)

pub returns-then-minus-2 : goal.returns-then-minus-2
returns-then-minus-2 c = rw c.if-minus-2.true (sign-least c.args.magnitude c.requires (past _ c.in-Err.ensures))

pub returns-else-minus-2 : goal.returns-else-minus-2
returns-else-minus-2 c = rw c.if-minus-2.false (sign-largest c.args.magnitude (past _ c.in-Err.ensures))
