-- `cases::numbers::word` meets its contract. Assumes nothing.
use Rattle.std.proofs.Common.{◌≡◌, ◌∙◌, refl, Bool, true, false, cond, ℤ, pos, negsuc, arith, of_z, to_z, to_z-of_z}
use Rattle.std.proofs.lemmas.Int.{ints}
use Rattle.std.specs.Int.{w32, w64, int_max, int_min}
use Rattle.std.specs.Int.Signed.{lt_z}
use Rattle.cases.specs.Numbers.{word}
use Rattle.cases.proofs.numbers.word.Goals as goal

clamped : (x : ℤ) → int_max (negsuc 2147483647) (int_min x (pos 2147483647)) ≡ word x
unfolding word
clamped x = step (lt_z (pos 2147483647) x)
  where
    step : (t : Bool) → cond (lt_z (cond t (pos 2147483647) x) (negsuc 2147483647)) (negsuc 2147483647) (cond t (pos 2147483647) x)
        ≡ cond t (pos 2147483647) (cond (lt_z x (negsuc 2147483647)) (negsuc 2147483647) x)
    step true = refl
    step false = refl

pub returns : goal.returns
returns c =
    let narrow : to_z w32 (of_z w32 (to_z w64 (of_z w64 c.clamp.result))) ≡ c.clamp.result = omega (arith, ints) in
    let value = rw (c.from.ensures, c.from-2.ensures, to_z-of_z c.ranges.x) at c.clamp.ensures.value in
    narrow ∙ value ∙ clamped c.args.x
