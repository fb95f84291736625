-- The sums of the messages as functions form them.
--     folded-digits                 the digits of z
--     outer-sum                     a row of B·x + C·y from its two inner products
use Rattle.std.specs.Prelude.{◌≡◌, List, ℕ, ◌+◌, ◌*◌, ◌-◌, ◌<◌, ◌≤◌, length, drop, ℤ}
use Rattle.std.proofs.Common.{ap₂, ◌∙◌, zero-add, mul_assoc}
use Rattle.integers.specs.Over.{over}
use Rattle.algebra.specs.Sum.{sum}
use Rattle.algebra.specs.DotProduct.{inner}
use Rattle.ring.specs.Element.{R, lift, el, array}
use Rattle.ring.specs.Laws.Loops.{held-sum}
use Rattle.residues.specs.Digits.{split}
use Rattle.fold.specs.Messages.{elements, times, z, z_digits}
use Rattle.fold.proofs.Laws.WriterLaws.{split-elements}
use Rattle.prover.specs.Outputs.{outer}

-- the digits, from the elements in the last place of a slice
pub folded-digits : (d n r tz b : ℕ) (c s old : List ℤ) {new out : List ℤ} → 0 < tz → length old ≡ tz * n * d
    → new ≡ over old ((tz - 1) * n * d) (elements d n (z d n r c s)) → out ≡ split b tz (drop ((tz - 1) * (n * d)) new) → out ≡ z_digits d n r tz b c s
unfolding z_digits
folded-digits d n r tz b c s old some size stored digits =
    split-elements d b tz n (z d n r c s) old some (size ∙ mul_assoc tz n d) stored digits

times-sum : (d m k : ℕ) (M x : List ℤ) → sum (R d) m (λ e. (R d).mul (el d M (k * m + e)) (el d x (0 + e))) ≡ times d m M k (el d x)
unfolding times inner
times-sum d m k M x = simp zero-add

pub outer-sum : (d m l k : ℕ) (B x C y : List ℤ) {left right out : List ℤ} → d ≤ 64
    → left ≡ array d (sum (R d) m (λ e. (R d).mul (el d B (k * m + e)) (el d x (0 + e))))
    → right ≡ array d (sum (R d) l (λ e. (R d).mul (el d C (k * l + e)) (el d y (0 + e))))
    → out ≡ array d ((R d).add (lift d left) (lift d right))
    → out ≡ array d (outer d m l B x C y k)
unfolding outer
outer-sum d m l k B x C y small left right out =
    held-sum _ _ small left right out ∙ ap₂ (λ a b. array d ((R d).add a b)) (times-sum d m k B x) (times-sum d l k C y)
