-- Columns of products: the bounds that the kernel's numbers keep, and that a folded column is congruent to its sum modulo q.
use Rattle.std.specs.Prelude.{◌≡◌, ℕ, zero, suc, ◌+◌, ◌-◌, ◌*◌, ◌/◌, ◌%◌, ◌^◌, ◌<◌, ◌≤◌, List, slice_index, refl}
use Rattle.std.proofs.Common.{sym, ◌∙◌, mul-le-mul, arith, Fits}
use Rattle.std.proofs.Math.Path.{ap}
use Rattle.std.proofs.Math.Nat.{mod-add-mod, add-mul-mod_self_right}
use Rattle.std.specs.Int.{w64}
use Rattle.integers.specs.Sums.{total}
use Rattle.integers.specs.Laws.SumLaws.{total-add-one, total-bound}
use Rattle.algebra.specs.Sum.{sum}
use Rattle.algebra.specs.Residue.{make}
use Rattle.algebra.specs.Laws.ResidueLaws.{make-eq, make-add}
use Rattle.residues.specs.Modulus.{q, q-positive, Zq}
use Rattle.ring.specs.Product.{summand, highs, folded, most}

-- ---- one summand

pub product_small : (x y : ℕ) → (x % 4294967296) * (y % 4294967296) ≤ 18446744065119617025
product_small x y =
    let first : x % 4294967296 ≤ 4294967295 = omega arith in
    let second : y % 4294967296 ≤ 4294967295 = omega arith in
    mul-le-mul first second

pub product-fits : (x y : ℕ) → Fits w64 ((x % 4294967296) * (y % 4294967296))
product-fits x y = omega (arith, product_small x y)

pub summand-small : (a e : List ℕ) (start i : ℕ) → summand a e start i ≤ 18446744065119617025
unfolding summand
summand-small a e start i = product_small (slice_index a i) (slice_index e (start + i))

-- ---- the sums that a column keeps

module _ (f : ℕ → ℕ) (small : (i : ℕ) → f i ≤ 18446744065119617025) where
  pub highs-bound : (n : ℕ) → highs n f ≤ n * 4294967295
  unfolding highs
  highs-bound n = total-bound n 4294967295 (λ i. f i / 4294967296) (λ i h. omega (arith, small i))

pub highs-add-one : (n : ℕ) (f : ℕ → ℕ) → highs (n + 1) f ≡ highs n f + f n / 4294967296
unfolding highs
highs-add-one n f = total-add-one n (λ i. f i / 4294967296)

pub highs-least : (n : ℕ) (f : ℕ → ℕ) → 4294967296 * highs n f ≤ total n f
unfolding highs total
highs-least zero f = omega arith
highs-least (suc n) f = omega (arith, highs-least n f)

pub highs-most : (n : ℕ) (f : ℕ → ℕ) → total n f ≤ 4294967296 * highs n f + n * 4294967295
unfolding highs total
highs-most zero f = omega arith
highs-most (suc n) f = omega (arith, highs-most n f)

-- one more product added modulo 2^64
pub wrapping_step : (n : ℕ) (f : ℕ → ℕ) → (total n f % 2 ^ 64 + f n) % 2 ^ 64 ≡ total (n + 1) f % 2 ^ 64
wrapping_step n f = mod-add-mod (total n f) (2 ^ 64) (f n) ∙ ap (λ t. t % 2 ^ 64) (sym (total-add-one n f))

-- what the upper halves leave of the sum
pub lower-halves : (n : ℕ) (f : ℕ → ℕ) (low : ℕ) → n ≤ 64 → low < 2 ^ 64
    → (low + highs n f % 4294967296 * 4294967296) % 2 ^ 64 ≡ total n f % 2 ^ 64
    → low ≡ total n f - 4294967296 * highs n f
lower-halves n f low h fits e = omega (arith, highs-least n f, highs-most n f)

pub folded-most : (n : ℕ) (f : ℕ → ℕ) → n ≤ 64 → ((i : ℕ) → f i ≤ 18446744065119617025) → folded n f ≤ most
unfolding folded most
folded-most n f h small = omega (arith, highs-least n f, highs-most n f, highs-bound f small n)

-- ---- the loop over a column: the sum modulo 2^64 and the sum of the upper halves, after i summands

pub record Running (d : ℕ) (f : ℕ → ℕ) (i wrapped high : ℕ) : Type 0 where
  pub within : i ≤ d
  pub low : wrapped ≡ total i f % 2 ^ 64
  pub upper : high ≡ highs i f
  pub small : (j : ℕ) → f j ≤ 18446744065119617025

pub running_start : (d : ℕ) (f : ℕ → ℕ) → ((j : ℕ) → f j ≤ 18446744065119617025) → Running d f 0 0 0
unfolding highs total
running_start d f h = record { within = omega arith; low = refl; upper = refl; small = h }

module _ {d : ℕ} {f : ℕ → ℕ} {i wrapped high : ℕ} (now : Running d f i wrapped high) (d≤64 : d ≤ 64) where
  pub running_high : high ≤ 274877906880
  running_high = omega (arith, now.within, now.upper, highs-bound f now.small i)

  pub running_step : {next : ℕ} → i < d → next ≡ (wrapped + f i) % 2 ^ 64 → Running d f (i + 1) next (high + f i / 4294967296)
  running_step h e =
      record {
        within = omega arith;
        low = rw now.low at e ∙ wrapping_step i f;
        upper = ap (λ t. t + f i / 4294967296) now.upper ∙ sym (highs-add-one i f);
        small = now.small;
      }

  pub running_end : {low : ℕ} → d ≤ i → low < 2 ^ 64 → (low + high % 4294967296 * 4294967296) % 2 ^ 64 ≡ wrapped
      → low + 99 * high ≡ folded d f
  unfolding folded
  running_end {low} h fits e =
      let same : i ≡ d = omega (arith, now.within) in
      let upper : high ≡ highs d f = now.upper ∙ ap (λ t. highs t f) same in
      let total-low : wrapped ≡ total d f % 2 ^ 64 = now.low ∙ ap (λ t. total t f % 2 ^ 64) same in
      let left : low ≡ total d f - 4294967296 * highs d f = lower-halves d f low d≤64 fits (rw upper at (e ∙ total-low)) in
      cc (left, upper)

  pub running_high-fits : Fits w64 (high + f i / 4294967296)
  running_high-fits = omega (arith, running_high, now.small i)

  pub running_end-fits : {low : ℕ} → d ≤ i → low < 2 ^ 64
      → (low + high % 4294967296 * 4294967296) % 2 ^ 64 ≡ wrapped → Fits w64 (low + 99 * high)
  unfolding most
  running_end-fits h fits e = omega (arith, running_end h fits e, folded-most d f d≤64 now.small)

-- ---- modulo q

-- 2^32 is 99 modulo q
pub folded-mod : (n : ℕ) (f : ℕ → ℕ) → make q q-positive (folded n f) ≡ make q q-positive (total n f)
unfolding folded q
folded-mod n f =
    let whole : total n f ≡ (total n f - 4294967296 * highs n f) + 99 * highs n f + highs n f * 4294967197 =
    omega (arith, highs-least n f) in
    make-eq q q-positive _ _ (sym (ap (λ t. t % 4294967197) whole ∙ add-mul-mod_self_right _ (highs n f) 4294967197))

pub make-total : (n : ℕ) (f : ℕ → ℕ) → make q q-positive (total n f) ≡ sum Zq n (λ i. make q q-positive (f i))
unfolding total sum
make-total zero f = refl
make-total (suc n) f = make-add q q-positive (total n f) (f n) ∙ ap (λ x. Zq.add x (make q q-positive (f n))) (make-total n f)
