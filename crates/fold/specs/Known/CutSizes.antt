-- What is known of the sizes of an opening that is cut into ν chunks of each digit of z and μ chunks of the rest, and how large the chunks can be.
use Rattle.std.specs.Prelude.{◌≡◌, refl}
use Rattle.std.proofs.Common.{ap, ap₂, ◌∙◌, div-le_self, le_refl, add-one, lt-ltb, le-ltb}
use Prim.Native.Nat.{ℕ, ◌+◌, ◌*◌, ◌-◌, ◌%◌, ◌≤◌, ◌<◌}
use native.Mathlib.Omega.{arith}
use Rattle.algebra.specs.Triangle.{start}
use Rattle.fold.specs.Sizes.{ceiling, next_rank, rest_size}
use Rattle.fold.specs.Chunks.{chunk, width}
use Rattle.fold.specs.Laws.ChunkLaws.{width-bound}
use Rattle.fold.specs.Laws.SizeBounds.{product-bound, t_size-bound, garbage_size-bound}
use Rattle.fold.specs.Known.CallLimits.{ChunkLimits}
use Rattle.fold.specs.Limits.{most_commitment_rank, most_digits, most_parts, most_rank, most_chunks}

pub record CutSizes (n ν m μ : ℕ) : Type 0 where
  pub n-small : n ≤ most_rank
  pub m-small : m ≤ 4096
  pub ν-positive : 0 < ν
  pub μ-positive : 0 < μ
  pub ν-small : ν ≤ most_chunks
  pub μ-small : μ ≤ most_chunks

-- a number of elements that code has computed
pub rest_size-bound : (r κ t₁ t₂ : ℕ) → r ≤ most_parts → κ ≤ most_commitment_rank → t₁ ≤ most_digits → t₂ ≤ most_digits → rest_size r κ t₁ t₂ ≤ 3200
unfolding rest_size
rest_size-bound r κ t₁ t₂ h k l u = omega (arith, t_size-bound r κ t₁ h k l, garbage_size-bound r t₂ h u, garbage_size-bound r t₁ h l)

-- the sizes of the cut, within the limits of rows 1 to 5; a z of no digits would leave ν free
pub cut-sizes : (tz r κ t₁ t₂ : ℕ) {n ν m μ : ℕ} → 0 < tz → n ≤ most_rank → r ≤ most_parts → κ ≤ most_commitment_rank → t₁ ≤ most_digits → t₂ ≤ most_digits → ChunkLimits tz ν μ
    → m ≡ rest_size r κ t₁ t₂ → CutSizes n ν m μ
cut-sizes tz r κ t₁ t₂ {n} {ν} {m} {μ} some a b c d f l e =
    record {
      n-small = a;
      m-small = omega (arith, rest_size-bound r κ t₁ t₂ b c d f, e);
      ν-positive = l.ν-positive;
      μ-positive = l.μ-positive;
      ν-small = omega (arith, product-bound 1 ν tz ν some (le_refl ν), l.parts-small);
      μ-small = omega (arith, l.parts-small);
    }

pub ceiling-bound : (a b : ℕ) → ceiling a b ≤ a + (b - 1)
unfolding ceiling
ceiling-bound a b = div-le_self (a + (b - 1)) b

pub next_rank-bound : (n ν m μ : ℕ) → CutSizes n ν m μ → next_rank n ν m μ ≤ 8192
unfolding next_rank
next_rank-bound n ν m μ sized =
    omega (arith, ceiling-bound n ν, ceiling-bound m μ, sized.n-small, sized.m-small, sized.ν-small, sized.μ-small)

pub width_small : (tz n ν m μ : ℕ) → CutSizes n ν m μ → (s : ℕ) → width tz n ν m μ s ≤ 8192
width_small tz n ν m μ sized s = omega (arith, width-bound tz n ν m μ s, next_rank-bound n ν m μ sized)

-- the next rank by the code's comparison
pub rank-second : (n ν m μ : ℕ) {x y : ℕ} → x ≡ ceiling n ν → y ≡ ceiling m μ → x ≤ y → y ≡ next_rank n ν m μ
unfolding next_rank
rank-second n ν m μ e f h = omega (arith, e, f, h)

pub rank-first : (n ν m μ : ℕ) {x y : ℕ} → x ≡ ceiling n ν → y ≡ ceiling m μ → y < x → x ≡ next_rank n ν m μ
unfolding next_rank
rank-first n ν m μ e f h = omega (arith, e, f, h)

-- a chunk by the code's comparisons: past the end, short or full
module _ (whole count i : ℕ) {size : ℕ} (e : size ≡ ceiling whole count) where
  pub chunk-empty : whole ≤ i * size → 0 ≡ chunk whole count i
  unfolding chunk
  chunk-empty h = rw (← e) (omega (arith, h))

  pub chunk-short : whole - i * size ≤ size → whole - i * size ≡ chunk whole count i
  unfolding chunk
  chunk-short h = rw (← e) (omega (arith, h))

  pub chunk_full : size < whole - i * size → size ≡ chunk whole count i
  unfolding chunk
  chunk_full h = rw (← e) (omega (arith, h))

-- a part of z, and one of the rest
pub width-first : (tz n ν m μ s : ℕ) {x : ℕ} → s < tz * ν → x ≡ chunk n ν (s % ν) → x ≡ width tz n ν m μ s
unfolding width
width-first tz n ν m μ s h e = rw (lt-ltb s (tz * ν) h) e

pub width-later : (tz n ν m μ s : ℕ) {x : ℕ} → tz * ν ≤ s → x ≡ chunk m μ (s - tz * ν) → x ≡ width tz n ν m μ s
unfolding width
width-later tz n ν m μ s h e = rw (le-ltb s (tz * ν) h) e

-- ---- the loop of `chunk_start`

pub record Begun (tz n ν m μ s at k : ℕ) : Type 0 where
  pub below : k ≤ s
  pub begun : at ≡ start (width tz n ν m μ) k
  pub small : at ≤ k * 8192

module _ (tz n ν m μ s : ℕ) where
  pub begun-start : Begun tz n ν m μ s 0 0
  unfolding start
  begun-start = record { below = omega arith; begun = refl; small = omega arith }

  pub begun-step : {at k x : ℕ} → CutSizes n ν m μ → Begun tz n ν m μ s at k → k < s → x ≡ width tz n ν m μ k
      → Begun tz n ν m μ s (at + x) (k + 1)
  unfolding start
  begun-step {at} {k} {x} sized b h e =
      record {
        below = omega (arith, h);
        begun = rw (add-one k) (ap₂ ◌+◌ b.begun e);
        small = omega (arith, b.small, e, width_small tz n ν m μ sized k);
      }

  pub begun-end : {at k : ℕ} → Begun tz n ν m μ s at k → s ≤ k → at ≡ start (width tz n ν m μ) s
  begun-end {at} {k} b h = let e : k ≡ s = omega (arith, b.below, h) in b.begun ∙ ap (start (width tz n ν m μ)) e
