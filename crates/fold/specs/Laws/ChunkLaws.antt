-- Laws of the chunks of the next witness: they follow one another and cover the opening, and no chunk is longer than the next rank.
--     start-append .. start-scale  running sums of widths
--     chunks_cover                 the chunks of a list cover it
--     start-z, start-rest          where the chunks of digit e of z, and those of the rest, start
--     width-z, width-rest, width-bound
use Rattle.std.specs.Prelude.{◌≡◌, refl, Bool, ltb}
use Rattle.std.proofs.Math.Path.{sym, ap}
use Rattle.std.proofs.Common.{ap₂, ◌∙◌, add-zero, add-suc, add-mul, suc-mul, lt-suc_self, mod-lt, div-add-mod', arith, lt-ltb, le-ltb}
use Rattle.std.proofs.Math.Bool.{true, false, cond}
use Prim.Native.Nat.{ℕ, zero, suc, ◌+◌, ◌-◌, ◌*◌, ◌%◌, ◌≤◌, ◌<◌, min, max}
use Rattle.std.proofs.Math.Nat.{zero-mul, le_step, mod-eq_of_lt, mul-add-mod_self_right, mul-le-mul_right, add-sub_cancel_left}
use Rattle.algebra.specs.Triangle.{start}
use Rattle.fold.specs.Sizes.{ceiling, next_rank, next_parts}
use Rattle.fold.specs.Chunks.{chunk, width}

-- ---- running sums

pub start-append : (w : ℕ → ℕ) (a k : ℕ) → start w (a + k) ≡ start w a + start (λ i. w (a + i)) k
unfolding start
start-append w a zero = rw (add-zero a) (omega arith)
start-append w a (suc k) = rw add-suc (omega (arith, start-append w a k))

pub start_cong : (w w' : ℕ → ℕ) (k : ℕ) → ((i : ℕ) → i < k → w i ≡ w' i) → start w k ≡ start w' k
unfolding start
start_cong w w' zero e = refl
start_cong w w' (suc k) e = omega (arith, start_cong w w' k (λ i h. e i (le_step h)), e k (lt-suc_self k))

pub start-scale : (w : ℕ → ℕ) (m n : ℕ) → start (λ i. w i * m) n ≡ start w n * m
unfolding start
start-scale w m zero = sym (zero-mul m)
start-scale w m (suc n) = ap (λ x. x + w n * m) (start-scale w m n) ∙ sym (add-mul (start w n) (w n) m)

-- ---- the chunks of one list

ceiling_covers : (a b : ℕ) → 0 < b → a ≤ b * ceiling a b
unfolding ceiling
ceiling_covers a b h = let x = a + (b - 1) in omega (arith, div-add-mod' x b, mod-lt x h)

-- i chunks hold i times the ceiling, but no more than all
start-chunk : (a b i : ℕ) → start (chunk a b) i ≡ min a (i * ceiling a b)
unfolding start chunk
start-chunk a b zero = omega arith
start-chunk a b (suc i) = rw suc-mul (omega (arith, start-chunk a b i))

pub chunks_cover : (a b : ℕ) → 0 < b → start (chunk a b) b ≡ a
chunks_cover a b h = omega (arith, start-chunk a b b, ceiling_covers a b h)

chunk-bound : (a b i : ℕ) → chunk a b i ≤ ceiling a b
unfolding chunk
chunk-bound a b i = omega arith

-- ---- the chunks of an opening

module _ (tz n ν m μ : ℕ) where
  pub width-z : (e i : ℕ) → e < tz → i < ν → width tz n ν m μ (e * ν + i) ≡ chunk n ν i
  unfolding width
  width-z e i h l =
      let before : e * ν + i < tz * ν = omega (arith, mul-le-mul_right ν h) in
      rw (lt-ltb (e * ν + i) (tz * ν) before, mul-add-mod_self_right e ν i, mod-eq_of_lt l)

  pub width-rest : (i : ℕ) → width tz n ν m μ (tz * ν + i) ≡ chunk m μ i
  unfolding width
  width-rest i = rw (le-ltb (tz * ν + i) (tz * ν) (omega arith), add-sub_cancel_left (tz * ν) i)

  pub width-bound : (s : ℕ) → width tz n ν m μ s ≤ next_rank n ν m μ
  unfolding width next_rank
  width-bound s = either (ltb s (tz * ν))
    where
      either : (t : Bool) → cond t (chunk n ν (s % ν)) (chunk m μ (s - tz * ν)) ≤ max (ceiling n ν) (ceiling m μ)
      either true = omega (arith, chunk-bound n ν (s % ν))
      either false = omega (arith, chunk-bound m μ (s - tz * ν))

  module _ (some-ν : 0 < ν) where
    start-digit : (e : ℕ) → e ≤ tz → start (width tz n ν m μ) (e * ν) ≡ e * n
    unfolding start
    start-digit zero h = rw (zero-mul ν, zero-mul n)
    start-digit (suc e) h =
        rw (suc-mul e ν, start-append (width tz n ν m μ) (e * ν) ν, start-digit e (omega arith))
        (ap (λ x. e * n + x) (start_cong _ (chunk n ν) ν (λ i l. width-z e i h l) ∙ chunks_cover n ν some-ν) ∙ sym (suc-mul e n))

    -- chunk i of digit e
    pub start-z : (e i : ℕ) → e < tz → i ≤ ν → start (width tz n ν m μ) (e * ν + i) ≡ e * n + start (chunk n ν) i
    start-z e i h l =
        start-append (width tz n ν m μ) (e * ν) i
        ∙ ap₂ ◌+◌ (start-digit e (omega arith)) (start_cong _ (chunk n ν) i (λ k b. width-z e k h (omega arith)))

    -- chunk i of the rest
    pub start-rest : (i : ℕ) → start (width tz n ν m μ) (tz * ν + i) ≡ tz * n + start (chunk m μ) i
    start-rest i =
        start-append (width tz n ν m μ) (tz * ν) i
        ∙ ap₂ ◌+◌ (start-digit tz (omega arith)) (start_cong _ (chunk m μ) i (λ k b. width-rest k))

    pub widths_cover : 0 < μ → start (width tz n ν m μ) (next_parts tz ν μ) ≡ tz * n + m
    unfolding next_parts
    widths_cover some-μ = start-rest μ ∙ ap (λ x. tz * n + x) (chunks_cover m μ some-μ)
