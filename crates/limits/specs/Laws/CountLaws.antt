-- Row 5 and a part number as the code tests them, with no sum that could wrap.
use Rattle.std.specs.Prelude.{◌≡◌, refl, Bool, true, false, ◌&&◌, [], ◌∷◌, ℕ, ◌+◌, ◌*◌, ◌-◌, ◌≤◌, ◌<◌, leb, pos}
use Rattle.std.proofs.Math.Path.{sym, ap}
use Rattle.std.proofs.Common.{◌∙◌, le_refl, arith, leb-true, leb-false, le-leb}
use Rattle.fold.specs.Limits.{most_chunks}
use Rattle.fold.specs.Sizes.{next_parts}
use Rattle.fold.specs.Refusals.{chunks, between}
use Rattle.fold.specs.Laws.SizeBounds.{product-bound}
use Rattle.fold.specs.Laws.RefusalLaws.{between_iff}
use Rattle.fold.specs.Known.CallLimits.{chunk-limits}
use Rattle.limits.specs.Laws.RowLaws.{joined_all_of}

untrue : (t : Bool) → (t ≡ true → ⊥) → false ≡ t
untrue true e = absurd (e refl)
untrue false e = refl

-- two comparisons that say the same
leb-same : (a b c d : ℕ) → (a ≤ b → c ≤ d) → (c ≤ d → a ≤ b) → leb a b ≡ leb c d
leb-same a b c d f g = by (leb a b) refl
  where
    by : (t : Bool) → leb a b ≡ t → leb a b ≡ leb c d
    by true e = e ∙ sym (le-leb c d (f (leb-true a b e)))
    by false e = e ∙ sym (above (leb c d) refl)
      where
        above : (u : Bool) → leb c d ≡ u → leb c d ≡ false
        above true h = let k = g (leb-true c d h) in let l = leb-false a b e in absurd (omega (arith, k, l))
        above false h = h

-- ---- row 5, for tz digits of z

pub many_ν : (tz ν μ : ℕ) → 0 < tz → most_chunks < ν → false ≡ chunks tz (pos ν) (pos μ)
many_ν tz ν μ some h =
    untrue _ (λ e. omega (arith, h, (chunk-limits tz ν μ e).parts-small, product-bound 1 ν tz ν some (le_refl ν)))

pub many_μ : (tz ν μ : ℕ) → most_chunks < μ → false ≡ chunks tz (pos ν) (pos μ)
many_μ tz ν μ h = untrue _ (λ e. omega (arith, h, (chunk-limits tz ν μ e).parts-small))

pub chunk-tests : (tz ν μ : ℕ) → leb 1 ν && leb 1 μ && leb (tz * ν + μ) most_chunks ≡ chunks tz (pos ν) (pos μ)
unfolding chunks
chunk-tests tz ν μ = joined_all_of (leb 1 ν) (leb 1 μ ∷ leb (tz * ν + μ) most_chunks ∷ [])

-- ---- a part number i: `left` of it after ν is taken off e times

pub record TakenOff (tz ν i left e : ℕ) : Type 0 where
  pub below : e ≤ tz
  pub some : 0 < left
  pub rest : i ≡ e * ν + left

module _ (tz ν i : ℕ) where
  pub taken_start : (i ≡ 0 → ⊥) → TakenOff tz ν i i 0
  taken_start some = record { below = omega arith; some = omega (arith, some); rest = omega arith }

  pub taken_step : {left e : ℕ} → TakenOff tz ν i left e → e < tz → ν < left → TakenOff tz ν i (left - ν) (e + 1)
  taken_step {left} {e} t h l = record { below = omega (arith, h); some = omega (arith, l); rest = omega (arith, t.rest, l) }

module _ (tz ν μ i : ℕ) where
  pub part-zero : i ≡ 0 → false ≡ between 1 (next_parts tz ν μ) (pos i)
  part-zero z = untrue _ (λ e. let l = ((between_iff 1 (next_parts tz ν μ) i).0 e).0 in omega (arith, z, l))

  pub part_of_z : {left e : ℕ} → TakenOff tz ν i left e → e < tz → left ≤ ν → true ≡ between 1 (next_parts tz ν μ) (pos i)
  unfolding next_parts
  part_of_z {left} {e} t h l =
      let off = product-bound (e + 1) ν tz ν (omega (arith, h)) (le_refl ν) in
      sym ((between_iff 1 (tz * ν + μ) i).1 (omega (arith, t.rest, t.some), omega (arith, t.rest, l, off)))

  pub part_of_rest : {left e : ℕ} → TakenOff tz ν i left e → tz ≤ e → leb left μ ≡ between 1 (next_parts tz ν μ) (pos i)
  unfolding next_parts between
  part_of_rest {left} {e} t h =
      let all : e ≡ tz = omega (arith, t.below, h) in
      let is : i ≡ tz * ν + left = t.rest ∙ ap (λ x. x * ν + left) all in
      rw (le-leb 1 i (omega (arith, is, t.some)))
      (leb-same left μ i (tz * ν + μ) (λ l. omega (arith, is, l)) (λ l. omega (arith, is, l)))
