-- The limits of a call's sizes, once its first rows have not refused.
use Rattle.std.specs.Prelude.{◌≡◌, refl, ◌∷◌, ℕ, ◌<◌, pos}
use Rattle.std.proofs.Common.{sym, ◌∙◌}
use Rattle.fold.specs.declared.CommitSizes.{CommitSizes}
use Rattle.fold.specs.declared.GarbageSizes.{GarbageSizes}
use Rattle.fold.specs.declared.Sizes.{Sizes}
use Rattle.fold.specs.declared.PartSizes.{PartSizes}
use Rattle.fold.specs.Answers.{first_failing}
use Rattle.fold.specs.Laws.TestLaws.{Rows, holds, early-holds}
use Rattle.fold.specs.Known.CallLimits.{ProjectLimits, AggregateLimits, AmortizeLimits, ChunkLimits, chunk-limits, part-limits}
use Rattle.fold.specs.Known.CallLimits.{commit-limits, project-limits, aggregate-limits, garbage-limits, amortize-limits, verify-limits}
use Rattle.fold.specs.Known.CutSizes.{CutSizes, cut-sizes}
use Rattle.fold.specs.Sizes.{rest_size}
use Rattle.fold.specs.Arguments.{CommitSized, GarbageSized, VerifySized, PartSizedWith}
use Rattle.fold.specs.Refusals.{project_bounds, aggregate_bounds, amortize_bounds, chunks}
use Rattle.limits.specs.Bounds.{commit_bounds_of, garbage_bounds_of, verify_bounds_of, size_rows_of, bound_rows_of, next_bounds_of, part_bounds_of}

pub commit-sized : (m : CommitSizes) {x : ℕ} → x ≡ first_failing (commit_bounds_of m) → x ≡ 0 → CommitSized m
commit-sized m e z = commit-limits _ _ _ _ _ _ _ _ _ (holds (commit_bounds_of m) refl (sym e ∙ z))

pub project-sized : (d n r w : ℕ) {x : ℕ} → x ≡ first_failing (project_bounds d n r w) → x ≡ 0 → ProjectLimits d n r w
project-sized d n r w e z = project-limits d n r w (holds (project_bounds d n r w) refl (sym e ∙ z))

pub aggregate-sized : (d n r L w : ℕ) {x : ℕ} → x ≡ first_failing (aggregate_bounds d n r L w) → x ≡ 0 → AggregateLimits d n r L w
aggregate-sized d n r L w e z = aggregate-limits d n r L w (holds (aggregate_bounds d n r L w) refl (sym e ∙ z))

pub garbage-sized : (m : GarbageSizes) {x : ℕ} → x ≡ first_failing (garbage_bounds_of m) → x ≡ 0 → GarbageSized m
garbage-sized m e z = garbage-limits _ _ _ _ _ _ _ _ _ (holds (garbage_bounds_of m) refl (sym e ∙ z))

pub amortize-sized : (d n r b : ℕ) {x : ℕ} → x ≡ first_failing (amortize_bounds d n r b) → x ≡ 0 → AmortizeLimits d n r b
amortize-sized d n r b e z = amortize-limits d n r b (holds (amortize_bounds d n r b) refl (sym e ∙ z))

pub verify-sized : (m : Sizes) {x : ℕ} → x ≡ first_failing (verify_bounds_of m) → x ≡ 0 → VerifySized m
verify-sized m e z =
    verify-limits _ _ _ _ _ _ _ _ _ _ _ _ _ _ _ _ (early-holds (size_rows_of m) (bound_rows_of m) refl (sym e ∙ z)) (holds (verify_bounds_of m) refl (sym e ∙ z) 6)

module _ (tz : ℕ) (m : Sizes) (ν μ : ℕ) {x : ℕ} (e : x ≡ first_failing (next_bounds_of tz m ν μ)) (z : x ≡ 0) where
  row : Rows (next_bounds_of tz m ν μ)
  row = holds (next_bounds_of tz m ν μ) refl (sym e ∙ z)

  pub next-sized : VerifySized m
  next-sized =
      verify-limits _ _ _ _ _ _ _ _ _ _ _ _ _ _ _ _
      (early-holds (size_rows_of m) ((5, chunks tz (pos ν) (pos μ)) ∷ bound_rows_of m) refl (sym e ∙ z)) (row 6)

  pub next-cut : ChunkLimits tz ν μ
  next-cut = chunk-limits tz ν μ (row 5)

  pub next-cut-sizes : 0 < tz → CutSizes m.shape.n ν (rest_size m.shape.r m.kappa m.t1 m.t2) μ
  next-cut-sizes some =
      let l = next-sized in
      cut-sizes tz _ _ _ _ some l.shaped.rank-small l.shaped.parts-small l.κ-small l.t₁-most l.t₂-most next-cut refl

pub part-sized : (tz : ℕ) (m : PartSizes) (i : ℕ) {x : ℕ} → x ≡ first_failing (part_bounds_of tz m i) → x ≡ 0 → PartSizedWith tz m i
part-sized tz m i e z = part-limits _ _ _ _ _ _ _ _ _ _ (holds (part_bounds_of tz m i) refl (sym e ∙ z))
