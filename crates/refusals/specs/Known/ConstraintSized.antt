-- The limits of the sizes of the constraints alone, from those of a call.
use Rattle.std.specs.Prelude.{ℕ, ◌≤◌}
use Rattle.fold.specs.declared.ConstraintSizes.{ConstraintSizes}
use Rattle.fold.specs.declared.GarbageSizes.{GarbageSizes}
use Rattle.fold.specs.declared.Sizes.{Sizes}
use Rattle.fold.specs.Arguments.{GarbageSized, VerifySized}
use Rattle.fold.specs.Limits.{most_constraints, most_projections}
use Rattle.fold.specs.Known.Facts.{Shaped}
use Rattle.fold.specs.Known.CallLimits.{AggregateLimits}

-- the limits of the sizes of both kinds of constraints
pub record ConstraintLimits (d n r K L w : ℕ) : Type 0 where
  pub shaped : Shaped d n r
  pub K-small : K ≤ most_constraints
  pub L-small : L ≤ most_constraints
  pub w-small : w ≤ most_projections

abbrev pub ConstraintSized : ConstraintSizes → Type 0
ConstraintSized m = ConstraintLimits m.shape.d m.shape.n m.shape.r m.k m.l m.w

abbrev pub AggregateSized : ConstraintSizes → Type 0
AggregateSized m = AggregateLimits m.shape.d m.shape.n m.shape.r m.l m.w

pub garbage-constraints : (m : GarbageSizes) → GarbageSized m → ConstraintLimits m.shape.d m.shape.n m.shape.r m.k m.l m.w
garbage-constraints m l =
    record { shaped = l.shaped; K-small = l.K-small; L-small = l.L-small; w-small = l.w-small }

pub verify-constraints : (m : Sizes) → VerifySized m → ConstraintLimits m.shape.d m.shape.n m.shape.r m.k m.l m.w
verify-constraints m l =
    record { shaped = l.shaped; K-small = l.K-small; L-small = l.L-small; w-small = l.w-small }
