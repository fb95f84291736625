-- Both kinds of constraints have the lengths that their sizes give.
use Rattle.std.specs.Prelude.{◌≡◌, List, length, ℤ}
use Rattle.fold.specs.declared.ConstraintSizes.{ConstraintSizes}
use Rattle.fold.specs.Refusals.{whole_length, constant_terms_length, constraint_lengths}
use Rattle.fold.specs.Laws.RefusalLaws.{All, tested}
use Rattle.refusals.specs.Known.ConstraintSized.{ConstraintSized}

module _ (m : ConstraintSizes) where
  pub record Constraints (whole constant_terms : List ℤ) : Type 0 where
    pub limits : ConstraintSized m
    pub whole_length : length whole ≡ whole_length m.shape.d m.shape.n m.shape.r m.k
    pub constant-terms-length : length constant_terms ≡ constant_terms_length m.shape.d m.shape.n m.shape.r m.l

  pub fitting-constraints : (whole constant_terms projections ψ ω α δ : List ℤ) → ConstraintSized m
      → All (constraint_lengths m.shape.d m.shape.n m.shape.r m.k m.l m.w whole constant_terms projections ψ ω α δ)
      → Constraints whole constant_terms
  fitting-constraints whole constant_terms projections ψ ω α δ sized lengths = search (tested, sized, lengths)
