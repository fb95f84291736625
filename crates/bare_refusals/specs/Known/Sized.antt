-- What rows 1 to 6 leave known of the sizes of a call of the bare level, from the number that its tests of sizes give.
use Rattle.std.specs.Prelude.{◌≡◌, refl, ℕ, ◌≤◌}
use Rattle.std.proofs.Common.{sym, ◌∙◌}
use Rattle.fold.specs.declared.ConstraintSizes.{ConstraintSizes}
use Rattle.fold.specs.declared.Shape.{Shape}
use Rattle.fold.specs.Answers.{first_failing}
use Rattle.fold.specs.Limits.{most_commitment_rank}
use Rattle.fold.specs.Known.Facts.{Shaped}
use Rattle.fold.specs.Laws.RefusalLaws.{all_of_all, tested}
use Rattle.fold.specs.Laws.TestLaws.{holds}
use Rattle.refusals.specs.Known.ConstraintSized.{ConstraintLimits, ConstraintSized}
use Rattle.bare.specs.declared.BareSizes.{BareSizes}
use Rattle.bare.specs.Refusals.{bare_commit_bounds, bare_turn_bounds}
use Rattle.bare_refusals.specs.Bounds.{phi_bounds_of, verify_bounds_of}

module _ (m : Shape) where
  pub commit-sized : (κ : ℕ) {x : ℕ} → x ≡ first_failing (bare_commit_bounds m.d m.n m.r κ) → x ≡ 0
      → Shaped m.d m.n m.r × (κ ≤ most_commitment_rank)
  commit-sized κ e none =
      let row = holds (bare_commit_bounds m.d m.n m.r κ) refl (sym e ∙ none) in
      search (tested, row 1, all_of_all _ (row 2), row 3)

  pub turn-sized : (i : ℕ) {x : ℕ} → x ≡ first_failing (bare_turn_bounds m.d m.n m.r i) → x ≡ 0
      → Shaped m.d m.n m.r × ((1 ≤ i) × (i ≤ m.r))
  turn-sized i e none =
      let row = holds (bare_turn_bounds m.d m.n m.r i) refl (sym e ∙ none) in
      search (tested, row 1, all_of_all _ (row 2))

pub phi-sized : (m : ConstraintSizes) {x : ℕ} → x ≡ first_failing (phi_bounds_of m) → x ≡ 0 → ConstraintSized m
phi-sized m e none =
    let row = holds (phi_bounds_of m) refl (sym e ∙ none) in
    search (tested, row 1, all_of_all _ (row 2))

-- the verifier
pub record VerifierSized (m : BareSizes) : Type 0 where
  pub constraints : ConstraintLimits m.shape.d m.shape.n m.shape.r m.k m.l m.w
  pub κ-small : m.kappa ≤ most_commitment_rank

pub verify-sized : (m : BareSizes) {x : ℕ} → x ≡ first_failing (verify_bounds_of m) → x ≡ 0 → VerifierSized m
verify-sized m e none =
    let row = holds (verify_bounds_of m) refl (sym e ∙ none) in
    search (tested, row 1, all_of_all _ (row 2), row 3)
