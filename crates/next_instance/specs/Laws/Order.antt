-- The constraints of the next instance, laid out check by check: "checks 5 (κ), 6, 7, 8, 3 (κ1), 4 (κ2)".
use Rattle.std.specs.Prelude.{◌≡◌, ℕ, length, get_or, ℤ}
use Rattle.std.proofs.Math.Path.{sym, ap, ap₂}
use Rattle.std.proofs.Common.{◌∙◌}
use mathlib.Core.List.{List, ◌∷◌, ◌++◌, flat_map}
use native.Mathlib.Omega.{arith}
use Rattle.std.proofs.Math.ListN.{length-append}
use Rattle.integers.specs.Lists.{tab}
use Rattle.integers.specs.Laws.ListLaws.{length-tab}
use Rattle.integers.specs.Flat.{flat}
use Rattle.fold.specs.Sizes.{next_count}
use Rattle.fold.specs.Chunks.{width}
use Rattle.fold.specs.Statement.{Statement, Draws, Transcript}
use Rattle.fold.specs.Constraint.{Constraint, laid_out}
use Rattle.fold.specs.NextInstance.{constraint, constraint₃, constraint₄, constraint₅, constraint₆, constraint₇, constraint₈, next_whole, m, n', r'}
use Rattle.next_constraints.specs.Laws.BlockLaws.{flat_map_append, flat_map_cons, flat_map_tab, flat_map_list}

module _ (𝓢 : Statement) (𝓓 : Draws) (𝓣 : Transcript) (ν μ : ℕ) where
  open 𝓢 use {relation, tz, κ, κ₁, κ₂}
  open relation use {d, n}

  laid : Constraint d → List ℤ
  laid x = laid_out d (n' 𝓢 𝓓 𝓣 ν μ) (r' 𝓢 𝓓 𝓣 ν μ) (width tz n ν (m 𝓢 𝓓 𝓣 ν μ) μ) x

  fives : List (Constraint d)
  fives = tab κ (constraint₅ 𝓢 𝓓 𝓣 ν μ)

  threes : List (Constraint d)
  threes = tab κ₁ (constraint₃ 𝓢 𝓓 𝓣 ν μ)

  fours : List (Constraint d)
  fours = tab κ₂ (constraint₄ 𝓢 𝓓 𝓣 ν μ)

  others : List (Constraint d)
  others = constraint₆ 𝓢 𝓓 𝓣 ν μ ∷ constraint₇ 𝓢 𝓓 𝓣 ν μ ∷ constraint₈ 𝓢 𝓓 𝓣 ν μ ∷ (threes ++ fours)

  length-all : length (fives ++ others) ≡ next_count κ κ₁ κ₂
  unfolding fives threes fours others next_count
  length-all =
      omega (
        arith,
        length-append fives others,
        length-append threes fours,
        length-tab κ (constraint₅ 𝓢 𝓓 𝓣 ν μ),
        length-tab κ₁ (constraint₃ 𝓢 𝓓 𝓣 ν μ),
        length-tab κ₂ (constraint₄ 𝓢 𝓓 𝓣 ν μ),
      )

  all_laid : next_whole 𝓢 𝓓 𝓣 ν μ ≡ flat_map laid (fives ++ others)
  unfolding next_whole constraint laid fives threes fours others
  all_laid =
      ap (λ (k : ℕ). flat k (λ x. laid (get_or (fives ++ others) x (constraint₆ 𝓢 𝓓 𝓣 ν μ)))) (sym length-all)
      ∙ sym (flat_map_list laid (fives ++ others) (constraint₆ 𝓢 𝓓 𝓣 ν μ))

  pub check_by_check : next_whole 𝓢 𝓓 𝓣 ν μ
      ≡ flat κ (λ k. laid_out d (n' 𝓢 𝓓 𝓣 ν μ) (r' 𝓢 𝓓 𝓣 ν μ) (width tz n ν (m 𝓢 𝓓 𝓣 ν μ) μ) (constraint₅ 𝓢 𝓓 𝓣 ν μ k))
      ++ (laid_out d (n' 𝓢 𝓓 𝓣 ν μ) (r' 𝓢 𝓓 𝓣 ν μ) (width tz n ν (m 𝓢 𝓓 𝓣 ν μ) μ) (constraint₆ 𝓢 𝓓 𝓣 ν μ)
      ++ (laid_out d (n' 𝓢 𝓓 𝓣 ν μ) (r' 𝓢 𝓓 𝓣 ν μ) (width tz n ν (m 𝓢 𝓓 𝓣 ν μ) μ) (constraint₇ 𝓢 𝓓 𝓣 ν μ)
      ++ (laid_out d (n' 𝓢 𝓓 𝓣 ν μ) (r' 𝓢 𝓓 𝓣 ν μ) (width tz n ν (m 𝓢 𝓓 𝓣 ν μ) μ) (constraint₈ 𝓢 𝓓 𝓣 ν μ)
      ++ (flat κ₁ (λ k. laid_out d (n' 𝓢 𝓓 𝓣 ν μ) (r' 𝓢 𝓓 𝓣 ν μ) (width tz n ν (m 𝓢 𝓓 𝓣 ν μ) μ) (constraint₃ 𝓢 𝓓 𝓣 ν μ k))
      ++ flat κ₂ (λ k. laid_out d (n' 𝓢 𝓓 𝓣 ν μ) (r' 𝓢 𝓓 𝓣 ν μ) (width tz n ν (m 𝓢 𝓓 𝓣 ν μ) μ) (constraint₄ 𝓢 𝓓 𝓣 ν μ k))))))
  unfolding laid fives threes fours others
  check_by_check =
      all_laid
      ∙ flat_map_append laid fives others
      ∙ ap₂ ◌++◌ (flat_map_tab laid κ (constraint₅ 𝓢 𝓓 𝓣 ν μ))
      (flat_map_cons laid (constraint₆ 𝓢 𝓓 𝓣 ν μ) _
      ∙ ap (λ (xs : List ℤ). laid (constraint₆ 𝓢 𝓓 𝓣 ν μ) ++ xs) (flat_map_cons laid (constraint₇ 𝓢 𝓓 𝓣 ν μ) _
      ∙ ap (λ (xs : List ℤ). laid (constraint₇ 𝓢 𝓓 𝓣 ν μ) ++ xs) (flat_map_cons laid (constraint₈ 𝓢 𝓓 𝓣 ν μ) _
      ∙ ap (λ (xs : List ℤ). laid (constraint₈ 𝓢 𝓓 𝓣 ν μ) ++ xs) (flat_map_append laid threes fours
      ∙ ap₂ ◌++◌ (flat_map_tab laid κ₁ (constraint₃ 𝓢 𝓓 𝓣 ν μ)) (flat_map_tab laid κ₂ (constraint₄ 𝓢 𝓓 𝓣 ν μ))))))
