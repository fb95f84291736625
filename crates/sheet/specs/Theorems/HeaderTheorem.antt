-- The tests of a header are those that the library makes of the same sizes: rows 1 to 4, row 5 for ν and μ, row 6. So the reader refuses a
-- header exactly where the next instance refuses its sizes, and by the same number.
--     header             SPECIFICATION 10.2: "Header: d n r K L w κ κ1 κ2 b b1 b2 t1 t2 ν μ β² β'²."
--     header-tests       its tests
use Rattle.std.specs.Prelude.{◌≡◌, List, [], ◌∷◌, ◌++◌, ℕ, ℤ, pos}
use Rattle.std.proofs.Math.Path.{refl}
use Rattle.fold.specs.Statement.{Statement, Draws}
use Rattle.fold.specs.Sizes.{z_count}
use Rattle.fold.specs.Refusals.{chunks, size_tests, bound_tests}
use Rattle.sheet.specs.Reading.{header_tests}

module _ (𝓢 : Statement) (𝓓 : Draws) (ν μ : ℕ) where
  open 𝓢 use {relation, w, κ, κ₁, κ₂, b, b₁, b₂, t₁, t₂, target}
  open relation use {d, n, r, K, L, bound}

  abbrev pub header : List ℤ
  header =
      pos d
      ∷ pos n
      ∷ pos r
      ∷ pos K
      ∷ pos L
      ∷ pos w
      ∷ pos κ
      ∷ pos κ₁
      ∷ pos κ₂
      ∷ pos b
      ∷ pos b₁
      ∷ pos b₂
      ∷ pos t₁
      ∷ pos t₂
      ∷ pos ν
      ∷ pos μ
      ∷ pos bound
      ∷ pos target
      ∷ []

  pub header-tests : header_tests header ≡ size_tests 𝓢 𝓓 ++ ((5, chunks z_count (pos ν) (pos μ)) ∷ bound_tests 𝓢 𝓓)
  unfolding header_tests
  header-tests = refl
