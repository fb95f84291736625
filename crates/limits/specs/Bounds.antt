-- The tests of fold's Refusals on sizes that stand in a struct, as the functions here ask for them.
use Rattle.std.specs.Prelude.{Bool, List, ◌∷◌, ◌++◌, ℕ, pos}
use Rattle.fold.specs.declared.CommitSizes.{CommitSizes}
use Rattle.fold.specs.declared.GarbageSizes.{GarbageSizes}
use Rattle.fold.specs.declared.Sizes.{Sizes}
use Rattle.fold.specs.declared.PartSizes.{PartSizes}
use Rattle.fold.specs.Sizes.{rest_size, next_rank}
use Rattle.fold.specs.Refusals.{commit_bounds, garbage_bounds, size_rows, bound_rows, part_bounds, chunks}

-- ---- rows 1 to 6

abbrev pub commit_bounds_of : CommitSizes → List (ℕ × Bool)
commit_bounds_of m = commit_bounds m.shape.d m.shape.n m.shape.r m.kappa m.kappa1 m.b1 m.b2 m.t1 m.t2

abbrev pub garbage_bounds_of : GarbageSizes → List (ℕ × Bool)
garbage_bounds_of m = garbage_bounds m.shape.d m.shape.n m.shape.r m.k m.l m.w m.kappa2 m.b1 m.t1

abbrev pub size_rows_of : Sizes → List (ℕ × Bool)
size_rows_of m =
    size_rows (pos m.shape.d) (pos m.shape.n) (pos m.shape.r) (pos m.k) (pos m.l) (pos m.w) (pos m.kappa) (pos m.kappa1)
    (pos m.kappa2) (pos m.b) (pos m.b1) (pos m.b2) (pos m.t1) (pos m.t2)

abbrev pub bound_rows_of : Sizes → List (ℕ × Bool)
bound_rows_of m = bound_rows (pos m.bound) (pos m.target)

abbrev pub verify_bounds_of : Sizes → List (ℕ × Bool)
verify_bounds_of m = size_rows_of m ++ bound_rows_of m

-- rows 5 and 6
abbrev pub late_rows_of : (tz : ℕ) → Sizes → (ν μ : ℕ) → List (ℕ × Bool)
late_rows_of tz m ν μ = (5, chunks tz (pos ν) (pos μ)) ∷ bound_rows_of m

abbrev pub next_bounds_of : (tz : ℕ) → Sizes → (ν μ : ℕ) → List (ℕ × Bool)
next_bounds_of tz m ν μ = size_rows_of m ++ late_rows_of tz m ν μ

abbrev pub part_bounds_of : (tz : ℕ) → PartSizes → ℕ → List (ℕ × Bool)
part_bounds_of tz m i = part_bounds m.shape.d m.shape.n m.shape.r m.kappa m.t1 m.t2 tz m.nu m.mu i

-- ---- row 11: the rank of the next instance

abbrev pub rank_of : Sizes → (ν μ : ℕ) → ℕ
rank_of m ν μ = next_rank m.shape.n ν (rest_size m.shape.r m.kappa m.t1 m.t2) μ
