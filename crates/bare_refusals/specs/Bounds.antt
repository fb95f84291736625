-- The tests of sizes of the bare level's calls (SPECIFICATION 7.1 to 7.6), for the sizes of a struct.
use Rattle.std.specs.Prelude.{Bool, List, ◌++◌, ℕ, pos}
use Rattle.fold.specs.declared.ConstraintSizes.{ConstraintSizes}
use Rattle.fold.specs.Refusals.{bound_rows}
use Rattle.bare.specs.declared.BareSizes.{BareSizes}
use Rattle.bare.specs.Refusals.{bare_phi_bounds, bare_size_rows}

abbrev pub phi_bounds_of : ConstraintSizes → List (ℕ × Bool)
phi_bounds_of m = bare_phi_bounds m.shape.d m.shape.n m.shape.r m.k m.l m.w

abbrev pub verify_bounds_of : BareSizes → List (ℕ × Bool)
verify_bounds_of m =
    bare_size_rows m.shape.d m.shape.n m.shape.r m.k m.l m.w m.kappa ++ bound_rows (pos m.bound) (pos m.z_bound)
