-- Each size that C gives reaches the library under its name, and the place that C is told has the library's start and length: a number of its own
-- in every field. `one_digit` says two digits where it is 0 and one where it is not; of a sheet's sizes it is not looked at.
use Rattle.std.specs.Prelude.{◌≡◌, refl, true, false, ℕ}
use Rattle.fold.specs.declared.Shape.{Shape}
use Rattle.fold.specs.declared.CommitSizes.{CommitSizes}
use Rattle.fold.specs.declared.ConstraintSizes.{ConstraintSizes}
use Rattle.fold.specs.declared.GarbageSizes.{GarbageSizes}
use Rattle.fold.specs.declared.ZDigits.{ZDigits}
use Rattle.fold.specs.declared.ZDigits.TheVariants.{One, Two}
use Rattle.fold.specs.declared.StatementSizes.{StatementSizes}
use Rattle.fold.specs.declared.Sizes.{Sizes}
use Rattle.fold.specs.declared.PartSizes.{PartSizes}
use Rattle.bare.specs.declared.BareSizes.{BareSizes}
use Rattle.next_instance.specs.declared.part.Place.{Place}
use Rattle.capi.specs.declared.sizes.CShape.{CShape}
use Rattle.capi.specs.declared.sizes.CCommitSizes.{CCommitSizes}
use Rattle.capi.specs.declared.sizes.CGarbageSizes.{CGarbageSizes}
use Rattle.capi.specs.declared.sizes.CConstraintSizes.{CConstraintSizes}
use Rattle.capi.specs.declared.sizes.CBareSizes.{CBareSizes}
use Rattle.capi.specs.declared.sizes.CSizes.{CSizes}
use Rattle.capi.specs.declared.sizes.CPartSizes.{CPartSizes}
use Rattle.capi.specs.declared.next.CPart.{CPart}
use Rattle.capi.specs.Codes.{shape_from, commit_sizes_from, garbage_sizes_from, sizes_from, sheet_sizes_from, part_sizes_from, constraint_sizes_from, bare_sizes_from, place_from}

abbrev c : CShape
c = record { d = 1; n = 2; r = 3 }

abbrev s : Shape
s = record { d = 1; n = 2; r = 3 }

abbrev given : (one : ℕ) → CSizes
given one = record { shape = c; k = 4; l = 5; w = 6; kappa = 7; kappa1 = 8; kappa2 = 9; b = 10; b1 = 11; b2 = 12; t1 = 13; t2 = 14; bound = 15; target = 16; one_digit = one }

abbrev taken : ZDigits → StatementSizes
taken z = record { shape = s; k = 4; l = 5; w = 6; kappa = 7; kappa1 = 8; kappa2 = 9; z = z; b1 = 11; b2 = 12; t1 = 13; t2 = 14; bound = 15; target = 16 }

pub record SizesTaken : Type 0 where
  pub shape : shape_from c ≡ s
  pub commit-sizes : commit_sizes_from (record { shape = c; kappa = 4; kappa1 = 5; b1 = 6; b2 = 7; t1 = 8; t2 = 9 })
      ≡ record { shape = s; kappa = 4; kappa1 = 5; b1 = 6; b2 = 7; t1 = 8; t2 = 9 }
  pub garbage-sizes : garbage_sizes_from (record { shape = c; k = 4; l = 5; w = 6; kappa2 = 7; b1 = 8; t1 = 9 })
      ≡ record { shape = s; k = 4; l = 5; w = 6; kappa2 = 7; b1 = 8; t1 = 9 }
  pub sizes : sizes_from (given 0) ≡ taken (Two 10)
  pub one-digit : sizes_from (given 1) ≡ taken One
  pub any_other : sizes_from (given 255) ≡ taken One
  pub sheet_sizes : sheet_sizes_from (given 1)
      ≡ record { shape = s; k = 4; l = 5; w = 6; kappa = 7; kappa1 = 8; kappa2 = 9; b = 10; b1 = 11; b2 = 12; t1 = 13; t2 = 14; bound = 15; target = 16 }
  pub part-sizes : part_sizes_from (record { shape = c; kappa = 4; t1 = 5; t2 = 6; nu = 7; mu = 8; one_digit = 0 })
      ≡ record { shape = s; kappa = 4; t1 = 5; t2 = 6; nu = 7; mu = 8; one_digit = false }
  pub one-part-sizes : part_sizes_from (record { shape = c; kappa = 4; t1 = 5; t2 = 6; nu = 7; mu = 8; one_digit = 255 })
      ≡ record { shape = s; kappa = 4; t1 = 5; t2 = 6; nu = 7; mu = 8; one_digit = true }
  pub constraint-sizes : constraint_sizes_from (record { shape = c; k = 4; l = 5; w = 6 }) ≡ record { shape = s; k = 4; l = 5; w = 6 }
  pub bare_sizes : bare_sizes_from (record { shape = c; k = 4; l = 5; w = 6; kappa = 7; bound = 8; z_bound = 9 })
      ≡ record { shape = s; k = 4; l = 5; w = 6; kappa = 7; bound = 8; z_bound = 9 }
  pub place : place_from (record { start = 1; length = 2 }) ≡ record { start = 1; length = 2 }

pub sizes-taken : SizesTaken
sizes-taken =
    record {
      shape = refl;
      commit-sizes = refl;
      garbage-sizes = refl;
      sizes = refl;
      one-digit = refl;
      any_other = refl;
      sheet_sizes = refl;
      part-sizes = refl;
      one-part-sizes = refl;
      constraint-sizes = refl;
      bare_sizes = refl;
      place = refl;
    }
