-- CSizes among the numbers of a case, and those of a part of the next witness.
use Rattle.std.specs.Prelude.{List, ℕ, ℤ}
use Rattle.capi.specs.declared.sizes.CSizes.{CSizes}
use Rattle.capi.specs.declared.sizes.CPartSizes.{CPartSizes}
use Rattle.cases.specs.Input.{wide_size}

-- eighteen sizes, of which ν and μ, numbers 14 and 15, stand in no struct of a fold
unfoldable pub sizes_of : List ℤ → (one : ℕ) → CSizes
sizes_of xs one =
    record {
      shape = record { d = wide_size xs 0; n = wide_size xs 1; r = wide_size xs 2 };
      k = wide_size xs 3;
      l = wide_size xs 4;
      w = wide_size xs 5;
      kappa = wide_size xs 6;
      kappa1 = wide_size xs 7;
      kappa2 = wide_size xs 8;
      b = wide_size xs 9;
      b1 = wide_size xs 10;
      b2 = wide_size xs 11;
      t1 = wide_size xs 12;
      t2 = wide_size xs 13;
      bound = wide_size xs 16;
      target = wide_size xs 17;
      one_digit = one;
    }

-- the sizes of an opening and of its cut
abbrev pub part_sizes_of : CSizes → (ν μ : ℕ) → CPartSizes
part_sizes_of m ν μ =
    record { shape = m.shape; kappa = m.kappa; t1 = m.t1; t2 = m.t2; nu = ν; mu = μ; one_digit = m.one_digit }
