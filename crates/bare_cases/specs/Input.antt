-- The numbers of a case: the number of its call, 1 to 4, ten sizes d n r K L w κ β² z_bound turn, of which the turn's number stands in no struct, then its lists.
use Rattle.std.specs.Prelude.{List, ℤ}
use Rattle.capi.specs.declared.sizes.CBareSizes.{CBareSizes}
use Rattle.cases.specs.Input.{wide_size}

unfoldable pub sizes_of : List ℤ → CBareSizes
sizes_of xs =
    record {
      shape = record { d = wide_size xs 1; n = wide_size xs 2; r = wide_size xs 3 };
      k = wide_size xs 4;
      l = wide_size xs 5;
      w = wide_size xs 6;
      kappa = wide_size xs 7;
      bound = wide_size xs 8;
      z_bound = wide_size xs 9;
    }
