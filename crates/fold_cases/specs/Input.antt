-- The numbers of a case: the number of its call, 1 to 8, of which 7 and 8 are 5 and 6 with z in one digit, sixteen sizes d n r K L w κ κ1 κ2 b b1 b2 t1 t2 β² β'², then its lists.
use Rattle.std.specs.Prelude.{List, ℕ, ℤ}
use Rattle.capi.specs.declared.sizes.CSizes.{CSizes}
use Rattle.cases.specs.Input.{wide_size}

unfoldable pub sizes_of : List ℤ → (one : ℕ) → CSizes
sizes_of xs one =
    record {
      shape = record { d = wide_size xs 1; n = wide_size xs 2; r = wide_size xs 3 };
      k = wide_size xs 4;
      l = wide_size xs 5;
      w = wide_size xs 6;
      kappa = wide_size xs 7;
      kappa1 = wide_size xs 8;
      kappa2 = wide_size xs 9;
      b = wide_size xs 10;
      b1 = wide_size xs 11;
      b2 = wide_size xs 12;
      t1 = wide_size xs 13;
      t2 = wide_size xs 14;
      bound = wide_size xs 15;
      target = wide_size xs 16;
      one_digit = one;
    }
