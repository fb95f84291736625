-- Laws of the numbers that a field holds, as signed machine numbers.
use Rattle.std.specs.Prelude.{◌≡◌, refl, true, false, List, ℕ, ◌≤◌, T, take, drop, ℤ, pos, nat_abs, ◌-ℤ◌, Option, None, Some, unwrap_or}
use Rattle.std.proofs.Common.{arith, SFits}
use Rattle.std.specs.Int.Signed.{non_neg, lt_z, yes_non_neg}
use Rattle.std.specs.Int.{w32, w64}
use Rattle.integers.specs.Laws.Bridge.{zarith, sub_pn, nat_abs_pn, pn_min}
use Rattle.fields.specs.Fields.{read_field, field_at}
use Rattle.fields.specs.Laws.FieldLaws.{read_fits}
use Rattle.fields.specs.Place.{number_at}

pub number_small : (text : List ℕ) (at : ℕ) → nat_abs (number_at text at) ≤ 10000000000000000
unfolding number_at field_at
number_small text at = step (read_field (take 16 (drop at text))) refl
  where
    step : (f : Option ℤ) → read_field (take 16 (drop at text)) ≡ f → nat_abs (unwrap_or f (pos 0)) ≤ 10000000000000000
    step (Some z) e =
        let fits = read_fits (take 16 (drop at text)) z e in
        omega (zarith, fits.least, fits.most, nat_abs_pn z, pn_min z)
    step None e = omega arith

module _ (x : ℤ) (h : nat_abs x ≤ 10000000000000000) where
  pub minus-fits : SFits w64 (pos 0 -ℤ x)
  minus-fits = omega (zarith, nat_abs_pn x, sub_pn (pos 0) x)

  pub minus_non_neg : lt_z x (pos 0) ≡ true → T (non_neg (pos 0 -ℤ x))
  minus_non_neg t = yes_non_neg {z = pos 0 -ℤ x} (omega (zarith, sub_pn (pos 0) x))

  pub plus_non_neg : lt_z x (pos 0) ≡ false → T (non_neg x)
  plus_non_neg t = yes_non_neg {z = x} (omega zarith)

  pub minus-size : nat_abs (pos 0 -ℤ x) ≡ nat_abs x
  minus-size = omega (zarith, nat_abs_pn x, nat_abs_pn (pos 0 -ℤ x), pn_min x, pn_min (pos 0 -ℤ x), sub_pn (pos 0) x)

pub narrow-fits : (x : ℤ) → nat_abs x ≤ 2147483598 → SFits w32 x
narrow-fits x h = omega (zarith, nat_abs_pn x)
