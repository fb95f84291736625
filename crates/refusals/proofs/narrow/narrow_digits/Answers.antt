-- `refusals::narrow::narrow_digits` meets its contract: the test of the digits of z, t, g and h, each at its place. Assumes nothing.
use native.Mathlib.Nat.{zero-mul}
use native.Mathlib.Omega.{arith}
use Rattle.fold.specs.Refusals.{narrow_digits}
use Rattle.limits.specs.Laws.RowLaws.{end, ◌&◌, joined-row}
use Rattle.refusals.specs.Laws.DigitPlaces.{z-within, t_within, g_within, h-within}
use Rattle.refusals.proofs.narrow.narrow_digits.Goals as goal

pub low_narrow-requires : goal.low_narrow-requires
low_narrow-requires c =
    let m = c.args.sizes in
    let l = c.requires.verify_sized in record { degree = l.shaped.degree; t_nonzero = (c.requires.tz_nonzero.0, omega (arith, c.requires.tz_nonzero.1), l.shaped.rank-small); base = l.base; d_in_bounds = omega (arith, c.requires.opening_len, z-within m.shape.d m.shape.n m.shape.r c.args.tz m.kappa m.t1 m.t2) }

pub low_narrow-requires-2 : goal.low_narrow-requires-2
low_narrow-requires-2 c =
    let m = c.args.sizes in
    let l = c.requires.verify_sized in record {
      degree = l.shaped.degree;
      t_nonzero = (omega (arith, l.t₁-least), l.t₁-most, omega (arith, l.κ-small));
      base = l.base₁;
      d_in_bounds = rw c.t_place-t_place.ensures
          (omega (arith, c.requires.opening_len, t_within m.shape.d m.shape.n m.shape.r c.args.tz m.kappa m.t1 m.t2));
    }

pub low_narrow-requires-3 : goal.low_narrow-requires-3
low_narrow-requires-3 c =
    let m = c.args.sizes in
    let l = c.requires.verify_sized in record {
      degree = l.shaped.degree;
      t_nonzero = (omega (arith, l.t₂-least), l.t₂-most, omega arith);
      base = l.base₂;
      d_in_bounds = rw (c.g_place-g_place.ensures, c.pair_count-pairs.ensures)
          (omega (arith, c.requires.opening_len, g_within m.shape.d m.shape.n m.shape.r c.args.tz m.kappa m.t1 m.t2));
    }

pub low_narrow-requires-4 : goal.low_narrow-requires-4
low_narrow-requires-4 c =
    let m = c.args.sizes in
    let l = c.requires.verify_sized in record {
      degree = l.shaped.degree;
      t_nonzero = (omega (arith, l.t₁-least), l.t₁-most, omega arith);
      base = l.base₁;
      d_in_bounds = rw (c.h_place-h_place.ensures, c.pair_count-pairs.ensures)
          (omega (arith, c.requires.opening_len, h-within m.shape.d m.shape.n m.shape.r c.args.tz m.kappa m.t1 m.t2));
    }

pub returns : goal.returns
unfolding narrow_digits
returns c =
    let m = c.args.sizes in
    joined-row
    (rw (zero-mul m.shape.d) at c.low_narrow.ensures
    & rw c.t_place-t_place.ensures at c.low_narrow-2.ensures
    & rw (c.g_place-g_place.ensures, c.pair_count-pairs.ensures) at c.low_narrow-3.ensures
    & rw (c.h_place-h_place.ensures, c.pair_count-pairs.ensures) at c.low_narrow-4.ensures
    & end)
