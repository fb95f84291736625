-- The integers as a commutative ring.
use Rattle.std.specs.Prelude.{ℤ, pos, neg_ℤ, ◌+ℤ◌, ◌*ℤ◌}
use Rattle.std.proofs.Math.IntN.{ℤ_set, +ℤ_assoc, +ℤ_comm, +ℤ_idr, +ℤ_invr, *ℤ_comm}
use Rattle.integers.specs.Laws.Identities.{*ℤ_assoc, *ℤ_idr, *ℤ_distribˡ}
use Rattle.algebra.specs.CommRing.{CommRing}

abbrev pub ℤ-ring : CommRing
ℤ-ring = record {
  Carrier = ℤ;
  is_set = ℤ_set;
  zero = pos 0;
  one = pos 1;
  add = ◌+ℤ◌;
  mul = ◌*ℤ◌;
  neg = neg_ℤ;
  add_assoc = +ℤ_assoc;
  add_comm = +ℤ_comm;
  add-zero = +ℤ_idr;
  add-neg = +ℤ_invr;
  mul_assoc = *ℤ_assoc;
  mul_comm = *ℤ_comm;
  mul-one = *ℤ_idr;
  mul-add = *ℤ_distribˡ;
}
