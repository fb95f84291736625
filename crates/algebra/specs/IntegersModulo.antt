-- The integers modulo m as a commutative ring, for any m above 0.
use Rattle.std.specs.Prelude.{ℕ, T, ltb}
use Rattle.algebra.specs.CommRing.{CommRing}
use Rattle.algebra.specs.Residue.{Residue, make, add, mul, neg}
use Rattle.algebra.specs.Laws.ResidueLaws.{Residue-set, residue_add_assoc, residue_add_comm, residue_add_zero, residue_add_neg, residue_mul_assoc, residue_mul_comm, residue_mul_one, residue_mul_add}

module _ (m : ℕ) (m>0 : T (ltb 0 m)) where
  -- the ring of integers modulo m
  abbrev pub Zmod : CommRing
  Zmod = record {
    Carrier = Residue m;
    is_set = Residue-set m;
    zero = make m m>0 0;
    one = make m m>0 1;
    add = add m m>0;
    mul = mul m m>0;
    neg = neg m m>0;
    add_assoc = residue_add_assoc m m>0;
    add_comm = residue_add_comm m m>0;
    add-zero = residue_add_zero m m>0;
    add-neg = residue_add_neg m m>0;
    mul_assoc = residue_mul_assoc m m>0;
    mul_comm = residue_mul_comm m m>0;
    mul-one = residue_mul_one m m>0;
    mul-add = residue_mul_add m m>0;
  }
