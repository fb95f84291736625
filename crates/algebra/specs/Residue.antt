-- The integers modulo m, for any m above 0: a residue is a number below m, and each operation is the one of ℕ followed by the remainder.
use Rattle.std.specs.Prelude.{ℕ, ◌+◌, ◌-◌, ◌*◌, ◌%◌, T, ltb, ℤ, pos}
use Rattle.std.proofs.Math.Nat as Nat
use Rattle.std.proofs.Common.{ltb→lt, lt→ltb}
use Rattle.integers.specs.Remainder.{emod, centre}
use Rattle.integers.specs.Laws.RemainderLaws.{emod-lt}

pub record Residue (m : ℕ) : Type 0 where
  pub val : ℕ
  pub ok : T (ltb val m)

-- the integer of a residue that is at least -m/2 and below m/2
unfoldable pub centred : {m : ℕ} → Residue m → ℤ
centred {m} x = centre m (pos x.val)

module _ (m : ℕ) (m>0 : T (ltb 0 m)) where
  -- the residue of a natural number
  unfoldable pub make : ℕ → Residue m
  make n = record { val = n % m; ok = lt→ltb (n % m) m (Nat.mod-lt n (ltb→lt 0 m m>0)) }

  unfoldable pub add : Residue m → Residue m → Residue m
  add x y = make (x.val + y.val)

  unfoldable pub mul : Residue m → Residue m → Residue m
  mul x y = make (x.val * y.val)

  unfoldable pub neg : Residue m → Residue m
  neg x = make (m - x.val)

module _ (m : ℕ) (m>0 : T (ltb 0 m)) where
  unfoldable pub reduce : ℤ → Residue m
  reduce z = record { val = emod z m; ok = lt→ltb (emod z m) m (emod-lt m (ltb→lt 0 m m>0) z) }
