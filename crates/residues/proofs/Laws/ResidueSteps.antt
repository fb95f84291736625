-- The residue of a 32-bit number as the machine computes it, by one remainder, and the centred number of a residue: each step stays in range,
-- and together they give `emod x q` and `centred`.
use Rattle.std.specs.Prelude.{◌≡◌, refl, ℕ, ◌+◌, ◌/◌, ◌%◌, ◌<◌, ℤ, ◌+ℤ◌, ◌-ℤ◌, ◌*ℤ◌}
use Rattle.std.proofs.Math.Path.{ap}
use Rattle.std.proofs.Common.{◌∙◌, arith, SFits, to_z, of_z, to_z-of_z}
use Rattle.std.proofs.Math.IntN.{pos}
use Rattle.std.specs.Int.Signed.{quot_z, rem_z}
use Rattle.std.specs.Int.{w32, w64}
use Rattle.std.proofs.Math.Facts.{to_z_pos}
use Rattle.integers.specs.Laws.Bridge.{N, pn_min, bnd, add_pn, sub_pn, zarith}
use Rattle.integers.specs.Remainder.{emod, centre}
use Rattle.integers.specs.Laws.RemainderLaws.{emod-eq, emod-lt}
use Rattle.integers.specs.Laws.MachineDivision.{rem_z_nonneg}
use Rattle.residues.specs.Modulus.{q, centred}
use Rattle.residues.proofs.Laws.ModulusLaws.{centred-fits}
use Rattle.residues.proofs.Laws.Words.{held, widen, wide}

-- ---- q makes a 32-bit number natural, and the remainder is its residue

pub residue_fits : (x : ℤ) → SFits w64 (pos (emod x q))
unfolding q
residue_fits x = omega (zarith, emod-lt 4294967197 (omega arith) x)

module _ {x : ℤ} (fits : SFits w32 x) where
  pub plus-q-fits : SFits w64 (x +ℤ pos 4294967197)
  plus-q-fits = omega (zarith, bnd x, add_pn x (pos 4294967197))

  plus-q-natural : N (x +ℤ pos 4294967197) ≡ 0
  plus-q-natural = omega (zarith, bnd x, fits.sfits, add_pn x (pos 4294967197), pn_min (x +ℤ pos 4294967197))

  plus_q_residue : rem_z (x +ℤ pos 4294967197) (pos 4294967197) ≡ pos (emod x q)
  unfolding q
  plus_q_residue =
      let one : x +ℤ pos 4294967197 ≡ x +ℤ pos 1 *ℤ pos 4294967197 =
      omega (zarith, add_pn x (pos 4294967197), add_pn x (pos 1 *ℤ pos 4294967197)) in
      rem_z_nonneg 4294967197 (omega arith) (x +ℤ pos 4294967197) plus-q-natural
      ∙ ap pos (emod-eq 4294967197 (omega arith) _ _ (pos 1) one)

  -- as the machine holds the steps
  pub plus-q-held : held (held (to_z w32 (of_z w32 x)) +ℤ pos 4294967197) ≡ x +ℤ pos 4294967197
  plus-q-held = rw (wide fits) (to_z-of_z plus-q-fits)

  pub residue_held : held (rem_z (held (held (to_z w32 (of_z w32 x)) +ℤ pos 4294967197)) (pos 4294967197)) ≡ pos (emod x q)
  residue_held = rw (plus-q-held, plus_q_residue) (to_z-of_z (residue_fits x))

-- ---- q is taken from a residue above q / 2

module _ (n : ℕ) (below : n < 4294967197) where
  -- 1 above q / 2, and 0 elsewhere
  abbrev upper : ℕ
  upper = (n + 2147483697) / 4294967296

  abbrev lowered : ℤ
  lowered = pos n -ℤ pos upper *ℤ pos 4294967197

  natural-held : to_z w64 n ≡ pos n
  natural-held = to_z_pos w64 (omega arith)

  pub carry_fits : SFits w64 (to_z w64 n +ℤ pos 2147483697)
  carry_fits = rw natural-held (omega zarith)

  carry_held : held (to_z w64 n +ℤ pos 2147483697) ≡ pos (n + 2147483697)
  carry_held = to_z-of_z carry_fits ∙ ap (λ (t : ℤ). t +ℤ pos 2147483697) natural-held

  pub upper_fits : SFits w64 (quot_z (held (to_z w64 n +ℤ pos 2147483697)) (pos 4294967296))
  upper_fits = rw carry_held (omega zarith)

  pub upper-held : held (quot_z (held (to_z w64 n +ℤ pos 2147483697)) (pos 4294967296)) ≡ pos upper
  upper-held = to_z-of_z upper_fits ∙ ap (λ (t : ℤ). quot_z t (pos 4294967296)) carry_held

  pub multiple_fits : SFits w64 (pos upper *ℤ pos 4294967197)
  multiple_fits = omega zarith

  pub lowered-held : to_z w64 n -ℤ held (held (quot_z (held (to_z w64 n +ℤ pos 2147483697)) (pos 4294967296)) *ℤ pos 4294967197) ≡ lowered
  lowered-held = rw (upper-held, to_z-of_z multiple_fits, natural-held) refl

  pub lowered-centred : lowered ≡ centred (pos n)
  unfolding centred centre emod q
  lowered-centred =
      let high = (n + 2147483598) % 4294967197 in
      omega (
        zarith,
        sub_pn (pos n) (pos upper *ℤ pos 4294967197),
        pn_min lowered,
        sub_pn (pos high) (pos 2147483598),
        pn_min (pos high -ℤ pos 2147483598),
      )

  pub lowered-fits : SFits w64 lowered
  lowered-fits = rw lowered-centred (widen (centred-fits (pos n)))
