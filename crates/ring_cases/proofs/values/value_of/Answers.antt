-- `ring_cases::values::value_of` meets its contract. Assumes nothing.
use Rattle.std.proofs.Common.{◌≡◌, refl, Bool, true, false, cond, pos}
use Rattle.std.specs.Int.{from_bool}
use Rattle.std.proofs.Common.{arith}
use mathlib.Core.Path.{ap, ◌∙◌}
use mir.Syntax.{w64}
use mir.Facts.{to_z-of_z}
use borrow.Author.Tests.{ne_eqb}
use Rattle.residues.specs.Modulus.{centred}
use Rattle.ring_cases.specs.Results.{value_of}
use mir.Syntax.{w32}
use Rattle.ring_cases.proofs.values.value_of.Goals as goal

flag : (t : Bool) → pos (from_bool t) ≡ cond t (pos 1) (pos 0)
flag true = refl
flag false = refl

pub returns-in-1 : goal.returns-in-1
unfolding value_of
returns-in-1 c =
    let wide = to_z-of_z {w = w64} (record { sfits = c.wide_at.type_inv }) ∙ c.wide_at.ensures in
    rw c.in-1.is (to_z-of_z {w = w32} (record { sfits = c.centre.type_inv }) ∙ c.centre.ensures ∙ ap centred wide)

pub returns-in-11 : goal.returns-in-11
unfolding value_of
returns-in-11 c = rw c.in-11.is (to_z-of_z {w = w32} (record { sfits = c.recomposed.type_inv }) ∙ c.recomposed.ensures)

pub returns-in-18 : goal.returns-in-18
unfolding value_of
returns-in-18 c = rw c.in-18.is (to_z-of_z {w = w32} (record { sfits = c.constant.type_inv }) ∙ c.constant.ensures)

pub returns-in_default : goal.returns-in_default
unfolding value_of
returns-in_default c =
    let op = c.args.operation in
    rw (
      ne_eqb op 1 (omega arith),
      ne_eqb op 11 (omega arith),
      ne_eqb op 18 (omega arith),
      ← c.test_of.ensures,
    )
    (to_z-of_z {w = w32} (record { sfits = c.from.type_inv }) ∙ c.from.ensures ∙ flag c.test_of.result)
