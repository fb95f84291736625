-- `next_cases::part::at_place` meets its contract. Assumes nothing.
use mathlib.Core.Path.{◌≡◌, refl, ap}
use mathlib.Core.List.{[], ◌∷◌}
use mir.Syntax.{assign, place, field, copy, rv_opd}
use Prim.Native.Nat.{ℕ, ◌+◌, ◌-◌}
use native.Mathlib.Omega.{arith}
use lib.ListN.{take, drop}
use Rattle.next_cases.proofs.part.at_place.Code.Mir as code
use Rattle.next_cases.proofs.part.at_place.Goals as goal

-- C reads the fields of a place by position, the start first: so does this code
start_first : code.by_name-s-1 ≡ assign (place 3 []) (rv_opd (copy (place 2 (field 0 ∷ []))))
start_first = refl

pub returns : goal.returns
returns c =
    let a = c.args in
    let count : a.place.start + a.place.length - a.place.start ≡ a.place.length = omega arith in
    ap (λ (n : ℕ). take n (drop a.place.start a.opening.now)) count
