-- `bare_prover::turn::write_turn` meets its contract: four elements, one after the other. Assumes nothing.
use mathlib.Core.Path.{refl}
use mathlib.Core.List.{List}
use Prim.Native.Nat.{ℕ, ◌-◌}
use native.Mathlib.Omega.{arith}
use lib.IntN.{ℤ}
use Rattle.ring.specs.Element.{R}
use Rattle.ring.specs.Laws.Loops.{held-sum}
use Rattle.ring.specs.Laws.Writers.{Elements, elements_start₀, elements-turn, elements-all}
use Rattle.fold.specs.Statement.{part}
use Rattle.fold.specs.Messages.{elements, g}
use Rattle.bare.specs.Messages.{four, mixedΦ, ownΦ, earlier_z, mixed_z, own_z, turn_element, turn}
use Rattle.bare_prover.specs.Summands.{earlier_summand}
use Rattle.bare_prover.proofs.turn.write_turn.Goals as goal

-- the four elements, of what the call was lent
abbrev lent : (d n turn : ℕ) (phi c s : List ℤ) → ℕ → (R d).Carrier
lent d n turn phi c s = turn_element d n (part d n phi) c s (turn - 1)

pub returns : goal.returns
unfolding turn elements turn_element mixedΦ ownΦ own_z earlier_z mixed_z g earlier_summand
returns c =
    let degree = c.requires.shaped.degree in
    let a = c.args in
    let xs = lent a.shape.d a.shape.n a.turn a.phi.now a.c.now a.witness.now in
    let none : Elements a.shape.d 0 four xs a.out.now 0 a.out.now = elements_start₀ (omega (arith, c.requires.out-length)) in
    let first = elements-turn none degree refl (omega arith) c.mixed_phi.ensures c.store.ensures in
    let second = elements-turn first degree refl (omega arith) c.part_product.ensures c.store-2.ensures in
    let twice = held-sum _ _ degree.small c.earlier_z-half.ensures c.earlier_z-half.ensures c.sum.ensures in
    let third = elements-turn second degree refl (omega arith) twice c.store-3.ensures in
    elements-all (elements-turn third degree refl (omega arith) c.part_product-2.ensures c.store-4.ensures) c.requires.out-length (omega arith)
