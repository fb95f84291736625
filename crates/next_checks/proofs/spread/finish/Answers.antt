-- `next_checks::spread::finish` meets its contract.
use mathlib.Core.Path.{◌≡◌, ap, ◌∙◌}
use Prim.Native.Nat.{◌+◌, ◌*◌, ◌≤◌}
use native.Mathlib.Omega.{arith}
use lib.ListN.{length, take}
use Rattle.integers.specs.Over.{over}
use Rattle.integers.specs.Flat.{flat}
use Rattle.integers.specs.Laws.OverLaws.{over-over}
use Rattle.fold.specs.Messages.{elements}
use Rattle.next_checks.specs.Spread.{spread_entry}
use Rattle.next_checks.specs.Laws.CutLaws.{pairs-room}
use Rattle.next_checks.specs.Laws.SpreadLaws.{length_spread}
use Rattle.next_checks.proofs.spread.finish.Goals as goal

pub returns : goal.returns
returns c =
    let a = c.args in
    let d = a.sizes.shape.d in
    let φ = flat a.cut.parts (λ p. elements d a.cut.rank (spread_entry a.sizes a.cut a.out.now a.at p)) in
    let first = (a.at + a.cut.pairs) * d in
    let parts = ap (λ k. k * d) (pairs-room a.sizes a.cut c.requires.cut_facts) in
    let begins : first ≤ length a.out.now = omega (arith, parts, c.requires.d_in_bounds) in
    let here : (a.at + a.cut.size) * d ≡ first + length φ = omega (arith, parts, length_spread a.sizes a.cut a.out.now a.at) in
    c.store.ensures
    ∙ ap (λ xs. over xs ((a.at + a.cut.size) * d) (take d a.b.coefficients)) c.spread.ensures
    ∙ ap (λ p. over (over a.out.now first φ) p (take d a.b.coefficients)) here
    ∙ over-over a.out.now first φ (take d a.b.coefficients) begins
