use Rattle.std.proofs.Common.{ℕ, ◌<◌, ◌≡◌}
use Rattle.ring.specs.Element.{R, array}
use Rattle.ring.specs.Laws.Loops.{Summed}
use Rattle.ring.specs.declared.element.Element.{Element}
use Rattle.checks.proofs.indices.sum_of.Given as goal

abbrev pub invariant-loop-i : goal.invariant-loop-i
invariant-loop-i g l = (f : ℕ → (R l.d).Carrier)
    → ((i : ℕ) → i < l.count → (x : Element) → goal.F-post g l.summand i x → x.coefficients ≡ array l.d (f i))
    → Summed l.d l.count f l.i l.acc.coefficients
