-- `bare_refusals::lengths::opened_lengths` meets its contract: each list. Assumes nothing.
use mathlib.Core.Path.{refl}
use native.Mathlib.Nat.{mul-le-mul}
use native.Mathlib.Omega.{arith}
use Rattle.bare.specs.Opening.{bare_size}
use Rattle.limits.specs.Laws.RowLaws.{end, ◌&◌}
use Rattle.limits.specs.Laws.StageLaws.{joined-tests}
use Rattle.bare_refusals.proofs.lengths.opened_lengths.Goals as goal

pub list_fits-requires : goal.list_fits-requires
unfolding bare_size
list_fits-requires c =
    let l = c.requires in
    (omega (arith, c.bare_size-elements.ensures, mul-le-mul l.0.parts-small l.1, l.0.rank-small, l.0.parts-small), l.0.degree.small)

pub returns : goal.returns
returns c =
    let opened = rw c.bare_size-elements.ensures at c.list_fits.ensures in
    joined-tests (opened & c.sized.ensures & c.five_fit.ensures & end) refl
