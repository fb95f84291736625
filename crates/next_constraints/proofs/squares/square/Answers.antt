-- `next_constraints::squares::square` meets its contract.
use Rattle.next_constraints.specs.Laws.Squares.{holds_as, square-first, square-second, square-apart, square-end}
use Rattle.next_constraints.proofs.squares.square.Goals as goal
use Rattle.next_constraints.proofs.squares.square.Goals.{else-s-both-via-then-s-both+then-s2-both+else-s-nu, else-s-both-via-then-s-both+else-s2-both, else-s-both-via-else-s-both}

pub returns-then-s-nu : goal.returns-then-s-nu
returns-then-s-nu c =
    let a = c.args in
    square-end a.d a.tz a.nu a.b a.s a.s2 _ _ c.if-s-both.true c.if-s2-both.true c.if-s-nu.true
    c.square_weight.ensures (c.constant.ensures a.d c.requires.degree.positive)

pub returns-else-s-both : goal.returns-else-s-both
returns-else-s-both c =
    let a = c.args in
    let zero = c.additive_identity.ensures a.d in
    elim c.else-s-both.branch [
      | else-s-both-via-then-s-both+then-s2-both+else-s-nu w ↦
          holds_as _ (square-apart a.d a.tz a.nu a.b a.s a.s2 w.if-s-both.true w.if-s2-both.true w.if-s-nu.false) zero
      | else-s-both-via-then-s-both+else-s2-both w ↦
          holds_as _ (square-second a.d a.tz a.nu a.b a.s a.s2 w.if-s-both.true w.if-s2-both.false) zero
      | else-s-both-via-else-s-both w ↦ holds_as _ (square-first a.d a.tz a.nu a.b a.s a.s2 w.if-s-both.false) zero
    ]
