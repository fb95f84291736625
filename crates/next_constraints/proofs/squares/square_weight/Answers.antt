-- `next_constraints::squares::square_weight` meets its contract.
use Rattle.next_constraints.specs.Laws.Squares.{weight-twice}
use Rattle.next_constraints.proofs.squares.square_weight.Goals as goal

pub returns-else-s-s2 : goal.returns-else-s-s2
returns-else-s-s2 c =
    let a = c.args in
    weight-twice a.s a.s2 _ _ _ c.if-s-s2.false c.power-once.ensures c.multiply.ensures
