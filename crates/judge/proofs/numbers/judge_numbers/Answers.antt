-- `judge::numbers::judge_numbers` meets its contract. Assumes nothing.
use mathlib.Core.Path.{refl}
use Rattle.judge.specs.Laws.StageLaws.{cut, number_stage_lem}
use Rattle.judge.proofs.numbers.judge_numbers.Goals as goal

pub returns : goal.returns
returns c =
    let x = c.args in
    number_stage_lem x.s x.a_matrix.now x.b_matrix.now x.c_matrix.now x.d_matrix.now x.whole.now x.constant_terms.now x.u1.now x.projections.now
    (cut refl c.front.ensures c.rest-after_p.ensures)
    (cut refl c.front-2.ensures c.rest-after_psi.ensures)
    (cut refl c.front-3.ensures c.rest-after_omega.ensures)
    (cut refl c.front-4.ensures c.rest-after_second_b.ensures)
    c.judge_last.ensures
