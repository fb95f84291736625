-- `judge::numbers::judge_constraints` meets its contract. Assumes nothing.
use Rattle.judge.specs.Laws.StageLaws.{cut, constraint_stage_lem}
use Rattle.judge.proofs.numbers.judge_constraints.Goals as goal

pub returns : goal.returns
returns c =
    let x = c.args in
    constraint_stage_lem x.s x.a_matrix.now x.b_matrix.now x.c_matrix.now x.d_matrix.now
    (cut c.whole_length-whole_length.ensures c.front.ensures c.rest-after_whole.ensures)
    (cut c.constant_terms_length-constant_terms_length.ensures c.front-2.ensures c.rest-after_constant_terms.ensures)
    (cut c.list_length-u1_length.ensures c.front-3.ensures c.rest-after_u1.ensures)
    (cut c.projections_length-projections_length.ensures c.front-4.ensures c.rest-after_projections.ensures)
    c.judge_numbers.ensures
