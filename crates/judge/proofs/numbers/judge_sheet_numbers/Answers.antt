-- `judge::numbers::judge_sheet_numbers` meets its contract. Assumes nothing.
use Prim.Native.Nat.{◌*◌}
use Rattle.fold.specs.Sizes.{t_size}
use Rattle.judge.specs.Laws.StageLaws.{cut, matrix_stage_lem}
use Rattle.judge.proofs.numbers.judge_sheet_numbers.Goals as goal

pub returns : goal.returns
returns c =
    let s = c.args.s in
    matrix_stage_lem s _ _ _ _
    (cut c.a_matrix_length-a_matrix_length.ensures c.front.ensures c.rest-after_a_matrix.ensures)
    (cut {m = s.kappa1 * t_size s.shape.r s.kappa s.t1 * s.shape.d} c.b_matrix_length-b_matrix_length.ensures c.front-2.ensures c.rest-after_b_matrix.ensures)
    (cut c.c_matrix_length-c_matrix_length.ensures c.front-3.ensures c.rest-after_c_matrix.ensures)
    (cut c.d_matrix_length-d_matrix_length.ensures c.front-4.ensures c.rest-after_d_matrix.ensures)
    c.judge_constraints.ensures
