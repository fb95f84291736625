-- `judge::numbers::judge_last` meets its contract. Assumes nothing.
use Prim.Native.Nat.{◌*◌}
use Rattle.fold.specs.Sizes.{z_count, opening_size}
use Rattle.judge.specs.Laws.StageLaws.{cut, cut-last, last_stage_lem}
use Rattle.judge.proofs.numbers.judge_last.Goals as goal

pub returns : goal.returns
returns c =
    let x = c.args in
    let s = x.s in
    last_stage_lem s x.a_matrix.now x.b_matrix.now x.c_matrix.now x.d_matrix.now x.whole.now x.constant_terms.now x.u1.now x.projections.now
    x.p.now x.psi.now x.omega.now x.second_b.now
    (cut c.list_length-alpha_length.ensures c.front.ensures c.rest-after_alpha.ensures)
    (cut c.list_length-delta_length.ensures c.front-2.ensures c.rest-after_delta.ensures)
    (cut c.list_length-u2_length.ensures c.front-3.ensures c.rest-after_u2.ensures)
    (cut c.list_length-c_length.ensures c.front-4.ensures c.rest-after_c.ensures)
    (cut-last {m = opening_size z_count s.shape.n s.shape.r s.kappa s.t1 s.t2 * s.shape.d} _ c.opening_length-opening_length.ensures c.front-5.ensures)
    (rw c.in_two_digits-sizes.ensures at c.verify.ensures)
