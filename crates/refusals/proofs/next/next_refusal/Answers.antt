-- `refusals::next::next_refusal` meets its contract: the sizes, then row 7, then the rows after it.
use Rattle.std.proofs.Common.{refl, sym, ap, ◌∙◌}
use Rattle.fold.specs.declared.answers.Refusal.TheVariants.{NextRank}
use Rattle.fold.specs.Rows.{row_of}
use Rattle.fold.specs.Refusals.{next_tests}
use Rattle.fold.specs.Laws.TestLaws.{passing, failing}
use Rattle.fold.specs.Laws.ResultLaws.{stopped, row_fails, row_holds, handed_on, required, last_row}
use Rattle.std.specs.Prelude.{leb}
use Rattle.fold.specs.Limits.{most_rank}
use Rattle.fold.specs.Laws.RefusalLaws.{sized-length}
use Rattle.limits.specs.Bounds.{next_bounds_of}
use Rattle.limits.specs.Laws.StageLaws.{append-rows}
use Rattle.refusals.specs.Laws.FitLaws.{fitting-last}
use Rattle.limits.specs.Known.StageLimits.{next-sized, next-cut, next-cut-sizes}
use Rattle.limits.specs.Laws.RowLaws.{end, ◌&◌, joined-row}
use Rattle.refusals.proofs.next.next_refusal.Goals as goal

pub returns-in_err-next_bounds : goal.returns-in_err-next_bounds
unfolding next_tests
returns-in_err-next_bounds c =
    let a = c.args in handed_on row_of _ _ c.from_residual.ensures.1 (stopped (next_bounds_of a.tz a.sizes a.nu a.mu) _ _ c.in_err-next_bounds.ensures)

pub next_bounds-requires : goal.next_bounds-requires
next_bounds-requires c = c.requires

pub rank_of-rank-requires : goal.rank_of-rank-requires
rank_of-rank-requires c =
    let a = c.args in record { verify_sized = next-sized a.tz a.sizes a.nu a.mu c.in_ok-next_bounds.ensures refl; cut_sizes = next-cut-sizes a.tz a.sizes a.nu a.mu c.in_ok-next_bounds.ensures refl c.requires.0 }

pub out_fits-requires : goal.out_fits-requires
out_fits-requires c =
    let a = c.args in
    record { tz_nonzero = c.requires.0; verify_sized = next-sized a.tz a.sizes a.nu a.mu c.in_ok-next_bounds.ensures refl; chunk_limits = next-cut a.tz a.sizes a.nu a.mu c.in_ok-next_bounds.ensures refl; rank_value = c.rank_of-rank.ensures }

pub message_lengths-requires : goal.message_lengths-requires
message_lengths-requires c = let a = c.args in next-sized a.tz a.sizes a.nu a.mu c.in_ok-next_bounds.ensures refl

pub matrix_lengths-requires : goal.matrix_lengths-requires
matrix_lengths-requires c = let a = c.args in next-sized a.tz a.sizes a.nu a.mu c.in_ok-next_bounds.ensures refl

pub draw_lengths-requires : goal.draw_lengths-requires
draw_lengths-requires c = let a = c.args in next-sized a.tz a.sizes a.nu a.mu c.in_ok-next_bounds.ensures refl

pub constraint_ranges-requires : goal.constraint_ranges-requires
constraint_ranges-requires c = c.are_projection_entries-entries.ensures

pub challenges-rule-requires : goal.challenges-rule-requires
challenges-rule-requires c = sized-length _ _ (fitting-last _ (append-rows _ _ (append-rows _ _ (append-rows _ _ (joined-row (c.out_fits.ensures & end)) c.message_lengths.ensures)
    c.matrix_lengths.ensures) c.draw_lengths.ensures) c.in_ok-require.ensures.told)

pub returns-in_err-require : goal.returns-in_err-require
unfolding next_tests
returns-in_err-require c =
    let a = c.args in
    required row_of _ c.from_residual-in_err-require.ensures.1 c.in_err-require.ensures.told
    (row_fails (next_bounds_of a.tz a.sizes a.nu a.mu) 7 _ refl c.in_ok-next_bounds.ensures (append-rows _ _ (append-rows _ _ (append-rows _ _ (joined-row (c.out_fits.ensures & end)) c.message_lengths.ensures)
    c.matrix_lengths.ensures) c.draw_lengths.ensures) c.in_err-require.ensures.told.0)

pub returns-in_err-require-2 : goal.returns-in_err-require-2
unfolding next_tests
returns-in_err-require-2 c =
    let a = c.args in
    required row_of _ c.from_residual-in_err-require-2.ensures.1 c.in_err-require-2.ensures.told
    (row_holds (next_bounds_of a.tz a.sizes a.nu a.mu) 7 _ refl c.in_ok-next_bounds.ensures (append-rows _ _ (append-rows _ _ (append-rows _ _ (joined-row (c.out_fits.ensures & end)) c.message_lengths.ensures)
    c.matrix_lengths.ensures) c.draw_lengths.ensures) c.in_ok-require.ensures.told
    (failing 8 _ (sym (append-rows _ _ (append-rows _ _ c.message_ranges.ensures c.constraint_ranges.ensures) (joined-row (c.are_coefficients.ensures & end))) ∙ c.in_err-require-2.ensures.told.0)))

pub returns-in_err-require-3 : goal.returns-in_err-require-3
unfolding next_tests
returns-in_err-require-3 c =
    let a = c.args in
    required row_of _ c.from_residual-in_err-require-3.ensures.1 c.in_err-require-3.ensures.told
    (row_holds (next_bounds_of a.tz a.sizes a.nu a.mu) 7 _ refl c.in_ok-next_bounds.ensures (append-rows _ _ (append-rows _ _ (append-rows _ _ (joined-row (c.out_fits.ensures & end)) c.message_lengths.ensures)
    c.matrix_lengths.ensures) c.draw_lengths.ensures) c.in_ok-require.ensures.told
    (passing 8 _ (sym (append-rows _ _ (append-rows _ _ c.message_ranges.ensures c.constraint_ranges.ensures) (joined-row (c.are_coefficients.ensures & end))) ∙ c.in_ok-require-2.ensures.told) (failing 9 _ (sym c.are_projection_entries-entries.ensures ∙ c.in_err-require-3.ensures.told.0))))

pub returns-in_err-require-4 : goal.returns-in_err-require-4
unfolding next_tests
returns-in_err-require-4 c =
    let a = c.args in
    required row_of _ c.from_residual-in_err-require-4.ensures.1 c.in_err-require-4.ensures.told
    (row_holds (next_bounds_of a.tz a.sizes a.nu a.mu) 7 _ refl c.in_ok-next_bounds.ensures (append-rows _ _ (append-rows _ _ (append-rows _ _ (joined-row (c.out_fits.ensures & end)) c.message_lengths.ensures)
    c.matrix_lengths.ensures) c.draw_lengths.ensures) c.in_ok-require.ensures.told
    (passing 8 _ (sym (append-rows _ _ (append-rows _ _ c.message_ranges.ensures c.constraint_ranges.ensures) (joined-row (c.are_coefficients.ensures & end))) ∙ c.in_ok-require-2.ensures.told) (passing 9 _ (sym c.are_projection_entries-entries.ensures ∙ c.in_ok-require-3.ensures.told) (failing 10 _ (sym c.challenges-rule.ensures ∙ c.in_err-require-4.ensures.told.0)))))

pub returns : goal.returns
unfolding next_tests
returns c =
    let a = c.args in
    row_holds (next_bounds_of a.tz a.sizes a.nu a.mu) 7 _ refl c.in_ok-next_bounds.ensures (append-rows _ _ (append-rows _ _ (append-rows _ _ (joined-row (c.out_fits.ensures & end)) c.message_lengths.ensures)
    c.matrix_lengths.ensures) c.draw_lengths.ensures) c.in_ok-require.ensures.told
    (passing 8 _ (sym (append-rows _ _ (append-rows _ _ c.message_ranges.ensures c.constraint_ranges.ensures) (joined-row (c.are_coefficients.ensures & end))) ∙ c.in_ok-require-2.ensures.told)
    (passing 9 _ (sym c.are_projection_entries-entries.ensures ∙ c.in_ok-require-3.ensures.told)
    (passing 10 _ (sym c.challenges-rule.ensures ∙ c.in_ok-require-4.ensures.told)
    (last_row row_of NextRank c.require-5.ensures.value ((c.rank_fits.ensures ∙ ap (λ x. leb x most_rank) c.rank_of-rank.ensures))))))
