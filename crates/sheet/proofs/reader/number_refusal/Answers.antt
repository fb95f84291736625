-- `sheet::reader::number_refusal` meets its contract.
use Rattle.std.proofs.Common.{sym, ◌∙◌}
use Rattle.fold.specs.declared.answers.Refusal.TheVariants.{Challenge}
use Rattle.fold.specs.Rows.{row_of}
use Rattle.fold.specs.Laws.TestLaws.{passing, failing}
use Rattle.fold.specs.Laws.ResultLaws.{required, last_row}
use Rattle.sheet.specs.Reading.{number_tests}
use Rattle.sheet.proofs.reader.number_refusal.Goals as goal

pub returns-in_err-require : goal.returns-in_err-require
unfolding number_tests
returns-in_err-require c =
    required row_of _ c.from_residual.ensures.1 c.in_err-require.ensures.told
    (failing 8 _ (sym c.numbers_ok.ensures ∙ c.in_err-require.ensures.told.0))

pub returns-in_err-require-2 : goal.returns-in_err-require-2
unfolding number_tests
returns-in_err-require-2 c =
    required row_of _ c.from_residual-in_err-require-2.ensures.1 c.in_err-require-2.ensures.told
    (passing 8 _ (sym c.numbers_ok.ensures ∙ c.in_ok-require.ensures.told)
    (failing 9 _ (sym c.projections_ok.ensures ∙ c.in_err-require-2.ensures.told.0)))

pub challenges_ok-requires : goal.challenges_ok-requires
challenges_ok-requires c = record { inside = c.requires; text_value = sym c.numbers_ok.ensures ∙ c.in_ok-require.ensures.told }

pub returns : goal.returns
unfolding number_tests
returns c =
    passing 8 _ (sym c.numbers_ok.ensures ∙ c.in_ok-require.ensures.told)
    (passing 9 _ (sym c.projections_ok.ensures ∙ c.in_ok-require-2.ensures.told)
    (last_row row_of Challenge c.require-3.ensures.value c.challenges_ok.ensures))
