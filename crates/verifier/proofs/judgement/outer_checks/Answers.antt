-- `verifier::judgement::outer_checks` meets its contract: check 3 fails, or check 4 says.
use Rattle.std.proofs.Common.{sym, ◌∙◌}
use Rattle.fold.specs.declared.answers.Check.TheVariants.{SecondOuter}
use Rattle.fold.specs.Rows.{check_number}
use Rattle.fold.specs.Laws.TestLaws.{passing, failing}
use Rattle.fold.specs.Laws.ResultLaws.{required, last_row}
use Rattle.verifier.proofs.judgement.outer_checks.Goals as goal

pub first_outer-three-requires : goal.first_outer-three-requires
first_outer-three-requires c = record { tz_bound = c.requires.tz_bound; first_outer_facts = c.requires.outer_facts.first }

pub returns-in_err-require : goal.returns-in_err-require
returns-in_err-require c =
    required check_number _ c.from_residual.ensures.1 c.in_err-require.ensures.told
    (failing 3 _ (sym c.first_outer-three.ensures ∙ c.in_err-require.ensures.told.0))

pub second_outer-four-requires : goal.second_outer-four-requires
second_outer-four-requires c = record { tz_bound = c.requires.tz_bound; second_outer_facts = c.requires.outer_facts.second }

pub returns : goal.returns
returns c =
    passing 3 _ (sym c.first_outer-three.ensures ∙ c.in_ok-require.ensures.told)
    (last_row check_number SecondOuter c.require-2.ensures.value c.second_outer-four.ensures)
