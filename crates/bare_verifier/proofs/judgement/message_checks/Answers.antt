-- `bare_verifier::judgement::message_checks` meets its contract: check 1 fails, or check 2 says.
use Rattle.std.proofs.Common.{sym, ◌∙◌}
use Rattle.fold.specs.Laws.TestLaws.{passing, failing}
use Rattle.fold.specs.Laws.ResultLaws.{required, last_row}
use Rattle.bare.specs.declared.BareCheck.TheVariants.{ConstantTerms}
use Rattle.bare.specs.Checks.{bare_check_number}
use Rattle.bare_verifier.proofs.judgement.message_checks.Goals as goal

pub short_projection-one-requires : goal.short_projection-one-requires
short_projection-one-requires c = (c.requires.w-small, c.requires.bound-small)

pub returns-in_err-require : goal.returns-in_err-require
returns-in_err-require c =
    required bare_check_number _ c.from_residual.ensures.1 c.in_err-require.ensures.told
    (failing 1 _ (sym c.short_projection-one.ensures ∙ c.in_err-require.ensures.told.0))

pub constant_terms_hold-two-requires : goal.constant_terms_hold-two-requires
constant_terms_hold-two-requires c = c.requires.constant_term

pub returns : goal.returns
returns c =
    passing 1 _ (sym c.short_projection-one.ensures ∙ c.in_ok-require.ensures.told)
    (last_row bare_check_number ConstantTerms c.require-2.ensures.value c.constant_terms_hold-two.ensures)
