-- `bare_verifier::judgement::folded_checks` meets its contract: check 3 fails, or check 4 says.
use Rattle.std.proofs.Common.{sym, ◌∙◌}
use Rattle.fold.specs.Laws.TestLaws.{passing, failing}
use Rattle.fold.specs.Laws.ResultLaws.{required, last_row}
use Rattle.bare.specs.declared.BareCheck.TheVariants.{GarbageOfZ}
use Rattle.bare.specs.Checks.{bare_check_number}
use Rattle.bare_verifier.proofs.judgement.folded_checks.Goals as goal

pub amortized-three-requires : goal.amortized-three-requires
amortized-three-requires c = c.requires

pub returns-in_err-require : goal.returns-in_err-require
returns-in_err-require c =
    required bare_check_number _ c.from_residual.ensures.1 c.in_err-require.ensures.told
    (failing 3 _ (sym c.amortized-three.ensures ∙ c.in_err-require.ensures.told.0))

pub z_garbage-four-requires : goal.z_garbage-four-requires
z_garbage-four-requires c = c.requires.opened

pub returns : goal.returns
returns c =
    passing 3 _ (sym c.amortized-three.ensures ∙ c.in_ok-require.ensures.told)
    (last_row bare_check_number GarbageOfZ c.require-2.ensures.value c.z_garbage-four.ensures)
