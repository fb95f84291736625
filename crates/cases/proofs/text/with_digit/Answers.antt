-- `cases::text::with_digit` meets its contract. Assumes nothing.
use Rattle.std.proofs.Common.{◌≤◌, arith, le-leb}
use Rattle.cases.specs.Laws.TextLaws.{digit-below, digit-above}
use Rattle.cases.specs.Text.{with_digit}
use Rattle.cases.proofs.text.with_digit.Goals as goal

pub returns-in-48-to-57 : goal.returns-in-48-to-57
unfolding with_digit
returns-in-48-to-57 c =
    let low : 48 ≤ c.args.byte = omega arith in
    let high : c.args.byte ≤ 57 = omega arith in
    rw (le-leb _ _ low, le-leb _ _ high) (omega arith)

pub returns-in_default : goal.returns-in_default
returns-in_default c = digit-below _ _ (omega arith)

pub returns-in_default-2 : goal.returns-in_default-2
returns-in_default-2 c = digit-above _ _ (omega arith)
