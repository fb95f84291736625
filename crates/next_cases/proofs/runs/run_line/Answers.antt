-- `next_cases::runs::run_line` meets its contract. Assumes nothing.
use Rattle.std.proofs.Common.{List, map, ℤ, sym, ap, ◌∙◌}
use Rattle.cases.specs.Numbers.{word}
use Rattle.next_cases.specs.Laws.RunLaws.{line_run}
use Rattle.next_cases.proofs.runs.run_line.Goals as goal

pub returns : goal.returns
returns c =
    let wides = c.numbers_of.ensures.wides in
    let words = c.numbers_of.ensures.words ∙ ap (λ (l : List ℤ). map word l) (sym wides) in
    line_run c.args.line.now wides words c.size-number.ensures c.two_digits-kind.ensures c.one_digit-one_digit.ensures c.run_case.ensures
