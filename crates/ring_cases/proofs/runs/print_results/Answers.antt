-- `ring_cases::runs::print_results` meets its contract. Assumes nothing.
use mathlib.Core.Path.{sym, ◌∙◌}
use lib.Seq.{length-take-le}
use Rattle.ring_cases.specs.Laws.ResultLaws.{results_fit}
use Rattle.ring_cases.proofs.runs.print_results.Goals as goal

pub slice_bounds-out-end : goal.slice_bounds-out-end
slice_bounds-out-end c = results_fit c.run_line-count.ensures

pub slice_bounds-print_words-end : goal.slice_bounds-print_words-end
slice_bounds-print_words-end c = sym (length-take-le _ _ (results_fit c.run_line-count.ensures))

pub returns : goal.returns
returns c =
    let ran = c.run_line-count in
    c.print_words.ensures ∙ length-take-le _ _ (results_fit ran.ensures) ∙ ran.ensures.count-is
