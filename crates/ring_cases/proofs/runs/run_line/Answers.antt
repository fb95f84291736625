-- `ring_cases::runs::run_line` meets its contract. Assumes nothing.
use Rattle.std.proofs.Common.{◌≡◌, List, ℕ, ℤ, pos, get_or, ap, ◌∙◌, length}
use Rattle.std.proofs.lemmas.List.{length-map}
use Rattle.integers.specs.Laws.ListLaws.{length-tab}
use Rattle.cases.specs.Numbers.{padded, word}
use Rattle.ring_cases.specs.Results.{line_results}
use Rattle.ring_cases.proofs.runs.run_line.Goals as goal

padded-length : (n : ℕ) (xs : List ℤ) → length (padded n xs) ≡ n
unfolding padded
padded-length n xs = length-tab n (λ i. get_or xs i (pos 0))

pub run-requires : goal.run-requires
run-requires c =
    (ap (λ (l : List ℤ). length l) c.numbers_of.ensures.words ∙ length-map (padded 2048 _) word ∙ padded-length 2048 _, c.requires)

pub returns : goal.returns
unfolding line_results
returns c = rw (← c.numbers_of.ensures.words, ← c.numbers_of.ensures.wides, ← c.size-operation.ensures) c.run.ensures
