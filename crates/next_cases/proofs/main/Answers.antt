-- crates/next_cases/proofs/main/Answers.antt
-- The text has room for so many bytes.
use Rattle.std.proofs.Common.{ℕ}
use Rattle.cases.specs.Laws.TextLaws.{filled}
use Rattle.next_cases.proofs.main.Goals as goal

pub slice_bounds-run_text-end : goal.slice_bounds-run_text-end
slice_bounds-run_text-end c = filled ℕ 2097152 0
