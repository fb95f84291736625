-- `next_cases::folds::run_fold` meets its contract: that of each call, one after another. Assumes nothing.
use mathlib.Core.Path.{◌∙◌}
use Rattle.next_cases.proofs.folds.run_fold.Goals as goal

pub shape_of-messages : goal.shape_of-messages
shape_of-messages c =
    c.amortize.auto.messages ∙ c.commit_garbage.auto.messages
    ∙ c.aggregate.auto.messages ∙ c.project.auto.messages
    ∙ c.commit.auto.messages

pub returns : goal.returns
returns c =
    record {
      code₁ = _;
      code₂ = _;
      code₃ = _;
      code₄ = _;
      code₅ = _;
      m₁ = _;
      m₂ = _;
      m₃ = _;
      m₄ = _;
      message₁ = c.commit.ensures;
      message₂ = c.project.ensures;
      message₃ = c.aggregate.ensures;
      message₄ = c.commit_garbage.ensures;
      message₅ = c.amortize.ensures;
      verdict-is = c.verify.ensures;
    }
