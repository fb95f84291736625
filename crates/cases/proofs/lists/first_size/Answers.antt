use Rattle.std.proofs.Common.{rules}
use Rattle.cases.specs.Lists.{first_size}
use Rattle.cases.proofs.lists.first_size.Goals as goal

pub returns : goal.returns
unfolding first_size
returns c = search rules
