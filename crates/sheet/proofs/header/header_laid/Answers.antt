-- `sheet::header::header_laid` meets its contract.
use Rattle.std.proofs.Common.{ap, ◌∙◌, is_some}
use Rattle.sheet.specs.Reading.{header_laid}
use Rattle.sheet.specs.Laws.HeaderLaws.{has-end-is}
use Rattle.sheet.proofs.header.header_laid.Goals as goal

pub returns : goal.returns
unfolding header_laid
returns c = c.is_some.ensures ∙ ap is_some c.laid_end.ensures ∙ has-end-is _ _
