-- `capi::write::lizkarg_sheet_bytes` meets its contract: the library call's.
use borrow.Author.Rules.{rules}
use Rattle.capi.proofs.write.lizkarg_sheet_bytes.Goals as goal

pub returns : goal.returns
returns c = rw c.from-given.ensures at c.sheet_bytes.ensures
