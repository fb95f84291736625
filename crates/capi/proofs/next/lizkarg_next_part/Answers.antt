-- `capi::next::lizkarg_next_part` meets its contract: the library's place.
use borrow.Author.Rules.{rules}
use Rattle.capi.proofs.next.lizkarg_next_part.Goals as goal

pub returns : goal.returns
returns c = rw c.from-given.ensures at c.next_place-place.ensures
