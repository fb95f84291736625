-- `next_checks::spread::chunk_entry` meets its contract.
use Rattle.next_checks.specs.Laws.SpreadLaws.{entry-inside, entry_padding}
use Rattle.next_checks.proofs.spread.chunk_entry.Goals as goal

pub returns-then-k-size : goal.returns-then-k-size
returns-then-k-size c =
    let a = c.args in
    entry-inside a.d a.xs.now a.from a.size a.k c.if-k-size.true c.from_slice.ensures

pub returns-else-k-size : goal.returns-else-k-size
returns-else-k-size c =
    let a = c.args in
    entry_padding a.d a.xs.now a.from a.size a.k c.if-k-size.false (c.additive_identity.ensures a.d)
