-- crates/verdict/proofs/read_more/Answers.antt
-- The place after a read is not before the read's own and not past the end, and the text has what was read from the place on.
use Rattle.std.proofs.Common.{length, to_z-of_z, w64}
use Rattle.verdict.specs.Laws.ReadLaws.{place-between}
use Rattle.verdict.proofs.KnownReads.{took_put}
use Rattle.verdict.proofs.read_more.Goals as goal

pub returns-clause-lower_bound : goal.returns-clause-lower_bound
returns-clause-lower_bound g c =
    rw c.after.ensures (place-between _ c.args.from (length c.args.text.now) c.requires)

pub returns-clause-bytes : goal.returns-clause-bytes
returns-clause-bytes g c =
    let place = rw (to_z-of_z {w = w64} {z = c.read_once-got.result} (record { sfits = c.read_once-got.type_inv })) at c.after.ensures in
    took_put (g.R.Read.remaining c.args.input.now) (g.R.Read.remaining c.read_once-got.new.input) c.after.result c.read_once-got.result c.args.from
    c.args.text.now c.read_once-got.new.part c.requires place c.read_once-got.auto.part c.read_once-got.ensures.bytes
