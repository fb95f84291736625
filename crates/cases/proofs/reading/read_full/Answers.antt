-- crates/cases/proofs/reading/read_full/Answers.antt
-- The next read goes on where the ones before it ended.
use Rattle.std.proofs.Common.{rules}
use Rattle.cases.proofs.KnownReads.{taken_more}
use Rattle.cases.proofs.reading.read_full.Goals as goal

pub loop-done-preserved : goal.loop-done-preserved
loop-done-preserved g c =
    record {
      within = search rules;
      same_length = search rules;
      taken = taken_more (g.R.Read.remaining c.args.input.now) (g.R.Read.remaining c.loop-done.input) (g.R.Read.remaining c.read.new.self)
          c.loop-done.buffer c.read.new.buf c.loop-done.done c.in-Ok.count c.loop-done.invariant.within c.in-Ok.ensures.bound.0
          c.loop-done.invariant.taken c.in-Ok.ensures.bytes.0;
    }
