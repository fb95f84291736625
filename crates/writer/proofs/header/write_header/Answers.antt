-- `writer::header::write_header` meets its contract.
use Rattle.writer.proofs.Laws.LineLaws.{header-start, header-room, header-step, header-done}
use Rattle.writer.proofs.header.write_header.Goals as goal

pub loop-k-init : goal.loop-k-init
loop-k-init c = header-start c.header_words-words.result _

pub write_laid-requires : goal.write_laid-requires
write_laid-requires c = header-room _ c.loop-k.invariant c.loop-k-test.true c.requires

pub loop-k-preserved : goal.loop-k-preserved
loop-k-preserved c = header-step _ c.loop-k.invariant c.loop-k-test.true c.requires c.write_laid.ensures

pub returns : goal.returns
returns c = header-done _ _ c.header_words-words.ensures c.loop-k.invariant c.loop-k-test.false
