-- `cases::text::line_length` meets its contract. Assumes nothing.
use Rattle.std.proofs.Common.{◌≡◌, ◌+◌, length, drop, subst, arith}
use Rattle.cases.specs.Text.{line_length}
use Rattle.cases.specs.Laws.TextLaws.{line-start, line_other, line-feed, line-all}
use Rattle.cases.proofs.text.line_length.Goals as goal

pub loop-i-init : goal.loop-i-init
loop-i-init c = line-start c.args.text.now

pub returns-then-byte-eq10 : goal.returns-then-byte-eq10
returns-then-byte-eq10 c = line-feed c.args.text.now c.loop-i.i c.loop-i.invariant (omega arith) c.if-byte-eq10.true

pub loop-i-preserved : goal.loop-i-preserved
loop-i-preserved c = line_other c.args.text.now c.loop-i.i c.loop-i.invariant (omega arith) c.if-byte-eq10.false

pub returns : goal.returns
returns c = line-all c.args.text.now (length c.args.text.now) (subst (λ i. line_length c.args.text.now ≡ i + line_length (drop i c.args.text.now)) (omega arith) c.loop-i.invariant) (omega arith)
