-- `cases::text::scan` meets its contract. Assumes nothing.
use Rattle.std.proofs.Common.{◌∙◌, arith, to_z-of_z}
use Rattle.std.specs.Int.{w64}
use Rattle.cases.specs.Laws.TextLaws.{scan_start, scan_digit, scan_blank, scan_full, scan_end}
use Rattle.cases.proofs.text.scan.Goals.{then-byte-gt32, else-byte-gt32+else-numbers-count}
use Rattle.cases.proofs.text.scan.Goals as goal

pub loop-byte-init : goal.loop-byte-init
loop-byte-init c = scan_start c.args.line.now _ c.args.numbers.now c.requires

pub with_digit-magnitude-requires : goal.with_digit-magnitude-requires
with_digit-magnitude-requires c = c.loop-byte.invariant.small

pub returns-then-numbers-count : goal.returns-then-numbers-count
returns-then-numbers-count c = scan_full c.loop-byte.invariant (omega arith)

pub with_sign-requires : goal.with_sign-requires
with_sign-requires c = c.loop-byte.invariant.small

pub loop-byte-preserved : goal.loop-byte-preserved
loop-byte-preserved c =
    elim c.if-byte-gt32.branch [
      | then-byte-gt32 w ↦
          rw (w.numbers-is, w.minus-is, w.magnitude-is, w.count-is, w.with_digit-magnitude.ensures)
          (scan_digit c.loop-byte.invariant c.loop-byte-test.true w.if-byte-gt32.true)
      | else-byte-gt32+else-numbers-count w ↦
          let number = to_z-of_z {w = w64} (record { sfits = w.with_sign.type_inv }) ∙ w.with_sign.ensures in
          rw (w.numbers-is, w.minus-is, w.magnitude-is, w.count-is)
          (scan_blank c.loop-byte.invariant c.loop-byte-test.true w.if-byte-gt32.false (omega arith) number)
    ]

pub returns : goal.returns
returns c = scan_end c.loop-byte.invariant (omega arith)
