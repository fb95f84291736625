-- crates/verdict/proofs/read_text/Answers.antt
-- The next read goes on where the ones before it ended.
use Rattle.std.proofs.Common.{◌<◌, length, arith, rules}
use Rattle.verdict.proofs.KnownReads.{took_more}
use Rattle.verdict.proofs.read_text.Goals as goal

pub loop-done-preserved : goal.loop-done-preserved
loop-done-preserved g c =
    let before : c.loop-done.done < length c.loop-done.text = omega arith in
    record {
      within = omega arith;
      same_length = search rules;
      taken = λ h. took_more _ _ _ c.loop-done.text _ c.loop-done.done _ c.read_more-next.ensures.lower_bound.0 c.read_more-next.ensures.text_unchanged
          (c.loop-done.invariant.taken before) (c.read_more-next.ensures.bytes before (omega arith));
    }
