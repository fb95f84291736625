-- crates/verdict/proofs/read_text/Invariants.antt
-- What is read is inside the text, whose length stays. As long as no read failed it is what the input gave.
use Rattle.std.proofs.Common.{length, ◌-◌, ◌≡◌, ◌≤◌, ◌<◌, take}
use Rattle.std.specs.Io.KnownBytes.{Consumes}
use Rattle.verdict.proofs.read_text.Given as goal

abbrev pub invariant-loop-done : goal.invariant-loop-done
invariant-loop-done g l = record {
  within : l.done ≤ length l.text;
  same_length : length l.text ≡ length l.fn.text;
  taken : l.done < length l.text → Consumes (g.R.Read.remaining l.fn.input) (g.R.Read.remaining l.input) (take l.done l.text);
}

abbrev pub decreases-loop-done : goal.decreases-loop-done
decreases-loop-done g l = length l.initial.text - l.done
