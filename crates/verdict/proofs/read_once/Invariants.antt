-- crates/verdict/proofs/read_once/Invariants.antt
-- No read changes how long the part is, and the interrupted ones take nothing.
use Rattle.std.proofs.Common.{◌≡◌, length}
use Rattle.std.specs.Io.KnownBytes.{Keeps}
use Rattle.verdict.proofs.read_once.Given as goal

abbrev pub invariant-loop : goal.invariant-loop
invariant-loop g l = (length l.part ≡ length l.fn.part) × Keeps (g.R.Read.remaining l.fn.input) (g.R.Read.remaining l.input)
