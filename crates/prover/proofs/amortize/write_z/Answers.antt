-- `prover::amortize::write_z` meets its contract: z stands in the last place of the slice before it is split.
use Rattle.prover.specs.Laws.OutputLaws.{folded-digits}
use Rattle.prover.proofs.amortize.write_z.Goals as goal

pub returns : goal.returns
returns c =
    let a = c.args in
    let z = a.shape in
    folded-digits z.d z.n z.r a.tz a.b a.c.now a.witness.now a.out.now c.requires.tz_nonzero.0 c.requires.amortize_facts.zs-length
    c.write_folded.ensures c.split_digits.ensures
