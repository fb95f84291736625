-- `cases::lines::run_all` meets its contract. Assumes nothing.
use Rattle.std.proofs.Common.{of_calls, rules, refl, ◌<◌, length, add-one, arith}
use Rattle.cases.specs.Text.{past_line, past_lines}
use Rattle.cases.specs.Laws.TextLaws.{line-inside, line-some}
use Rattle.cases.proofs.lines.run_all.Goals as goal

pub loop-rest-init : goal.loop-rest-init
unfolding past_lines
loop-rest-init g c = record { callable = search rules; is = refl; counted = omega arith }

pub split_at-requires : goal.split_at-requires
split_at-requires g c = omega (arith, c.line_length.ensures, line-inside c.loop-rest.rest.now)

pub loop-rest-smaller : goal.loop-rest-smaller
loop-rest-smaller g c =
    let some : 0 < length c.loop-rest.rest.now = search rules in
    omega (arith, c.split_at.ensures.back_len, c.line_length.ensures, line-some c.loop-rest.rest.now some)

pub loop-rest-preserved : goal.loop-rest-preserved
unfolding past_lines past_line
loop-rest-preserved g c =
    let some : 0 < length c.loop-rest.rest.now = search rules in
    record {
      callable = search of_calls;
      is = rw (add-one c.loop-rest.count, ← c.loop-rest.invariant.is, ← c.line_length.ensures) c.split_at.ensures.back;
      counted = omega (arith, c.split_at.ensures.back_len, c.line_length.ensures, line-some c.loop-rest.rest.now some);
    }
