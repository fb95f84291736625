-- A name for the `unfolding` line of a closed case that opens all definitions of the fold and of the ring: see the ring's Computing.
use Rattle.ring.specs.Cases.Computing.{ring_computes}
use Rattle.fold.specs.Answers.{first_failing, judged}
use Rattle.fold.specs.Sizes.{pairs, function_size, t_size, garbage_size, rest_size, opening_size, ceiling, next_rank, next_parts, next_count}
use Rattle.fold.specs.Statement.{part, whole_at, whole_constant, term_at, term_constant}
use Rattle.fold.specs.Messages.{elements, times, garbage_digits, t, g, t_digits, g_digits, outer₁, u₁, p, b''}
use Rattle.fold.specs.Messages.{aggregate_constant, half, h, h_digits, outer₂, u₂, z, z_digits, opening}
use Rattle.fold.specs.Opening.{block, t_place, g_place, h_place, z_of, t_of, garbage_of, z_length, tg_length, h_length}
use Rattle.fold.specs.Verdict.{check₁, check₂, check₃, check₄, check₅, check₆, check₇, check₈, check₉, margin₉, verdict}
use Rattle.fold.specs.Refusals.{all_of, any_of, between, degree, rank, parts, constraint_count, projection_count, commitment_rank}
use Rattle.fold.specs.Refusals.{base, digit_count, chunks, length_bound, sized, challenges, low_narrow, narrow_digits}
use Rattle.fold.specs.Refusals.{whole_length, constant_terms_length, projection_length}
use Rattle.fold.specs.Refusals.{commit_tests, project_tests, aggregate_tests, garbage_tests, amortize_tests}
use Rattle.fold.specs.Refusals.{prover_tests, verify_tests, next_tests, part_tests, is_element, product_tests}
use Rattle.fold.specs.Chunks.{chunk, width, cut, cut_padded, padded, trimmed, unpadded}
use Rattle.fold.specs.NextInstance.{z_table, t_table, garbage_table, product, squares, constraint, next_whole}
use Rattle.fold.specs.Constraint.{φ', laid_out}

unfoldable pub sizes_compute : Unit {0}
unfolding pairs function_size t_size garbage_size rest_size opening_size ceiling next_rank next_parts next_count
sizes_compute = tt

unfoldable pub messages_compute : Unit {0}
unfolding part whole_at whole_constant term_at term_constant elements times garbage_digits t g t_digits g_digits outer₁ u₁ p b''
messages_compute = tt

unfoldable pub later-messages_compute : Unit {0}
unfolding messages_compute aggregate_constant half h h_digits outer₂ u₂ z z_digits opening
later-messages_compute = tt

unfoldable pub opening_computes : Unit {0}
unfolding block t_place g_place h_place z_of t_of garbage_of z_length tg_length h_length
opening_computes = tt

unfoldable pub verdict_computes : Unit {0}
unfolding opening_computes check₁ check₂ check₃ check₄ check₅ check₆ check₇ check₈ check₉ margin₉ verdict judged first_failing
verdict_computes = tt

unfoldable pub ranges_compute : Unit {0}
unfolding all_of any_of between degree rank parts constraint_count projection_count commitment_rank base digit_count chunks length_bound
ranges_compute = tt

unfoldable pub lengths_compute : Unit {0}
unfolding ranges_compute sized challenges low_narrow narrow_digits whole_length constant_terms_length projection_length first_failing
lengths_compute = tt

unfoldable pub refusals_compute : Unit {0}
unfolding lengths_compute commit_tests project_tests aggregate_tests garbage_tests amortize_tests prover_tests verify_tests next_tests part_tests is_element product_tests
refusals_compute = tt

unfoldable pub next_instance_computes : Unit {0}
unfolding chunk width cut cut_padded padded trimmed unpadded z_table t_table garbage_table product squares constraint φ' laid_out next_whole
next_instance_computes = tt

unfoldable pub fold_computes : Unit {0}
unfolding ring_computes sizes_compute later-messages_compute verdict_computes refusals_compute next_instance_computes
fold_computes = tt
