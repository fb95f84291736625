-- The whole case of SPECIFICATION 12.4 as a text: "The program of verdicts prints 0 0 in its two fields; with 20 in place of 13 it prints 0 7." With a
-- wide low digit that leaves z as it is, it prints 2 15.
use Rattle.std.specs.Prelude.{◌≡◌, refl, true, false, [], ◌∷◌, length}
use Rattle.std.proofs.Common.{ap, ◌∙◌, arith}
use Rattle.integers.specs.Flat.{flat}
use Rattle.integers.specs.Literals.{+◌}
use Rattle.algebra.specs.Triangle.{start, pairs-count}
use Rattle.fold.specs.Answers.{Accepted}
use Rattle.fold.specs.Answers.{Judged, Refused}
use Rattle.fold.specs.Sizes.{pairs, function_size, t_size, garbage_size, rest_size, opening_size}
use Rattle.fold.specs.Refusals.{whole_length, constant_terms_length, projection_length}
use Rattle.fold_values.specs.Cases.WholeCase.{whole-case}
use Rattle.sheet.specs.Reading.{size, sizes_of}
use Rattle.fields.specs.Field.{field_text, signed_text, columns, column_byte, minus_due}
use Rattle.sheet.specs.Layout.{copies, elements, matrix_lines, whole_lines, term_lines, row_lines, number_lines, last_lines, body_lines}
use Rattle.sheet.specs.Layout.{line_text, text_of, sheet_text}
use Rattle.sheet.specs.Cases.WholeSheet.{header_with, header, numbers, wide_numbers, whole_numbers, whole_numbers_20, wide-numbers}
use Rattle.sheet.specs.Lists.{list_lengths, list_at}
use Rattle.judge.specs.Judging.{sheet_narrow, judged_text, verdict_line}
use Rattle.judge.specs.Theorems.JudgeTheorem.{sheet_verdict, sheet_judged, sheet_wide}

-- the lists of the sheet are those of the case
whole-verdict : (sheet_verdict (sizes_of header) numbers ≡ Accepted 0) × (sheet_verdict (sizes_of (header_with 20)) numbers ≡ Accepted 7)
unfolding size sizes_of list_at list_lengths pairs pairs-count start function_size t_size garbage_size rest_size opening_size
    whole_length constant_terms_length projection_length
whole-verdict = (whole-case.accepted, whole-case.accepted_20)

whole-narrow : (sheet_narrow (sizes_of header) numbers ≡ true) × (sheet_narrow (sizes_of (header_with 20)) numbers ≡ true)
    × (sheet_narrow (sizes_of (header_with 46)) wide_numbers ≡ false)
unfolding size sizes_of list_at list_lengths pairs pairs-count start function_size t_size garbage_size rest_size opening_size
    whole_length constant_terms_length projection_length
whole-narrow = (whole-case.digits-narrow, whole-case.digits-narrow, whole-case.digits-wide)

whole_length_lem : (length (sheet_text header numbers) ≡ 1345) × (length (sheet_text (header_with 20) numbers) ≡ 1345)
    × (length (sheet_text (header_with 46) wide_numbers) ≡ 1345)
unfolding sheet_text body_lines matrix_lines whole_lines term_lines row_lines number_lines last_lines elements copies text_of line_text flat
    field_text signed_text columns column_byte minus_due size sizes_of pairs pairs-count start t_size garbage_size rest_size opening_size
whole_length_lem = (refl, refl, refl)

pub whole-judged : judged_text (sheet_text header numbers) ≡ Judged (Accepted 0)
whole-judged = sheet_judged header numbers whole_numbers (omega (arith, whole_length_lem.0)) whole-narrow.0 ∙ ap Judged whole-verdict.0

pub whole_judged_20 : judged_text (sheet_text (header_with 20) numbers) ≡ Judged (Accepted 7)
whole_judged_20 = sheet_judged (header_with 20) numbers whole_numbers_20 (omega (arith, whole_length_lem.1)) whole-narrow.1 ∙ ap Judged whole-verdict.1

pub wide-judged : judged_text (sheet_text (header_with 46) wide_numbers) ≡ Refused 15
wide-judged = sheet_wide (header_with 46) wide_numbers wide-numbers (omega (arith, whole_length_lem.2)) whole-narrow.2

-- two fields of 0; 0 and 7; 2 and 15
pub whole-line : verdict_line (judged_text (sheet_text header numbers)) ≡ line_text (+ 0 ∷ + 0 ∷ [])
unfolding verdict_line
whole-line = rw whole-judged refl

pub whole_line_20 : verdict_line (judged_text (sheet_text (header_with 20) numbers)) ≡ line_text (+ 0 ∷ + 7 ∷ [])
unfolding verdict_line
whole_line_20 = rw whole_judged_20 refl

pub wide-line : verdict_line (judged_text (sheet_text (header_with 46) wide_numbers)) ≡ line_text (+ 2 ∷ + 15 ∷ [])
unfolding verdict_line
wide-line = rw wide-judged refl
