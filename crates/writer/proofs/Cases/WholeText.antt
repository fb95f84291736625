-- The whole case of SPECIFICATION 12.4 written: its text has 1345 bytes, and row 13's example is one byte less; one of its lines byte by byte.
use Rattle.std.specs.Prelude.{◌≡◌, refl, ◌↔◌, List, [], ◌∷◌, ◌++◌, ℕ, ◌≤◌, ◌<◌, length}
use Rattle.integers.specs.Literals.{+◌, -◌}
use Rattle.integers.specs.Flat.{flat}
use Rattle.algebra.specs.Triangle.{start, pairs-count}
use Rattle.fold.specs.Answers.{first_failing}
use Rattle.fold.specs.Refusals.{all_of, any_of, between, degree, rank, parts, constraint_count, projection_count, commitment_rank, base, digit_count}
use Rattle.fold.specs.Refusals.{chunks, length_bound}
use Rattle.fold.specs.Sizes.{pairs, function_size, t_size, garbage_size, rest_size, opening_size}
use Rattle.fields.specs.Field.{column_byte, minus_due, columns, signed_text, field_text}
use Rattle.fields.specs.Place.{blanks}
use Rattle.fields.specs.Sections.{matrix_count, whole_count, row_count, last_count}
use Rattle.sheet.specs.Reading.{header_tests, size, sizes_of, sheet_sizes_of}
use Rattle.sheet.specs.Layout.{line_text, SheetNumbers}
use Rattle.sheet.specs.Cases.WholeSheet.{header, numbers, whole_numbers, second}
use Rattle.writer.specs.WriteAnswer.{WriteAnswer}
use Rattle.writer.specs.WriteAnswer.{Length, Refused}
use Rattle.writer.specs.Writing.{header_words, header_fields, element_lines, text_bytes, sheet_bytes, SheetWritten}
use Rattle.writer.proofs.Theorems.WriterTheorems.{least_buffer}

whole_bytes : sheet_bytes (sheet_sizes_of header) ≡ 1345
unfolding sheet_bytes text_bytes element_lines header_fields header_words header_tests first_failing size sizes_of all_of any_of between degree rank parts
    constraint_count projection_count commitment_rank base digit_count chunks length_bound matrix_count whole_count row_count last_count
    pairs pairs-count start function_size t_size garbage_size rest_size opening_size
whole_bytes = refl

whole_sheet : SheetNumbers (header_fields (sheet_sizes_of header)) numbers
unfolding header_fields header_words size sizes_of
whole_sheet = whole_numbers

-- 1344 bytes are refused by 13, 1345 are taken
pub whole_buffer : {before after : List ℕ} {wrote : WriteAnswer} → SheetWritten (sheet_sizes_of header) numbers before wrote after
    → ((wrote ≡ Length 1345) ↔ (1345 ≤ length before)) × ((wrote ≡ Refused 13) ↔ (length before < 1345))
whole_buffer call = rw whole_bytes at (least_buffer call whole_sheet)

-- its line -3 4: fourteen blanks, a minus and 3, fifteen blanks, 4, a line feed
pub line_bytes : line_text (- 3 ∷ + 4 ∷ []) ≡ blanks 14 ++ (45 ∷ 51 ∷ (blanks 15 ++ (52 ∷ 10 ∷ [])))
unfolding line_text flat field_text signed_text columns column_byte minus_due blanks
line_bytes = refl

-- two constant-term constraints and a projection row: 99 lines of two fields and 18 of one; the second implementation gives the same
pub second_bytes : text_bytes second ≡ 3862
unfolding text_bytes element_lines matrix_count whole_count row_count last_count pairs pairs-count start function_size t_size garbage_size rest_size opening_size
second_bytes = refl
