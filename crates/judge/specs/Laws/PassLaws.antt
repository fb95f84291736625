-- The verifier refuses the numbers of a sheet as the reader does, and after it by row 15: rows 1 to 4 and 6 are tested by the header's numbers, row 7
-- holds by the sizes of the lists, and rows 8 to 10 are those of the other numbers.
--     same_refusal    where the reader takes the header, the verifier's number is that of the reader's rows 8 to 10, then of row 15
--     after-reading   so the numbers that the reader took are refused by row 15 or not at all
use Rattle.std.specs.Prelude.{◌≡◌, refl, false, List, ◌∷◌, ◌++◌, length, get_or, take, drop, ℤ}
use Rattle.std.proofs.Common.{sym, ◌∙◌, arith}
use Rattle.std.proofs.Math.Path.{ap}
use Rattle.std.proofs.Math.Bool.{Bool, true}
use Prim.Native.Nat.{ℕ, ◌<◌}
use Rattle.integers.specs.Lists.{tab, all}
use Rattle.residues.specs.Range.{coefficients}
use Rattle.ring.specs.Element.{every}
use Rattle.ring.specs.Laws.ElementEquality.{every_true}
use Rattle.fold.specs.Answers.{first_failing, test_of}
use Rattle.fold.specs.Refusals.{all_of, sized, ranges, verify_tests}
use Rattle.fold.specs.Laws.RefusalLaws.{Passes, ◌&◌, all_of_all, all_all_of, sized_iff}
use Rattle.fold.specs.Laws.TestLaws.{passes-rows, after-passes}
use Rattle.fold.specs.Sizes.{z_count}
use Rattle.limits.specs.Bounds.{next_bounds_of}
use Rattle.fold.specs.declared.Sizes.{Sizes}
use Rattle.sheet.specs.Lists.{list_lengths, list_at}
use Rattle.fields.specs.Sections.{total}
use Rattle.sheet.specs.Laws.ListLaws.{length-list, coefficients-list, list-coefficients, lengths-total}
use Rattle.sheet.specs.Laws.HeaderLaws.{header-passes}
use Rattle.sheet.specs.Reading.{header_tests, sizes_of, sheet_sizes_of, projections_in, challenges_in, number_tests}
use Rattle.judge.specs.Judging.{sheet_statement, sheet_draws, sheet_transcript, sheet_opening, wide_test}

module _ (s : Sizes) (xs : List ℤ) where
  module _ (count : length xs ≡ total s) where
    sized-list : (k : ℕ) → k < 17 → sized (list_at (list_lengths s) xs k) (get_or (list_lengths s) k 0) ≡ true
    unfolding list_lengths
    sized-list k h =
        (sized_iff (list_at (list_lengths s) xs k) (get_or (list_lengths s) k 0)).1
        (length-list (list_lengths s) xs k h (omega (arith, lengths-total s)))

-- a test that holds exactly when another does is the same
same_test : (s t : Bool) → (s ≡ true → t ≡ true) → (t ≡ true → s ≡ true) → s ≡ t
same_test true t to back = sym (to refl)
same_test false true to back = back refl
same_test false false to back = refl

module _ (h xs : List ℤ) (header : Passes (header_tests h)) (count : length xs ≡ total (sizes_of h)) where
  -- what the verifier tests of a sheet
  abbrev tests : List (ℕ × Bool)
  tests = verify_tests (sheet_statement (sizes_of h) xs) (sheet_draws (sizes_of h) xs) (sheet_transcript (sizes_of h) xs) (sheet_opening (sizes_of h) xs)

  -- rows 1 to 7 pass
  early : Passes (take 6 tests)
  unfolding verify_tests list_lengths
  early =
      let row = passes-rows (next_bounds_of z_count (sizes_of h) (sheet_sizes_of h).nu (sheet_sizes_of h).mu) (header-passes h header) in
      let size : (k : ℕ) → k < 17 → sized (list_at (list_lengths (sizes_of h)) xs k) (get_or (list_lengths (sizes_of h)) k 0) ≡ true =
      sized-list (sizes_of h) xs count in
      row 1
      & row 2
      & row 3
      & row 4
      & row 6
      & all_all_of _ (
      size 16 (omega arith)
      & size 6 (omega arith)
      & size 8 (omega arith)
      & size 11 (omega arith)
      & size 14 (omega arith)
      & size 0 (omega arith)
      & size 1 (omega arith)
      & size 2 (omega arith)
      & size 3 (omega arith)
      & size 4 (omega arith)
      & size 5 (omega arith)
      & size 7 (omega arith)
      & size 9 (omega arith)
      & size 10 (omega arith)
      & size 12 (omega arith)
      & size 13 (omega arith)
      & size 15 (omega arith)
      & tt)
      & tt

  within : (k : ℕ) → coefficients xs ≡ true → coefficients (list_at (list_lengths (sizes_of h)) xs k) ≡ true
  within k e = coefficients-list (list_lengths (sizes_of h)) xs k e

  -- row 8, list by list in the verifier's order, is row 8 of all numbers
  abbrev lists : List Bool
  lists =
      coefficients (sheet_opening (sizes_of h) xs)
      ∷ ranges (sheet_statement (sizes_of h) xs) (sheet_draws (sizes_of h) xs) (sheet_transcript (sizes_of h) xs)

  range_to : test_of 8 tests ≡ true → coefficients xs ≡ true
  unfolding verify_tests every all tab all_of list_lengths
  range_to e =
      let (o, (u₁, (p, (b'', (u₂, (A, (B, (C, (D, (whole, (constant_terms, (projections, (ψ, (ω, (α, (δ, (c, _))))))))))))))))) = all_of_all lists e in
      let test : ℕ → Bool = λ k. coefficients (list_at (list_lengths (sizes_of h)) xs k) in
      list-coefficients (list_lengths (sizes_of h)) xs (omega (arith, count, lengths-total (sizes_of h)))
      (every_true 17 test (all_all_of (tab 17 test) (A & B & C & D & whole & constant_terms & u₁ & projections & p & ψ & ω & b'' & α & δ & u₂ & c & o & tt)))

  range_back : coefficients xs ≡ true → test_of 8 tests ≡ true
  unfolding verify_tests
  range_back e =
      all_all_of lists (
      within 16 e
      & within 6 e
      & within 8 e
      & within 11 e
      & within 14 e
      & within 0 e
      & within 1 e
      & within 2 e
      & within 3 e
      & within 4 e
      & within 5 e
      & within 7 e
      & within 9 e
      & within 10 e
      & within 12 e
      & within 13 e
      & within 15 e
      & tt)

  same_range : test_of 8 tests ≡ coefficients xs
  same_range = same_test (test_of 8 tests) (coefficients xs) range_to range_back

  pub same_refusal : first_failing tests ≡ first_failing (number_tests (sizes_of h) xs ++ wide_test (sizes_of h) xs)
  unfolding verify_tests number_tests projections_in challenges_in
  same_refusal =
      after-passes (take 6 tests) (drop 6 tests) early
      ∙ ap (λ (t : Bool). first_failing ((8, t) ∷ (drop 1 (number_tests (sizes_of h) xs) ++ wide_test (sizes_of h) xs))) same_range

  pub after-reading : Passes (number_tests (sizes_of h) xs) → first_failing tests ≡ first_failing (wide_test (sizes_of h) xs)
  after-reading numbers = same_refusal ∙ after-passes (number_tests (sizes_of h) xs) _ numbers
