-- Laws of the header: its tests are those that the library makes of its sizes, since a number below zero fails each test that it stands in, and
-- so does the size that it is read as.
--     size-test, chunks_size       one test of one number, and of ν and μ
--     header-sizes                 all tests
--     header-passes, header-bounded     what a header that is not refused says of its sizes
use Rattle.std.specs.Prelude.{◌≡◌, Bool, true, false, List, ℕ, T, get_or, ℤ, pos, negsuc, nat_abs, is_some}
use Rattle.std.proofs.Math.Path.{refl}
use Rattle.std.proofs.Common.{sym, subst, ◌∙◌, arith, ltb-true}
use Rattle.std.specs.Int.Signed.{non_neg, lt_z}
use Rattle.fold.specs.Sizes.{z_count}
use Rattle.fold.specs.Arguments.{VerifySized}
use Rattle.fold.specs.Refusals.{any_of, between, degree, rank, parts, constraint_count, projection_count, commitment_rank, base, digit_count}
use Rattle.fold.specs.Refusals.{length_bound, chunks}
use Rattle.fold.specs.Laws.RefusalLaws.{Passes, passes_refusal}
use Rattle.limits.specs.Bounds.{next_bounds_of}
use Rattle.limits.specs.Laws.CountLaws.{many_ν, many_μ}
use Rattle.limits.specs.Known.StageLimits.{next-sized}
use Rattle.fields.specs.Place.{end_if}
use Rattle.fields.specs.Laws.PlaceLaws.{contradiction}
use Rattle.sheet.specs.Reading.{header_tests, size, sizes_of, sheet_sizes_of}

-- ---- a number as the reader forms its size

pub non_neg_sign : (x : ℤ) → lt_z x (pos 0) ≡ false → T (non_neg x)
non_neg_sign (pos n) e = tt
non_neg_sign (negsuc n) e = contradiction refl e

pub size-negative : (x : ℤ) → lt_z x (pos 0) ≡ true → 18446744073709551615 ≡ size x
unfolding size
size-negative (pos n) e = let never : ⊥ = omega (arith, ltb-true n 0 e) in absurd never
size-negative (negsuc n) e = refl

pub size-positive : (x : ℤ) → lt_z x (pos 0) ≡ false → nat_abs x ≡ size x
unfolding size
size-positive (pos n) e = refl
size-positive (negsuc n) e = contradiction refl e

-- ---- the tests

size-test : (test : ℤ → Bool) → ((n : ℕ) → test (negsuc n) ≡ false) → test (pos 18446744073709551615) ≡ false
    → (x : ℤ) → test (pos (size x)) ≡ test x
unfolding size
size-test test below past (pos n) = refl
size-test test below past (negsuc n) = past ∙ sym (below n)

degree-size : (x : ℤ) → degree (pos (size x)) ≡ degree x
unfolding degree any_of
degree-size = size-test degree (λ n. refl) refl

rank-size : (x : ℤ) → rank (pos (size x)) ≡ rank x
unfolding rank between
rank-size = size-test rank (λ n. refl) refl

parts-size : (x : ℤ) → parts (pos (size x)) ≡ parts x
unfolding parts between
parts-size = size-test parts (λ n. refl) refl

constraint_count-size : (x : ℤ) → constraint_count (pos (size x)) ≡ constraint_count x
unfolding constraint_count between
constraint_count-size = size-test constraint_count (λ n. refl) refl

projection_count-size : (x : ℤ) → projection_count (pos (size x)) ≡ projection_count x
unfolding projection_count between
projection_count-size = size-test projection_count (λ n. refl) refl

commitment_rank-size : (x : ℤ) → commitment_rank (pos (size x)) ≡ commitment_rank x
unfolding commitment_rank between
commitment_rank-size = size-test commitment_rank (λ n. refl) refl

base-size : (x : ℤ) → base (pos (size x)) ≡ base x
unfolding base between
base-size = size-test base (λ n. refl) refl

digit_count-size : (x : ℤ) → digit_count (pos (size x)) ≡ digit_count x
unfolding digit_count between
digit_count-size = size-test digit_count (λ n. refl) refl

length_bound-size : (x : ℤ) → length_bound (pos (size x)) ≡ length_bound x
unfolding length_bound between
length_bound-size = size-test length_bound (λ n. refl) refl

chunks_size : (ν μ : ℤ) → chunks z_count (pos (size ν)) (pos (size μ)) ≡ chunks z_count ν μ
unfolding chunks size
chunks_size (pos ν) (pos μ) = refl
chunks_size (pos ν) (negsuc μ) = sym (many_μ z_count ν 18446744073709551615 (omega arith))
chunks_size (negsuc ν) μ = sym (many_ν z_count 18446744073709551615 (size μ) (omega arith) (omega arith))

module _ (h : List ℤ) where
  at : ℕ → ℤ
  at k = get_or h k (pos 0)

  pub header-sizes : next_bounds_of z_count (sizes_of h) (sheet_sizes_of h).nu (sheet_sizes_of h).mu ≡ header_tests h
  unfolding header_tests sizes_of at
  header-sizes =
      rw (
        degree-size (at 0),
        rank-size (at 1),
        parts-size (at 2),
        constraint_count-size (at 3),
        constraint_count-size (at 4),
        projection_count-size (at 5),
        commitment_rank-size (at 6),
        commitment_rank-size (at 7),
        commitment_rank-size (at 8),
        base-size (at 9),
        base-size (at 10),
        base-size (at 11),
        digit_count-size (at 12),
        digit_count-size (at 13),
        chunks_size (at 14) (at 15),
        length_bound-size (at 16),
        length_bound-size (at 17),
      )
      refl

  -- ---- a header that is not refused

  module _ (p : Passes (header_tests h)) where
    pub header-passes : Passes (next_bounds_of z_count (sizes_of h) (sheet_sizes_of h).nu (sheet_sizes_of h).mu)
    header-passes = subst Passes (sym header-sizes) p

    pub header-bounded : VerifySized (sizes_of h)
    header-bounded = next-sized z_count (sizes_of h) (sheet_sizes_of h).nu (sheet_sizes_of h).mu refl (passes_refusal _ header-passes)

-- ---- the layout

pub has-end-is : (t : Bool) (at : ℕ) → is_some (end_if t at) ≡ t
has-end-is true at = refl
has-end-is false at = refl
