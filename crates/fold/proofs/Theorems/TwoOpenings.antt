-- Demand 3, two openings (SPECIFICATION 9.6): "For every two openings accepted for the same statement and the same u1, whatever else came with them,
-- and every part i such that their challenges c are equal at all other parts: if their t or g digits differ anywhere, the difference is a
-- nonzero vector that B and C together send to zero, of squared length at most 4 times the target bound; if these digits are all equal,
-- A(z - z') = (c_i - c'_i) t_i, and the squared length of z - z' is at most 4(1 + b²) times that bound, with one z digit at most 4 times it."
--     two_openings          for two z digits
--     one_digit_openings    for one
use Rattle.std.specs.Prelude.{◌≡◌, ◌≢◌, ℕ, ◌+◌, ◌*◌, ◌^◌, ◌<◌, ◌≤◌, length, get_or, ℤ, pos}
use Rattle.std.proofs.Math.Path.{sym, ap, ap₂}
use Rattle.std.proofs.Common.{◌∙◌, le_refl}
use mathlib.Core.List.{List}
use Rattle.std.proofs.Math.Nat.{mul-le-mul}
use native.Mathlib.Omega.{arith}
use Rattle.integers.specs.Sums.{total, norm_sq}
use Rattle.algebra.specs.CommRing.{sub}
use Rattle.algebra.specs.Laws.RingLaws.{sub_zero_iff}
use Rattle.algebra.specs.Laws.SumLaws.{sum_cong}
use Rattle.algebra.proofs.Laws.FoldLaws.{sum_one_differs}
use Rattle.ring.specs.Element.{R, el}
use Rattle.fold.specs.Answers.{kind_of}
use Rattle.fold.specs.Sizes.{t_size}
use Rattle.fold.specs.Messages.{elements, times, outer₁}
use Rattle.fold.specs.Statement.{Statement, Draws, Transcript}
use Rattle.fold.specs.Opening.{block, z_length, tg_length}
use Rattle.fold.specs.Verdict.{zᵒ, tᵒ}
use Rattle.fold.specs.Verification.{verification}
use Rattle.fold.specs.Differences.{difference, tg_digits}
use Rattle.fold.proofs.Laws.DifferenceLaws.{length-difference, difference-short, differ, difference-nonzero}
use Rattle.fold.proofs.Laws.VerificationLaws.{AcceptedOpening, accepted-opening}
use Rattle.fold.proofs.Laws.RecomposedLength.{one-weight, two-weights}
use Rattle.fold.proofs.Laws.OpeningDifferences.{length_tg, tg_small, outer-difference, times-sub, t_same, z-difference-short}

-- Parts are counted from 0. "B and C together send a difference to zero when B·(its t part) + C·(its g part) is zero."

-- v is "a nonzero vector that B and C together send to zero, of squared length at most 4 times the target bound"
module _ (𝓢 : Statement) where
  open 𝓢 use {relation, κ, κ₁, t₁, t₂, target, B, C}
  open relation use {d, r}

  pub record ShortKernel (v : List ℤ) : Type 0 where
    pub place : ℕ
    pub inside : place < length v
    pub nonzero : get_or v place (pos 0) ≢ pos 0
    pub to-zero : (k : ℕ) → k < κ₁ → outer₁ d r κ t₁ t₂ B C k (el d v) (block d v (t_size r κ t₁)) ≡ (R d).zero
    pub short : norm_sq v ≤ 4 * target

module _ (𝓢 : Statement) (𝓓 𝓓' : Draws) (𝓣 𝓣' : Transcript) (o o' : List ℤ) where
  open 𝓢 use {relation, tz, κ, b, target, A}
  open relation use {d, n, r}

  -- z - z'
  abbrev pub z-difference : ℕ → (R d).Carrier
  z-difference y = sub (R d) (zᵒ 𝓢 𝓓 𝓣 o y) (zᵒ 𝓢 𝓓' 𝓣' o' y)

  -- "A(z - z') = (c_i - c'_i) t_i", with the squared length of z - z' at most 4 times a factor times the target bound
  pub record ShortPreimage (i factor : ℕ) : Type 0 where
    pub image : (k : ℕ) → k < κ
        → times d n A k z-difference ≡ (R d).mul (sub (R d) (el d 𝓓.c i) (el d 𝓓'.c i)) (tᵒ 𝓢 𝓓 𝓣 o i k)
    pub short : norm_sq (elements d n z-difference) ≤ 4 * factor * target

  -- both are accepted, for the same statement
  module _ (accepted : kind_of (verification 𝓢 𝓓 𝓣 o) ≡ 0) (accepted' : kind_of (verification 𝓢 𝓓' 𝓣' o') ≡ 0) where
    one : AcceptedOpening 𝓢 𝓓 𝓣 o
    one = accepted-opening 𝓢 𝓓 𝓣 o accepted

    two : AcceptedOpening 𝓢 𝓓' 𝓣' o'
    two = accepted-opening 𝓢 𝓓' 𝓣' o' accepted'

    sizes : length (tg_digits 𝓢 o) ≡ length (tg_digits 𝓢 o')
    sizes = length_tg 𝓢 o one.sized ∙ sym (length_tg 𝓢 o' two.sized)

    -- "if their t or g digits differ anywhere": only here "the same u1" is used
    pub digits-differ : 𝓣.u₁ ≡ 𝓣'.u₁ → tg_digits 𝓢 o ≢ tg_digits 𝓢 o' → ShortKernel 𝓢 (difference (tg_digits 𝓢 o) (tg_digits 𝓢 o'))
    unfolding tg_digits tg_length
    digits-differ same-u₁ ne =
        let xs = tg_digits 𝓢 o in
        let ys = tg_digits 𝓢 o' in
        let apart = differ xs ys sizes ne in
        record {
          place = apart.place;
          inside = rw length-difference apart.below;
          nonzero =
              difference-nonzero xs ys apart.place apart.below
              (tg_small 𝓢 o one.sized one.small apart.place apart.below)
              (tg_small 𝓢 o' two.sized two.small apart.place (omega (arith, sizes, apart.below)))
              apart.apart;
          to-zero = λ k h.
              outer-difference 𝓢 o o' one.sized two.sized k
              ∙ (sub_zero_iff (R d) _ _).1
              (one.facts.first-outer k h ∙ ap (λ (u : List ℤ). el d u k) same-u₁ ∙ sym (two.facts.first-outer k h));
          short = omega (arith, difference-short xs ys sizes, one.facts.short, two.facts.short);
        }

    -- "if these digits are all equal", for any number of z digits
    pub digits_equal : tg_digits 𝓢 o ≡ tg_digits 𝓢 o' → (i : ℕ) → i < r
        → ((j : ℕ) → j < r → j ≢ i → el d 𝓓.c j ≡ el d 𝓓'.c j) → ShortPreimage i (total tz (λ e. b ^ (2 * e)))
    unfolding sub
    digits_equal e i h others =
        record {
          image = λ k l.
              times-sub d n A k (zᵒ 𝓢 𝓓 𝓣 o) (zᵒ 𝓢 𝓓' 𝓣' o')
              ∙ ap₂ (sub (R d)) (one.facts.amortized k l)
              (two.facts.amortized k l ∙ sum_cong (R d) r _ _ (λ j g. ap ((R d).mul (el d 𝓓'.c j)) (sym (t_same 𝓢 o o' e j k g l))))
              ∙ sum_one_differs (R d) r i (el d 𝓓.c) (el d 𝓓'.c) (λ j. tᵒ 𝓢 𝓓 𝓣 o j k) h others;
          short = omega (
            arith,
            z-difference-short 𝓢 o o' one.sized two.sized,
            mul-le-mul (le_refl (total tz (λ e. b ^ (2 * e)))) both,
          );
        }
      where
        both : 2 * z_length d n tz o + 2 * z_length d n tz o' ≤ 4 * target
        both = omega (arith, one.facts.short, two.facts.short)

    -- the whole of it, for two z digits: 1 + b² is the sum of the squares of their weights 1 and b
    pub two_openings : tz ≡ 2 → (i : ℕ) → i < r → ((j : ℕ) → j < r → j ≢ i → el d 𝓓.c j ≡ el d 𝓓'.c j)
        → (𝓣.u₁ ≡ 𝓣'.u₁ → tg_digits 𝓢 o ≢ tg_digits 𝓢 o' → ShortKernel 𝓢 (difference (tg_digits 𝓢 o) (tg_digits 𝓢 o')))
        × (tg_digits 𝓢 o ≡ tg_digits 𝓢 o' → ShortPreimage i (1 + b * b))
    two_openings digits i h others =
        let weights : total tz (λ e. b ^ (2 * e)) ≡ 1 + b * b = rw digits (two-weights b) in
        (digits-differ, λ e. rw weights at (digits_equal e i h others))

    -- and for one, whose weight is 1
    pub one_digit_openings : tz ≡ 1 → (i : ℕ) → i < r → ((j : ℕ) → j < r → j ≢ i → el d 𝓓.c j ≡ el d 𝓓'.c j)
        → (𝓣.u₁ ≡ 𝓣'.u₁ → tg_digits 𝓢 o ≢ tg_digits 𝓢 o' → ShortKernel 𝓢 (difference (tg_digits 𝓢 o) (tg_digits 𝓢 o')))
        × (tg_digits 𝓢 o ≡ tg_digits 𝓢 o' → ShortPreimage i 1)
    one_digit_openings digits i h others =
        let weight : total tz (λ e. b ^ (2 * e)) ≡ 1 = rw digits (one-weight b) in
        (digits-differ, λ e. rw weight at (digits_equal e i h others))
