-- Two openings of the bare level (SPECIFICATION 14.10): "For every two bare openings accepted for the same statement and the same bound on z, with equal t,
-- whatever else came with them, and every part i such that their challenges are equal at all other parts: A(z - z') = (c_i - c'_i) t_i, and the squared
-- length of z - z' is at most 4 times the bound on z. Differences are taken modulo q and centred."
-- Parts are counted from 0. "equal t": the first r·κ elements of the openings are equal.
--     BareShortPreimage, bare_two_openings
use Rattle.std.specs.Prelude.{◌≡◌, ◌≢◌, List, ℕ, ◌*◌, ◌<◌, ◌≤◌, take, ℤ}
use Rattle.std.proofs.Common.{sym, ◌∙◌, arith}
use Rattle.std.proofs.Math.Path.{ap, ap₂}
use Rattle.integers.specs.Sums.{norm_sq}
use Rattle.algebra.specs.CommRing.{sub}
use Rattle.algebra.specs.Laws.SumLaws.{sum_cong}
use Rattle.algebra.proofs.Laws.FoldLaws.{sum_one_differs}
use Rattle.ring.specs.Element.{R, el}
use Rattle.fold.specs.Answers.{kind_of}
use Rattle.fold.specs.Statement.{Draws}
use Rattle.fold.specs.Messages.{elements, times}
use Rattle.fold.specs.Differences.{difference}
use Rattle.fold.proofs.Laws.OpeningDifferences.{times-sub}
use Rattle.bare.specs.Statement.{BareStatement, BareTranscript}
use Rattle.bare.specs.Opening.{t_at, z_at, z_numbers}
use Rattle.bare.specs.Arguments.{bare_verification}
use Rattle.bare.proofs.Laws.BareAccepted.{BareAcceptedOpening, bare_accepted-opening}
use Rattle.bare.proofs.Laws.BareDifferences.{t_same, z-difference-is, z-difference-short}

module _ (𝓢 : BareStatement) (𝓓 𝓓' : Draws) (o o' : List ℤ) where
  open 𝓢 use {relation, κ, z_bound, A}
  open relation use {d, n, r}

  -- z - z'
  abbrev pub z-difference : ℕ → (R d).Carrier
  z-difference y = sub (R d) (z_at d n r κ o y) (z_at d n r κ o' y)

  pub record BareShortPreimage (i : ℕ) : Type 0 where
    -- "A(z - z') = (c_i - c'_i) t_i"
    pub image : (k : ℕ) → k < κ
        → times d n A k z-difference ≡ (R d).mul (sub (R d) (el d 𝓓.c i) (el d 𝓓'.c i)) (t_at d n r κ o i k)
    -- "the squared length of z - z' is at most 4 times the bound on z"
    pub short : norm_sq (elements d n z-difference) ≤ 4 * z_bound
    -- "Differences are taken modulo q and centred": its coefficients are the differences of the numbers of z and z'
    pub centred : elements d n z-difference ≡ difference (z_numbers d n r κ o) (z_numbers d n r κ o')

  -- both are accepted, for the same statement and bound
  module _ (𝓣 𝓣' : BareTranscript) (accepted : kind_of (bare_verification 𝓢 𝓓 𝓣 o) ≡ 0) (accepted' : kind_of (bare_verification 𝓢 𝓓' 𝓣' o') ≡ 0) where
    one : BareAcceptedOpening 𝓢 𝓓 𝓣 o
    one = bare_accepted-opening 𝓢 𝓓 𝓣 o accepted

    two : BareAcceptedOpening 𝓢 𝓓' 𝓣' o'
    two = bare_accepted-opening 𝓢 𝓓' 𝓣' o' accepted'

    pub bare_two_openings : take (r * κ * d) o ≡ take (r * κ * d) o' → (i : ℕ) → i < r
        → ((j : ℕ) → j < r → j ≢ i → el d 𝓓.c j ≡ el d 𝓓'.c j) → BareShortPreimage i
    unfolding sub
    bare_two_openings e i h others =
        record {
          image = λ k l.
              times-sub d n A k (z_at d n r κ o) (z_at d n r κ o')
              ∙ ap₂ (sub (R d)) (one.facts.amortized k l)
              (two.facts.amortized k l ∙ sum_cong (R d) r _ _ (λ j g. ap ((R d).mul (el d 𝓓'.c j)) (sym (t_same d n r κ o o' e j k g l))))
              ∙ sum_one_differs (R d) r i (el d 𝓓.c) (el d 𝓓'.c) (λ j. t_at d n r κ o j k) h others;
          short = omega (arith, z-difference-short d n r κ o o' one.sized two.sized, one.facts.short, two.facts.short);
          centred = z-difference-is d n r κ o o' one.sized two.sized;
        }
