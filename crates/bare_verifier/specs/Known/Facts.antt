-- What the verifier's work functions know beside the records of crate bare: where the blocks of a bare opening lie within it.
use Rattle.std.specs.Prelude.{◌≡◌, List, ℕ, ◌+◌, ◌*◌, ◌≤◌, ◌<◌, length, ℤ}
use Rattle.std.proofs.Math.Nat.{mul-le-mul, mul-le-mul_right}
use native.Mathlib.Omega.{arith}
use Rattle.ring.specs.Laws.ElementPlaces.{block-before, element-within}
use Rattle.fold.specs.Sizes.{five}
use Rattle.fold.specs.Known.WorkFacts.{WholeFacts, TermFacts}
use Rattle.bare.specs.declared.BareSizes.{BareSizes}
use Rattle.bare.specs.Opening.{z_place, turns_place, bare_size}
use Rattle.bare.specs.Known.BareFacts.{BareOpeningFacts}

module _ (m : BareSizes) where
  open m use {shape, k, l, kappa}
  open shape use {d, n, r}

  -- check 6
  pub record DiagonalFacts (whole constant_terms ψ α δ c o : List ℤ) : Type 0 where
    pub opened : BareOpeningFacts m c o
    pub wholes : WholeFacts d n r k whole α
    pub terms : TermFacts d n r l constant_terms ψ
    pub δ-length : length δ ≡ five * d

  module _ {c o : List ℤ} (facts : BareOpeningFacts m c o) where
    -- the opening is short
    pub size_small : bare_size n r kappa ≤ 448
    unfolding bare_size
    size_small = omega (arith, mul-le-mul facts.shaped.parts-small facts.κ-small, facts.shaped.parts-small, facts.shaped.rank-small)

    pub t-fits : {i k : ℕ} → i < r → k < kappa → (i * kappa + k) * d + d ≤ length o
    unfolding bare_size
    t-fits {i} {k} h l =
        let place : i * kappa + k < r * kappa + n + r * 4 = omega (arith, block-before kappa i r h, l) in
        element-within d place (omega (arith, facts.o-length))

    pub z-fits : (z_place r kappa + n) * d ≤ length o
    unfolding bare_size z_place
    z-fits =
        let place : r * kappa + n ≤ r * kappa + n + r * 4 = omega arith in
        omega (arith, facts.o-length, mul-le-mul_right d place)

    pub turn-fits : {e i : ℕ} → e < 4 → i < r → (turns_place n r kappa + (i * 4 + e)) * d + d ≤ length o
    unfolding bare_size turns_place
    turn-fits {e} {i} h l =
        let place : r * kappa + n + (i * 4 + e) < r * kappa + n + r * 4 = omega (arith, h, l) in
        element-within d place (omega (arith, facts.o-length))

    pub challenge-fits : {i : ℕ} → i < r → i * d + d ≤ length c
    challenge-fits h = element-within d h (omega (arith, facts.c-length))
