-- Laws of a part of the next witness: refused, and found at its place.
--     part_known, part_cut               what an unrefused question knows
--     placed_refused, placed_found       the place
--     part_handed_back                   with zeros after it, it is that part of the padded opening
use Rattle.std.specs.Prelude.{◌≡◌, Bool, List, [], ◌++◌, ℕ, zero, suc, ◌+◌, ◌*◌, ◌-◌, ◌≤◌, ◌<◌, length, take, drop, replicate, ℤ, pos}
use Rattle.std.proofs.Math.Path.{refl}
use Rattle.std.proofs.Common.{sym, ◌∙◌, mul-le-mul, arith}
use Rattle.std.proofs.Math.Nat.{mul-le-mul_right}
use Rattle.algebra.specs.Triangle.{start}
use Rattle.algebra.specs.Laws.TriangleLaws.{start_mono}
use Rattle.fold.specs.declared.PartSizes.{PartSizes}
use Rattle.fold.specs.Answers.{written}
use Rattle.fold.specs.Sizes.{count_if, opening_size, next_parts}
use Rattle.fold.specs.Refusals.{part_bounds, part_tests}
use Rattle.fold.specs.Chunks.{width, cut, padded}
use Rattle.fold.specs.NextCall.{part_refusal, next_part}
use Rattle.fold.specs.Arguments.{part_refusal_with, part_refusal_of, next_part_of, PartSizedWith}
use Rattle.fold.specs.Laws.RefusalLaws.{sized_iff}
use Rattle.fold.specs.Laws.TestLaws.{holds, early-holds}
use Rattle.fold.specs.Laws.ChunkLaws.{widths_cover}
use Rattle.fold.proofs.Laws.NextCallLaws.{part_of_padded}
use Rattle.fold.specs.Laws.SizeBounds.{product-bound}
use Rattle.fold.specs.Known.CallLimits.{part-limits}
use Rattle.fold.specs.Known.CutSizes.{CutSizes, cut-sizes, rest_size-bound}
use Rattle.next_instance.specs.declared.part.Place.{Place}
use Rattle.next_instance.specs.Parts.{rest_of, rank_of, place_if, place_with, PlacedWith, Placed}

-- the number of the refusal, where it is not 0: the place is 0 and 0, and the part is empty
nowhere : (n first count : ℕ) → (n ≡ 0 → ⊥) → ◌≡◌ {A = Place} (record { start = 0; length = 0 }) (place_if n first count)
unfolding place_if
nowhere zero first count some = absurd (some refl)
nowhere (suc n) first count some = refl

empty : (n : ℕ) (new : List ℤ) → (n ≡ 0 → ⊥) → [] ≡ written n new []
unfolding written
empty zero new some = absurd (some refl)
empty (suc n) new some = refl

module _ (tz : ℕ) (few : (0 < tz) × (tz ≤ 2)) (m : PartSizes) (i : ℕ) (o : List ℤ) {x : ℕ} (e : x ≡ part_refusal_with tz m i o) where
  pub placed_refused : (x ≡ 0 → ⊥) → PlacedWith tz m i o (record { start = 0; length = 0 })
  unfolding place_with next_part
  placed_refused some =
      record {
        place_is = rw (← e) (nowhere x _ _ some);
        inside = omega arith;
        part-is = empty (part_refusal_with tz m i o) _ (λ z. some (e ∙ z));
      }

  module _ (z : x ≡ 0) where
    abbrev tests : List (ℕ × Bool)
    tests = part_tests m.shape.d m.shape.n m.shape.r m.kappa m.t1 m.t2 tz m.nu m.mu i o

    pub part_known : PartSizedWith tz m i
    unfolding part_refusal part_tests
    part_known =
        part-limits _ _ _ _ _ _ _ _ _ _
        (early-holds (part_bounds m.shape.d m.shape.n m.shape.r m.kappa m.t1 m.t2 tz m.nu m.mu i) _ refl (sym e ∙ z))

    opening-length : length o ≡ (tz * m.shape.n + rest_of m) * m.shape.d
    unfolding part_refusal part_tests opening_size
    opening-length = (sized_iff o _).0 (holds tests refl (sym e ∙ z) 7)

    pub part_cut : {k : ℕ} → k ≡ rest_of m → CutSizes m.shape.n m.nu k m.mu
    part_cut h =
        let f = part_known in
        cut-sizes tz m.shape.r m.kappa m.t1 m.t2 few.0 f.shaped.rank-small f.shaped.parts-small f.κ-small f.t₁-most f.t₂-most f.cut h

    pub part-before : i - 1 ≤ 16
    unfolding next_parts
    part-before = let f = part_known in omega (arith, f.up_to_parts, f.cut.parts-small)

    -- where the chunk ends: at, k and w are what the code has computed
    module _ {k at w : ℕ} (rest : k ≡ rest_of m) (begins : at ≡ start (width tz m.shape.n m.nu k m.mu) (i - 1))
        (wide : w ≡ width tz m.shape.n m.nu k m.mu (i - 1)) where
      chunk_inside : at * m.shape.d + w * m.shape.d ≤ length o
      unfolding next_parts
      chunk_inside =
          let f = part_known in
          let here : i - 1 < tz * m.nu + m.mu = omega (arith, f.from_one, f.up_to_parts) in
          let ends = start_mono (width tz m.shape.n m.nu k m.mu) (i - 1) (tz * m.nu + m.mu) here in
          let all = widths_cover tz m.shape.n m.nu k m.mu f.cut.ν-positive f.cut.μ-positive in
          let within : at + w ≤ tz * m.shape.n + rest_of m = omega (arith, begins, wide, ends, all, rest) in
          let scaled : (at + w) * m.shape.d ≤ (tz * m.shape.n + rest_of m) * m.shape.d = mul-le-mul_right m.shape.d within in
          omega (arith, scaled, opening-length)

      pub chunk-room : at * m.shape.d + w * m.shape.d ≤ 1000000
      chunk-room =
          let f = part_known in
          let m-bound = rest_size-bound m.shape.r m.kappa m.t1 m.t2 f.shaped.parts-small f.κ-small f.t₁-most f.t₂-most in
          let room = product-bound (tz * m.shape.n + rest_of m) m.shape.d 3712 64 (omega (arith, mul-le-mul few.1 f.shaped.rank-small, m-bound)) f.shaped.degree.small in
          omega (arith, room, chunk_inside, opening-length)

      pub placed_found : PlacedWith tz m i o (record { start = at * m.shape.d; length = w * m.shape.d })
      unfolding place_with place_if next_part written cut
      placed_found =
          record {
            place_is = rw (sym e ∙ z, begins, wide, rest) refl;
            inside = chunk_inside;
            part-is = rw (sym e ∙ z, begins, wide, rest) refl;
          }

-- the numbers at a place, as the code cuts them out
pub placed_part : (m : PartSizes) (i : ℕ) (o : List ℤ) (place : Place) → Placed m i o place
    → take (place.start + place.length - place.start) (drop place.start o) ≡ next_part_of m i o
placed_part m i o place p =
    let count : place.start + place.length - place.start ≡ place.length = omega arith in rw count p.part-is

pub part_handed_back : (m : PartSizes) (i : ℕ) (o : List ℤ) (number : ℕ) (part : List ℤ)
    → number ≡ part_refusal_of m i o → part ≡ next_part_of m i o → number ≡ 0
    → part ++ replicate ((rank_of m - width (count_if m.one_digit) m.shape.n m.nu (rest_of m) m.mu (i - 1)) * m.shape.d) (pos 0)
    ≡ take (rank_of m * m.shape.d) (drop ((i - 1) * (rank_of m * m.shape.d)) (padded m.shape.d (count_if m.one_digit) m.shape.n m.nu (rest_of m) m.mu o))
part_handed_back m i o number part e f z =
    rw f (part_of_padded m.shape.d m.shape.n m.shape.r m.kappa m.t1 m.t2 (count_if m.one_digit) m.nu m.mu i o (sym e ∙ z))
