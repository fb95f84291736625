-- The sizes of a cut: its blocks and its parts lie within the constraint, and no part starts after its chunk of the coefficients.
use Rattle.std.specs.Prelude.{◌≡◌, refl, ℕ, zero, suc, ◌+◌, ◌-◌, ◌*◌, ◌<◌, ◌≤◌}
use Rattle.std.proofs.Common.{sym, add-zero, add-suc, mul-le-mul_right, le_refl, arith}
use Rattle.algebra.specs.Triangle.{start}
use Rattle.algebra.specs.Laws.TriangleLaws.{start_mono, start-suc}
use Rattle.residues.specs.Digits.{Base}
use Rattle.ring.specs.Element.{Degree}
use Rattle.ring.specs.Laws.ElementPlaces.{place-below}
use Rattle.fold.specs.declared.Sizes.{Sizes}
use Rattle.fold.specs.Arguments.{VerifySized}
use Rattle.fold.specs.Sizes.{pairs, function_size, t_size, garbage_size, rest_size, next_rank, next_parts}
use Rattle.fold.specs.Chunks.{width}
use Rattle.fold.specs.Laws.SizeBounds.{function_size-bound, product-bound}
use Rattle.fold.specs.Laws.ChunkLaws.{width-bound, widths_cover}
use Rattle.fold.specs.Known.CallLimits.{ChunkLimits}
use Rattle.fold.specs.Known.CutSizes.{CutSizes, rest_size-bound}
use Rattle.next_checks.specs.declared.cut.Cut.{Cut}
use Rattle.next_checks.specs.Known.Facts.{CutFacts}
use Rattle.next_checks.specs.Spread.{widths}
use Rattle.fold.specs.Limits.{most_digits, most_parts, most_rank, most_chunks}

pub rest-small : (s : Sizes) → VerifySized s → rest_size s.shape.r s.kappa s.t1 s.t2 ≤ 3200
rest-small s fits = rest_size-bound _ _ _ _ fits.shaped.parts-small fits.κ-small fits.t₁-most fits.t₂-most

start-zero : (w : ℕ → ℕ) → start w 0 ≡ 0
unfolding start
start-zero w = refl

-- parts no wider than n
start-room : (w : ℕ → ℕ) (n k j : ℕ) → ((i : ℕ) → w i ≤ n) → start w (k + j) ≤ start w k + j * n
start-room w n k zero h = rw (add-zero k) (omega arith)
start-room w n k (suc j) h = rw (add-suc k j) (omega (arith, start-room w n k j h, start-suc w (k + j), h (k + j)))

-- the opening fits in φ
pub opening-within : (tz n ν m μ : ℕ) → 0 < ν → 0 < μ → tz * n + m ≤ function_size (next_rank n ν m μ) (next_parts tz ν μ)
unfolding function_size
opening-within tz n ν m μ some-ν some-μ =
    let room = start-room (width tz n ν m μ) (next_rank n ν m μ) 0 (next_parts tz ν μ) (width-bound tz n ν m μ) in
    let none : start (width tz n ν m μ) 0 ≡ 0 = start-zero (width tz n ν m μ) in
    let all : 0 + next_parts tz ν μ ≡ next_parts tz ν μ = omega arith in
    omega (arith, rw all at room, none, widths_cover tz n ν m μ some-ν some-μ)

-- the same for the numbers that code has computed
pub room_of : (n : ℕ) {tz ν μ m m' rank size : ℕ} → ChunkLimits tz ν μ → next_rank n ν m' μ ≤ most_rank → m ≡ m' → rank ≡ next_rank n ν m μ
    → size ≡ function_size rank (tz * ν + μ) → (tz * n + m ≤ size) × (size ≤ 4232)
unfolding next_parts
room_of n {tz} {ν} {μ} {m} limits small m-is rank_is size_is =
    let rank-small = rw (← m-is, ← rank_is) at small in (
      rw (size_is, rank_is) (opening-within tz n ν m μ limits.ν-positive limits.μ-positive),
      rw size_is (function_size-bound _ _ rank-small limits.parts-small),
    )

module _ (s : Sizes) (cut : Cut) (facts : CutFacts s cut) where
  pub parts-few : cut.parts ≤ most_chunks
  unfolding next_parts
  parts-few = omega (arith, facts.parts_is, facts.parts-small)

  pub z-parts : cut.tz * cut.nu ≤ most_chunks
  z-parts = omega (arith, facts.parts-small)

  pub size_small : cut.size ≤ 4232
  size_small = rw facts.size_is (function_size-bound _ _ facts.rank-small parts-few)

  pub cut-sizes : VerifySized s → CutSizes s.shape.n cut.nu cut.m cut.mu
  cut-sizes fits =
      record {
        n-small = fits.shaped.rank-small;
        m-small = omega (arith, rest-small s fits, facts.rest-is);
        ν-positive = facts.ν-positive;
        μ-positive = facts.μ-positive;
        ν-small = omega (arith, product-bound 1 cut.nu cut.tz cut.nu facts.tz-positive (le_refl cut.nu), facts.parts-small);
        μ-small = omega (arith, facts.parts-small);
      }

  -- ---- the blocks

  pub h-end : cut.h + garbage_size s.shape.r s.t1 ≡ cut.size
  unfolding rest_size
  h-end = omega (arith, facts.h-is, facts.g-is, facts.t-is, facts.z-is, facts.rest-is)

  -- ---- the parts

  size-parts : cut.size ≡ cut.pairs + cut.parts * cut.rank
  unfolding function_size
  size-parts = omega (arith, facts.size_is, facts.pairs_is)

  pub short : (i : ℕ) → widths s cut i ≤ cut.rank
  short i = rw facts.rank_is (width-bound cut.tz s.shape.n cut.nu cut.m cut.mu i)

  pub all-parts : start (widths s cut) cut.parts ≡ cut.tz * s.shape.n + cut.m
  all-parts = rw facts.parts_is (widths_cover cut.tz s.shape.n cut.nu cut.m cut.mu facts.ν-positive facts.μ-positive)

  module _ (i : ℕ) where
    -- part i starts no later than its chunk
    pub starts_first : i ≤ cut.parts → cut.pairs + i * cut.rank ≤ cut.z + start (widths s cut) i
    starts_first h =
        let j = cut.parts - i in
        let all : i + j ≡ cut.parts = omega arith in
        let room : start (widths s cut) cut.parts ≤ start (widths s cut) i + j * cut.rank =
        rw all at (start-room (widths s cut) cut.rank i j short) in
        let whole : cut.size ≡ cut.pairs + (i + j) * cut.rank = rw all size-parts in
        omega (arith, room, whole, all-parts, facts.z-is)

    -- its chunk ends within the constraint, and so does the part
    pub chunk-within : i < cut.parts → cut.z + start (widths s cut) i + widths s cut i ≤ cut.size
    chunk-within h = omega (arith, start_mono (widths s cut) i cut.parts h, all-parts, facts.z-is)

    pub part-within : i < cut.parts → cut.pairs + i * cut.rank + cut.rank ≤ cut.size
    part-within h = omega (arith, mul-le-mul_right cut.rank h, size-parts)

  pub pairs_first : cut.pairs ≤ cut.z
  unfolding start
  pairs_first = omega (arith, starts_first 0 (omega arith))

  pub pairs-room : cut.pairs + cut.parts * cut.rank ≡ cut.size
  pairs-room = sym size-parts

  -- ---- the blocks lie within the constraint

  pub z-block : cut.z + cut.tz * s.shape.n ≤ cut.size
  z-block = omega (arith, facts.z-is)

  pub t_block : cut.t + t_size s.shape.r s.kappa s.t1 ≤ cut.size
  t_block = omega (arith, facts.g-is, facts.h-is, h-end)

  pub g-block : cut.g + garbage_size s.shape.r s.t2 ≤ cut.size
  g-block = omega (arith, facts.h-is, h-end)

  pub h-block : cut.h + garbage_size s.shape.r s.t1 ≤ cut.size
  h-block = omega (arith, h-end)

  -- the columns of B, C and D, as the code counts them
  pub t-columns : cut.g - cut.t ≡ t_size s.shape.r s.kappa s.t1
  t-columns = omega (arith, facts.g-is)

  pub g-columns : cut.h - cut.g ≡ garbage_size s.shape.r s.t2
  g-columns = omega (arith, facts.h-is)

  pub h-columns : cut.size - cut.h ≡ garbage_size s.shape.r s.t1
  h-columns = omega (arith, h-end)

-- `count` elements from element p of the constraint at element `at` on
pub block-fits : (d at size p : ℕ) {len : ℕ} → (at + size + 1) * d ≤ len → (count : ℕ) → p + count ≤ size → (at + p + count) * d ≤ len
block-fits d at size p fits count h =
    let inside : at + p + count ≤ at + size + 1 = omega (arith, h) in
    omega (arith, mul-le-mul_right d inside, fits)

-- where the blocks stand, and what their writers ask
module _ (s : Sizes) (cut : Cut) (limits : VerifySized s) (facts : CutFacts s cut) (at : ℕ) {len : ℕ} (fits : (at + cut.size + 1) * s.shape.d ≤ len) where
  pub end_below : at + cut.size ≤ len
  end_below = omega (arith, place-below s.shape.d (at + cut.size + 1) limits.shaped.degree.positive fits)

  pub z-below : at + cut.z ≤ len
  z-below = omega (arith, end_below, z-block s cut facts)

  pub t-below : at + cut.t ≤ len
  t-below = omega (arith, end_below, t_block s cut facts)

  pub g-below : at + cut.g ≤ len
  g-below = omega (arith, end_below, g-block s cut facts)

  pub h-below : at + cut.h ≤ len
  h-below = omega (arith, end_below, h-block s cut facts)

  pub z_asked : (first : ℕ) {read : ℕ} → (first + s.shape.n) * s.shape.d ≤ read
      → Degree s.shape.d × (Base s.b × (((first + s.shape.n) * s.shape.d ≤ read) × ((at + cut.z + cut.tz * s.shape.n) * s.shape.d ≤ len)))
  z_asked first room = (limits.shaped.degree, (limits.base, (room, block-fits s.shape.d at cut.size cut.z fits _ (z-block s cut facts))))

  pub g_asked : {read : ℕ} → pairs s.shape.r * s.shape.d ≤ read
      → Degree s.shape.d × (Base s.b2 × (((s.shape.r ≤ most_parts) × (s.t2 ≤ most_digits))
      × ((pairs s.shape.r * s.shape.d ≤ read) × ((at + cut.g + garbage_size s.shape.r s.t2) * s.shape.d ≤ len))))
  g_asked room =
      (limits.shaped.degree, (limits.base₂, ((limits.shaped.parts-small, limits.t₂-most), (room, block-fits s.shape.d at cut.size cut.g fits _ (g-block s cut facts)))))

  pub h_asked : {read : ℕ} → pairs s.shape.r * s.shape.d ≤ read
      → Degree s.shape.d × (Base s.b1 × (((s.shape.r ≤ most_parts) × (s.t1 ≤ most_digits))
      × ((pairs s.shape.r * s.shape.d ≤ read) × ((at + cut.h + garbage_size s.shape.r s.t1) * s.shape.d ≤ len))))
  h_asked room =
      (limits.shaped.degree, (limits.base₁, ((limits.shaped.parts-small, limits.t₁-most), (room, block-fits s.shape.d at cut.size cut.h fits _ (h-block s cut facts)))))
