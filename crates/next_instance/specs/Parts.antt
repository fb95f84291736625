-- Where a part of the next witness stands in the caller's opening. What is handed back is that chunk, or for C, which has no slices, its place:
-- SPECIFICATION 8.10, "the library hands back that chunk of the caller's own slice; .. the chunk is empty".
use Rattle.std.specs.Prelude.{◌≡◌, List, ℕ, zero, suc, ◌+◌, ◌*◌, ◌-◌, ◌≤◌, length, take, drop, ℤ}
use Rattle.algebra.specs.Triangle.{start}
use Rattle.fold.specs.declared.PartSizes.{PartSizes}
use Rattle.fold.specs.Sizes.{count_if, rest_size, next_rank}
use Rattle.fold.specs.Chunks.{width}
use Rattle.fold.specs.Arguments.{part_refusal_with, next_part_with}
use Rattle.next_instance.specs.declared.part.Place.{Place}

-- m and n' for these sizes
abbrev pub rest_of : PartSizes → ℕ
rest_of m = rest_size m.shape.r m.kappa m.t1 m.t2

abbrev pub rank_of : PartSizes → ℕ
rank_of m = next_rank m.shape.n m.nu (rest_of m) m.mu

-- how many elements each part has, the first being part 0 here; z has tz digits
abbrev pub width_with : (tz : ℕ) → PartSizes → ℕ → ℕ
width_with tz m = width tz m.shape.n m.nu (rest_of m) m.mu

-- refused: 0 and 0
unfoldable pub place_if : ℕ → (first count : ℕ) → Place
place_if zero first count = record { start = first; length = count }
place_if (suc n) first count = record { start = 0; length = 0 }

unfoldable pub place_with : (tz : ℕ) → PartSizes → (i : ℕ) → List ℤ → Place
place_with tz m i o =
    place_if (part_refusal_with tz m i o) (start (width_with tz m) (i - 1) * m.shape.d) (width_with tz m (i - 1) * m.shape.d)

-- the place is the definition's, it is inside the opening, and what stands there is the part
pub record PlacedWith (tz : ℕ) (m : PartSizes) (i : ℕ) (o : List ℤ) (place : Place) : Type 0 where
  pub place_is : place ≡ place_with tz m i o
  pub inside : place.start + place.length ≤ length o
  pub part-is : take place.length (drop place.start o) ≡ next_part_with tz m i o

abbrev pub Placed : (m : PartSizes) (i : ℕ) (o : List ℤ) (place : Place) → Type 0
Placed m i o place = PlacedWith (count_if m.one_digit) m i o place
