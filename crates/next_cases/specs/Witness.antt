-- The next witness, put together from its parts.
use Rattle.std.specs.Prelude.{List, ℕ, suc, ◌*◌, ℤ, pos, take}
use Rattle.integers.specs.Flat.{flat}
use Rattle.integers.specs.Over.{over}
use Rattle.capi.specs.Codes.{part_sizes_from}
use Rattle.capi.specs.declared.sizes.CSizes.{CSizes}
use Rattle.capi.specs.declared.sizes.CPartSizes.{CPartSizes}
use Rattle.fold.specs.Arguments.{next_part_of}
use Rattle.cases.specs.Numbers.{padded, size_of}
use Rattle.next_cases.specs.Messages.{filled}

-- parts 1, 2, .., each with zeros after it, `width` numbers in all
unfoldable pub next_witness : CPartSizes → (parts width : ℕ) → List ℤ → List ℤ
next_witness m parts width o = flat parts (λ i. padded width (next_part_of (part_sizes_from m) (suc i) o))

-- a product of sizes; 0 where one passes what a list can have
abbrev pub product_of : ℕ → ℕ → ℕ
product_of x y = size_of 32768 (pos x) * size_of 32768 (pos y)

-- the witness of the second fold: as many parts as its sizes say, of as many numbers
abbrev pub width_for : CSizes → ℕ
width_for second = product_of second.shape.n second.shape.d

abbrev pub count_for : CSizes → ℕ
count_for second = size_of 32768 (pos (product_of second.shape.r (width_for second)))

unfoldable pub witness_of : CPartSizes → CSizes → List ℤ → List ℤ
witness_of m second o =
    over (filled (count_for second)) 0 (take (count_for second) (next_witness m second.shape.r (width_for second) o))
