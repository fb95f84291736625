-- The elements of φ, from the coefficients that stand at its end.
--     chunk_entry     element k of a chunk of `size` elements from element `first` on; past its end, zero
--     widths         the widths of the parts
--     spread_entry    element k of part p of φ
use Rattle.std.specs.Prelude.{cond, List, ℕ, ◌+◌, ltb, ℤ}
use Rattle.algebra.specs.Triangle.{start}
use Rattle.ring.specs.Element.{R, el}
use Rattle.fold.specs.declared.Sizes.{Sizes}
use Rattle.fold.specs.Chunks.{width}
use Rattle.next_checks.specs.declared.cut.Cut.{Cut}

unfoldable pub chunk_entry : (d : ℕ) (xs : List ℤ) (first size k : ℕ) → (R d).Carrier
chunk_entry d xs first size k = cond (ltb k size) (el d xs (first + k)) (R d).zero

abbrev pub widths : Sizes → Cut → ℕ → ℕ
widths s cut = width cut.tz s.shape.n cut.nu cut.m cut.mu

-- in the constraint at element `at`
unfoldable pub spread_entry : (s : Sizes) (cut : Cut) (xs : List ℤ) (at p k : ℕ) → (R s.shape.d).Carrier
spread_entry s cut xs at p k = chunk_entry s.shape.d xs (at + cut.z + start (widths s cut) p) (widths s cut p) k
