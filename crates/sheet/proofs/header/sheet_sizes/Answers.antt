-- `sheet::header::sheet_sizes` meets its contract.
use mathlib.Core.Path.{refl}
use Rattle.integers.specs.Lists.{tab}
use Rattle.sheet.specs.Reading.{header_numbers, sizes_of}
use Rattle.sheet.proofs.header.sheet_sizes.Goals as goal

pub returns : goal.returns
unfolding sizes_of header_numbers tab
returns c =
    rw (
      c.size_at.ensures,
      c.size_at-2.ensures,
      c.size_at-3.ensures,
      c.size_at-4.ensures,
      c.size_at-5.ensures,
      c.size_at-6.ensures,
      c.size_at-7.ensures,
      c.size_at-8.ensures,
      c.size_at-9.ensures,
      c.size_at-10.ensures,
      c.size_at-11.ensures,
      c.size_at-12.ensures,
      c.size_at-13.ensures,
      c.size_at-14.ensures,
      c.bound_at.ensures,
      c.bound_at-2.ensures,
      c.size_at-15.ensures,
      c.size_at-16.ensures,
    )
    refl
