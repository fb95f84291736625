-- `fold_cases::input::read_sizes` meets its contract. Assumes nothing.
use mathlib.Core.Path.{refl}
use Rattle.fold_cases.specs.Input.{sizes_of}
use Rattle.fold_cases.proofs.input.read_sizes.Goals as goal

pub returns : goal.returns
unfolding sizes_of
returns c =
    rw (
      ← c.bound_at-2.ensures,
      ← c.bound_at.ensures,
      ← c.size_at-14.ensures,
      ← c.size_at-13.ensures,
      ← c.size_at-12.ensures,
      ← c.size_at-11.ensures,
      ← c.size_at-10.ensures,
      ← c.size_at-9.ensures,
      ← c.size_at-8.ensures,
      ← c.size_at-7.ensures,
      ← c.size_at-6.ensures,
      ← c.size_at-5.ensures,
      ← c.size_at-4.ensures,
      ← c.size_at-3.ensures,
      ← c.size_at-2.ensures,
      ← c.size_at.ensures,
    ) refl
