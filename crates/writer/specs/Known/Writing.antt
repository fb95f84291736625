-- What is known of numbers that the writer lays on lines.
use Rattle.std.specs.Prelude.{◌≡◌, Bool, List, ℕ, ◌≤◌, length, ℤ}
use Rattle.fold.specs.Arguments.{VerifySized}
use Rattle.fold.specs.declared.Sizes.{Sizes}
use Rattle.fields.specs.Sections.{total}
use Rattle.fields.specs.Place.{place}
use Rattle.fields.specs.Field.{header_bytes}

-- as many numbers as the sizes give
pub record Counted (s : Sizes) (xs : List ℤ) : Type 0 where
  pub bounded : VerifySized s
  pub count : length xs ≡ total s

-- n numbers after a header, on lines that end where `ends` says, lie within the buffer
abbrev pub LinesFit : (ℕ → Bool) → ℕ → List ℕ → Type 0
LinesFit ends n out = place ends header_bytes n ≤ length out
