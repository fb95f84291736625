-- What is known of a text whose lines are laid out.
use Rattle.std.specs.Prelude.{List, ℕ, ◌≤◌, length}
use Rattle.fold.specs.Arguments.{VerifySized}
use Rattle.fold.specs.declared.Sizes.{Sizes}
use Rattle.fields.specs.Sections.{sections_of, total, ends_line}
use Rattle.fields.specs.Place.{place}
use Rattle.fields.specs.Field.{header_bytes}

-- sizes whose lines lie within the text
pub record Inside (s : Sizes) (text : List ℕ) : Type 0 where
  pub bounded : VerifySized s
  pub inside : place (ends_line (sections_of s)) header_bytes (total s) ≤ length text
