-- How many numbers the judge lends to the reader.
use Rattle.std.specs.Prelude.{List, ℕ, min}
use Rattle.sheet.specs.Reading.{number_count}

-- a slice of at most 4096 numbers, and of as many as the header gives where these are fewer
abbrev pub lent_count : List ℕ → ℕ
lent_count text = min (number_count text) 4096
