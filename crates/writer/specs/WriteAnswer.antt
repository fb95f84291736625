-- What a writer answers: the text's length in bytes, or a refusal by its number.
use Rattle.std.specs.Prelude.{ℕ, Result, Ok, Err}
use Rattle.fold.specs.declared.answers.Refusal.{Refusal}
use Rattle.fold.specs.Rows.{row_of}

pub data WriteAnswer : Type 0 where
  Length : ℕ → WriteAnswer
  Refused : ℕ → WriteAnswer

-- the answer that a writer's result is
abbrev pub wrote_of : Result ℕ Refusal → WriteAnswer
wrote_of (Ok m) = Length m
wrote_of (Err r) = Refused (row_of r)
