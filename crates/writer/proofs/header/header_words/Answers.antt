-- `writer::header::header_words` meets its contract.
use mathlib.Core.Path.{refl}
use Rattle.writer.specs.Writing.{header_words}
use Rattle.writer.proofs.header.header_words.Goals as goal

pub returns : goal.returns
unfolding header_words
returns c = refl
