-- `capi::types::empty_header` meets its contract: every number is 0. Assumes nothing.
use mathlib.Core.Path.{refl}
use Rattle.sheet.specs.Reading.{size, sizes_of, empty_header}
use Rattle.capi.proofs.types.empty_header.Goals as goal

pub returns : goal.returns
unfolding empty_header size sizes_of
returns c = refl
