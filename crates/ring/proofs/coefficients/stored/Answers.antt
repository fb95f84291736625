-- `ring::coefficients::stored` meets its contract: `over` is what a slice is after one of its parts is copied over.
use Rattle.std.proofs.Common.{◌≡◌, refl, ◌∙◌, arith, List, ℤ, length, take, rules}
use Rattle.std.proofs.lemmas.Slice.{put_mid-paste}
use Rattle.std.proofs.lemmas.List.Edits.{paste_all}
use Rattle.integers.specs.Over.{over}
use Rattle.ring.proofs.coefficients.stored.Goals as goal

pub returns : goal.returns
unfolding over
returns c =
    let numbers : List ℤ = take c.args.d c.args.a in
    let copied : c.copy_from_slice.new.self ≡ numbers = search rules in
    let count : length numbers ≡ c.args.d = search rules in
    put_mid-paste _ _ _ _ numbers (length numbers) copied (omega arith) refl ∙ paste_all _ _ numbers _ refl
