-- `judge::line::verdict_line` meets its contract: its bytes are those of the two fields and the line feed.
use mathlib.Core.Path.{◌≡◌, refl, sym, ap}
use Rattle.fold.specs.declared.answers.Code.{Code}
use native.Mathlib.Omega.{arith}
use lib.ListN.{length}
use Rattle.fields.specs.Place.{field_width}
use Rattle.judge.specs.Laws.LineLaws.{line-written}
use Rattle.judge.proofs.line.verdict_line.Goals as goal

pub slice_bounds-write_laid-end : goal.slice_bounds-write_laid-end
slice_bounds-write_laid-end c = refl

pub write_laid-requires : goal.write_laid-requires
unfolding field_width
write_laid-requires c = omega arith

pub slice_bounds-write_laid-end-2 : goal.slice_bounds-write_laid-end-2
slice_bounds-write_laid-end-2 c =
    let kept : length c.write_laid.new.text ≡ 33 = c.write_laid.auto.text in
    sym kept

pub write_laid-requires-2 : goal.write_laid-requires-2
unfolding field_width
write_laid-requires-2 c =
    let kept : length c.write_laid.new.text ≡ 33 = c.write_laid.auto.text in
    omega (arith, kept)

pub returns : goal.returns
returns c =
    λ a e.
    line-written a _ refl (ap (λ (code : Code). code.kind) e) (ap (λ (code : Code). code.number) e) c.write_laid.ensures c.write_laid-2.ensures
