-- `checks::norms::opening_margin` meets its contract: the opening is cut where t and h start.
use Rattle.std.proofs.Common.{ap, ◌∙◌, ℕ, ◌*◌, ◌≤◌, arith, mul-le-mul, mul-le-mul_right}
use Rattle.residues.specs.Length.{remaining}
use Rattle.fold.proofs.Laws.PlaceBounds.{t-place-bound, h-place-bound}
use Rattle.checks.specs.Laws.SizeLaws.{h-within, t-before-h}
use Rattle.checks.specs.Laws.NormLaws.{lengths_of_opening}
use Rattle.checks.proofs.norms.opening_margin.Goals as goal

pub overflow_mul-t_start : goal.overflow_mul-t_start
overflow_mul-t_start c =
    let small : c.t_place.result ≤ 512 = rw c.t_place.ensures (t-place-bound c.args.sizes c.requires.fits c.args.tz c.requires.tz_bound) in
    omega (arith, mul-le-mul small c.requires.fits.shaped.degree.small)

pub overflow_mul-h_start : goal.overflow_mul-h_start
overflow_mul-h_start c =
    let small : c.h_place.result ≤ 2624 = rw c.h_place.ensures (h-place-bound c.args.sizes c.requires.fits c.args.tz c.requires.tz_bound) in
    omega (arith, mul-le-mul small c.requires.fits.shaped.degree.small)

pub parts_margin-requires : goal.parts_margin-requires
parts_margin-requires c = (
  rw (c.t_place.ensures, c.h_place.ensures) (mul-le-mul_right c.args.sizes.shape.d (t-before-h c.args.tz c.args.sizes)),
  rw c.h_place.ensures (omega (arith, h-within c.args.tz c.args.sizes _ c.requires.opening)),
)

pub returns : goal.returns
returns c =
    c.parts_margin.ensures
    ∙ ap (remaining c.args.sizes.target)
    (lengths_of_opening _ _ _ _ _ _ _ _ _ _ c.requires.opening (ap (λ (a : ℕ). a * c.args.sizes.shape.d) c.t_place.ensures)
    (ap (λ (a : ℕ). a * c.args.sizes.shape.d) c.h_place.ensures))
