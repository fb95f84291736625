-- `checks::terms::constant_term_holds` meets its contract.
use Rattle.std.proofs.Common.{◌≡◌, refl, ap, ℕ, ◌*◌, ◌≤◌, mul-le-mul, arith}
use Rattle.fold.specs.Sizes.{function_size}
use Rattle.fold.specs.Known.Facts.{Shaped}
use Rattle.checks.specs.Laws.PlaceLaws.{element-fits}
use Rattle.checks.specs.Laws.SizeLaws.{function-size-bound}
use Rattle.checks.specs.Laws.ConstantTermLaws.{term_holds_lem, weights-fit, constants-fit}
use Rattle.checks.proofs.terms.constant_term_holds.Goals as goal

-- the place of the constant
below : {d n r size : ℕ} → Shaped d n r → size ≡ function_size n r → size * d ≤ 4232 * 64
below {size = size} shaped e = let small : size ≤ 4232 = rw e (function-size-bound shaped) in mul-le-mul small shaped.degree.small

pub overflow_mul-last : goal.overflow_mul-last
overflow_mul-last c = omega (arith, below c.requires.constant_term_facts.shaped c.function_size.ensures)

pub overflow_mul-k : goal.overflow_mul-k
overflow_mul-k c = omega (arith, weights-fit c.args.k c.args.sizes.l _ c.requires.k_bound c.requires.constant_term_facts.ψ-length)

pub overflow_add-last : goal.overflow_add-last
overflow_add-last c = omega (arith, below c.requires.constant_term_facts.shaped c.function_size.ensures)

pub weighted_sum-terms-requires : goal.weighted_sum-terms-requires
weighted_sum-terms-requires c =
    let z = c.args.sizes in
    let f = c.requires.constant_term_facts in
    let last = ap (λ (m : ℕ). m * z.shape.d) c.function_size.ensures in (
      weights-fit c.args.k z.l _ c.requires.k_bound f.ψ-length,
      constants-fit z.shape.d z.shape.n z.shape.r z.l _ _ last f.constant-terms-length,
    )

pub overflow_mul-k-2 : goal.overflow_mul-k-2
overflow_mul-k-2 c = omega (arith, weights-fit c.args.k c.args.sizes.w _ c.requires.k_bound c.requires.constant_term_facts.ω-length)

pub weighted_sum-projected-requires : goal.weighted_sum-projected-requires
weighted_sum-projected-requires c =
    let f = c.requires.constant_term_facts in
    (weights-fit c.args.k c.args.sizes.w _ c.requires.k_bound f.ω-length, omega (arith, f.p-length))

pub from_slice-requires-clause-d_in_bounds : goal.from_slice-requires-clause-d_in_bounds
from_slice-requires-clause-d_in_bounds c =
    element-fits _ 5 c.args.k _ c.requires.constant_term_facts.b''-length c.requires.k_bound

pub returns : goal.returns
returns c =
    let z = c.args.sizes in
    let last = ap (λ (m : ℕ). m * z.shape.d) c.function_size.ensures in
    term_holds_lem z.shape.d z.shape.n z.shape.r z.l z.w c.args.k _ _ _ _ _ _ _ _ _ _ _ _ _ _ _ c.requires.constant_term_facts.shaped.degree.small
    c.requires.constant_term_facts.shaped.degree.positive
    last refl refl c.weighted_sum-terms.ensures c.weighted_sum-projected.ensures c.add-expected.ensures c.from_slice.ensures
    c.constant_term-given.ensures c.residue.ensures c.residue-2.ensures
