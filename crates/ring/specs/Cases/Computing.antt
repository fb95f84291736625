-- Closed cases hold by computation, and computing opens every definition on the way. A name for a proof's `unfolding` line that opens all
-- definitions of the ring and of what lies below it: to unfold a definition is to unfold what its own line names.
use Rattle.integers.specs.Sums.{total, sq, norm_sq}
use Rattle.integers.specs.Lists.{tab, all}
use Rattle.integers.specs.Flat.{flat}
use Rattle.integers.specs.Remainder.{emod, centre}
use Rattle.algebra.specs.Sum.{sum}
use Rattle.algebra.specs.Triangle.{start, pair, pairs-count, rows, below}
use Rattle.algebra.specs.Vec.{build, at, map, zip_with}
use Rattle.algebra.specs.Residue as Residue
use Rattle.algebra.specs.Polynomial.{zeros, constant, plus, negate, scale, shift, times_x, times}
use Rattle.algebra.specs.Indeterminate.{indeterminate}
use Rattle.algebra.specs.Conjugation.{reflected, conjugate}
use Rattle.algebra.specs.DotProduct.{inner, value, mixed, folded, garbage}
use Rattle.residues.specs.Modulus.{q, red, cent, centred}
use Rattle.ring.specs.Element.{every, lift, el, coeffs, array, number, same}
use Rattle.residues.specs.Digits.{halfway, leaves_even, even_half, low, rest, rests, digit, split}
use Rattle.ring.specs.Joined.{joined}
use Rattle.residues.specs.Range.{all_within, coefficients, projection_entries, count_of, counted_challenge, short_challenge, challenge, all_narrow}

unfoldable pub integers_compute : Unit {0}
unfolding total sq norm_sq tab all flat emod centre
integers_compute = tt

unfoldable pub residues_compute : Unit {0}
unfolding Residue.make Residue.add Residue.mul Residue.neg Residue.reduce Residue.centred
residues_compute = tt

unfoldable pub vectors_compute : Unit {0}
unfolding build at map zip_with
vectors_compute = tt

unfoldable pub polynomials_compute : Unit {0}
unfolding zeros constant plus negate scale shift times_x times indeterminate reflected conjugate
polynomials_compute = tt

unfoldable pub sums_compute : Unit {0}
unfolding sum start pair pairs-count rows below inner value mixed folded garbage
sums_compute = tt

unfoldable pub elements_compute : Unit {0}
unfolding q red cent centred every lift el coeffs array number same
elements_compute = tt

unfoldable pub digits_compute : Unit {0}
unfolding halfway leaves_even even_half low rest rests digit split joined all_within coefficients projection_entries count_of counted_challenge short_challenge challenge all_narrow
digits_compute = tt

unfoldable pub ring_computes : Unit {0}
unfolding integers_compute residues_compute vectors_compute polynomials_compute sums_compute elements_compute digits_compute
ring_computes = tt
