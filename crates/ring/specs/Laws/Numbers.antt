-- Numbers modulo q as elements: `number d` is a homomorphism from the integers. Products by -1 and by one half.
use Rattle.std.specs.Prelude.{◌≡◌, ℕ, ℤ, pos, negsuc, ◌+ℤ◌, ◌*ℤ◌}
use Rattle.std.proofs.Math.Path.{ap, sym}
use Rattle.std.proofs.Common.{◌∙◌}
use Rattle.algebra.specs.Laws.RingLaws.{neg-mul, one-mul}
use Rattle.algebra.specs.Polynomial.{coeff, constant}
use Rattle.algebra.specs.Laws.PolynomialLaws.{coeff-add, coeff-neg}
use Rattle.algebra.specs.Laws.ConstantLaws.{constant-add, constant-mul, coeff-constant-mul}
use Rattle.residues.specs.Modulus.{Zq, red}
use Rattle.residues.proofs.Laws.ModulusLaws.{red-one, red-add, red-neg, red-mul, two-halves}
use Rattle.ring.specs.Element.{R, number}
use Rattle.ring.specs.Laws.ElementLaws.{element-ext}

pub number-one : (d : ℕ) → number d (pos 1) ≡ (R d).one
unfolding number
number-one d = ap (λ x. constant Zq d x) red-one

pub number-add : (d : ℕ) (a b : ℤ) → number d (a +ℤ b) ≡ (R d).add (number d a) (number d b)
unfolding number
number-add d a b = ap (λ x. constant Zq d x) (red-add a b) ∙ constant-add Zq d (red a) (red b)

pub number-mul : (d : ℕ) (a b : ℤ) → number d (a *ℤ b) ≡ (R d).mul (number d a) (number d b)
unfolding number
number-mul d a b = ap (λ x. constant Zq d x) (red-mul a b) ∙ constant-mul Zq d (red a) (red b)

module _ (d : ℕ) where
  pub minus_one : (u : (R d).Carrier) → (R d).mul (number d (negsuc 0)) u ≡ (R d).neg u
  unfolding number
  minus_one u = element-ext d _ _ (λ k l.
      coeff-constant-mul Zq (red (negsuc 0)) u k
      ∙ ap (λ x. Zq.mul x (coeff Zq u k)) (red-neg (pos 1) ∙ ap Zq.neg red-one)
      ∙ neg-mul Zq Zq.one (coeff Zq u k)
      ∙ ap Zq.neg (one-mul Zq (coeff Zq u k))
      ∙ sym (coeff-neg Zq u k))

  pub half-half : (u : (R d).Carrier) → (R d).add ((R d).mul (number d (pos 2147483599)) u) ((R d).mul (number d (pos 2147483599)) u) ≡ u
  unfolding number
  half-half u = element-ext d _ _ (λ k l.
      coeff-add Zq _ _ k
      ∙ ap (λ x. Zq.add x x) (coeff-constant-mul Zq (red (pos 2147483599)) u k)
      ∙ two-halves (coeff Zq u k))
