-- Check 2 as its loops compute it: sums of products of numbers modulo q, and the constant term of an element.
use Rattle.std.specs.Prelude.{Bool, List, ℕ, ◌+◌, ◌*◌, eqb, get_or, ℤ, pos}
use Rattle.algebra.specs.Sum.{sum}
use Rattle.algebra.specs.Conjugation.{ct}
use Rattle.residues.specs.Modulus.{Zq, red}
use Rattle.ring.specs.Element.{el}
use Rattle.fold.specs.Statement.{term_constant}

-- product l of a weighted sum
unfoldable pub weighted : List ℤ → ℕ → List ℤ → ℕ → ℕ → ℕ → Zq.Carrier
weighted weights at xs first step l = Zq.mul (red (get_or weights (at + l) (pos 0))) (red (get_or xs (first + l * step) (pos 0)))

-- test k of check 2
unfoldable pub term_holds : (d n r L w : ℕ) → List ℤ → List ℤ → List ℤ → List ℤ → List ℤ → ℕ → Bool
term_holds d n r L w constant_terms ψ ω p b'' k =
    eqb
    (ct Zq (el d b'' k)).val
    (Zq.add
    (sum Zq L (λ l. Zq.mul (red (get_or ψ (k * L + l) (pos 0))) (red (term_constant d n r constant_terms l))))
    (sum Zq w (λ j. Zq.mul (red (get_or ω (k * w + j) (pos 0))) (red (get_or p j (pos 0)))))).val
