-- SPECIFICATION 2.8: "Recomposition is modulo q." joined B t f is f 0 + B · f 1 + .. + B^(t-1) · f (t-1) in R.
use Rattle.std.specs.Prelude.{ℕ, ◌^◌, pos}
use Rattle.algebra.specs.Sum.{sum}
use Rattle.ring.specs.Element.{R, number}

unfoldable pub joined : (d b t : ℕ) → (ℕ → (R d).Carrier) → (R d).Carrier
joined d b t f = sum (R d) t (λ e. (R d).mul (number d (pos (b ^ e))) (f e))
