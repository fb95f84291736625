-- What the functions of message 1 write, at the sizes of a call.
--     t_of, g_of, u₁Of      the t digits, the g digits and u1
--     outer               a row of B·x + C·y, for vectors x of m and y of l elements
use Rattle.std.specs.Prelude.{List, ℕ, ℤ}
use Rattle.ring.specs.Element.{R, el}
use Rattle.fold.specs.declared.CommitSizes.{CommitSizes}
use Rattle.fold.specs.Messages.{times, t_digits, g_digits, u₁}

abbrev pub t_of : CommitSizes → List ℤ → List ℤ → List ℤ
t_of sizes A s = t_digits sizes.shape.d sizes.shape.n sizes.shape.r sizes.kappa sizes.b1 sizes.t1 A s

abbrev pub g_of : CommitSizes → List ℤ → List ℤ
g_of sizes s = g_digits sizes.shape.d sizes.shape.n sizes.shape.r sizes.b2 sizes.t2 s

abbrev pub u₁_of : CommitSizes → List ℤ → List ℤ → List ℤ → List ℤ → List ℤ
u₁_of sizes B C ts gs = u₁ sizes.shape.d sizes.shape.r sizes.kappa sizes.kappa1 sizes.t1 sizes.t2 B C ts gs

unfoldable pub outer : (d m l : ℕ) → List ℤ → List ℤ → List ℤ → List ℤ → ℕ → (R d).Carrier
outer d m l B x C y k = (R d).add (times d m B k (el d x)) (times d l C k (el d y))
