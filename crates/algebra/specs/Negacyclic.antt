-- The ring 𝓚[X]/(X^d + 1) over any commutative ring 𝓚, for any d. For d = 0 it is the trivial ring.
use Rattle.std.specs.Prelude.{ℕ}
use Rattle.algebra.specs.CommRing.{CommRing}
use Rattle.algebra.specs.Vec.{Vec}
use Rattle.algebra.specs.Laws.VecLaws.{Vec-set}
use Rattle.algebra.specs.Polynomial.{zeros, constant, plus, negate, times}
use Rattle.algebra.specs.Laws.PolynomialLaws.{plus_assoc, plus_comm, plus-zero, plus-negate, times-plus, times-one, times_comm, times_assoc}

-- the ring
abbrev pub Negacyclic : CommRing → ℕ → CommRing
Negacyclic 𝓚 d =
    record {
      Carrier = Vec 𝓚.Carrier d;
      is_set = Vec-set 𝓚.is_set;
      zero = zeros 𝓚 d;
      one = constant 𝓚 d 𝓚.one;
      add = plus 𝓚;
      mul = times 𝓚;
      neg = negate 𝓚;
      add_assoc = plus_assoc 𝓚;
      add_comm = plus_comm 𝓚;
      add-zero = plus-zero 𝓚;
      add-neg = plus-negate 𝓚;
      mul_assoc = times_assoc 𝓚;
      mul_comm = times_comm 𝓚;
      mul-one = times-one 𝓚;
      mul-add = times-plus 𝓚;
    }
