-- The ring product's call, computed: a product that is written and two that are refused. The sides of each test: crates/fold_values/specs/Cases/ProductCases.antt.
use Rattle.std.specs.Prelude.{◌≡◌, refl, List, [], ◌∷◌, ℤ}
use Rattle.integers.specs.Literals.{+◌, -◌, ◌zeros∷◌}
use Rattle.fold.specs.Answers.{Answer}
use Rattle.fold.specs.Answers.{Refused, Written}
use Rattle.fold.specs.Answers.{answered, written}
use Rattle.fold_values.specs.Cases.Computing.{fold_computes}
use Rattle.fold_values.specs.Cases.ProductCases.{one, third, from}
use Rattle.lizkarg.specs.Calls.{Product}
use Rattle.lizkarg.specs.Calls.{product_of}

abbrev pub result : Answer → List ℤ → Product
result answer numbers = record { answer = answer; element = record { coefficients = numbers } }

pub record ProductCases : Type 0 where
  -- "d=2: (1+2X)² = -3+4X"
  pub square : product_of 2 (from (+ 1)) (from (+ 1)) ≡ result Written (- 3 ∷ + 4 ∷ 62 zeros∷ [])
  -- "d not listed"; "a ring element with a nonzero number past d"
  pub degree_3 : product_of 3 (from (+ 1)) (from (+ 1)) ≡ result (Refused 1) (64 zeros∷ [])
  pub past_2 : product_of 2 one third ≡ result (Refused 8) (64 zeros∷ [])

pub product_cases : ProductCases
unfolding fold_computes answered written
product_cases = record { square = refl; degree_3 = refl; past_2 = refl }
