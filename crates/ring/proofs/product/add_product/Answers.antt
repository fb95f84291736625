-- `ring::product::add_product` meets its contract: whichever way is taken, the columns that are added are the product's coefficients.
use Rattle.std.proofs.Common.{rules, ◌≡◌, ℕ, ◌≤◌, Bool, true, List, ℤ, sym, ◌∙◌}
use Rattle.ring.specs.Product.{column}
use Rattle.ring.specs.Short.{short_column, short, Short, Narrow}
use Rattle.ring.specs.Laws.ProductArrays.{column-most}
use Rattle.ring.specs.Laws.ProductLaws.{column-value, gained, residues_small}
use Rattle.ring.specs.Laws.ShortOperand.{raised-narrow, short-below}
use Rattle.ring.specs.Laws.ShortLaws.{short-most, short-value, weight-bound}
use Rattle.ring.proofs.product.add_product.Goals as goal

-- the element is short, from the answer of `is_short`
below : {d s : ℕ} {v : List ℤ} {answer : Bool} → answer ≡ short d v s → answer ≡ true → Short d v s
below answers holds = short-below _ _ _ (sym answers ∙ holds)

pub raise-requires : goal.raise-requires
raise-requires c =
    let short = below c.is_short.ensures c.if-is_short.true in
    record { degree = c.requires.degree; d_in_bounds = (c.requires.d_in_bounds.1, c.requires.a_len.1, short) }

pub raised_weight-weight-requires : goal.raised_weight-weight-requires
raised_weight-weight-requires c = (c.requires.degree.small, residues_small c.load.ensures)

pub add_pairs-requires-clause-calls : goal.add_pairs-requires-clause-calls
add_pairs-requires-clause-calls c = λ start other start≤d other≤d.
    let narrow : Narrow c.args.d c.raise.new.e = raised-narrow (below c.is_short.ensures c.if-is_short.true) c.raise.ensures in
    let small : c.raised_weight-weight.result ≤ 1152921504606846976 = weight-bound _ _ c.raised_weight-weight.ensures in
    search rules

pub add_pairs-requires-clause-columns : goal.add_pairs-requires-clause-columns
add_pairs-requires-clause-columns c = (
  short_column c.args.d c.load.new.a c.raise.new.e c.raised_weight-weight.result,
  short-most _ _ _ _ c.requires.degree.small (raised-narrow (below c.is_short.ensures c.if-is_short.true) c.raise.ensures)
      (weight-bound _ _ c.raised_weight-weight.ensures),
  λ start other found computes. search rules,
)

pub add_pairs-requires-else-is_short-clause-columns : goal.add_pairs-requires-else-is_short-clause-columns
add_pairs-requires-else-is_short-clause-columns c =
    (column c.args.d c.load.new.a c.extend.new.e, column-most _ _ _ c.requires.degree.small, λ start other found computes. search rules)

pub returns-then-is_short : goal.returns-then-is_short
returns-then-is_short c =
    let short = below c.is_short.ensures c.if-is_short.true in
    let narrow = raised-narrow short c.raise.ensures in
    let limit = short-most _ _ _ _ c.requires.degree.small narrow (weight-bound _ _ c.raised_weight-weight.ensures) in (
      c.load.ensures.size,
      c.raise.ensures.size,
      gained (c.add_pairs.ensures (short_column c.args.d c.load.new.a c.raise.new.e c.raised_weight-weight.result) limit
          (λ start other found computes. search rules))
          (rw c.raised_weight-weight.ensures (short-value c.requires.degree c.load.ensures short c.raise.ensures)),
    )

pub returns-else-is_short : goal.returns-else-is_short
returns-else-is_short c = (
  c.load.ensures.size,
  c.extend.ensures.size,
  gained (c.add_pairs-else-is_short.ensures (column c.args.d c.load.new.a c.extend.new.e) (column-most _ _ _ c.requires.degree.small)
      (λ start other found computes. search rules)) (column-value c.load.ensures c.extend.ensures),
)
