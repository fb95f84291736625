-- `ring_cases::runs::run` meets its contract. Assumes nothing.
use Rattle.std.proofs.Common.{arith}
use mathlib.Core.Path.{◌≡◌, sym, ◌∙◌}
use mathlib.Core.Bool.{false}
use lib.Dec.{eqb}
use borrow.Author.Tests.{ne_eqb}
use Rattle.ring_cases.specs.Results.{results_of}
use Rattle.ring_cases.proofs.runs.run.Goals as goal

pub returns-in-9 : goal.returns-in-9
unfolding results_of
returns-in-9 c = rw c.in-9.is c.write_number_digits.ensures

pub returns-in-10 : goal.returns-in-10
unfolding results_of
returns-in-10 c = rw c.in-10.is c.write_element_digits.ensures

pub returns-in-19 : goal.returns-in-19
unfolding results_of
returns-in-19 c = rw c.in-19.is c.write_product.ensures

pub returns-in_default : goal.returns-in_default
unfolding results_of
returns-in_default c =
    let other : let op = c.args.operation in (eqb op 9 ≡ false) × (eqb op 10 ≡ false) × (eqb op 19 ≡ false) = (ne_eqb _ 9 (omega arith), ne_eqb _ 10 (omega arith), ne_eqb _ 19 (omega arith)) in
    rw (other.0, other.1, other.2, sym c.is_element.ensures ∙ c.if-is_element.true) c.write_element.ensures

pub returns-in_default-2 : goal.returns-in_default-2
unfolding results_of
returns-in_default-2 c =
    let other : let op = c.args.operation in (eqb op 9 ≡ false) × (eqb op 10 ≡ false) × (eqb op 19 ≡ false) = (ne_eqb _ 9 (omega arith), ne_eqb _ 10 (omega arith), ne_eqb _ 19 (omega arith)) in
    rw (other.0, other.1, other.2, sym c.is_element.ensures ∙ c.if-is_element.false) c.write_value.ensures
