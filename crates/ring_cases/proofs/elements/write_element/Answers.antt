-- `ring_cases::elements::write_element` meets its contract. Assumes nothing.
use native.Mathlib.Omega.{arith}
use Rattle.ring_cases.specs.Laws.ResultLaws.{degree-fits, element-out}
use Rattle.ring_cases.proofs.elements.write_element.Goals as goal

pub element_of-requires : goal.element_of-requires
element_of-requires c = record { degree = degree-fits c.args.xs.now c.degree_at-d.ensures; xs_len = c.requires.0 }

pub store-requires : goal.store-requires
store-requires c =
    let degree = degree-fits c.args.xs.now c.degree_at-d.ensures in record { degree = degree; d_in_bounds = omega (arith, degree.small, c.requires.1) }

pub returns : goal.returns
returns c =
    element-out c.args.operation c.args.xs.now c.args.out.now _ _
    c.degree_at-d.ensures c.element_of.ensures c.store.ensures
