-- `next_instance::writer::write_instance` meets its contract: the lists, and then the groups of checks, one after the other.
use mathlib.Core.Path.{refl, ◌∙◌}
use Prim.Native.Nat.{◌+◌, ◌*◌, ◌≤◌}
use native.Mathlib.Nat.{le_refl}
use native.Mathlib.Omega.{arith}
use lib.ListN.{length}
use Rattle.ring.specs.Laws.Loops.{held}
use Rattle.next_checks.specs.Laws.CutLaws.{size_small}
use Rattle.next_checks.specs.Laws.CheckLaws.{minus-held}
use Rattle.next_instance.specs.Laws.Instance.{table-room, minus-room, all_room, groups_small, canonical, groups_written, same-instance, out-room}
use Rattle.next_instance.proofs.writer.write_instance.Goals as goal

pub overflow_add-size : goal.overflow_add-size
overflow_add-size c = omega (arith, size_small c.args.sizes c.cut_of-cut.result c.cut_of-cut.ensures.0)

pub write_row-requires : goal.write_row-requires
write_row-requires c =
    let g = c.args.sizes in
    let read : (0 + g.shape.r) * g.shape.d ≤ length c.args.c.now = omega (arith, c.requires.next_facts.entries.c-length) in
    let written : (0 + g.shape.r) * g.shape.d ≤ 1024 = omega (arith, minus-room g c.requires.next_facts.entries.limits) in record { degree = c.requires.next_facts.entries.limits.shaped.degree; d_in_bounds = (read, written) }

pub write_tables-requires : goal.write_tables-requires
write_tables-requires c =
    let challenges : c.args.sizes.shape.r * c.args.sizes.shape.d ≤ length c.args.c.now = omega (arith, c.requires.next_facts.entries.c-length) in record { aggregate_facts = c.requires.next_facts.aggregated; d_in_bounds = challenges; table_room = table-room c.args.sizes c.requires.next_facts.entries.limits (le_refl 16384) (le_refl 8704) (le_refl 8704) (le_refl 8704) }

pub aggregate_constant-b-requires : goal.aggregate_constant-b-requires
aggregate_constant-b-requires c = let f = c.requires.next_facts.constants in record { whole_facts = f.wholes; delta_len = (f.δ-length, f.b''-length) }

pub overflow_mul-sixth : goal.overflow_mul-sixth
overflow_mul-sixth c =
    let g = groups_small c.args.sizes c.cut_of-cut.result c.requires.next_facts.entries.limits c.cut_of-cut.ensures.0 in omega (arith, g.0, g.1, g.2)

pub overflow_mul-third : goal.overflow_mul-third
overflow_mul-third c =
    let g = groups_small c.args.sizes c.cut_of-cut.result c.requires.next_facts.entries.limits c.cut_of-cut.ensures.0 in omega (arith, g.0, g.1, g.2)

pub overflow_add-third : goal.overflow_add-third
overflow_add-third c =
    let g = groups_small c.args.sizes c.cut_of-cut.result c.requires.next_facts.entries.limits c.cut_of-cut.ensures.0 in omega (arith, g.0, g.1, g.2)

pub overflow_mul-fourth : goal.overflow_mul-fourth
overflow_mul-fourth c =
    let g = groups_small c.args.sizes c.cut_of-cut.result c.requires.next_facts.entries.limits c.cut_of-cut.ensures.0 in omega (arith, g.0, g.1, g.2)

pub overflow_add-fourth : goal.overflow_add-fourth
overflow_add-fourth c =
    let g = groups_small c.args.sizes c.cut_of-cut.result c.requires.next_facts.entries.limits c.cut_of-cut.ensures.0 in omega (arith, g.0, g.1, g.2)

pub write_rows5-requires : goal.write_rows5-requires
write_rows5-requires c =
    let g = c.args.sizes in
    let cut = c.cut_of-cut.ensures in
    let room = all_room g c.cut_of-cut.result cut.0 (out-room _ _ _ _ _ _ _ _ _ _ _ _ _ _ _ _ _ _ _ _ _ c.requires.next_facts c.cut_of-cut.result cut.0 cut.1 cut.2 cut.3) in record { verify_sized = c.requires.next_facts.entries.limits; cut_facts = cut.0; a_matrix_len = (c.requires.next_facts.entries.A-length, omega (arith, minus-room g c.requires.next_facts.entries.limits, c.write_row.auto.out)); d_in_bounds = omega (arith, room) }

pub write_middle-requires : goal.write_middle-requires
write_middle-requires c =
    let g = c.args.sizes in
    let cut = c.cut_of-cut.ensures in
    let room = all_room g c.cut_of-cut.result cut.0 (out-room _ _ _ _ _ _ _ _ _ _ _ _ _ _ _ _ _ _ _ _ _ c.requires.next_facts c.cut_of-cut.result cut.0 cut.1 cut.2 cut.3) in
    let kept = c.write_tables.auto in record { verify_sized = c.requires.next_facts.entries.limits; cut_facts = cut.0; table_room = table-room g c.requires.next_facts.entries.limits (omega (arith, kept.folded)) (omega (arith, kept.products)) (omega (arith, kept.aggregate_a)) (omega (arith, kept.diagonal)); coefficients_value = canonical _ c.requires.next_facts.entries.limits.shaped.degree.small c.aggregate_constant-b.ensures; d_in_bounds = omega (arith, room, c.write_rows5.auto.out) }

pub write_rows3-requires : goal.write_rows3-requires
write_rows3-requires c =
    let g = c.args.sizes in
    let cut = c.cut_of-cut.ensures in
    let room = all_room g c.cut_of-cut.result cut.0 (out-room _ _ _ _ _ _ _ _ _ _ _ _ _ _ _ _ _ _ _ _ _ c.requires.next_facts c.cut_of-cut.result cut.0 cut.1 cut.2 cut.3) in
    let kept = c.write_middle.auto.out ∙ c.write_rows5.auto.out in record { verify_sized = c.requires.next_facts.entries.limits; cut_facts = cut.0; b_matrix_len = c.requires.next_facts.entries.B-length; c_matrix_len = c.requires.next_facts.entries.C-length; u1_len = c.requires.next_facts.constants.u₁-length; d_in_bounds = omega (arith, room, kept) }

pub write_rows4-requires : goal.write_rows4-requires
write_rows4-requires c =
    let g = c.args.sizes in
    let cut = c.cut_of-cut.ensures in
    let room = all_room g c.cut_of-cut.result cut.0 (out-room _ _ _ _ _ _ _ _ _ _ _ _ _ _ _ _ _ _ _ _ _ c.requires.next_facts c.cut_of-cut.result cut.0 cut.1 cut.2 cut.3) in
    let kept = c.write_rows3.auto.out ∙ c.write_middle.auto.out ∙ c.write_rows5.auto.out in record { verify_sized = c.requires.next_facts.entries.limits; cut_facts = cut.0; d_matrix_len = c.requires.next_facts.entries.D-length; u2_len = c.requires.next_facts.constants.u₂-length; d_in_bounds = omega (arith, room, kept) }

pub returns : goal.returns
returns c =
    let a = c.args in
    let cut = c.cut_of-cut.ensures in
    let size = out-room _ _ _ _ _ _ _ _ _ _ _ _ _ _ _ _ _ _ _ _ _ c.requires.next_facts c.cut_of-cut.result cut.0 cut.1 cut.2 cut.3 in
    groups_written a.sizes c.cut_of-cut.result cut.0 _ _ _ _ _ _ _ _ _ _ _ a.c.now _ a.p.now _ _ _ _ _ _ _ _
    (minus-held a.sizes.shape.d a.sizes.shape.r a.c.now _ c.write_row.ensures) c.write_tables.ensures
    (held c.requires.next_facts.entries.limits.shaped.degree.small c.aggregate_constant-b.ensures) a.out.now size refl refl refl c.write_rows5.ensures
    c.write_middle.ensures c.write_rows3.ensures c.write_rows4.ensures
    ∙ same-instance a.sizes c.cut_of-cut.result _ _ _ _ _ _ _ _ _ _ _ _ _ _ _ _ cut.1 cut.2 cut.3
