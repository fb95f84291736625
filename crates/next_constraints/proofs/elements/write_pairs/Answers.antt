-- `next_constraints::elements::write_pairs` meets its contract. The loop's invariant: the first i rows are written.
use Rattle.std.proofs.Common.{◌≡◌, ℕ, ◌+◌, ◌-◌, ◌*◌, ◌<◌, ◌≤◌, length, refl, sym, ap, ◌∙◌, add-one, rules, arith, mul-le-mul_right}
use Rattle.algebra.specs.Triangle.{start, pairs-count}
use Rattle.algebra.specs.Laws.TriangleLaws.{start-suc, start_mono}
use Rattle.ring.specs.Laws.ElementPlaces.{place-below}
use Rattle.fold.specs.Sizes.{pairs}
use Rattle.fold.proofs.Laws.WriterLaws.{rows_start, rows-turn, rows_end}
use Rattle.next_constraints.proofs.elements.write_pairs.Goals as goal

-- row i, from element `at` on, ends within the pairs
row-fits : (d : ℕ) (r i : ℕ) (at : ℕ) → at ≡ start (λ k. r - k) i → i < r → (at + (r - i)) * d ≤ pairs r * d
unfolding pairs pairs-count
row-fits d r i at place h = mul-le-mul_right d (omega (arith, start_mono (λ k. r - k) i r h))

pub loop-i-init : goal.loop-i-init
unfolding start
loop-i-init g c = record { same = refl; place = refl; written = λ x gives. rows_start c.requires.d_in_bounds }

pub write_each-requires-clause-d_in_bounds : goal.write_each-requires-clause-d_in_bounds
write_each-requires-clause-d_in_bounds g c =
    omega (arith, row-fits c.args.d c.args.r _ _ c.loop-i.invariant.place c.loop-i-test.true, c.loop-i.invariant.same, c.requires.d_in_bounds)

pub overflow_add-at : goal.overflow_add-at
overflow_add-at g c =
    let fits = row-fits c.args.d c.args.r _ _ c.loop-i.invariant.place c.loop-i-test.true in
    let inside : (c.loop-i.at + (c.args.r - c.loop-i.i-counter)) * c.args.d ≤ length c.args.out.now = omega (arith, fits, c.requires.d_in_bounds) in
    omega (arith, place-below c.args.d _ c.requires.degree.positive inside)

pub loop-i-preserved : goal.loop-i-preserved
loop-i-preserved g c = record {
  same = c.write_each.auto.out ∙ c.loop-i.invariant.same;
  place =
      rw add-one
      (ap (λ (p : ℕ). p + (c.args.r - c.loop-i.i-counter)) c.loop-i.invariant.place ∙ sym (start-suc (λ k. c.args.r - k) c.loop-i.i-counter));
  written = λ x gives.
      rows-turn (c.loop-i.invariant.written x gives) c.loop-i-test.true
      (c.write_each.ensures (λ k. x c.loop-i.i-counter (c.loop-i.i-counter + k))
      (record { given = λ k h e post. gives.given c.loop-i.i-counter (c.loop-i.i-counter + k) (omega arith) (omega arith) e (search rules) }));
}

pub returns : goal.returns
returns g c = λ x gives. rows_end (c.loop-i.invariant.written x gives) c.loop-i-test.false
