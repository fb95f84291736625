-- `residues::range::count_of` meets its contract. Assumes nothing.
use Rattle.std.specs.Prelude.{◌≡◌, refl, cond, eqb, nat_abs, count_by}
use Rattle.std.proofs.Common.{rules, sym, ◌∙◌}
use Rattle.std.proofs.lemmas.List.Recursion.{is_sum_by}
use Rattle.residues.specs.Range.{count_of}
use Rattle.residues.proofs.range.count_of.Goals as goal

pub returns : goal.returns
unfolding count_of
returns c =
    let a = c.args.a in
    let by_test : c.count.result ≡ count_by (λ x. eqb (nat_abs x) a) c.args.xs.now = search rules in
    by_test ∙ sym (is_sum_by (count_of a) (λ x. cond (eqb (nat_abs x) a) 1 0) refl (λ x xs. refl) c.args.xs.now)
