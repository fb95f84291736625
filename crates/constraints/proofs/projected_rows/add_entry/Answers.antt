-- `constraints::projected_rows::add_entry` meets its contract. The loop has added the entry for the first k functions.
use Rattle.std.proofs.Common.{◌≡◌, refl, List, ℕ, ◌+◌, ◌*◌, ◌^◌, ◌<◌, arith, get_or, ℤ, pos, ◌*ℤ◌, SFits, w32, to_z, of_z, to_z-of_z}
use Rattle.std.specs.Int.Signed.{mag}
use Rattle.residues.proofs.Laws.Words.{held, wide}
use Rattle.residues.proofs.Laws.Centring.{product-fits}
use Rattle.constraints.specs.Laws.AccumulatorLaws.{five_fits, five_more, entry-summand}
use Rattle.constraints.proofs.projected_rows.add_entry.Goals as goal

-- the product of a weight and an entry, read back from its bits
product : (ω : List ℤ) (i : ℕ) (x : ℤ) → mag (get_or ω i (pos 0)) < 2 ^ 31 → SFits w32 x
    → held (held (to_z w32 (of_z w32 (get_or ω i (pos 0)))) *ℤ held (to_z w32 (of_z w32 x))) ≡ get_or ω i (pos 0) *ℤ to_z w32 (of_z w32 x)
product ω i x read fits =
    let weight : SFits w32 (get_or ω i (pos 0)) = record { sfits = read } in
    rw (wide weight, wide fits, to_z-of_z fits) (to_z-of_z (product-fits weight fits))

pub overflow_add-acc-in-loop-k-2 : goal.overflow_add-acc-in-loop-k-2
overflow_add-acc-in-loop-k-2 c =
    let place = c.loop-k.k * c.args.w + c.args.j in
    five_fits c.loop-k.invariant c.requires.five_room c.loop-k-test.true c.acc-in-loop-k-1.given
    (product c.args.omega.now place c.args.x c.acc-1.given c.ranges.x)
    (rw (to_z-of_z c.ranges.x) (entry-summand c.args.omega.now place c.args.x c.acc-1.given c.requires.x_bound refl).1) (omega arith)

pub loop-k-preserved : goal.loop-k-preserved
loop-k-preserved c =
    let place = c.loop-k.k * c.args.w + c.args.j in
    five_more c.loop-k.invariant c.requires.five_room c.loop-k-test.true c.acc-in-loop-k-1.given
    (product c.args.omega.now place c.args.x c.acc-1.given c.ranges.x)
    (rw (to_z-of_z c.ranges.x) (entry-summand c.args.omega.now place c.args.x c.acc-1.given c.requires.x_bound refl).1) (omega arith)
