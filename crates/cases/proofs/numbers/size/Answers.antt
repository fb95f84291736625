-- `cases::numbers::size` meets its contract. Assumes nothing.
use Rattle.std.proofs.Common.{◌≡◌, refl, ℕ, ◌≤◌, ◌<◌, ℤ, pos, negsuc, nat_abs, SFits, arith, to_z-of_z, le-leb}
use Rattle.std.proofs.lemmas.Bool.{lt-leb}
use Rattle.std.specs.Int.{w32, FitsUnsignedBits}
use Rattle.cases.specs.Numbers.{size_of, size_at}
use Rattle.cases.proofs.numbers.size.Goals as goal

fitting : (most : ℕ) (x : ℤ) {n : ℕ} → FitsUnsignedBits 64 x × (n ≡ nat_abs x) → n ≤ most → n ≡ size_of most x
unfolding size_of
fitting most (pos k) {n} h le = let small : k ≤ most = omega (arith, h.1) in rw (le-leb k most small) h.1
fitting most (negsuc k) h le = absurd h.0

large : (most : ℕ) (x : ℤ) {n : ℕ} → FitsUnsignedBits 64 x × (n ≡ nat_abs x) → most < n → 0 ≡ size_of most x
unfolding size_of
large most (pos k) {n} h lt = let over : most < k = omega (arith, h.1) in rw (lt-leb k most over) refl
large most (negsuc k) h lt = refl

negative : (most : ℕ) (x : ℤ) → SFits w32 x → (FitsUnsignedBits 64 x → ⊥) → 0 ≡ size_of most x
unfolding size_of
negative most (pos k) f h = absurd (h (omega (arith, f.sfits)))
negative most (negsuc k) f h = refl

pub returns-in-Ok : goal.returns-in-Ok
unfolding size_at
returns-in-Ok c =
    let fits : SFits w32 c.number_at.result = record { sfits = c.number_at.type_inv } in
    rw (← c.number_at.ensures) (fitting c.args.most c.number_at.result (rw (to_z-of_z fits) at c.in-Ok.ensures) c.if-number-most.true)

pub returns-in_default : goal.returns-in_default
unfolding size_at
returns-in_default c =
    let fits : SFits w32 c.number_at.result = record { sfits = c.number_at.type_inv } in
    rw (← c.number_at.ensures) (large c.args.most c.number_at.result (rw (to_z-of_z fits) at c.in-Ok.ensures) c.if-number-most.false)

pub returns-in_default-2 : goal.returns-in_default-2
unfolding size_at
returns-in_default-2 c =
    let fits : SFits w32 c.number_at.result = record { sfits = c.number_at.type_inv } in
    rw (← c.number_at.ensures) (negative c.args.most c.number_at.result fits (rw (to_z-of_z fits) at c.in_default.ensures))
