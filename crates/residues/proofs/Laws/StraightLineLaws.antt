-- What straight code leaves out, which lines signed arithmetic has, and that it is straight.
use Rattle.std.specs.Prelude.{◌≡◌, refl, true, false, ◌&&◌, List, ◌⊎◌, ℕ}
use Rattle.std.proofs.Common.{inl, inr}
use mir.Syntax.{Width, Sign, signed, unsigned, Place, Opd, Op1, op1, cast, Op2, op2, add, sub, mul, div, rem}
use mir.Syntax.{Body, seq, assign, block, loop, cond, switch, Arms, exit, call, Callee}
use Rattle.residues.specs.StraightLine.{straight, Signed, AfterRemainder}
use Rattle.residues.specs.StraightLine.{returned, added, subtracted, multiplied, divided, reduced, made_signed, first}

-- ---- straight code

pub no_branch : (x : Opd) (a b : Body) → straight (cond x a b) ≡ false
unfolding straight
no_branch x a b = refl

pub no_switch : (x : Opd) (arms : Arms) → straight (switch x arms) ≡ false
unfolding straight
no_switch x arms = refl

pub no_loop : (b : Body) → straight (loop b) ≡ false
unfolding straight
no_loop b = refl

pub no_call : (f : Callee) (xs : List Opd) (p : Place) → straight (call f xs p) ≡ false
unfolding straight
no_call f xs p = refl

pub no_block : (b : Body) → straight (block b) ≡ false
unfolding straight
no_block b = refl

pub no_exit : (n : ℕ) → straight (exit n) ≡ false
unfolding straight
no_exit n = refl

pub straight_seq : (a b : Body) → straight (seq a b) ≡ straight a && straight b
unfolding straight
straight_seq a b = refl

-- ---- signed arithmetic

pub signed_straight : {b : Body} → Signed b → straight b ≡ true
unfolding straight
signed_straight returned = refl
signed_straight (added h) = signed_straight h
signed_straight (subtracted h) = signed_straight h
signed_straight (multiplied h) = signed_straight h
signed_straight (divided h) = signed_straight h
signed_straight (reduced h) = signed_straight h
signed_straight (made_signed h) = signed_straight h

pub after-remainder-straight : {b : Body} → AfterRemainder b → straight b ≡ true
unfolding straight
after-remainder-straight (first h) = signed_straight h

-- a line that computes o of two operands
abbrev line : Op2 → Place → Opd → Opd → Body → Body
line o p x y b = seq (assign p (op2 o x y)) b

pub signed_line : {o : Op2} {p : Place} {x y : Opd} {b : Body} → Signed (line o p x y b) →
    ((o ≡ add signed) ⊎ (o ≡ sub signed) ⊎ (o ≡ mul signed) ⊎ (o ≡ div signed) ⊎ (o ≡ rem signed)) × Signed b
signed_line (added h) = (inl refl, h)
signed_line (subtracted h) = (inr (inl refl), h)
signed_line (multiplied h) = (inr (inr (inl refl)), h)
signed_line (divided h) = (inr (inr (inr (inl refl))), h)
signed_line (reduced h) = (inr (inr (inr (inr refl))), h)

pub signed_cast : {o : Op1} {p : Place} {x : Opd} {b : Body} → Signed (seq (assign p (op1 o x)) b) →
    (s : Sign) × (w : Width) × (o ≡ cast s signed w) × Signed b
signed_cast (made_signed h) = (_, _, refl, h)

pub after-remainder-line : {o : Op2} {p : Place} {x y : Opd} {b : Body} → AfterRemainder (line o p x y b) → (o ≡ rem unsigned) × Signed b
after-remainder-line (first h) = (refl, h)
