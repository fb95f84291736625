-- SPECIFICATION 2.11: "The leaf centres by signed arithmetic, with no branch, loop or call in it". Said of a function's MIR, the code that its
-- contract is proved of.
--     straight b          assignments and a return, one after another
--     Signed b            each line is a sum, a difference, a product, a quotient or a remainder of signed numbers, or makes a number signed
--     AfterRemainder b    an unsigned remainder, and then Signed
use Rattle.std.specs.Prelude.{Bool, true, false, ◌&&◌}
use mir.Syntax.{Width, Sign, unsigned, signed, Place, Opd, op2, op1, add, sub, mul, div, rem, cast}
use mir.Syntax.{Body, skip, seq, assign, block, loop, cond, switch, exit, return, call, unreachable, call_v, lend_static}

unfoldable pub straight : Body → Bool
straight skip = true
straight (assign p v) = true
straight return = true
straight (seq a b) = straight a && straight b
straight (block b) = false
straight (loop b) = false
straight (cond x a b) = false
straight (switch x arms) = false
straight (exit n) = false
straight (call f xs p) = false
straight unreachable = false
straight (call_v f s xs p) = false
straight (lend_static p q r) = false

pub data Signed : Body → Type 0 where
  returned : Signed return
  added : {p : Place} {x y : Opd} {b : Body} → Signed b → Signed (seq (assign p (op2 (add signed) x y)) b)
  subtracted : {p : Place} {x y : Opd} {b : Body} → Signed b → Signed (seq (assign p (op2 (sub signed) x y)) b)
  multiplied : {p : Place} {x y : Opd} {b : Body} → Signed b → Signed (seq (assign p (op2 (mul signed) x y)) b)
  divided : {p : Place} {x y : Opd} {b : Body} → Signed b → Signed (seq (assign p (op2 (div signed) x y)) b)
  reduced : {p : Place} {x y : Opd} {b : Body} → Signed b → Signed (seq (assign p (op2 (rem signed) x y)) b)
  made_signed : {p : Place} {s : Sign} {w : Width} {x : Opd} {b : Body} → Signed b → Signed (seq (assign p (op1 (cast s signed w) x)) b)

pub data AfterRemainder : Body → Type 0 where
  first : {p : Place} {x y : Opd} {b : Body} → Signed b → AfterRemainder (seq (assign p (op2 (rem unsigned) x y)) b)
