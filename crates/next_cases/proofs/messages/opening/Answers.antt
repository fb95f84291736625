-- `next_cases::messages::opening` meets its contract. Assumes nothing.
use Rattle.std.proofs.Common.{ℕ, length, take, ap, sym, length-take-le}
use Rattle.next_cases.specs.Messages.{opening_of}
use Rattle.next_cases.specs.Laws.MessageLaws.{start_fits}
use Rattle.next_cases.proofs.messages.opening.Goals as goal

pub slice_bounds-result-end : goal.slice_bounds-result-end
slice_bounds-result-end c = sym (length-take-le _ _ (start_fits (length c.args.messages.now) c.args.lengths.now 4 c.total.ensures))

pub returns : goal.returns
unfolding opening_of
returns c = ap (λ (n : ℕ). take n c.args.messages.now) c.total.ensures
