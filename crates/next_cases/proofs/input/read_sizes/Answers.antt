-- `next_cases::input::read_sizes` meets its contract. Assumes nothing.
use Rattle.next_cases.specs.Input.{sizes_of}
use Rattle.next_cases.proofs.input.read_sizes.Goals as goal

pub returns : goal.returns
unfolding sizes_of
returns c =
    λ i. record {
      shape = record { d = c.size_at.ensures i; n = c.size_at-2.ensures i; r = c.size_at-3.ensures i };
      k = c.size_at-4.ensures i;
      l = c.size_at-5.ensures i;
      w = c.size_at-6.ensures i;
      kappa = c.size_at-7.ensures i;
      kappa1 = c.size_at-8.ensures i;
      kappa2 = c.size_at-9.ensures i;
      b = c.size_at-10.ensures i;
      b1 = c.size_at-11.ensures i;
      b2 = c.size_at-12.ensures i;
      t1 = c.size_at-13.ensures i;
      t2 = c.size_at-14.ensures i;
      bound = c.bound_at.ensures i;
      target = c.bound_at-2.ensures i;
      one_digit = c.args.one_digit;
    }
