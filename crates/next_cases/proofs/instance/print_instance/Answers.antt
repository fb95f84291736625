-- `next_cases::instance::print_instance` meets its contract: the call's, on the lists by their numbers. Assumes nothing.
use Rattle.next_cases.specs.Laws.RunLaws.{next_of_lists}
use Rattle.next_cases.proofs.instance.print_instance.Goals as goal

pub returns : goal.returns
returns c =
    let a = c.args in
    let call = c.lizkarg_next_instance-answer in
    next_of_lists a.sizes {ν = a.nu} {μ = a.mu} {code = call.result} a.lists.now {out = a.out.now}
    c.nth_list.ensures
    c.nth_list-2.ensures
    c.nth_list-3.ensures
    c.nth_list-4.ensures
    c.nth_list-5.ensures
    c.nth_list-6.ensures
    c.nth_list-7.ensures
    c.nth_list-8.ensures
    c.nth_list-9.ensures
    c.nth_list-10.ensures
    c.nth_list-11.ensures
    c.nth_list-12.ensures
    c.nth_list-13.ensures
    c.nth_list-14.ensures
    c.nth_list-15.ensures
    c.nth_list-16.ensures
    call.ensures
