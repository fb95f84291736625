-- `fields::sizes::ends_line` meets its contract.
use Rattle.fields.specs.Laws.SectionLaws.{line-head, line-terms, line-middle, line-ones, line-tail}
use Rattle.fields.proofs.sizes.ends_line.Goals as goal

pub returns-then-i-s : goal.returns-then-i-s
returns-then-i-s c = line-head _ _ c.if-i-s.true c.ends_element.ensures

pub returns-then-j-s : goal.returns-then-j-s
returns-then-j-s c = line-terms _ _ c.if-i-s.false c.if-j-s.true c.ends_term.ensures

pub returns-then-k-s : goal.returns-then-k-s
returns-then-k-s c =
    line-middle _ _ c.if-i-s.false c.if-j-s.false
    c.if-k-s.true c.ends_element-then-k-s.ensures

pub returns-then-m-s : goal.returns-then-m-s
returns-then-m-s c =
    line-ones _ _ c.if-i-s.false
    c.if-j-s.false c.if-k-s.false c.if-m-s.true

pub returns : goal.returns
returns c =
    line-tail _ _ c.if-i-s.false
    c.if-j-s.false c.if-k-s.false
    c.if-m-s.false c.ends_element-2.ensures
