-- `fields::write::write_field` meets its contract.
use Rattle.fields.specs.Laws.WriteLaws.{blank-front, field_written}
use Rattle.fields.proofs.write.write_field.Goals as goal

pub write_columns-requires : goal.write_columns-requires
write_columns-requires c =
    let a = c.args in
    blank-front a.text.now a.at a.minus a.m c.requires c.write_blanks.ensures

pub returns : goal.returns
returns c =
    let a = c.args in
    field_written a.text.now a.at a.minus a.m c.requires c.write_blanks.ensures
    c.write_columns.ensures
