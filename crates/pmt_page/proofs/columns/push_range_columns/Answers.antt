use Rattle.pmt_page.proofs.Pushing.{last-field, three-fields}
use Rattle.pmt_page.proofs.columns.push_range_columns.Goals as goal

pub returns : goal.returns
returns c =
    last-field c.push_column-4.result c.args.text.now.items _ c.push_column-4.new.text.items _ _ _
    (three-fields c.args.text.now.items _ _ _ _ _ _ _ _ _ c.in_ok-push_column.ensures c.in_ok-push_column-2.ensures c.in_ok-push_column-3.ensures)
    c.push_column-4.ensures
