use Rattle.pmt_page.proofs.Pushing.{if-ok, last-on, three-fields}
use Rattle.pmt_page.proofs.sources.push_part.Goals as goal

pub returns : goal.returns
returns c =
    last-on c.extend_from_slice.result c.args.text.now.items _ c.extend_from_slice.new.self.items _ _
    (three-fields c.args.text.now.items _ _ _ _ _ _ _ _ _ c.in_ok-push_count.ensures c.in_ok-push_count-2.ensures c.in_ok-push_string.ensures)
    (if-ok c.extend_from_slice.result c.extend_from_slice.new.self.items _ _ c.extend_from_slice.ensures.items)
