use Rattle.std.proofs.Common.{◌≡◌, [], refl, arith}
use Rattle.pmt_model.specs.Traces.{empty}
use Rattle.pmt_trimming.proofs.StreamLemmas.{left-none, left-same}
use Rattle.pmt_trimming.proofs.whole_text.Whole.new.Goals as goal

pub returns : goal.returns
returns c =
    let pass = c.in_ok-new.ensures in
    let start : c.in_ok-new.field-0.settled ≡ 0 = omega (arith, pass.all) in
    record {
      pass = pass;
      waiting = [];
      lines = c.new-2.ensures.lines;
      left = left-same (empty c.args.format) c.in_ok-new.field-0.settled [] _ _ c.new-2.ensures.text (left-none c.args.format _ [] _ _ start refl c.new-text.ensures.items c.in_ok-push_header.ensures);
    }
