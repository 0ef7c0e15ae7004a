use Rattle.std.proofs.Common.{rules, ◌≡◌, Some, arith}
use Rattle.pmt_asked.specs.Choosing.{frame_of}
use Rattle.pmt_sources.proofs.NamingLemmas.{named-by, one-word}
use Rattle.pmt_sources.proofs.under.place_at.Goals as goal

pub returns-in-Some-split_once : goal.returns-in-Some-split_once
returns-in-Some-split_once c =
    let labels = c.args.labels.now in
    let own : frame_of labels c.args.event ≡ Some c.frame_of-frame.result.now = search rules in
    named-by labels c.args.event c.frame_of-frame.result.now c.in-Some-split_once.word.now c.place_of.result own (c.in-Some-split_once.ensures.byte (omega arith) (λ w o h. h)).0 c.place_of.ensures

pub returns-in-None : goal.returns-in-None
returns-in-None c =
    let labels = c.args.labels.now in
    let own : frame_of labels c.args.event ≡ Some c.frame_of-frame.result.now = search rules in
    named-by labels c.args.event c.frame_of-frame.result.now c.frame_of-frame.result.now c.place_of-in-None.result own (one-word c.frame_of-frame.result.now (c.in-None.ensures.byte (omega arith) (λ w o h. h))) c.place_of-in-None.ensures
