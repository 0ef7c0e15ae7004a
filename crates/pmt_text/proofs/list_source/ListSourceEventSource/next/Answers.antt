use Rattle.std.proofs.Common.{◌<◌, length, arith}
use Rattle.std.proofs.lemmas.Grind.{elements}
use Rattle.pmt_text.proofs.ListLemmas.{takes_next, given_in, leaves_fewer}
use Rattle.pmt_text.proofs.list_source.ListSourceEventSource.next.Goals as goal

pub returns-then-self-len-clause-taken : goal.returns-then-self-len-clause-taken
returns-then-self-len-clause-taken c =
    let s = c.args.self.now in
    let before : s.given < length s.trace.now.events = omega arith in
    takes_next s.trace.now s.given c.get.result before c.get.ensures

pub returns-then-self-len-clause-in_format : goal.returns-then-self-len-clause-in_format
returns-then-self-len-clause-in_format c =
    let s = c.args.self.now in
    let before : s.given < length s.trace.now.events = omega arith in
    given_in s.trace.now s.given c.get.result before c.get.ensures c.len.ensures.is_trace

pub returns-then-self-len-clause-room : goal.returns-then-self-len-clause-room
returns-then-self-len-clause-room c =
    let s = c.args.self.now in
    let before : s.given < length s.trace.now.events = omega arith in
    leaves_fewer s.trace.now s.given c.get.result before c.get.ensures

pub returns-then-self-len-clause-told : goal.returns-then-self-len-clause-told
returns-then-self-len-clause-told c = grind (arith, elements)

pub returns-then-self-len-clause-given : goal.returns-then-self-len-clause-given
returns-then-self-len-clause-given c = grind (arith, elements)
