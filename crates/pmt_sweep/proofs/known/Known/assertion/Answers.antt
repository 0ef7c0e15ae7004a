use Rattle.std.proofs.Common.{◌≡◌, suc, ◌∙◌, arith}
use Rattle.std.proofs.lemmas.Grind.{elements}
use Rattle.pmt_laws.specs.Prelude.{Asserts, history, lines_of}
use Rattle.pmt_sweep.specs.Known.{IsKnownAmong}
use Rattle.pmt_sweep.specs.declared.known.Known.{Known}
use Rattle.pmt_sweep.proofs.KnownLemmas.{known-next}
use Rattle.pmt_sweep.proofs.ClflushLemmas.{judged-rows, judged-words, judged-links, judged-flushed, judged-waiting}
use Rattle.pmt_sweep.proofs.known.Known.assertion.Goals as goal

pub returns : goal.returns
returns c = λ T n known next.
    let k = c.args.self.now in
    let lines = lines_of (history T n) in
    let numbered : c.len-next.result ≡ suc n = c.len-next.ensures ∙ known.entries.many in
    let new : Known = record { format = k.format; words_of_line = k.words_of_line; rows = k.rows; words = k.words; links = c.push.new.self; flushed = k.flushed; waiting = k.waiting } in
    let is : IsKnownAmong T (suc n) lines new = record {
      trace = known.trace;
      format = known.format;
      many = known.many;
      rows = judged-rows T n lines k known next;
      words = judged-words T n lines k known next;
      entries = judged-links T n lines k known next c.len-next.result c.push.new.self numbered c.in_ok-push.ensures.added;
      flushed = judged-flushed T n lines k known next;
      waiting = judged-waiting T n lines k known next;
    } in
    known-next T n Asserts new next is

pub overflow_cast-next : goal.overflow_cast-next
overflow_cast-next c = grind (arith, elements)
