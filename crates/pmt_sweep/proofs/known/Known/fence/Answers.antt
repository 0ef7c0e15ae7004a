use Rattle.std.proofs.Common.{◌≡◌, suc, ◌∙◌, arith}
use Rattle.std.proofs.lemmas.Grind.{elements}
use Rattle.pmt_laws.specs.Prelude.{Fences, history, lines_of}
use Rattle.pmt_safety.specs.Safety.{safe_store_at}
use Rattle.pmt_sweep.specs.Known.{IsKnownAmong}
use Rattle.pmt_sweep.specs.declared.known.Known.{Known}
use Rattle.pmt_sweep.proofs.KnownLemmas.{known-next}
use Rattle.pmt_sweep.proofs.FenceLemmas.{at-fence, flagged, fenced-rows, fenced-links, fenced-words, fenced-flushed, fenced-waiting, fence-kept, fence-empty-told, fence-flags}
use Rattle.pmt_sweep.proofs.known.Known.fence.Goals as goal

pub fence-rises-requires-clause-flagged : goal.fence-rises-requires-clause-flagged
fence-rises-requires-clause-flagged c =
    let r = c.requires in
    flagged r.0 r.1 c.args.thread (lines_of (history r.0 r.1)) c.args.self.now r.2 r.3 c.args.kept.now c.of-flushes.result.now r.4 c.of-flushes.ensures

pub fence-rises-requires-clause-known : goal.fence-rises-requires-clause-known
fence-rises-requires-clause-known c =
    let T = c.requires.0 in
    let n = c.requires.1 in
    let known = c.requires.2 in
    let next = c.requires.3 in
    let k = c.args.self.now in
    let lines = lines_of (history T n) in
    let numbered : c.len-number.result ≡ suc n = c.len-number.ensures ∙ known.entries.many in
    let flushes = c.of-flushes.result.now in
    let at = at-fence T n c.args.thread lines k known next c.len-number.result flushes numbered c.of-flushes.ensures in
    (T, lines, n, λ m. safe_store_at T m n, at)

pub returns-clause-known : goal.returns-clause-known
returns-clause-known c = λ T n known next.
    let k = c.args.self.now in
    let lines = lines_of (history T n) in
    let numbered : c.len-number.result ≡ suc n = c.len-number.ensures ∙ known.entries.many in
    let flushes = c.of-flushes.result.now in
    let at = at-fence T n c.args.thread lines k known next c.len-number.result flushes numbered c.of-flushes.ensures in
    let after = c.fence-rises.ensures.raised T lines n (λ m. safe_store_at T m n) at in
    let new : Known = record { format = k.format; words_of_line = k.words_of_line; rows = c.fence-rises.new.rows; words = k.words; links = c.push.new.self; flushed = k.flushed; waiting = c.clear.new.self } in
    let is : IsKnownAmong T (suc n) lines new = record {
      trace = known.trace;
      format = known.format;
      many = known.many;
      rows = fenced-rows T n c.args.thread lines k known next flushes c.of-flushes.ensures c.fence-rises.new.rows c.fence-rises.new.links after;
      words = fenced-words T n c.args.thread lines k known next;
      entries = fenced-links T n c.args.thread lines k known next flushes c.of-flushes.ensures c.fence-rises.new.rows c.fence-rises.new.links after c.len-number.result c.push.new.self numbered c.in_ok-push.ensures.added;
      flushed = fenced-flushed T n c.args.thread lines k known next;
      waiting = fenced-waiting T n c.args.thread lines k known next c.clear.new.self c.clear.ensures.own c.clear.ensures.others;
    } in
    known-next T n (Fences c.args.thread) new next is

pub returns-clause-kept : goal.returns-clause-kept
returns-clause-kept c = λ T n known next.
    let k = c.args.self.now in
    let lines = lines_of (history T n) in
    let numbered : c.len-number.result ≡ suc n = c.len-number.ensures ∙ known.entries.many in
    let flushes = c.of-flushes.result.now in
    let at = at-fence T n c.args.thread lines k known next c.len-number.result flushes numbered c.of-flushes.ensures in
    fence-kept T n c.args.thread lines k known next flushes c.fence-rises.result c.of-flushes.ensures (c.fence-rises.ensures.tells T lines n (λ m. safe_store_at T m n) at)

pub returns-clause-empty : goal.returns-clause-empty
returns-clause-empty c = λ T n known next.
    fence-empty-told T n c.args.thread (lines_of (history T n)) c.args.self.now known next c.of-flushes.result.now c.is_empty-without_flush.result c.of-flushes.ensures c.is_empty-without_flush.ensures

pub returns-clause-flags : goal.returns-clause-flags
returns-clause-flags c = λ T n known next.
    let k = c.args.self.now in
    let lines = lines_of (history T n) in
    let numbered : c.len-number.result ≡ suc n = c.len-number.ensures ∙ known.entries.many in
    let flushes = c.of-flushes.result.now in
    let at = at-fence T n c.args.thread lines k known next c.len-number.result flushes numbered c.of-flushes.ensures in
    fence-flags T n c.args.thread lines k known next flushes c.args.kept.now c.fence-rises.new.kept c.of-flushes.ensures (c.fence-rises.ensures.flags T lines n (λ m. safe_store_at T m n) at)

pub returns-in_err-push-clause-flags : goal.returns-in_err-push-clause-flags
returns-in_err-push-clause-flags c = λ T n known next.
    let k = c.args.self.now in
    let lines = lines_of (history T n) in
    let numbered : c.len-number.result ≡ suc n = c.len-number.ensures ∙ known.entries.many in
    let flushes = c.of-flushes.result.now in
    let at = at-fence T n c.args.thread lines k known next c.len-number.result flushes numbered c.of-flushes.ensures in
    fence-flags T n c.args.thread lines k known next flushes c.args.kept.now c.fence-rises.new.kept c.of-flushes.ensures (c.fence-rises.ensures.flags T lines n (λ m. safe_store_at T m n) at)

pub overflow_cast-number : goal.overflow_cast-number
overflow_cast-number c = grind (arith, elements)
