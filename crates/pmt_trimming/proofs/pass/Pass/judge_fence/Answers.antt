use Rattle.std.proofs.Common.{length, refl}
use Rattle.pmt_laws.specs.Prelude.{Event, Sfence, Fences, history, lines_of, with_event}
use Rattle.pmt_trimming.proofs.PassingLemmas.{judged-marks, tells-fence}
use Rattle.pmt_trimming.proofs.FencingLemmas.{at-fence, lines-past}
use Rattle.pmt_trimming.proofs.pass.Pass.judge_fence.Goals as goal

pub decide-rises-requires : goal.decide-rises-requires
decide-rises-requires c =
    let T = c.requires.passing.0 in
    let e : Event = record { thread = c.args.thread; op = Sfence } in
    (with_event T e, length T.events, lines_of (history T (length T.events)), at-fence T e c.args.thread refl c.args.self.now c.requires.passing.1 c.of-flushes.result.now c.of-flushes.ensures)

pub returns-clause-follows : goal.returns-clause-follows
returns-clause-follows c = λ T e is before.
    let n = length T.events in
    let t = c.args.thread in
    let at = at-fence T e t is c.args.self.now before c.of-flushes.result.now c.of-flushes.ensures in
    let past = c.decide-rises.ensures.decides (with_event T e) n (lines_of (history T n)) at in
    judged-marks T e (Fences t) is c.args.self.now before _ _ refl refl c.decide-rises.ensures.size
    (lines-past T e t is c.args.self.now before c.of-flushes.result.now c.decide-rises.new.rows c.decide-rises.new.marks.items c.decide-rises.result c.clear.new.self c.of-flushes.ensures past c.clear.ensures.own c.clear.ensures.others)
    past.marks (rw c.mark_of.ensures (tells-fence T e t c.decide-rises.result is past.fence))
