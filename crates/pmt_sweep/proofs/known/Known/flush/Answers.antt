use Rattle.std.proofs.lemmas.Result.{IfOk-weaker, on_ok_weaker}
use Rattle.pmt_laws.specs.Prelude.{Flushes, history, lines_of}
use Rattle.pmt_sweep.proofs.KnownLemmas.{act-here, known-next}
use Rattle.pmt_sweep.proofs.known.Known.flush.Goals as goal

pub flush_at-requires-clause-next : goal.flush_at-requires-clause-next
flush_at-requires-clause-next c =
    let r = c.requires in
    (r.0, r.1, c.args.line, act-here r.0 r.1 c.args.line c.in_ok-slot.slot (Flushes c.args.thread c.args.line) c.slot_of.new.self (c.in_ok-slot.ensures.known r.0 r.1 (lines_of (history r.0 r.1)) r.2) r.3 c.in_ok-slot.ensures.here)

pub returns-clause-known : goal.returns-clause-known
returns-clause-known c = on_ok_weaker c.flush_at.result (λ goes T n known next.
    let act = Flushes c.args.thread c.args.line in
    let here = act-here T n c.args.line c.in_ok-slot.slot act c.slot_of.new.self (c.in_ok-slot.ensures.known T n (lines_of (history T n)) known) next c.in_ok-slot.ensures.here in
    known-next T n act c.flush_at.new.self next (goes T n c.args.line here)) c.flush_at.ensures.known

pub returns-clause-tells : goal.returns-clause-tells
returns-clause-tells c = IfOk-weaker c.flush_at.result _ _ (λ redundant tells T n known next.
    let here = act-here T n c.args.line c.in_ok-slot.slot (Flushes c.args.thread c.args.line) c.slot_of.new.self (c.in_ok-slot.ensures.known T n (lines_of (history T n)) known) next c.in_ok-slot.ensures.here in
    tells T n c.args.line here) c.flush_at.ensures.tells
