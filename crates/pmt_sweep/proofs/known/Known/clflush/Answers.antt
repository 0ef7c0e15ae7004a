use Rattle.std.proofs.lemmas.Result.{IfOk-weaker, on_ok_weaker}
use Rattle.pmt_laws.specs.Prelude.{Clflushes, history, lines_of}
use Rattle.pmt_sweep.proofs.KnownLemmas.{act-here, known-next}
use Rattle.pmt_sweep.proofs.known.Known.clflush.Goals as goal

pub clflush_at-requires : goal.clflush_at-requires
clflush_at-requires c =
    let r = c.requires in
    (r.0, r.1, c.args.line, act-here r.0 r.1 c.args.line c.in_ok-slot.slot (Clflushes c.args.line) c.slot_of.new.self (c.in_ok-slot.ensures.known r.0 r.1 (lines_of (history r.0 r.1)) r.2) r.3 c.in_ok-slot.ensures.here)

pub returns-clause-known : goal.returns-clause-known
returns-clause-known c = on_ok_weaker c.clflush_at.result (λ goes T n known next.
    let act = Clflushes c.args.line in
    let here = act-here T n c.args.line c.in_ok-slot.slot act c.slot_of.new.self (c.in_ok-slot.ensures.known T n (lines_of (history T n)) known) next c.in_ok-slot.ensures.here in
    known-next T n act c.clflush_at.new.self next (goes T n c.args.line here)) c.clflush_at.ensures.known

pub returns-clause-kept : goal.returns-clause-kept
returns-clause-kept c = IfOk-weaker c.clflush_at.result _ _ (λ kept tells T n known next.
    let here = act-here T n c.args.line c.in_ok-slot.slot (Clflushes c.args.line) c.slot_of.new.self (c.in_ok-slot.ensures.known T n (lines_of (history T n)) known) next c.in_ok-slot.ensures.here in
    tells T n c.args.line here) c.clflush_at.ensures.kept

pub returns-clause-redundant : goal.returns-clause-redundant
returns-clause-redundant c = IfOk-weaker c.clflush_at.result _ _ (λ kept tells T n known next.
    let here = act-here T n c.args.line c.in_ok-slot.slot (Clflushes c.args.line) c.slot_of.new.self (c.in_ok-slot.ensures.known T n (lines_of (history T n)) known) next c.in_ok-slot.ensures.here in
    tells T n c.args.line here) c.clflush_at.ensures.redundant
