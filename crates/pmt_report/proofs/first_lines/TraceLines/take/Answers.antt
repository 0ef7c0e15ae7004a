use Rattle.std.proofs.Common.{◌≡◌, suc, ◌+◌, length, refl, arith}
use Rattle.pmt_model.specs.Traces.{history}
use Rattle.pmt_laws.proofs.Histories.{length-history}
use Rattle.pmt_report.proofs.FrontsLemmas.{lines-more}
use Rattle.pmt_report.proofs.first_lines.TraceLines.take.Goals as goal

pub tell-requires : goal.tell-requires
tell-requires c =
    let T = c.requires.taking.0 in
    let before = c.requires.taking.1 in
    (history T (length T.events), omega (arith, before.counted, length-history T (length T.events) (omega arith)), omega (arith, c.requires.room), before.live)

pub returns : goal.returns
returns c = λ T before.
    let h = history T (length T.events) in
    let number : c.args.self.now.events + 1 ≡ suc (length h) = omega (arith, before.counted, length-history T (length T.events) (omega arith)) in
    lines-more T c.args.event.now c.args.self.now _ before c.requires.known refl refl (c.in_ok-tell.ensures h number before.live)
