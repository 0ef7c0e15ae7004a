use Rattle.std.proofs.Common.{subst}
use Rattle.pmt_entries.specs.Prelude.{OneLineShort, StoredAfterFlush, AreHintsOf}
use Rattle.pmt_explanation.proofs.hinting.late_hints.Goals as goal

pub returns : goal.returns
returns c =
    let frames = c.args.frames.now in
    let after = c.in_ok-after.after in
    let short = c.in_ok-short.short in
    let stores = c.in_ok-stores.stores.items in
    let runs = c.in_ok-runs.runs.items in
    record {
      are_after = record {
        numbers = after;
        those = c.in_ok-after.ensures;
        told = subst (λ T. AreHintsOf T frames StoredAfterFlush after stores) c.trace-trace.ensures
            (subst (λ ns. AreHintsOf c.trace-trace.result.now frames StoredAfterFlush ns stores) c.numbers.ensures.value c.in_ok-stores.ensures);
      };
      are_short = record {
        numbers = short;
        those = c.in_ok-short.ensures;
        told = subst (λ T. AreHintsOf T frames OneLineShort short runs) c.trace-trace.ensures
            (subst (λ ns. AreHintsOf c.trace-trace.result.now frames OneLineShort ns runs) c.numbers-2.ensures.value c.in_ok-runs.ensures);
      };
    }
