use Rattle.std.proofs.Common.{subst}
use Rattle.pmt_entries.specs.Prelude.{SplitWord, StoredAfterMark, IsSplitWord, IsStoredAfterMark, AreHintsOf}
use Rattle.pmt_explanation.specs.Explaining.{AreHintsWith, AreOpenHints}
use Rattle.pmt_explanation.proofs.hinting.early_hints.Goals as goal

pub returns : goal.returns
returns c =
    let frames = c.args.frames.now in
    let words = c.in_ok-words.words.items in
    let marks = c.in_ok-marks.marks.items in
    let flushes = c.in_ok-flushes.flushes.items in
    record {
      are_split = subst (λ T. AreHintsWith T frames SplitWord (IsSplitWord T frames) words) c.trace-trace.ensures.value record {
        numbers = c.in_ok-split.split;
        those = c.in_ok-split.ensures;
        told = subst (λ ns. AreHintsOf c.trace-trace.result.now frames SplitWord ns words) c.numbers.ensures.value c.in_ok-words.ensures;
      };
      are_marked = subst (λ T. AreHintsWith T frames StoredAfterMark (IsStoredAfterMark T frames) marks) c.trace-trace.ensures.value record {
        numbers = c.in_ok-after.after;
        those = c.in_ok-after.ensures;
        told = subst (λ ns. AreHintsOf c.trace-trace.result.now frames StoredAfterMark ns marks) c.numbers-2.ensures.value c.in_ok-marks.ensures;
      };
      are_open = subst (λ T. AreOpenHints T frames c.args.paths.now flushes) c.trace-trace.ensures.value c.in_ok-flushes.ensures;
    }
