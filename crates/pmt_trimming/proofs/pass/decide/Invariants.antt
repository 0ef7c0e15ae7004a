use Rattle.std.proofs.Common.{◌≡◌, ℕ, List, length}
use Rattle.pmt_model.specs.Traces.{Recording}
use Rattle.pmt_trimming.specs.Passing.{AreAtFence}
use Rattle.pmt_trimming.proofs.FencingLemmas.{IsDeciding}
use Rattle.pmt_trimming.proofs.pass.decide.Given as goal

abbrev pub invariant-loop-i : goal.invariant-loop-i
invariant-loop-i l = record {
  size : length l.marks.items ≡ length l.fn.marks.items;
  decides : (T : Recording) (n : ℕ) (lines : List ℕ) → AreAtFence T n lines l.settled l.fn.rows l.fn.marks.items l.fn.flushes →
      IsDeciding T n lines l.settled l.flushes l.rows l.marks.items l.i l.rises;
}
