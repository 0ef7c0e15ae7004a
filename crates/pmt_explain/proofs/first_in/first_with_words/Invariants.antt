use Rattle.std.proofs.Common.{◌≡◌, ℕ, ◌*◌, ◌≤◌}
use Rattle.pmt_explain.specs.Crashes.{GoesOn, IsBlockIn, store_bound}
use Rattle.pmt_explain.proofs.first_in.first_with_words.Given as goal

abbrev pub invariant-loop-word : goal.invariant-loop-word
invariant-loop-word l = record {
  from : l.start ≤ l.word;
  bound : l.bound ≡ store_bound l.earliest;
  first : (i : ℕ) → IsBlockIn l.search i l.words l.place l.block → GoesOn l.search i (l.block * 64) (l.word * 8) l.fn.first l.earliest;
}
