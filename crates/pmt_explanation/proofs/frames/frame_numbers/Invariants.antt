use Rattle.std.proofs.Common.{◌≡◌, length}
use Rattle.pmt_explanation.specs.Summing.{AreFirstFrames, AreFrameNumbers, first_in}
use Rattle.pmt_explanation.proofs.frames.frame_numbers.Given as goal

abbrev pub invariant-loop-index : goal.invariant-loop-index
invariant-loop-index l = record {
  size : length l.frames.items ≡ l.index;
  frames : AreFrameNumbers l.labels l.index l.frames.items;
  firsts : AreFirstFrames l.labels l.index (first_in l.firsts);
}
