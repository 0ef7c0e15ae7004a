use Rattle.std.proofs.Common.{◌≡◌, take}
use Rattle.pmt_recorder.specs.Scripts.{IsInFormat}
use Rattle.pmt_recorder.specs.Strips.{ops_of}
use Rattle.pmt_recorder.proofs.scripts.play.Given as goal

abbrev pub invariant-loop-op : goal.invariant-loop-op
invariant-loop-op g l = (l.tape.thread ≡ l.fn.tape.thread) × (ops_of l.tape.entries ≡ take l.op-index l.script) × IsInFormat g.L.Roll.format (take l.op-index l.script)
