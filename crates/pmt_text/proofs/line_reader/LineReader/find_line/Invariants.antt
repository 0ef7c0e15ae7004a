use Rattle.std.proofs.Common.{◌≡◌, ℕ, List, Option}
use Rattle.pmt_text.specs.Counting.{failure_count}
use Rattle.pmt_text.specs.Lines.{ahead, KeepsKnown}
use Rattle.pmt_text.specs.Within.{HasRead}
use Rattle.pmt_text.proofs.line_reader.LineReader.find_line.Given as goal

abbrev pub invariant-loop-found : goal.invariant-loop-found
invariant-loop-found g l = record {
  kept : KeepsKnown (ahead g.R.Read.remaining l.initial.self) (ahead g.R.Read.remaining l.self);
  within : (first : Option (List ℕ)) → HasRead g.R.Read.remaining first l.initial.self → HasRead g.R.Read.remaining first l.self;
  counted : failure_count l.self.input ≡ failure_count l.initial.self.input;
}

abbrev pub decreases-loop-found : goal.decreases-loop-found
decreases-loop-found g l = l.self.room
