use Rattle.std.specs.Prelude.{◌<◌, ◌==◌, ◌-◌, ◌^◌, if◌then◌else◌, slice_index}
use Rattle.pmt_tables.proofs.AddingLemmas.{IsAdding}
use Rattle.pmt_tables.proofs.table.push_overwritten.Given as goal

abbrev pub invariant-loop-earlier : goal.invariant-loop-earlier
invariant-loop-earlier l = record {
  adding : IsAdding l.flush l.later l.low l.high (λ k. slice_index l.table.numbers k) l.initial.over.items l.over.items l.earlier;
  small : l.earlier < 2 ^ 32;
}

abbrev pub decreases-loop-earlier : goal.decreases-loop-earlier
decreases-loop-earlier l = if l.earlier == 0 then 0 else 2 ^ 32 - l.earlier
