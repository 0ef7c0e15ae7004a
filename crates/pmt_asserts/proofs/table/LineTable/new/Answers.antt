use Rattle.std.proofs.Common.{◌≡◌, ◌∙◌, ap, subst, sym}
use Rattle.std.specs.Prelude.{All}
use Rattle.pmt_lines.specs.Jobs.{LineWork}
use Rattle.pmt_asserts.specs.Puts.{puts_of, Fits, AreWritesOf}
use Rattle.pmt_asserts.proofs.BuildLemmas.{puts-fit}
use Rattle.pmt_asserts.proofs.table.LineTable.new.Goals as goal

pub collect_writes-requires : goal.collect_writes-requires
collect_writes-requires c =
    let job = c.job.result.now in
    let same : c.deref.result.now ≡ puts_of job.steps = c.deref.ensures.value ∙ c.in_ok-puts.ensures {u = tt} ∙ ap puts_of c.steps.ensures.value in
    subst (All Fits) (sym same) (puts-fit 0 job.steps c.steps.ensures.rising)

pub invariant_of-result : goal.invariant_of-result
invariant_of-result c = record {
  stores = c.in_ok-puts.ensures {u = tt} ∙ ap puts_of (c.steps.ensures.value ∙ ap (λ (w : LineWork). w.steps) c.job.ensures.value);
  written = subst (λ ps. AreWritesOf ps c.in_ok-writes.writes.items) c.deref.ensures.value (c.in_ok-writes.ensures {u = tt});
}
