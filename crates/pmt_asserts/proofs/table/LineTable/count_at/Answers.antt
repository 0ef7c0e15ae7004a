use Rattle.std.proofs.Common.{◌≡◌, ap, ◌∙◌, rules}
use Rattle.std.specs.Prelude.{nat_le}
use Rattle.std.proofs.lemmas.List.Sorted.{IsPartitionPoint-from_clause}
use Rattle.pmt_lines.specs.Jobs.{LineFound}
use Rattle.pmt_asserts.specs.declared.put.Put.{Put}
use Rattle.pmt_asserts.specs.Puts.{puts_of}
use Rattle.pmt_asserts.proofs.TableLemmas.{puts-partitioned, count-found}
use Rattle.pmt_asserts.proofs.table.LineTable.count_at.Goals as goal

pub returns-clause-value : goal.returns-clause-value
returns-clause-value c = λ T trace job.
    let f = c.args.self.now in
    let puts = c.deref.result.now in
    let is : puts ≡ puts_of f.job.steps = c.deref.ensures.value ∙ c.self.invariant.stores ∙ ap (λ (g : LineFound). puts_of g.job.steps) c.self.view_is in
    count-found T f.job.line f.job.steps puts c.args.place c.partition_point.result job is c.partition_point.ensures.bound
    (IsPartitionPoint-from_clause (λ (p : Put). nat_le p.number c.args.place) puts c.partition_point.result c.partition_point.ensures.partitioned (puts-partitioned T f.job.line f.job.steps puts c.args.place job is) (λ a r g q. search rules))
