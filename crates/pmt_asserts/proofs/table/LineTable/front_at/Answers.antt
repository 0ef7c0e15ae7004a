use Rattle.std.proofs.Common.{◌≡◌, ◌≤◌, ap, subst, ◌∙◌, length, arith, rules}
use Rattle.std.specs.Prelude.{nat_le}
use Rattle.std.proofs.lemmas.List.Sorted.{IsPartitionPoint-from_clause}
use Rattle.pmt_laws.specs.Prelude.{Recording, front_at}
use Rattle.pmt_lines.specs.Jobs.{LineFound, IsLineResult, Raise, IsJob}
use Rattle.pmt_asserts.proofs.RaiseLemmas.{front_after}
use Rattle.pmt_asserts.proofs.TableLemmas.{raises-partitioned, front-found, front_after-some}
use Rattle.pmt_asserts.proofs.table.LineTable.front_at.Goals as goal
use Rattle.pmt_asserts.proofs.table.LineTable.front_at.Goals.{After-partition_point-count}

-- the front after the raises that come by the place
found : (c : After-partition_point-count) (T : Recording) → IsJob T c.args.self.now.job → c.args.place ≤ length T.events → front_at T c.args.self.now.job.line c.args.place ≡ front_after 0 c.raises-raises.result.now c.partition_point-count.result
found c T job by_end =
    let f = c.args.self.now in
    let raises = c.raises-raises.result.now in
    let i = c.partition_point-count.result in
    let same : raises ≡ f.raises = c.raises-raises.ensures.value ∙ ap (λ (g : LineFound). g.raises) c.self.view_is in
    let right : IsLineResult f = subst IsLineResult c.self.view_is c.raises-raises.ensures.right in
    front-found T f raises c.args.place i same right job by_end c.partition_point-count.ensures.bound
    (IsPartitionPoint-from_clause (λ (r : Raise). nat_le r.0 c.args.place) raises i c.partition_point-count.ensures.partitioned (raises-partitioned T f raises c.args.place same right job) (λ a r g q. search rules))

pub returns-then-count-eq0 : goal.returns-then-count-eq0
returns-then-count-eq0 c = λ T trace job by_end. found (goal.at.returns-then-count-eq0 c).After-partition_point-count T job by_end ∙ ap (front_after 0 c.raises-raises.result.now) c.if-count-eq0.true

pub returns-else-count-eq0 : goal.returns-else-count-eq0
returns-else-count-eq0 c = λ T trace job by_end.
    found (goal.at.returns-else-count-eq0 c).After-partition_point-count T job by_end ∙ front_after-some c.raises-raises.result.now c.partition_point-count.result (omega (arith, c.if-count-eq0.false))
