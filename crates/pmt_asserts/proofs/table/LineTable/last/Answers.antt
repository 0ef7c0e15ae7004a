use Rattle.std.proofs.Common.{◌≡◌, ◌-◌, List, get_or, ap, subst, sym, ◌∙◌, arith, rules}
use Rattle.std.specs.Prelude.{nat_le}
use Rattle.std.proofs.lemmas.List.Sorted.{IsPartitionPoint-from_clause, IsPartitionedBy-leb}
use Rattle.pmt_lines.specs.Jobs.{LineFound}
use Rattle.pmt_asserts.specs.declared.put.Write.{Write}
use Rattle.pmt_asserts.specs.Puts.{puts_of, key_of, AreWritesOf}
use Rattle.pmt_asserts.proofs.RankLemmas.{Ends, found-none, found-other, found-last}
use Rattle.pmt_asserts.proofs.table.LineTable.last.Goals as goal
use Rattle.pmt_asserts.proofs.table.LineTable.last.Goals.{After-partition_point-end, After-index-last}

-- the writes are those of the stores
are : (c : After-partition_point-end) → AreWritesOf (puts_of c.args.self.now.job.steps) c.deref.result.now
are c =
    subst (λ ws. AreWritesOf (puts_of c.args.self.now.job.steps) ws) (sym c.deref.ensures.value)
    (subst (λ ps. AreWritesOf ps c.self.inside.writes.items) (c.self.invariant.stores ∙ ap (λ (g : LineFound). puts_of g.job.steps) c.self.view_is) c.self.invariant.written)

-- where the search ended
point : (c : After-partition_point-end) → Ends c.deref.result.now c.args.byte c.args.count c.partition_point-end.result
point c =
    IsPartitionPoint-from_clause (λ (w : Write). nat_le (key_of w) (key_of (record { byte = c.args.byte; rank = c.args.count }))) c.deref.result.now c.partition_point-end.result c.partition_point-end.ensures.partitioned
    (IsPartitionedBy-leb key_of c.deref.result.now (key_of (record { byte = c.args.byte; rank = c.args.count })) (are c).sorted) (λ a r g q. search rules)

pub returns-then-end-eq0 : goal.returns-then-end-eq0
returns-then-end-eq0 c =
    let p = (goal.at.returns-then-end-eq0 c).After-partition_point-end in
    sym (found-none (puts_of c.args.self.now.job.steps) c.deref.result.now c.args.byte c.args.count (are p) c.requires (subst (Ends c.deref.result.now c.args.byte c.args.count) c.if-end-eq0.true (point p)))

-- the last one of those that pass
read : (c : After-index-last) → c.index-last.result.now ≡ get_or c.deref.result.now (c.partition_point-end.result - 1) c.index-last.result.now
read c = c.index-last.ensures ∙ ap (λ (ws : List Write). get_or ws (c.partition_point-end.result - 1) c.index-last.result.now) (sym c.deref.ensures.value)

pub returns-then-last-byte : goal.returns-then-last-byte
returns-then-last-byte c =
    let p = (goal.at.returns-then-last-byte c).After-partition_point-end in
    let own = read (goal.at.returns-then-last-byte c).After-index-last in
    ap (λ (w : Write). w.rank) own
    ∙ sym (found-last (puts_of c.args.self.now.job.steps) c.deref.result.now c.args.byte c.args.count c.partition_point-end.result c.index-last.result.now (are p) c.requires (point p) c.partition_point-end.ensures.bound (omega (arith, c.if-end-eq0.false)) (sym (ap (λ (w : Write). w.byte) own) ∙ c.if-last-byte.true))

pub returns-else-last-byte : goal.returns-else-last-byte
returns-else-last-byte c =
    let p = (goal.at.returns-else-last-byte c).After-partition_point-end in
    let own = read (goal.at.returns-else-last-byte c).After-index-last in
    sym (found-other (puts_of c.args.self.now.job.steps) c.deref.result.now c.args.byte c.args.count c.partition_point-end.result c.index-last.result.now (are p) c.requires (point p) c.partition_point-end.ensures.bound
    (λ e. c.if-last-byte.false (ap (λ (w : Write). w.byte) own ∙ e)))
