use Rattle.std.proofs.Common.{◌≡◌, ◌+◌, ap, subst, arith}
use Rattle.pmt_model.specs.Traces.{history}
use Rattle.pmt_rows.specs.declared.rows.Row.{Row}
use Rattle.pmt_rows.specs.Known.{row_after}
use Rattle.pmt_safety.specs.Safety.{safe_store_at}
use Rattle.pmt_sweep.proofs.LatestLemmas.{from-add, from-skip}
use Rattle.pmt_sweep.proofs.LineLemmas.{IsLineBare, newest-before, newest-none, newest-reached}
use Rattle.pmt_sweep.proofs.line_order.add_line.Goals as goal

pub safe_from-requires : goal.safe_from-requires
safe_from-requires c =
    let r = c.requires in
    let l = c.args.at.now.line in
    let row : c.row-row.result ≡ row_after (λ m. safe_store_at r.0 m r.1) (history r.0 r.1) l = c.row-row.ensures r.0 r.1 l r.3.line in
    (r.0, r.1, l, r.3.line.known, ap (λ (y : Row). y.safe) row)

pub returns-then-newest-gt0 : goal.returns-then-newest-gt0
returns-then-newest-gt0 c = λ T n A it old.
    let l = c.args.at.now.line in
    let trace = it.line.known.trace in
    let newest = c.newest_in-newest.result in
    let row : c.row-row.result ≡ row_after (λ m. safe_store_at T m n) (history T n) l = c.row-row.ensures T n l it.line in
    let told = c.newest_in-newest.ensures T n A it (ap (λ (y : Row). y.last_store) row) in
    from-add T n c.args.known.now.links A l c.safe_from.result c.args.latest.now c.add.new.self
    (record {
      newest = newest;
      some = c.if-newest-gt0.true;
      greatest = (newest-before T n l A told.bytes trace told.are newest newest told.told).0 (omega arith);
      reached = newest-reached T n l A told.bytes trace told.are newest told.told c.if-newest-gt0.true;
      told = c.safe_from.ensures T n l it.line.known (ap (λ (y : Row). y.safe) row);
    })
    c.add.ensures old

pub returns-else-newest-gt0 : goal.returns-else-newest-gt0
returns-else-newest-gt0 c = λ T n A it old.
    let l = c.args.at.now.line in
    let row : c.row-row.result ≡ row_after (λ m. safe_store_at T m n) (history T n) l = c.row-row.ensures T n l it.line in
    let told = c.newest_in-newest.ensures T n A it (ap (λ (y : Row). y.last_store) row) in
    let bare = newest-none T n l A told.bytes it.line.known.trace told.are c.newest_in-newest.result told.told (omega (arith, c.if-newest-gt0.false)) in
    from-skip T n c.args.known.now.links A l (l + 1) c.args.latest.now (λ k from less. let same : l ≡ k = omega (arith, from, less) in subst (IsLineBare T n A) same bare) (omega arith) old
