use Rattle.std.proofs.Common.{rules, ◌≡◌, ◌+◌, length, true, sym, subst, arith, ltb-true}
use Rattle.std.specs.List.{list_any, range_with_len}
use Rattle.pmt_explain.specs.LastStores.{written_by}
use Rattle.pmt_failures.proofs.WrittenLemmas.{meets-any}
use Rattle.pmt_failures.proofs.near.writes_any.Goals as goal

pub returns-then-first-start : goal.returns-then-first-start
returns-then-first-start c = λ below.
    let w = c.in-Store.store in
    let r = c.args.range in
    let first : c.get-first.result ≡ w.addr = search rules in
    let start : c.get-start.result ≡ r.addr = search rules in
    let size : length c.bytes.result.now ≡ length w.bytes = search rules in
    subst (λ o. list_any (written_by o) (range_with_len r.addr r.len) ≡ true) (sym c.in-Store.is) (meets-any w r.addr r.len c.addr.ensures.is_store.some c.len.ensures.is_range.some (omega (arith, first, start, c.len.ensures.value, c.if-first-start.true)) (omega (arith, first, start, size, ltb-true c.get-start.result (c.get-first.result + length c.bytes.result.now) below)))
