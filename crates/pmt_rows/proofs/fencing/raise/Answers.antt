use Rattle.std.proofs.Common.{arith}
use Rattle.std.proofs.lemmas.Grind.{elements}
use Rattle.pmt_laws.specs.Prelude.{last_flush, history}
use Rattle.pmt_safety.specs.Safety.{last_line_store}
use Rattle.pmt_rows.proofs.FencingLemmas.{line_in, placed, stays-at, chain-read, raises-at, rises-not, rises-so}
use Rattle.pmt_rows.proofs.fencing.raise.Goals as goal

pub returns-then-flush-safe-clause-raised : goal.returns-then-flush-safe-clause-raised
returns-then-flush-safe-clause-raised c = λ T lines n safe at able numbered.
    let there = placed T lines n safe c.args.rows.now c.args.links.now c.args.flush at able in
    let read = c.raise-safe.ensures.was lines (λ k. last_line_store k (history T n)) safe (λ k. last_flush k (history T n)) (line_in lines c.args.flush) there at.rows in
    stays-at T lines n safe c.args.rows.now c.args.links.now c.args.flush at able c.raise-safe.new.self
    (c.raise-safe.ensures.raised lines (λ k. last_line_store k (history T n)) safe (λ k. last_flush k (history T n)) (line_in lines c.args.flush) there at.rows)
    c.raise-safe.result read (omega (arith, c.if-flush-safe.true))

pub returns-then-flush-safe-clause-tells : goal.returns-then-flush-safe-clause-tells
returns-then-flush-safe-clause-tells c = λ T lines n safe at able.
    let there = placed T lines n safe c.args.rows.now c.args.links.now c.args.flush at able in
    let read = c.raise-safe.ensures.was lines (λ k. last_line_store k (history T n)) safe (λ k. last_flush k (history T n)) (line_in lines c.args.flush) there at.rows in
    rises-not (safe (line_in lines c.args.flush)) c.args.flush.store c.raise-safe.result read (omega (arith, c.if-flush-safe.true))

pub raise-requires : goal.raise-requires
raise-requires c =
    let r = c.requires in
    let T = r.0 in
    let lines = r.1 in
    let n = r.2 in
    let safe = r.3 in
    let at = r.4 in
    let able = r.5 in
    let there = placed T lines n safe c.args.rows.now c.args.links.now c.args.flush at able in
    let read = c.raise-safe.ensures.was lines (λ k. last_line_store k (history T n)) safe (λ k. last_flush k (history T n)) (line_in lines c.args.flush) there at.rows in
    chain-read T lines n safe c.args.rows.now c.args.links.now c.args.flush at able c.raise-safe.result read

pub returns-clause-raised : goal.returns-clause-raised
returns-clause-raised c = λ T lines n safe at able numbered.
    let there = placed T lines n safe c.args.rows.now c.args.links.now c.args.flush at able in
    let read = c.raise-safe.ensures.was lines (λ k. last_line_store k (history T n)) safe (λ k. last_flush k (history T n)) (line_in lines c.args.flush) there at.rows in
    raises-at T lines n safe c.args.rows.now c.args.links.now c.args.flush at able c.raise-safe.new.self
    (c.raise-safe.ensures.raised lines (λ k. last_line_store k (history T n)) safe (λ k. last_flush k (history T n)) (line_in lines c.args.flush) there at.rows)
    c.raise.new.self c.args.number c.raise-safe.result read (omega (arith, c.if-flush-safe.false)) numbered c.raise.ensures

pub returns-clause-tells : goal.returns-clause-tells
returns-clause-tells c = λ T lines n safe at able.
    let there = placed T lines n safe c.args.rows.now c.args.links.now c.args.flush at able in
    let read = c.raise-safe.ensures.was lines (λ k. last_line_store k (history T n)) safe (λ k. last_flush k (history T n)) (line_in lines c.args.flush) there at.rows in
    rises-so (safe (line_in lines c.args.flush)) c.args.flush.store c.raise-safe.result read (omega (arith, c.if-flush-safe.false))

pub raise-safe-requires : goal.raise-safe-requires
raise-safe-requires c = grind (arith, elements)
