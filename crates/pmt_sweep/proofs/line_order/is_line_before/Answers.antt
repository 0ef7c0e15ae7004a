use Rattle.std.proofs.Common.{sym, ◌∙◌, arith}
use Rattle.std.specs.Prelude.{nat_le}
use Rattle.std.proofs.lemmas.Bool.{and_parts, le-leb, leb-true}
use Rattle.pmt_sweep.proofs.LineLemmas.{newest-before}
use Rattle.pmt_sweep.proofs.line_order.is_line_before.Goals as goal

pub returns : goal.returns
returns c = λ T n A it spanned.
    let s = c.args.lines.now in
    let l = c.args.at.now.line in
    let meets = and_parts (nat_le s.first l) (nat_le l s.last) (sym c.meets.ensures ∙ c.if-not-meets.false) in
    let are = c.bytes-bytes.ensures T.format A spanned (leb-true s.first l meets.0) (leb-true l s.last meets.1) in
    let law = newest-before T n l A c.bytes-bytes.result it.known.trace are c.newest.result c.args.store (c.newest.ensures T n l it) in
    (λ told. law.0 (leb-true c.newest.result c.args.store told), λ before. le-leb c.newest.result c.args.store (law.1 before))

pub bytes-bytes-requires : goal.bytes-bytes-requires
bytes-bytes-requires c = grind arith

pub newest-requires-clause-some : goal.newest-requires-clause-some
newest-requires-clause-some c = grind arith

pub newest-requires-clause-within : goal.newest-requires-clause-within
newest-requires-clause-within c = grind arith
