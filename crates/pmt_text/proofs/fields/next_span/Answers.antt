-- The address, the length and what is left are those of the first two fields.
use Rattle.pmt_text.specs.Judging.{fields_left}
use Rattle.pmt_text.proofs.OpLemmas.{span-none, span-no_len, span-some}
use Rattle.pmt_text.proofs.fields.next_span.Goals as goal

pub returns-in_err-addr : goal.returns-in_err-addr
returns-in_err-addr c = rw c.from_residual.ensures (span-none (fields_left c.args.rest) c.in_err-addr.ensures)

pub returns-in_err-len : goal.returns-in_err-len
returns-in_err-len c = rw c.from_residual-in_err-len.ensures (span-no_len (fields_left c.args.rest) (fields_left c.in_ok-addr.rest) c.in_ok-addr.addr c.in_ok-addr.ensures c.in_err-len.ensures)

pub returns : goal.returns
returns c = span-some (fields_left c.args.rest) (fields_left c.in_ok-addr.rest) (fields_left c.in_ok-len.rest) c.in_ok-addr.addr c.in_ok-len.len c.in_ok-addr.ensures c.in_ok-len.ensures
