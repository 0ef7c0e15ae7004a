use Rattle.std.proofs.Common.{sym, subst}
use Rattle.pmt_tables.specs.Lasts.{IsNewest}
use Rattle.pmt_sweep.specs.Known.{last_in_line}
use Rattle.pmt_sweep.proofs.ReadingLemmas.{newest-whole}
use Rattle.pmt_sweep.proofs.LineLemmas.{inner-bytes}
use Rattle.pmt_sweep.proofs.line_order.newest_in.Goals as goal

pub returns-then-at-lines : goal.returns-then-at-lines
returns-then-at-lines c = λ T n A it last.
    let l = c.args.at.now.line in
    record {
      bytes = record { low = 0; high = T.format.line_size };
      are = inner-bytes T l A c.args.lines.now it.line.known.trace it.spanned c.if-lines-at.true c.if-at-lines.true;
      told = subst (IsNewest 0 T.format.line_size (last_in_line T n l)) (sym last) (newest-whole T n l it.line.known.trace);
    }

pub returns : goal.returns
returns c = λ T n A it last. record { bytes = c.bytes-bytes.result; are = c.bytes-bytes.ensures T.format A it.spanned it.from it.to; told = c.newest.ensures T n c.args.at.now.line it.line }
