use Rattle.std.proofs.Common.{ap, ◌∙◌}
use Rattle.pmt_model.specs.Values.{Layout}
use Rattle.pmt_sweep.proofs.ReadingLemmas.{oldest-of_whole}
use Rattle.pmt_sweep.proofs.line_order.oldest_in.Goals as goal

pub returns-then-bytes-line_size-clause-oldest : goal.returns-then-bytes-line_size-clause-oldest
returns-then-bytes-line_size-clause-oldest c = λ T n A it found.
    let l = c.args.at.now.line in
    let bytes = c.bytes-bytes.result in
    let are = c.bytes-bytes.ensures T.format A it.spanned it.from it.to in
    let all = c.if-bytes-line_size.true ∙ c.line_size.ensures.value ∙ ap (λ (f : Layout). f.line_size) (c.format.ensures ∙ it.line.known.format) in
    record { bytes = bytes; are = are; told = oldest-of_whole T n l bytes.low bytes.high c.of.result are.some are.within all (c.of.ensures.oldest T n l it.line found) }

pub returns-then-bytes-line_size-clause-kept : goal.returns-then-bytes-line_size-clause-kept
returns-then-bytes-line_size-clause-kept c = λ T n A it found. c.of.ensures.kept T n c.args.at.now.line it.line found

pub returns-clause-oldest : goal.returns-clause-oldest
returns-clause-oldest c = λ T n A it found. record { bytes = c.bytes-bytes.result; are = c.bytes-bytes.ensures T.format A it.spanned it.from it.to; told = c.oldest.ensures T n c.args.at.now.line it.line }
