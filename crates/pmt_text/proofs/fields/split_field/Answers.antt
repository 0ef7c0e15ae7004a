-- The first space cuts off the first field.
use Rattle.std.proofs.Common.{ℕ, ◌+◌, List, take, sym, ap, ◌∙◌, ◌∷◌, arith}
use Rattle.std.proofs.lemmas.List.{take_rest}
use Rattle.pmt_text.specs.Judging.{fields_of}
use Rattle.pmt_text.proofs.LineLemmas.{parts-at, parts-none}
use Rattle.pmt_text.proofs.fields.split_field.Goals as goal

pub returns-then-byte-eq32 : goal.returns-then-byte-eq32
returns-then-byte-eq32 c =
    let line = c.args.line.now in
    let i = c.loop-i.i in
    parts-at 32 line i c.loop-i-test.true c.if-byte-eq32.true c.loop-i.invariant
    ∙ ap (λ (rest : List ℕ). take i line ∷ fields_of rest) (sym (take_rest line (i + 1)))

pub returns : goal.returns
returns c = parts-none 32 c.args.line.now (λ k l. c.loop-i.invariant k (omega arith))
