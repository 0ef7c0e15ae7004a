use Rattle.std.proofs.Common.{arith, true, Ok}
use Rattle.std.proofs.lemmas.Grind.{elements}
use Rattle.pmt_text.specs.Lines.{unread, known_of, Refills}
use Rattle.pmt_text.proofs.AheadLemmas.{ahead-read_on}
use Rattle.pmt_text.proofs.line_reader.LineReader.read_on.Goals as goal

pub returns-then-branch-clause-found : goal.returns-then-branch-clause-found
returns-then-branch-clause-found g c =
    let kept = c.in_ok-keep.ensures in
    let mid = c.keep.new.self in
    let new = c.refill.new.self in
    let piece : Refills (known_of g.R.Read.remaining mid) (known_of g.R.Read.remaining new) (unread new.piece) mid.room new.room (Ok true) =
    rw c.if-branch.true at c.in_ok-refill.ensures.piece in
    ahead-read_on g.R.Read.remaining c.args.self.now mid new c.args.len kept.front c.requires.whole kept.input kept.room c.in_ok-refill.ensures.same piece

pub keep-requires-clause-one_line : goal.keep-requires-clause-one_line
keep-requires-clause-one_line g c = grind (arith, elements)

pub returns-in_err-refill-clause-found : goal.returns-in_err-refill-clause-found
returns-in_err-refill-clause-found g c = grind (arith, elements)
