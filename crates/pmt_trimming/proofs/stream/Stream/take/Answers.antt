use Rattle.std.proofs.Common.{refl}
use Rattle.pmt_trimming.proofs.StreamLemmas.{stream-cleared}
use Rattle.pmt_trimming.proofs.stream.Stream.take.Goals as goal

pub take_more-requires-clause-stream : goal.take_more-requires-clause-stream
take_more-requires-clause-stream c =
    let of = c.requires.stream in
    (of.0, of.1, stream-cleared of.0 c.args.self.now _ of.1 refl c.clear_text.ensures.lines c.clear_text.ensures.text of.2)

pub returns-clause-stream : goal.returns-clause-stream
returns-clause-stream c = λ T text is.
    c.take_more.ensures.stream T text (stream-cleared T c.args.self.now _ text refl c.clear_text.ensures.lines c.clear_text.ensures.text is)

pub returns-clause-out : goal.returns-clause-out
returns-clause-out c = λ T text is.
    c.take_more.ensures.out T text (stream-cleared T c.args.self.now _ text refl c.clear_text.ensures.lines c.clear_text.ensures.text is)
