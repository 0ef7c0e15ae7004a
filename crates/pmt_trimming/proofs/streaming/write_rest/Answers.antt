use Rattle.pmt_trimming.proofs.FlowLemmas.{rest-fits, rest-part, rest-whole}
use Rattle.pmt_trimming.proofs.streaming.write_rest.Goals as goal

pub write_piece-requires-clause-fits : goal.write_piece-requires-clause-fits
write_piece-requires-clause-fits g c =
    let of = c.requires.under_way in
    rest-fits of.0 _ of.1 _ of.2 _ _ (c.in-Ok.ensures of.0 of.1 of.2.stream) c.as_slice.ensures.value

pub returns-in-Ok-write_piece-clause-rest : goal.returns-in-Ok-write_piece-clause-rest
returns-in-Ok-write_piece-clause-rest g c = λ T text is.
    rest-whole T _ text _ is _ _ (c.in-Ok.ensures T text is.stream) c.as_slice.ensures.value _ _ _ _ _ _ _ c.in-Ok-write_piece.ensures.written c.close-in-Ok-write_piece.ensures.kept
    c.close-in-Ok-write_piece.ensures.told

pub returns-clause-rest : goal.returns-clause-rest
returns-clause-rest g c = λ T text is.
    rest-part T _ text _ is _ _ (c.in-Ok.ensures T text is.stream) c.as_slice.ensures.value _ _ c.in-Err.fault c.in-Err.ensures.written
