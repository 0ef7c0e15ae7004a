use Rattle.std.proofs.Common.{encode_utf8_all, map, ◌∙◌, ap, sym, map-id}
use Rattle.std.proofs.lemmas.List.{append-nil, map-append}
use Rattle.std.proofs.lemmas.Iterator.{YieldsList-from_chars}
use Rattle.std.proofs.lemmas.Iterator.Consumers.{YieldsList-end}
use Rattle.std.proofs.lemmas.Str.{encodes-append}
use Rattle.pmt_sources.specs.Places.{sign}
use Rattle.pmt_sources.proofs.showing.visible.Goals as goal

pub loop-letter-preserved : goal.loop-letter-preserved
loop-letter-preserved c =
    rw (map-append, encodes-append, ← c.loop-letter.invariant, ← c.sign_of.ensures, append-nil) c.in_ok-push.ensures.bytes

pub returns : goal.returns
returns c =
    let done = YieldsList-end (YieldsList-from_chars c.args.text.now c.utf8.text cc) c.loop-letter.yielded _ c.loop-letter.yielded_by _ _ c.in-None.is c.next.ensures.steps in
    c.loop-letter.invariant ∙ ap (λ cs. encode_utf8_all (map sign cs)) (sym (map-id c.loop-letter.yielded) ∙ done.0)
