use Rattle.std.proofs.Common.{◌<◌, [], length, ap, sym, ◌∙◌, arith}
use Rattle.std.proofs.lemmas.List.{get_or-map}
use Rattle.pmt_causes.proofs.late.list_of.Goals as goal

pub returns-clause-list : goal.returns-clause-list
returns-clause-list c =
    let fs = c.args.fences.now.items in
    let t = c.args.thread in
    let within : c.args.thread < length c.args.fences.now.items = omega (arith, c.requires, c.ranges.thread.fits) in
    c.as_slice.ensures.value ∙ ap (λ list. list.items) c.index.ensures ∙ sym (get_or-map (λ list. list.items) fs t c.index.result.now [] within)
