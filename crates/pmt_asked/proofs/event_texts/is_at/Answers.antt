use Rattle.std.proofs.Common.{rules, ◌≡◌, Some, sym, ap, ◌∙◌, string_bytes}
use Rattle.std.proofs.lemmas.Option.{slice_get-get_or}
use Rattle.pmt_asked.proofs.EventTextsLemmas.{told-found}
use Rattle.pmt_asked.proofs.event_texts.is_at.Goals as goal

pub returns-in-Some : goal.returns-in-Some
returns-in-Some c = λ same.
    let known = c.in-Some.known.now in
    let text : string_bytes known ≡ c.args.text.now = search (rules, same) in
    let at = slice_get-get_or c.args.texts.now c.args.place known c.in-Some.ensures.lookup.3.0 ∙ ap Some (sym c.in-Some.ensures.lookup.1) in
    let there = told-found (λ s. string_bytes s) c.args.texts.now c.args.place known at in
    (there.0, there.1 ∙ ap Some text)
