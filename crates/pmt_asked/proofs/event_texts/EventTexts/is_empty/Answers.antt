use Rattle.std.proofs.Common.{rules, ◌≡◌, length, None, ap, ◌∙◌, sym, slice_get, string_bytes, unwrap_or}
use Rattle.pmt_asked.specs.Texts.{number_at}
use Rattle.pmt_asked.proofs.EventTextsLemmas.{told-at, told-none}
use Rattle.pmt_asked.proofs.event_texts.EventTexts.is_empty.Goals as goal

pub returns : goal.returns
returns c = λ empty event.
    let none : length c.self.inside.texts.items ≡ 0 = search (rules, empty) in
    ap (λ v. unwrap_or (slice_get v event) None) (sym c.self.view_is)
    ∙ told-at (λ s. string_bytes s) c.self.inside.texts.items c.self.inside.numbers.items event
    ∙ told-none (λ s. string_bytes s) c.self.inside.texts.items none (number_at c.self.inside.numbers.items event)
