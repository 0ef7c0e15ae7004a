use Rattle.pmt_parts.proofs.Prelude.{refl, sym, ap, subst, ◌∙◌, Refuses, judged}
use Rattle.pmt_text.specs.declared.kind.ReadError.{ReadError}
use Rattle.pmt_text.specs.declared.kind.ReadError.TheVariants.{Text}
use Rattle.pmt_parts.proofs.RunLemmas.{spelled-whole}
use Rattle.pmt_parts.proofs.reading.events_of.Goals as goal

pub returns-in-Ok-clause-spelled : goal.returns-in-Ok-clause-spelled
returns-in-Ok-clause-spelled c = spelled-whole c.args.text.items c.in-Ok.block (ap judged (sym c.as_slice.ensures.value) ∙ c.in-Ok.ensures)

pub returns-in-Err-Text-clause-refused : goal.returns-in-Err-Text-clause-refused
returns-in-Err-Text-clause-refused c =
    let fault : Refuses (Text c.in-Err-Text.fault) (judged c.as_slice.result.now).fault = subst (λ (e : ReadError). Refuses e (judged c.as_slice.result.now).fault) c.in-Err-Text.field-0-is c.in-Err-Text.ensures in
    (refl, refl, ap (λ text. (judged text).fault) (sym c.as_slice.ensures.value) ∙ fault)
