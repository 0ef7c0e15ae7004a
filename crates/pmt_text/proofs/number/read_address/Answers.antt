-- At each return, what the reader answers of the field.
use Rattle.std.proofs.Common.{ℕ, List, option_map, ap, ◌∙◌, inl, inr}
use Rattle.std.proofs.lemmas.List.{take_rest}
use Rattle.pmt_text.specs.Judging.{number_in, capped}
use Rattle.pmt_text.proofs.FieldLemmas.{reads-address, reads-no_address}
use Rattle.pmt_text.proofs.number.read_address.Goals as goal

pub returns-then-field-lt2 : goal.returns-then-field-lt2
returns-then-field-lt2 c = reads-no_address c.args.field.now (inl c.if-field-lt2.true)

pub returns-then-field-ne48 : goal.returns-then-field-ne48
returns-then-field-ne48 c = reads-no_address c.args.field.now (inr (inl c.if-field-ne48.true))

pub returns-then-field-ne120 : goal.returns-then-field-ne120
returns-then-field-ne120 c = reads-no_address c.args.field.now (inr (inr c.if-field-ne120.true))

pub returns : goal.returns
returns c = reads-address c.args.field.now c.read_number.result c.if-field-lt2.false c.if-field-ne48.false c.if-field-ne120.false (c.read_number.ensures ∙ ap (λ (xs : List ℕ). option_map capped (number_in 16 xs)) (take_rest c.args.field.now 2))
