-- A field is left.
use Rattle.std.proofs.Common.{◌≡◌, List, [], ◌∷◌, Err, refl, sym, ◌∙◌, ℕ}
use Rattle.pmt_model.specs.declared.event.Op.{Op}
use Rattle.pmt_text.specs.declared.kind.TextKind.TheVariants.{BadField}
use Rattle.pmt_text.specs.Judging.{fence_of_fields, fields_left}
use Rattle.pmt_text.proofs.OpLemmas.{left-some}
use Rattle.pmt_text.proofs.line.fence_of.Goals as goal

more_left : (op : Op) (fields : List (List ℕ)) → (fields ≡ [] → ⊥) → Err BadField ≡ fence_of_fields op fields
more_left op [] more = absurd (more refl)
more_left op (field ∷ fields) more = refl

pub returns-then-is_some : goal.returns-then-is_some
returns-then-is_some c = more_left c.args.op (fields_left c.args.rest) (left-some c.args.rest (sym c.is_some.ensures ∙ c.if-is_some.true))
