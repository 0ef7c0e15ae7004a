use Rattle.serde_json.specs.Data.{Data, no_members}
use Rattle.serde_json.specs.View.{members_view}
use Rattle.pmt_explain_json.specs.Entries.{IsMadeOf}
use Rattle.pmt_explain_json.proofs.objects.object_made.Given as goal

abbrev pub invariant-loop-key : goal.invariant-loop-key
invariant-loop-key l = (d : Data) → IsMadeOf l.key-iterator.rest.items (members_view l.members.entries) d → IsMadeOf l.fn.fields.items no_members d
