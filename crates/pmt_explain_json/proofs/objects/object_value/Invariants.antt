use Rattle.std.proofs.Common.{◌≡◌}
use Rattle.serde_json.specs.Data.{no_members}
use Rattle.serde_json.specs.View.{members_view}
use Rattle.pmt_explain_json.specs.Entries.{put_all}
use Rattle.pmt_explain_json.proofs.objects.object_value.Given as goal

abbrev pub invariant-loop-key : goal.invariant-loop-key
invariant-loop-key l = put_all l.key-iterator.rest.items (members_view l.members.entries) ≡ put_all l.fn.fields.items no_members
