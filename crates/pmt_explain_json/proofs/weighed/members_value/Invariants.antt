use Rattle.std.proofs.Common.{◌≡◌, map, take}
use Rattle.serde_json.specs.View.{view}
use Rattle.pmt_explain_json.specs.Lines.{site_at}
use Rattle.pmt_explain_json.proofs.weighed.members_value.Given as goal

abbrev pub invariant-loop-member : goal.invariant-loop-member
invariant-loop-member l = map view l.values.items ≡ map (site_at l.labels l.sites) (take l.member-index l.members)
