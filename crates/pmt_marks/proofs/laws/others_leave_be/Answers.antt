use Rattle.pmt_marks.proofs.FollowLemmas.{others_leave}
use Rattle.pmt_marks.proofs.laws.others_leave_be.Goals as goal

pub returns : goal.returns
returns c = others_leave
