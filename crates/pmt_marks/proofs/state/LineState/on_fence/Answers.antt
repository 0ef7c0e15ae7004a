use Rattle.std.proofs.Common.{◌≡◌, arith, rules}
use Rattle.std.specs.Prelude.{unwrap_or, max}
use Rattle.pmt_marks.specs.Lines.{mark_in}
use Rattle.pmt_marks.proofs.MarkLemmas.{mark_in-le}
use Rattle.pmt_marks.proofs.FollowLemmas.{follows-fence}
use Rattle.pmt_marks.proofs.state.LineState.on_fence.Goals as goal

pub invariant_of-self : goal.invariant_of-self
invariant_of-self c =
    let s = c.self.inside in
    let mark = mark_in-le s.count c.args.thread s.marks.items c.self.invariant.marked in
    let raised : c.max-self-inside.result ≡ max s.front (unwrap_or (mark_in c.args.thread s.marks.items) 0) = cc in
    record {
      few = c.self.invariant.few;
      reached = omega (arith, raised, mark, c.self.invariant.reached);
      marked = (c.take_mark.ensures.kept s.count).within c.self.invariant.marked;
      rising = (c.take_mark.ensures.kept s.count).rising c.self.invariant.rising;
    }

pub returns-clause-follows : goal.returns-clause-follows
returns-clause-follows c = λ l h follows. follows-fence l c.args.thread h _ _ (search rules) follows
