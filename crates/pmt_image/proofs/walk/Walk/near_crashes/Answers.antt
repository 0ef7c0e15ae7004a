use Rattle.pmt_image.proofs.Prelude.{◌≡◌, List, length, map, min, reverse, subst, sym, ap, ◌∙◌, arith, StoreSpan, AreSpans, line_by, lines_of_spans, exposed_by, IsAt}
use Rattle.pmt_image.proofs.NearLemmas.{AreOpen, near-all}
use Rattle.pmt_image.proofs.SpanLemmas.{open-exposed}
use Rattle.pmt_image.proofs.WalkLemmas.{near-past}
use Rattle.pmt_image.proofs.walk.Walk.near_crashes.Goals as goal

pub returns-clause-crashes : goal.returns-clause-crashes
returns-clause-crashes c = λ T walk.
    let n = min c.args.place (length T.events) in
    let at : IsAt c.go_to.new.self = c.in_ok-go_to.ensures.there walk.here in
    let place : c.go_to.new.self.place ≡ n = c.in_ok-go_to.ensures.place ∙ ap (λ k. min c.args.place k) walk.spans.size in
    let spans : c.go_to.new.self.spans.items ≡ c.args.self.now.spans.items = ap (λ v. v.items) c.in_ok-go_to.ensures.spans in
    let exposed : c.as_slice.result.now ≡ exposed_by c.args.self.now.spans.items n =
    c.as_slice.ensures.value ∙ at.exposed ∙ ap (λ (xs : List StoreSpan). exposed_by xs c.go_to.new.self.place) spans ∙ ap (λ k. exposed_by c.args.self.now.spans.items k) place in
    let lines : c.as_slice-2.result.now ≡ map (line_by (reverse (exposed_by c.args.self.now.spans.items n))) (lines_of_spans (reverse (exposed_by c.args.self.now.spans.items n))) =
    c.as_slice-2.ensures.value ∙ c.in_ok-lines.ensures ∙ ap (λ (xs : List StoreSpan). map (line_by (reverse xs)) (lines_of_spans (reverse xs))) exposed in
    let these : AreOpen T n c.as_slice-2.result.now =
    subst (AreOpen T n) (sym lines) (open-exposed T n c.args.self.now.spans.items walk.spans (omega arith)) in
    near-past T c.args.place c.args.most c.in_ok-crashes.crashes
    (near-all T n c.as_slice-2.result.now these c.args.most (map (λ choice. choice.items) c.in_ok-crashes.crashes.off_fronts.items) (map (λ choice. choice.items) c.in_ok-crashes.crashes.off_counts.items)
    c.in_ok-crashes.ensures.fronts c.in_ok-crashes.ensures.counts)

pub returns-clause-walk : goal.returns-clause-walk
returns-clause-walk c = λ T walk. record { spans = subst (AreSpans T) (sym (ap (λ v. v.items) c.in_ok-go_to.ensures.spans)) walk.spans; here = c.in_ok-go_to.ensures.there walk.here }
