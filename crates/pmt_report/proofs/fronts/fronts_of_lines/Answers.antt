use Rattle.std.proofs.Common.{◌≡◌, ℕ, List, ◌++◌, length, ap, ◌∙◌}
use Rattle.pmt_report.specs.Reports.{fronts_text, fronts_head, lines_at}
use Rattle.pmt_report.proofs.fronts.fronts_of_lines.Goals as goal

pub returns : goal.returns
unfolding fronts_text
returns c = λ T known.
    let n = length T.events in
    let many : length c.lines.result.now ≡ length (lines_at T n) = ap length (c.lines.ensures ∙ known.live.rows.placed) in
    let head : fronts_head c.args.lines.now.events (length c.lines.result.now) ≡ fronts_head n (length (lines_at T n)) =
    ap (λ (k : ℕ). fronts_head k (length c.lines.result.now)) known.counted ∙ ap (λ (k : ℕ). fronts_head n k) many in
    let first : c.push_fronts_head.new.text.items ≡ fronts_head n (length (lines_at T n)) =
    c.in_ok-push_fronts_head.ensures ∙ ap (λ (s : List ℕ). s ++ fronts_head c.args.lines.now.events (length c.lines.result.now)) c.new-text.ensures.items ∙ head in
    rw first at (c.in_ok-push_lines.ensures T known)
