use Rattle.std.proofs.Common.{◌≡◌, ◌+◌, subst, arith}
use Rattle.pmt_sweep.proofs.LatestLemmas.{from-skip}
use Rattle.pmt_sweep.proofs.LineLemmas.{IsLineBare, at-line, bare-unplaced}
use Rattle.pmt_sweep.proofs.line_order.add_placed.Goals as goal

pub add_line-requires : goal.add_line-requires
add_line-requires c = let r = c.requires in (r.0, r.1, r.2, at-line r.0 r.1 r.2 c.args.lines.now _ c.args.known.now r.3 (c.in-Some.ensures.found r.0 r.1 r.3.known) c.in-Some.ensures.small)

pub returns-in-Some : goal.returns-in-Some
returns-in-Some c = λ T n A are old. c.add_line.ensures T n A (at-line T n A c.args.lines.now _ c.args.known.now are (c.in-Some.ensures.found T n are.known) c.in-Some.ensures.small) old

pub returns-in_default : goal.returns-in_default
returns-in_default c = λ T n A are old.
    let line = c.args.line in
    let bare = bare-unplaced T n line A c.args.known.now are.known (c.in_default.ensures.found T n are.known) in
    from-skip T n c.args.known.now.links A line (line + 1) c.args.latest.now (λ l from less. let same : line ≡ l = omega (arith, from, less) in subst (IsLineBare T n A) same bare) (omega arith) old
