use Rattle.std.proofs.Common.{◌+◌, ◌∷◌, [], length, Option, ℕ, List, length-append, sym, ap, subst, arith}
use Rattle.pmt_explanation.specs.Summing.{AreFrameNumbers}
use Rattle.pmt_explanation.proofs.FramingLemmas.{frames-all, frames-more, label-at}
use Rattle.pmt_explanation.proofs.frames.frame_numbers.Goals as goal

pub next_frame-requires-clause-number : goal.next_frame-requires-clause-number
next_frame-requires-clause-number c = label-at c.args.labels.now c.args.events c.loop-index.index c.args.numbers.now c.requires (omega arith)

pub loop-index-preserved : goal.loop-index-preserved
loop-index-preserved c =
    let labels = c.args.labels.now in
    let i = c.loop-index.index in
    let before = c.loop-index.invariant in
    let frames = c.loop-index.frames.items in
    let o = c.in_ok-frame.frame in
    record {
      size = omega (arith, before.size, length-append frames (o ∷ []), ap (λ (os : List (Option ℕ)). length os) c.in_ok-push.ensures.items);
      frames = subst (AreFrameNumbers labels (i + 1)) (sym c.in_ok-push.ensures.items) (frames-more labels i frames o before.size before.frames c.in_ok-frame.ensures.number);
      firsts = c.in_ok-frame.ensures.after;
    }

pub returns : goal.returns
returns c =
    frames-all c.args.labels.now c.args.events c.loop-index.index c.args.numbers.now c.loop-index.frames.items c.requires c.loop-index.invariant.size (omega arith) (omega (arith, c.requires.size)) c.loop-index.invariant.frames
