use Rattle.pmt_laws.specs.Prelude.{count, front}
use Rattle.pmt_book.proofs.LiveLemmas.{live-fence, all-within}
use Rattle.pmt_book.proofs.live.LiveLines.fence.Goals as goal

pub raise_all-requires : goal.raise_all-requires
raise_all-requires c =
    let r = c.requires in
    (r.0, λ k. count k r.1, λ k. front k r.1, λ k. 0, r.2.rows, all-within r.0 r.1 c.args.self.now r.2 c.args.thread c.of-flushes.result.now c.of-flushes.ensures)

pub returns : goal.returns
returns c = λ lines h is.
    let inside = all-within lines h c.args.self.now is c.args.thread c.of-flushes.result.now c.of-flushes.ensures in
    live-fence lines h c.args.self.now is c.args.thread c.of-flushes.result.now _ c.of-flushes.ensures (c.raise_all.ensures lines (λ k. count k h) (λ k. front k h) (λ k. 0) inside is.rows) c.clear.ensures.own c.clear.ensures.others
