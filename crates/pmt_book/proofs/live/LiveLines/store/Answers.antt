use Rattle.std.proofs.Common.{◌≡◌, suc, ◌+◌, get_or, refl, arith}
use Rattle.pmt_laws.specs.Prelude.{count, front}
use Rattle.pmt_book.proofs.LiveLemmas.{live-store, row-at, count-le-length}
use Rattle.pmt_book.proofs.live.LiveLines.store.Goals as goal

pub overflow_add-count : goal.overflow_add-count
overflow_add-count c =
    let of = c.requires.room in
    let l = get_or of.0 c.args.slot 0 in
    let counted = c.count-count.ensures of.0 of.1 l (row-at of.0 of.1 c.args.self.now of.3 c.args.slot c.requires.slot) of.3 in
    omega (arith, of.2, counted, count-le-length l of.1)

pub returns : goal.returns
returns c = λ lines h l w at is.
    let number : c.count-count.result + 1 ≡ suc (count l h) = omega (arith, c.count-count.ensures lines h l at is) in
    live-store lines h c.args.self.now is l (c.count-count.result + 1) w _ number (c.store.ensures lines (λ k. count k h) (λ k. front k h) (λ k. 0) l at is.rows) refl
