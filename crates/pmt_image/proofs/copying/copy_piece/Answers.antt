use Rattle.pmt_image.proofs.Prelude.{◌≡◌, ◌≤◌, ℕ, List, length, take, reverse, sym, subst, arith, elements, take-take, length-take, Appends, inner_device, written_by}
use Rattle.pmt_image.proofs.CopyLemmas.{copied-piece}
use Rattle.pmt_image.proofs.copying.copy_piece.Goals as goal

pub returns-in-Ok-write_all_counted-clause-copied : goal.returns-in-Ok-write_all_counted-clause-copied
returns-in-Ok-write_all_counted-clause-copied g c =
    let n = c.in-Ok.count in
    let read = c.read_piece.new.buffer in
    let laid = c.lay_stores.new.bytes in
    let old = g.W.Write.contents (inner_device c.args.writer.now) in
    let new = g.W.Write.contents (inner_device c.write_all_counted.new.writer) in
    let within : n ≤ length read = c.in-Ok.ensures.within in
    let long : length (take n read) ≡ n = omega (arith, length-take n read, within) in
    let out : Appends old new (take n laid) = c.in-Ok-write_all_counted.ensures.ok in
    let Q : List ℕ → Type 0 = λ zs. Appends old new zs in (
      take n read,
      long,
      omega (arith, c.if-count-eq0.false),
      c.in-Ok.ensures.most,
      copied-piece (written_by (reverse c.args.stores.now)) c.args.at n n read laid _ _ old new within c.lay_stores.ensures (omega arith) c.in-Ok.ensures.bytes (subst Q (sym (take-take n n laid (omega arith))) out),
    )

pub returns-in-Err-write_all_counted-clause-copied : goal.returns-in-Err-write_all_counted-clause-copied
returns-in-Err-write_all_counted-clause-copied g c =
    let n = c.in-Ok.count in
    let k = c.in-Err-write_all_counted.fault.written in
    let read = c.read_piece.new.buffer in
    let laid = c.lay_stores.new.bytes in
    let old = g.W.Write.contents (inner_device c.args.writer.now) in
    let new = g.W.Write.contents (inner_device c.write_all_counted.new.writer) in
    let within : n ≤ length read = c.in-Ok.ensures.within in
    let out : Appends old new (take k (take n laid)) = c.in-Err-write_all_counted.ensures.out in
    let few : k ≤ n = omega (arith, length-take n laid, c.in-Err-write_all_counted.ensures.some_left) in (
      take n read,
      omega (arith, length-take n read, c.in-Ok.ensures.most),
      copied-piece (written_by (reverse c.args.stores.now)) c.args.at n k read laid _ _ old new within c.lay_stores.ensures few c.in-Ok.ensures.bytes out,
      tt,
    )

pub returns-then-count-eq0-clause-read_failures : goal.returns-then-count-eq0-clause-read_failures
returns-then-count-eq0-clause-read_failures g c = grind (arith, elements)

pub returns-then-count-eq0-clause-write_failures : goal.returns-then-count-eq0-clause-write_failures
returns-then-count-eq0-clause-write_failures g c = grind (arith, elements)

pub slice_bounds-write_all_counted-end : goal.slice_bounds-write_all_counted-end
slice_bounds-write_all_counted-end g c = grind (arith, elements)

pub slice_bounds-write_all_counted-end-2 : goal.slice_bounds-write_all_counted-end-2
slice_bounds-write_all_counted-end-2 g c = grind (arith, elements)

pub returns-in-Err-write_all_counted-clause-read_failures : goal.returns-in-Err-write_all_counted-clause-read_failures
returns-in-Err-write_all_counted-clause-read_failures g c = grind (arith, elements)

pub returns-in-Err-write_all_counted-clause-write_failures : goal.returns-in-Err-write_all_counted-clause-write_failures
returns-in-Err-write_all_counted-clause-write_failures g c = grind (arith, elements)
