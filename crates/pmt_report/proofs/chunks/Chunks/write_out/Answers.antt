use Rattle.std.proofs.Common.{arith, ℕ, ◌+◌, List, ◌<◌, length, take, subst, ap, ◌∙◌}
use Rattle.std.proofs.lemmas.Grind.{elements}
use Rattle.std.specs.Io.KnownBytes.{Appends}
use Rattle.pmt_text.specs.Counting.{inner_device}
use Rattle.pmt_report.proofs.ChunkLemmas.{waiting-out, waiting-fails}
use Rattle.pmt_report.proofs.chunks.Chunks.write_out.Goals as goal

pub returns-in-Ok-clause-put : goal.returns-in-Ok-clause-put
returns-in-Ok-clause-put g c = λ before text put.
    let old = g.W.Write.contents (inner_device c.args.writer.now) in
    let new = g.W.Write.contents (inner_device c.write_all_counted.new.writer) in
    waiting-out before old new text c.args.self.now _ put (subst (λ (l : List ℕ). Appends old new l) c.as_slice.ensures.value c.in-Ok.ensures.ok) c.clear.ensures.items
    (ap (λ (n : ℕ). c.args.self.now.written + n) (c.len.ensures ∙ c.args.self.now.waiting.ok.0)) c.clear.ensures.capacity

pub returns-in-Err-clause-put : goal.returns-in-Err-clause-put
returns-in-Err-clause-put g c = λ before text put.
    let old = g.W.Write.contents (inner_device c.args.writer.now) in
    let new = g.W.Write.contents (inner_device c.write_all_counted.new.writer) in
    let n = c.in-Err.fault.written in
    waiting-fails before old new text c.args.self.now n put (subst (λ (l : List ℕ). Appends old new (take n l)) c.as_slice.ensures.value c.in-Err.ensures.out)
    (subst (λ (l : List ℕ). n < length l) c.as_slice.ensures.value c.in-Err.ensures.some_left)

pub overflow_add-self : goal.overflow_add-self
overflow_add-self g c = grind (arith, elements)

pub overflow_add-result : goal.overflow_add-result
overflow_add-result g c = grind (arith, elements)
