use Rattle.pmt_parts.proofs.Prelude.{◌≡◌, sym, ap, ◌∙◌, IfOk-weaker, line_of, Stores, Flushes, Clflushes, Fences, Asserts, act_of}
use Rattle.pmt_parts.proofs.LaterLemmas.{later-assert}
use Rattle.pmt_parts.proofs.later.Later.go_back.Goals as goal

pub returns-in-Store : goal.returns-in-Store
returns-in-Store c = λ T m n is by old.
    let at = sym (c.line_of.ensures ∙ ap (line_of c.args.format) c.addr.ensures.value) in
    let act : act_of c.args.format c.args.thread c.args.op ≡ Stores c.line_of.result c.in-Store.store = ap (act_of c.args.format c.args.thread) c.in-Store.is ∙ ap (λ l. Stores l c.in-Store.store) at in
    c.store.ensures T m n c.in-Store.store (is.0, is.1, is.2 ∙ act) by old

pub returns-in-Clwb : goal.returns-in-Clwb
returns-in-Clwb c = IfOk-weaker c.flush.result _ _ (λ carried law T m n is by old.
    let act : act_of c.args.format c.args.thread c.args.op ≡ Flushes c.args.thread c.line_of-in-Clwb.result = ap (act_of c.args.format c.args.thread) c.in-Clwb.is ∙ ap (λ l. Flushes c.args.thread l) (sym c.line_of-in-Clwb.ensures) in
    law T m n (is.0, is.1, is.2 ∙ act) by old) c.flush.ensures

pub returns-in-ClflushOpt : goal.returns-in-ClflushOpt
returns-in-ClflushOpt c = IfOk-weaker c.flush-in-ClflushOpt.result _ _ (λ carried law T m n is by old.
    let act : act_of c.args.format c.args.thread c.args.op ≡ Flushes c.args.thread c.line_of-in-ClflushOpt.result = ap (act_of c.args.format c.args.thread) c.in-ClflushOpt.is ∙ ap (λ l. Flushes c.args.thread l) (sym c.line_of-in-ClflushOpt.ensures) in
    law T m n (is.0, is.1, is.2 ∙ act) by old) c.flush-in-ClflushOpt.ensures

pub returns-in-Clflush : goal.returns-in-Clflush
returns-in-Clflush c = IfOk-weaker c.clflush.result _ _ (λ carried law T m n is by old.
    let act : act_of c.args.format c.args.thread c.args.op ≡ Clflushes c.line_of-in-Clflush.result = ap (act_of c.args.format c.args.thread) c.in-Clflush.is ∙ ap (λ l. Clflushes l) (sym c.line_of-in-Clflush.ensures) in
    law T m n (is.0, is.1, is.2 ∙ act) by old) c.clflush.ensures

pub returns-in-Sfence : goal.returns-in-Sfence
returns-in-Sfence c = λ T m n is by old.
    let act : act_of c.args.format c.args.thread c.args.op ≡ Fences c.args.thread = ap (act_of c.args.format c.args.thread) c.in-Sfence.is in
    c.fence.ensures T m n (is.0, is.1, is.2 ∙ act) by old

pub returns-in-Mfence : goal.returns-in-Mfence
returns-in-Mfence c = λ T m n is by old.
    let act : act_of c.args.format c.args.thread c.args.op ≡ Fences c.args.thread = ap (act_of c.args.format c.args.thread) c.in-Mfence.is in
    c.fence-in-Mfence.ensures T m n (is.0, is.1, is.2 ∙ act) by old

pub returns-in-IsPersist : goal.returns-in-IsPersist
returns-in-IsPersist c = λ T m n is by old.
    let act : act_of c.args.format c.args.thread c.args.op ≡ Asserts = ap (act_of c.args.format c.args.thread) c.in-IsPersist.is in
    later-assert T m n c.args.self.now (is.0, is.1, is.2 ∙ act) old

pub returns-in-IsOrderedBefore : goal.returns-in-IsOrderedBefore
returns-in-IsOrderedBefore c = λ T m n is by old.
    let act : act_of c.args.format c.args.thread c.args.op ≡ Asserts = ap (act_of c.args.format c.args.thread) c.in-IsOrderedBefore.is in
    later-assert T m n c.args.self.now (is.0, is.1, is.2 ∙ act) old
