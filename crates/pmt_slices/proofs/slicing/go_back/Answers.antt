use Rattle.pmt_slices.proofs.Prelude.{◌≡◌, suc, sym, ap, ◌∙◌, arith, line_of, Stores, Flushes, Clflushes, Fences, Asserts, IsAct, act_of}
use Rattle.pmt_slices.proofs.ScanLemmas.{scan-over}
use Rattle.pmt_slices.proofs.GoingLemmas.{gone-other}
use Rattle.pmt_slices.proofs.slicing.go_back.Goals as goal

pub returns-in-Store-clause-goes : goal.returns-in-Store-clause-goes
returns-in-Store-clause-goes c = λ T A m n before format is same within old.
    let line = c.line_of-line.result in
    let at = sym (c.line_of-line.ensures ∙ ap (line_of c.args.format) c.addr.ensures.value) in
    let act : act_of c.args.format c.args.thread c.args.op ≡ Stores line c.in-Store.store = ap (act_of c.args.format c.args.thread) c.in-Store.is ∙ ap (λ l. Stores l c.in-Store.store) at in
    c.over_store.ensures.goes T A m n before format (is.0, is.1, is.2 ∙ act) same within old

pub returns-in-Clwb-clause-goes : goal.returns-in-Clwb-clause-goes
returns-in-Clwb-clause-goes c = λ T A m n before format is same within old.
    let line = c.line_of.result in
    let act : act_of c.args.format c.args.thread c.args.op ≡ Flushes c.args.thread line = ap (act_of c.args.format c.args.thread) c.in-Clwb.is ∙ ap (λ l. Flushes c.args.thread l) (sym c.line_of.ensures) in
    let here : IsAct T (suc m) (Flushes c.args.thread line) = (is.0, is.1, is.2 ∙ act) in
    gone-other T A m n before c.args.chosen.now c.args.scan.now c.flush.new.self c.args.unwritten.now (Flushes c.args.thread line) here (λ l w e. cc) (c.flush.ensures T A m (suc n) here same (omega arith) old.scan) old

pub returns-in-ClflushOpt-clause-goes : goal.returns-in-ClflushOpt-clause-goes
returns-in-ClflushOpt-clause-goes c = λ T A m n before format is same within old.
    let line = c.line_of-in-ClflushOpt.result in
    let act : act_of c.args.format c.args.thread c.args.op ≡ Flushes c.args.thread line = ap (act_of c.args.format c.args.thread) c.in-ClflushOpt.is ∙ ap (λ l. Flushes c.args.thread l) (sym c.line_of-in-ClflushOpt.ensures) in
    let here : IsAct T (suc m) (Flushes c.args.thread line) = (is.0, is.1, is.2 ∙ act) in
    gone-other T A m n before c.args.chosen.now c.args.scan.now c.flush-in-ClflushOpt.new.self c.args.unwritten.now (Flushes c.args.thread line) here (λ l w e. cc) (c.flush-in-ClflushOpt.ensures T A m (suc n) here same (omega arith) old.scan) old

pub returns-in-Clflush-clause-goes : goal.returns-in-Clflush-clause-goes
returns-in-Clflush-clause-goes c = λ T A m n before format is same within old.
    let line = c.line_of-in-Clflush.result in
    let act : act_of c.args.format c.args.thread c.args.op ≡ Clflushes line = ap (act_of c.args.format c.args.thread) c.in-Clflush.is ∙ ap (λ l. Clflushes l) (sym c.line_of-in-Clflush.ensures) in
    let here : IsAct T (suc m) (Clflushes line) = (is.0, is.1, is.2 ∙ act) in
    gone-other T A m n before c.args.chosen.now c.args.scan.now c.clflush.new.self c.args.unwritten.now (Clflushes line) here (λ l w e. cc) (c.clflush.ensures T A m (suc n) here same (omega arith) old.scan) old

pub returns-in-Sfence-clause-goes : goal.returns-in-Sfence-clause-goes
returns-in-Sfence-clause-goes c = λ T A m n before format is same within old.
    let act : act_of c.args.format c.args.thread c.args.op ≡ Fences c.args.thread = ap (act_of c.args.format c.args.thread) c.in-Sfence.is in
    let here : IsAct T (suc m) (Fences c.args.thread) = (is.0, is.1, is.2 ∙ act) in
    gone-other T A m n before c.args.chosen.now c.args.scan.now c.fence.new.self c.args.unwritten.now (Fences c.args.thread) here (λ l w e. cc) (c.fence.ensures T A m (suc n) here same (omega arith) old.scan) old

pub returns-in-Mfence-clause-goes : goal.returns-in-Mfence-clause-goes
returns-in-Mfence-clause-goes c = λ T A m n before format is same within old.
    let act : act_of c.args.format c.args.thread c.args.op ≡ Fences c.args.thread = ap (act_of c.args.format c.args.thread) c.in-Mfence.is in
    let here : IsAct T (suc m) (Fences c.args.thread) = (is.0, is.1, is.2 ∙ act) in
    gone-other T A m n before c.args.chosen.now c.args.scan.now c.fence-in-Mfence.new.self c.args.unwritten.now (Fences c.args.thread) here (λ l w e. cc) (c.fence-in-Mfence.ensures T A m (suc n) here same (omega arith) old.scan) old

pub returns-in-IsPersist-clause-goes : goal.returns-in-IsPersist-clause-goes
returns-in-IsPersist-clause-goes c = λ T A m n before format is same within old.
    let act : act_of c.args.format c.args.thread c.args.op ≡ Asserts = ap (act_of c.args.format c.args.thread) c.in-IsPersist.is in
    let here : IsAct T (suc m) Asserts = (is.0, is.1, is.2 ∙ act) in
    gone-other T A m n before c.args.chosen.now c.args.scan.now c.args.scan.now c.args.unwritten.now Asserts here (λ l w e. cc) (scan-over T A m (suc n) c.args.scan.now Asserts here (λ t l e. cc) (λ l e. cc) (λ t e. cc) old.scan) old

pub returns-in-IsOrderedBefore-clause-goes : goal.returns-in-IsOrderedBefore-clause-goes
returns-in-IsOrderedBefore-clause-goes c = λ T A m n before format is same within old.
    let act : act_of c.args.format c.args.thread c.args.op ≡ Asserts = ap (act_of c.args.format c.args.thread) c.in-IsOrderedBefore.is in
    let here : IsAct T (suc m) Asserts = (is.0, is.1, is.2 ∙ act) in
    gone-other T A m n before c.args.chosen.now c.args.scan.now c.args.scan.now c.args.unwritten.now Asserts here (λ l w e. cc) (scan-over T A m (suc n) c.args.scan.now Asserts here (λ t l e. cc) (λ l e. cc) (λ t e. cc) old.scan) old
