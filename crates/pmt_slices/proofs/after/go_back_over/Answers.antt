use Rattle.pmt_slices.proofs.Prelude.{◌≡◌, suc, sym, ap, ◌∙◌, Flushes, Clflushes, Fences, Asserts, IsAct, act_of}
use Rattle.pmt_slices.proofs.ScanLemmas.{scan-over, scan-store}
use Rattle.pmt_slices.proofs.after.go_back_over.Goals as goal

pub returns-in-Store : goal.returns-in-Store
returns-in-Store c = λ T A m past is number early old. scan-store T A m past c.args.scan.now c.args.format c.args.thread c.args.op _ c.in-Store.is is old

pub returns-in-Clwb : goal.returns-in-Clwb
returns-in-Clwb c = λ T A m past is number early old.
    let line = c.line_of.result in
    let act : act_of c.args.format c.args.thread c.args.op ≡ Flushes c.args.thread line = ap (act_of c.args.format c.args.thread) c.in-Clwb.is ∙ ap (λ l. Flushes c.args.thread l) (sym c.line_of.ensures) in
    let here : IsAct T (suc m) (Flushes c.args.thread line) = (is.0, is.1, is.2 ∙ act) in
    c.flush.ensures T A m past here number early old

pub returns-in-ClflushOpt : goal.returns-in-ClflushOpt
returns-in-ClflushOpt c = λ T A m past is number early old.
    let line = c.line_of-in-ClflushOpt.result in
    let act : act_of c.args.format c.args.thread c.args.op ≡ Flushes c.args.thread line = ap (act_of c.args.format c.args.thread) c.in-ClflushOpt.is ∙ ap (λ l. Flushes c.args.thread l) (sym c.line_of-in-ClflushOpt.ensures) in
    let here : IsAct T (suc m) (Flushes c.args.thread line) = (is.0, is.1, is.2 ∙ act) in
    c.flush-in-ClflushOpt.ensures T A m past here number early old

pub returns-in-Clflush : goal.returns-in-Clflush
returns-in-Clflush c = λ T A m past is number early old.
    let line = c.line_of-in-Clflush.result in
    let act : act_of c.args.format c.args.thread c.args.op ≡ Clflushes line = ap (act_of c.args.format c.args.thread) c.in-Clflush.is ∙ ap (λ l. Clflushes l) (sym c.line_of-in-Clflush.ensures) in
    let here : IsAct T (suc m) (Clflushes line) = (is.0, is.1, is.2 ∙ act) in
    c.clflush.ensures T A m past here number early old

pub returns-in-Sfence : goal.returns-in-Sfence
returns-in-Sfence c = λ T A m past is number early old.
    let act : act_of c.args.format c.args.thread c.args.op ≡ Fences c.args.thread = ap (act_of c.args.format c.args.thread) c.in-Sfence.is in
    let here : IsAct T (suc m) (Fences c.args.thread) = (is.0, is.1, is.2 ∙ act) in
    c.fence.ensures T A m past here number early old

pub returns-in-Mfence : goal.returns-in-Mfence
returns-in-Mfence c = λ T A m past is number early old.
    let act : act_of c.args.format c.args.thread c.args.op ≡ Fences c.args.thread = ap (act_of c.args.format c.args.thread) c.in-Mfence.is in
    let here : IsAct T (suc m) (Fences c.args.thread) = (is.0, is.1, is.2 ∙ act) in
    c.fence-in-Mfence.ensures T A m past here number early old

pub returns-in-IsPersist : goal.returns-in-IsPersist
returns-in-IsPersist c = λ T A m past is number early old.
    let act : act_of c.args.format c.args.thread c.args.op ≡ Asserts = ap (act_of c.args.format c.args.thread) c.in-IsPersist.is in
    let here : IsAct T (suc m) Asserts = (is.0, is.1, is.2 ∙ act) in
    scan-over T A m past c.args.scan.now Asserts here (λ t l e. cc) (λ l e. cc) (λ t e. cc) old

pub returns-in-IsOrderedBefore : goal.returns-in-IsOrderedBefore
returns-in-IsOrderedBefore c = λ T A m past is number early old.
    let act : act_of c.args.format c.args.thread c.args.op ≡ Asserts = ap (act_of c.args.format c.args.thread) c.in-IsOrderedBefore.is in
    let here : IsAct T (suc m) Asserts = (is.0, is.1, is.2 ∙ act) in
    scan-over T A m past c.args.scan.now Asserts here (λ t l e. cc) (λ l e. cc) (λ t e. cc) old
