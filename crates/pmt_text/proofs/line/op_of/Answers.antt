-- At each return, the op of the word.
use Rattle.std.proofs.Common.{sym, ◌∙◌, ap}
use Rattle.std.proofs.lemmas.Result.{err_from_is_err_and}
use Rattle.pmt_model.specs.declared.event.Op.TheVariants.{Clwb, ClflushOpt, Clflush}
use Rattle.pmt_text.specs.declared.word.Word.{Word}
use Rattle.pmt_text.specs.Judging.{fields_left, op_of_fields}
use Rattle.pmt_text.proofs.JudgeLemmas.{flush_of, flush-clwb, flush-clflushopt, flush-clflush, fence-sfence, fence-mfence}
use Rattle.pmt_text.proofs.line.op_of.Goals as goal

pub returns-in_err-last_address-in-Clwb : goal.returns-in_err-last_address-in-Clwb
returns-in_err-last_address-in-Clwb c =
    let p = err_from_is_err_and c.from_residual.result c.from_residual.ensures.1 in
    rw (p.1, p.2) (ap (flush_of Clwb) c.in_err-last_address-in-Clwb.ensures ∙ flush-clwb (fields_left c.args.rest) ∙ ap (λ (w : Word). op_of_fields w (fields_left c.args.rest)) (sym c.in-Clwb.is))

pub returns-in_ok-last_address-in-Clwb : goal.returns-in_ok-last_address-in-Clwb
returns-in_ok-last_address-in-Clwb c =
    ap (flush_of Clwb) c.in_ok-last_address-in-Clwb.ensures ∙ flush-clwb (fields_left c.args.rest) ∙ ap (λ (w : Word). op_of_fields w (fields_left c.args.rest)) (sym c.in-Clwb.is)

pub returns-in_err-last_address-in-ClflushOpt : goal.returns-in_err-last_address-in-ClflushOpt
returns-in_err-last_address-in-ClflushOpt c =
    let p = err_from_is_err_and c.from_residual-in_err-last_address-in-ClflushOpt.result c.from_residual-in_err-last_address-in-ClflushOpt.ensures.1 in
    rw (p.1, p.2) (ap (flush_of ClflushOpt) c.in_err-last_address-in-ClflushOpt.ensures ∙ flush-clflushopt (fields_left c.args.rest) ∙ ap (λ (w : Word). op_of_fields w (fields_left c.args.rest)) (sym c.in-ClflushOpt.is))

pub returns-in_ok-last_address-in-ClflushOpt : goal.returns-in_ok-last_address-in-ClflushOpt
returns-in_ok-last_address-in-ClflushOpt c =
    ap (flush_of ClflushOpt) c.in_ok-last_address-in-ClflushOpt.ensures ∙ flush-clflushopt (fields_left c.args.rest) ∙ ap (λ (w : Word). op_of_fields w (fields_left c.args.rest)) (sym c.in-ClflushOpt.is)

pub returns-in_err-last_address-in-Clflush : goal.returns-in_err-last_address-in-Clflush
returns-in_err-last_address-in-Clflush c =
    let p = err_from_is_err_and c.from_residual-in_err-last_address-in-Clflush.result c.from_residual-in_err-last_address-in-Clflush.ensures.1 in
    rw (p.1, p.2) (ap (flush_of Clflush) c.in_err-last_address-in-Clflush.ensures ∙ flush-clflush (fields_left c.args.rest) ∙ ap (λ (w : Word). op_of_fields w (fields_left c.args.rest)) (sym c.in-Clflush.is))

pub returns-in_ok-last_address-in-Clflush : goal.returns-in_ok-last_address-in-Clflush
returns-in_ok-last_address-in-Clflush c =
    ap (flush_of Clflush) c.in_ok-last_address-in-Clflush.ensures ∙ flush-clflush (fields_left c.args.rest) ∙ ap (λ (w : Word). op_of_fields w (fields_left c.args.rest)) (sym c.in-Clflush.is)

pub returns-in-Sfence : goal.returns-in-Sfence
returns-in-Sfence c = c.fence_of.ensures ∙ fence-sfence (fields_left c.args.rest) ∙ ap (λ (w : Word). op_of_fields w (fields_left c.args.rest)) (sym c.in-Sfence.is)

pub returns-in-Mfence : goal.returns-in-Mfence
returns-in-Mfence c = c.fence_of-in-Mfence.ensures ∙ fence-mfence (fields_left c.args.rest) ∙ ap (λ (w : Word). op_of_fields w (fields_left c.args.rest)) (sym c.in-Mfence.is)
