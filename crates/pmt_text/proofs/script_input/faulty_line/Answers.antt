-- What comes after so many lines; and one line on.
use Rattle.std.proofs.Common.{refl, sym, ap, ◌∙◌, arith, Some}
use Rattle.pmt_text.specs.declared.kind.SourceError.TheVariants.{Text}
use Rattle.pmt_text.specs.Coming.{script_coming}
use Rattle.pmt_text.proofs.InputLemmas.{fault-next, fault-refused, fault-late, fault-long}
use Rattle.pmt_text.proofs.script_input.faulty_line.Goals as goal

pub loop-line-init : goal.loop-line-init
unfolding script_coming
loop-line-init c = record { few = omega arith; left = refl }

pub returns-in-Ok-2 : goal.returns-in-Ok-2
returns-in-Ok-2 c =
    let l = c.loop-line in
    sym l.invariant.left
    ∙ fault-late l.count l.rest.now c.in-Some.line.now c.in-Some.after.now c.in-Some.ensures.0 c.in-Ok-2.field-0 (sym c.in-Ok-2.ensures) c.if-count-lt-OP_LIMIT.false
    ∙ ap (λ f. Some (Text f)) (sym c.fault.ensures)

pub returns-in-Err : goal.returns-in-Err
returns-in-Err c =
    let l = c.loop-line in
    sym l.invariant.left
    ∙ fault-refused l.count l.rest.now c.in-Some.line.now c.in-Some.after.now c.in-Some.ensures.0 c.in-Err.kind (sym c.in-Err.ensures)
    ∙ ap (λ f. Some (Text f)) (sym c.fault-in-Err.ensures)

pub loop-line-preserved : goal.loop-line-preserved
loop-line-preserved c =
    let l = c.loop-line in
    record {
      few = omega arith;
      left = sym (fault-next l.count l.rest.now c.in-Some.line.now c.in-Some.after.now c.in-Some.ensures.0 c.in-Ok.field-0 (sym c.in-Ok.ensures) c.if-count-lt-OP_LIMIT.true) ∙ l.invariant.left;
    }

pub returns : goal.returns
returns c = sym c.loop-line.invariant.left ∙ fault-long c.loop-line.count c.loop-line.rest.now c.in_default.ensures
