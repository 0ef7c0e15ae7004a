use Rattle.std.proofs.Common.{◌≡◌, ◌-◌, ℕ, Some, drop, refl, subst, arith}
use Rattle.std.specs.List.{position_from}
use Rattle.pmt_hints.specs.declared.hint.Hint.{Hint}
use Rattle.pmt_entries.specs.Sites.{is_mark, mark_of, sign_at}
use Rattle.pmt_entries.proofs.SignLemmas.{sign-before, signs-none}
use Rattle.pmt_entries.proofs.signs.signs_of.Goals as goal

pub loop-index-init : goal.loop-index-init
loop-index-init c = λ m. signs-none _ c.args.hints.now _ (rw c.new-signs.ensures.empty refl)

pub loop-index-preserved : goal.loop-index-preserved
loop-index-preserved c = λ m.
    sign-before c.args.trace.now c.args.fences.now c.args.hints.now c.loop-index.index (c.loop-index.index - 1) _ _ _ m c.mark_of-mark.result (sign_at c.loop-index.signs (Some m)) (sign_at c.note.new.signs (Some m))
    (omega arith) (omega arith) refl refl c.mark_of-mark.ensures (c.in_ok-note.ensures m) (c.loop-index.invariant m)

pub returns : goal.returns
returns c = λ m.
    let zero : c.loop-index.index ≡ 0 = omega arith in
    subst (λ (k : ℕ). sign_at c.loop-index.signs (Some m) ≡ position_from (λ (h : Hint). is_mark (Some m) (mark_of c.args.trace.now c.args.fences.now h)) k (drop k c.args.hints.now)) zero (c.loop-index.invariant m)
