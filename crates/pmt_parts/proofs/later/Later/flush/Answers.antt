use Rattle.pmt_parts.proofs.Prelude.{refl, ap, subst, ◌∙◌, arith, not, nat_eq, list_any}
use Rattle.pmt_parts.proofs.LaterLemmas.{IsAdded, later-fenced, later-open}
use Rattle.pmt_parts.proofs.later.Later.flush.Goals as goal

pub returns-then-fenced : goal.returns-then-fenced
returns-then-fenced c = λ T m n is by old.
    later-fenced T m n c.args.thread c.args.line c.args.self.now _ is by (omega arith) c.if-fenced.true refl c.in_ok-insert.ensures.updates.0 refl old

pub returns : goal.returns
returns c = λ T m n is by old.
    let keys = c.args.self.now.waiting.keys in
    let added = subst (λ k. IsAdded k keys c.insert-2.new.self.keys) c.key_of.ensures c.in_ok-is_new.ensures.updates.0 in
    let told = c.in_ok-is_new.ensures.added ∙ ap (λ k. not (list_any (nat_eq k) keys)) c.key_of.ensures in
    later-open T m n c.args.thread c.args.line c.args.self.now _ c.in_ok-is_new.is_new is by (omega arith) c.if-fenced.false refl refl added told old
