use Rattle.std.proofs.Common.{◌∷◌, [], ◌++◌, inr, refl, ap, ◌∙◌, arith}
use Rattle.pmt_parts.proofs.MetLemmas.{met-known, met-aside}
use Rattle.pmt_parts.proofs.aside.Met.judge.Goals as goal

pub returns-then-has_all : goal.returns-then-has_all
returns-then-has_all c T m n is from has old = met-known T m c.args.before n c.args.second from has c.args.self.now (inr (c.has_all.ensures.all c.if-has_all.true)) old

pub returns : goal.returns
returns c T m n is from has old =
    met-aside T m c.args.before n c.args.second from has c.args.self.now _ (omega (arith, c.if-number-before.false, is)) (c.has_all.ensures.some c.if-has_all.false) refl
    (c.in_ok-push.ensures.items ∙ ap (λ k. c.args.self.now.aside.items ++ k ∷ []) is) old
