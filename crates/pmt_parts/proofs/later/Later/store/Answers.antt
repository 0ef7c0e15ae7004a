use Rattle.pmt_parts.proofs.Prelude.{suc, sym, subst, not, TellsCarried}
use Rattle.pmt_parts.proofs.LaterLemmas.{later-store}
use Rattle.pmt_parts.proofs.later.Later.store.Goals as goal

pub returns : goal.returns
returns c = λ T m n w is by old.
    let law = later-store T m n c.args.line w c.args.self.now is by old in
    (law.0, subst (λ b. TellsCarried T n (suc m) (not b)) (sym c.contains.ensures) law.1)
