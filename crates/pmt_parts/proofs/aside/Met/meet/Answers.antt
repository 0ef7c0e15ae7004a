use Rattle.pmt_parts.proofs.Prelude.{refl, ◌∙◌, on_ok_weaker}
use Rattle.pmt_parts.proofs.MetLemmas.{met-store, met-neither}
use Rattle.pmt_parts.proofs.aside.Met.meet.Goals as goal

pub returns-in-Store : goal.returns-in-Store
returns-in-Store c =
    on_ok_weaker c.note.result
    (λ bytes T m n is from has old. met-store T m c.args.before n c.args.self.now _ c.in-Store.store from (has.0, has.1, has.2 ∙ c.in-Store.is) bytes refl old) c.note.ensures

pub returns-in_default : goal.returns-in_default
returns-in_default c T m n is from has old = met-neither T m c.args.before n c.args.self.now c.args.op from has (λ w e. c.in_default.not-Store w e) (λ A B e. c.in_default.not-IsOrderedBefore A B e) old
