use Rattle.pmt_page.proofs.Prelude.{◌≡◌, IfOk, subst, Parts, filled, page}
use Rattle.pmt_page.proofs.page.page_text.Goals as goal

pub returns : goal.returns
unfolding page
returns c = subst (λ (p : Parts). IfOk c.filled.result (λ text. text.items ≡ filled p c.args.blocks)) c.own_template.ensures c.filled.ensures
