use Rattle.std.proofs.Common.{◌≡◌, sym, subst}
use Rattle.pmt_model.specs.Traces.{Recording}
use Rattle.pmt_book.specs.Live.{last_front}
use Rattle.pmt_book.proofs.BookLemmas.{no-stores}
use Rattle.pmt_book.proofs.book.Book.front.Goals as goal

pub returns-in-None : goal.returns-in-None
returns-in-None c =
    let none = no-stores c.self.inside.trace c.args.line c.self.inside.lines c.self.invariant c.in-None.ensures in
    subst (λ (T : Recording). 0 ≡ last_front T c.args.line) c.self.view_is (sym none.1)
