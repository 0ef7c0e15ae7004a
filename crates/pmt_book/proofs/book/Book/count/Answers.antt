use Rattle.std.proofs.Common.{arith, ◌≡◌, sym, subst}
use Rattle.std.proofs.lemmas.Grind.{elements}
use Rattle.pmt_model.specs.Traces.{Recording}
use Rattle.pmt_book.specs.Live.{last_count}
use Rattle.pmt_book.proofs.BookLemmas.{no-stores}
use Rattle.pmt_book.proofs.book.Book.count.Goals as goal

pub returns-in-None : goal.returns-in-None
returns-in-None c =
    let none = no-stores c.self.inside.trace c.args.line c.self.inside.lines c.self.invariant c.in-None.ensures in
    subst (λ (T : Recording). 0 ≡ last_count T c.args.line) c.self.view_is (sym none.0)

pub count-requires : goal.count-requires
count-requires c = grind (arith, elements)
