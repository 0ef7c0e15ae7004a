use Rattle.pmt_laws.proofs.BoxLemmas.{vectors_are_a_box}
use Rattle.pmt_book.specs.Live.{whole_history}
use Rattle.pmt_book.proofs.laws.ends_are_between.Goals as goal

pub returns : goal.returns
returns c = λ v. vectors_are_a_box (whole_history c.args._book.now) v
