use Rattle.std.proofs.Common.{rules}
use Rattle.std.proofs.lemmas.List.Sorted.{answers_always}
use Rattle.pmt_marks.specs.declared.mark.Mark.{Mark}
use Rattle.pmt_marks.proofs.MarkLemmas.{searched}
use Rattle.pmt_marks.proofs.mark.search.Goals as goal

-- the closure gives a mark's thread
pub returns : goal.returns
returns c =
    let facts = c.binary_search_by_key.ensures in
    let by_thread = facts.position (λ (m : Mark). m.thread) (answers_always _ _ _ (λ f a r g called. search rules)) in
    searched c.args.thread c.args.marks.now c.requires _ facts.bound by_thread
