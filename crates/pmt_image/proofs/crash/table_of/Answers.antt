use Rattle.pmt_image.proofs.Prelude.{◌∙◌, rules, count_in}
use Rattle.pmt_image.proofs.CountLemmas.{counts-same}
use Rattle.pmt_image.proofs.crash.table_of.Goals as goal

pub returns : goal.returns
returns c = λ l. c.in_ok-set_counts.ensures l ∙ counts-same c.args.lines.now (count_in c.new-table.result) (λ _. 0) (λ k. search rules) l
