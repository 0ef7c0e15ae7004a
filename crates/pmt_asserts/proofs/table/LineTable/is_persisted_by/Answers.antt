use Rattle.pmt_asserts.proofs.TableLemmas.{persisted-ranked}
use Rattle.pmt_asserts.proofs.table.LineTable.is_persisted_by.Goals as goal

pub returns : goal.returns
returns c = λ T trace job by_end lie.
    let f = c.args.self.now in
    let told = c.is_ranked_by.ensures T trace job lie in
    let same = persisted-ranked T f.job.line f.job.steps c.args.place c.args.by c.front_at.result c.args.low c.args.high trace job lie (c.front_at.ensures T trace job by_end) in
    (λ yes. same.0 (told.0 yes), λ each. told.1 (same.1 each))
