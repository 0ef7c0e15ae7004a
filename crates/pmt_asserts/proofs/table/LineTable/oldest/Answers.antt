use Rattle.std.proofs.Common.{◌-◌, ◌∙◌, ap, length, subst, sym, arith, rules}
use Rattle.pmt_lines.specs.Jobs.{LineFound}
use Rattle.pmt_asserts.specs.declared.put.Put.{Put}
use Rattle.pmt_asserts.specs.Puts.{puts_of, last_in, IsLeastIn}
use Rattle.pmt_asserts.specs.Tables.{IsOldest}
use Rattle.pmt_asserts.proofs.RankLemmas.{least-within, put-read}
use Rattle.pmt_asserts.proofs.TableLemmas.{oldest-found, oldest-none}
use Rattle.pmt_asserts.proofs.table.LineTable.oldest.Goals as goal

pub returns-in-None : goal.returns-in-None
returns-in-None c = λ T trace job lie.
    let f = c.args.self.now in
    let count = c.count_at.ensures.value T trace job in
    oldest-none T f.job.line f.job.steps c.args.place c.args.low c.args.high trace job lie
    (λ b above below. ap (last_in (puts_of f.job.steps) b) count ∙ c.in-None.ensures {u = tt} b above below)

pub index-requires : goal.index-requires
index-requires c =
    let is = c.in-Some.ensures {u = tt} in
    let within = least-within (puts_of c.args.self.now.job.steps) c.count_at.result c.args.low c.args.high c.in-Some.rank is in
    let all = c.count_at.ensures.within in
    let same = ap length (c.self.invariant.stores ∙ ap (λ (g : LineFound). puts_of g.job.steps) c.self.view_is) in
    let some = is.some in
    search rules

pub returns-in-Some : goal.returns-in-Some
returns-in-Some c = λ T trace job lie.
    let f = c.args.self.now in
    let puts = puts_of f.job.steps in
    let is = c.in-Some.ensures {u = tt} in
    let m = c.in-Some.rank in
    let count = c.count_at.ensures.value T trace job in
    let within = least-within puts c.count_at.result c.args.low c.args.high m is in
    let stores = c.self.invariant.stores ∙ ap (λ (g : LineFound). puts_of g.job.steps) c.self.view_is in
    let read = put-read c.self.inside.puts.items puts (m - 1) c.index.result.now stores (omega (arith, within, c.count_at.ensures.within, is.some)) c.index.ensures in
    subst (λ n. IsOldest T c.args.place f.job.line c.args.low c.args.high (record { rank = m; number = n })) (ap (λ (p : Put). p.number) (sym read))
    (oldest-found T f.job.line f.job.steps c.args.place c.args.low c.args.high m trace job lie (subst (λ k. IsLeastIn puts k c.args.low c.args.high m) (sym count) is))
