use Rattle.std.proofs.Common.{◌<◌, length, ap, ◌∙◌, arith}
use Rattle.pmt_rows.specs.Waiting.{list_at}
use Rattle.pmt_rows.proofs.OpenLemmas.{set-own, set-others}
use Rattle.pmt_rows.proofs.open.OpenFlushes.clear.Goals as goal

pub returns-then-thread-len-clause-own : goal.returns-then-thread-len-clause-own
returns-then-thread-len-clause-own c =
    let lists = c.self.inside.lists.items in
    let within : c.args.thread < length lists = omega arith in
    set-own (λ v. v.items) lists c.args.thread c.clear.new.self within ∙ c.clear.ensures.items

pub returns-then-thread-len-clause-others : goal.returns-then-thread-len-clause-others
returns-then-thread-len-clause-others c = λ t other. set-others (λ v. v.items) c.self.inside.lists.items c.args.thread t c.clear.new.self other ∙ ap (list_at t) c.self.view_is
