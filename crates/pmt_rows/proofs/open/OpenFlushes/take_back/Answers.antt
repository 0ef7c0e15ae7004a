use Rattle.std.proofs.Common.{◌≡◌, ◌<◌, ◌-◌, length, take, vec_len, ap, ◌∙◌, arith}
use Rattle.pmt_rows.specs.Waiting.{list_at}
use Rattle.pmt_rows.proofs.OpenLemmas.{set-own, set-others, read-own}
use Rattle.pmt_rows.proofs.open.OpenFlushes.take_back.Goals as goal

pub returns-then-thread-len : goal.returns-then-thread-len
returns-then-thread-len c =
    let lists = c.self.inside.lists.items in
    let t = c.args.thread in
    let within : t < length lists = omega arith in
    let old = c.index_mut.result.now in
    let size : vec_len old ≡ length old.items = omega arith in
    record {
      own = set-own (λ v. v.items) lists t c.pop.new.self within ∙ c.pop.ensures.rest ∙ ap (λ n. take (n - 1) old.items) size
          ∙ ap (λ fs. take (length fs - 1) fs) (read-own (λ v. v.items) lists t old within c.index_mut.ensures.value ∙ ap (list_at t) c.self.view_is);
      others = λ u other. set-others (λ v. v.items) lists t u c.pop.new.self other ∙ ap (list_at u) c.self.view_is;
    }
