use Rattle.pmt_image.proofs.Prelude.{◌≡◌, ◌++◌, ◌-◌, List, length, take, drop, ap, ◌∙◌, arith, nat_lt, filter, StoreSpan}
use Rattle.pmt_image.proofs.WalkLemmas.{exposed-later}
use Rattle.pmt_image.proofs.walk.Walk.go_to.Goals as goal

pub returns-clause-there : goal.returns-clause-there
returns-clause-there c = λ at.
    let w = c.begin_before.ensures.there at in
    let spans : length c.begin_before.new.self.spans.items ≡ length c.args.self.now.spans.items = ap (λ v. length v.items) c.begin_before.ensures.spans in
    record {
      within = omega (arith, c.min-end.ensures, c.len.ensures, spans);
      exposed =
          exposed-later c.begin_before.new.self.spans.items c.begin_before.new.self.exposed.items c.keep_exposed.new.stores.items c.begin_before.new.self.place c.min-end.result c.begin_before.ensures.before w.exposed
          (c.keep_exposed.ensures ∙ ap (λ (xs : List StoreSpan). filter (λ x. nat_lt c.min-end.result x.safe) xs) (c.in_ok-extend_from_slice.ensures.items ∙ ap (λ (xs : List StoreSpan). c.begin_before.new.self.exposed.items ++ take (c.min-end.result - c.begin_before.new.self.place) (drop c.begin_before.new.self.place xs)) c.deref.ensures.value));
    }
