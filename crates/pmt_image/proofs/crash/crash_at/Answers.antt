use Rattle.pmt_image.proofs.Prelude.{◌≡◌, ℕ, ◌∙◌, if◌then◌else◌, count_at, front_at, count_in, asked_count}
use Rattle.pmt_image.proofs.CountLemmas.{counts-same, chosen-first, chosen-second, box-may, box-with, box-base, between-same}
use Rattle.pmt_image.proofs.crash.crash_at.Goals as goal

pub returns-clause-counts : goal.returns-clause-counts
returns-clause-counts c =
    let T = c.args.trace.now in
    let n = c.args.place in
    let base : (k : ℕ) → count_in c.if-all.persisted k ≡ (if c.args.all then count_at T k n else front_at T k n) = λ k.
    elim c.if-all.branch [
      | goal.then-all w ↦
          let told : count_in c.if-all.persisted k ≡ count_at T k n = cc (w.persisted-is, c.in_ok-least.ensures.greatest k) in
          told ∙ chosen-first c.args.all (count_at T k n) (front_at T k n) w.if-all.true
      | goal.else-all w ↦
          let told : count_in c.if-all.persisted k ≡ front_at T k n = cc (w.persisted-is, c.in_ok-least.ensures.least k) in
          told ∙ chosen-second c.args.all (count_at T k n) (front_at T k n) w.if-all.false
    ] in
    λ l. c.in_ok-set_counts.ensures l ∙ counts-same c.args.asked.now (count_in c.if-all.persisted) (λ k. if c.args.all then count_at T k n else front_at T k n) base l

pub returns-clause-may : goal.returns-clause-may
returns-clause-may c =
    let T = c.args.trace.now in
    let n = c.args.place in
    let least : (l : ℕ) → count_in c.in_ok-least.field-0.least l ≡ front_at T l n = λ l. cc (c.in_ok-least.ensures.least l) in
    let greatest : (l : ℕ) → count_in c.in_ok-least.field-0.greatest l ≡ count_at T l n = λ l. cc (c.in_ok-least.ensures.greatest l) in
    box-may T n (λ l. asked_count T n c.args.all c.args.asked.now l) (λ l. count_in c.set_counts.new.table l) (returns-clause-counts c)
    (box-with T n c.args.asked.now (λ k. if c.args.all then count_at T k n else front_at T k n) (box-base T n c.args.all)
    (between-same (count_in c.in_ok-least.field-0.least) (count_in c.in_ok-least.field-0.greatest) (λ l. front_at T l n) (λ l. count_at T l n) c.args.asked.now least greatest c.in_ok-check_bounds.ensures.all))
