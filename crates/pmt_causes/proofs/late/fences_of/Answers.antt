use Rattle.std.proofs.Common.{◌≡◌, ◌+◌, ◌-◌, ap, sym, subst, ◌∙◌, arith}
use Rattle.std.specs.Prelude.{nat_le, if◌then◌else◌}
use Rattle.std.specs.List.{count_by}
use Rattle.pmt_causes.specs.Late.{wait_of, is_fence}
use Rattle.pmt_causes.proofs.late.fences_of.Goals as goal

pub returns-in-Store-clause-wait : goal.returns-in-Store-clause-wait
returns-in-Store-clause-wait c =
    let list = c.args.fences.now in
    let last : c.saturating_sub-last.result ≡ c.args.safe - 1 = omega arith in
    let before : count_by (λ k. nat_le k c.args.number) list ≡ c.args.passed.now + 0 =
    subst (λ o. count_by (λ k. nat_le k c.args.number) list ≡ c.args.passed.now + (if is_fence o then 1 else 0)) c.in-Store.is c.requires.passed in
    let value : c.saturating_sub.result ≡ count_by (λ k. nat_le k (c.args.safe - 1)) list - count_by (λ k. nat_le k c.args.number) list =
    omega (arith, c.fences_by.ensures ∙ ap (λ q. count_by (λ k. nat_le k q) list) last, before) in
    subst (λ o. c.saturating_sub.result ≡ wait_of list o c.args.number c.args.safe) (sym c.in-Store.is) value
