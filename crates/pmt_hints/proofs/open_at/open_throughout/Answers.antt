use Rattle.std.proofs.Common.{◌≡◌, [], sym, ap, subst, ◌∙◌}
use Rattle.pmt_laws.specs.Prelude.{filter, IsKeep, IsRising}
use Rattle.pmt_hints.specs.Hints.{AreThose, IsOpenThroughout}
use Rattle.pmt_hints.specs.Contrasts.{told_so}
use Rattle.pmt_hints.proofs.OpenAtLemmas.{filter-rising}
use Rattle.pmt_hints.proofs.TellingLemmas.{told-those}
use Rattle.pmt_hints.proofs.WaitingLemmas.{none-open}
use Rattle.pmt_hints.proofs.open_at.open_throughout.Goals as goal

pub returns-then-not-has_store_while_open : goal.returns-then-not-has_store_while_open
returns-then-not-has_store_while_open c =
    let T = c.args.trace.now in
    let is : c.selection_of.result ≡ [] = c.selection_of.ensures ∙ c.new.ensures.items in
    subst (AreThose (IsOpenThroughout T c.args.labels.now)) (sym is) (none-open T c.args.labels.now (c.has_store_while_open.ensures c.if-not-has_store_while_open.true))

pub open_numbers-requires-clause-keep : goal.open_numbers-requires-clause-keep
open_numbers-requires-clause-keep c = subst (IsKeep c.args.trace.now) (sym c.numbers.ensures.value) c.requires

pub selection_of-requires-2 : goal.selection_of-requires-2
selection_of-requires-2 c =
    let P = told_so c.args.trace.now c.args.labels.now c.open_numbers.new.closed in
    subst (λ ks. IsRising 0 ks) (sym (c.in_ok-told.ensures ∙ ap (filter P) c.as_slice.ensures.value)) (filter-rising P 0 c.in_ok-open.open.items c.in_ok-open.ensures.those.rising)

pub returns : goal.returns
returns c =
    let T = c.args.trace.now in
    let labels = c.args.labels.now in
    let closed = c.open_numbers.new.closed in
    told-those T labels c.in_ok-open.open.items closed c.in_ok-open.ensures.those c.in_ok-open.ensures.closed c.selection_of-2.result (c.selection_of-2.ensures ∙ c.in_ok-told.ensures ∙ ap (filter (told_so T labels closed)) c.as_slice.ensures.value)
