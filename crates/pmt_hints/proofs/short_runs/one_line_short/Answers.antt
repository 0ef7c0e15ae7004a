use Rattle.std.proofs.Common.{◌≡◌, [], sym, subst, ◌∙◌, arith}
use Rattle.std.proofs.lemmas.Grind.{elements}
use Rattle.pmt_hints.specs.Hints.{AreThose, IsOneLineShort}
use Rattle.pmt_hints.proofs.ShortLemmas.{none-goes, none-missed}
use Rattle.pmt_hints.proofs.short_runs.one_line_short.Goals.{then-not-is_any_missed-via-then-not-is_any_missed, then-not-is_any_missed-via-else-not-is_any_missed+then-not-has_rest}
use Rattle.pmt_hints.proofs.short_runs.one_line_short.Goals as goal

pub returns-then-not-is_any_missed : goal.returns-then-not-is_any_missed
returns-then-not-is_any_missed c =
    let T = c.args.safe.now.trace.now in
    let labels = c.args.labels.now in
    let is : c.selection_of.result ≡ [] = c.selection_of.ensures ∙ c.new.ensures.items in
    elim c.then-not-is_any_missed.branch [
      | then-not-is_any_missed-via-then-not-is_any_missed w ↦
          subst (AreThose (IsOneLineShort T labels)) (sym is)
          (none-missed T labels c.places-places.result.now c.args.waited.now c.places-places.ensures c.requires (c.is_any_missed.ensures w.if-not-is_any_missed.true))
      | then-not-is_any_missed-via-else-not-is_any_missed+then-not-has_rest w ↦
          let none = none-goes c.trace-trace.result.now labels (w.has_rest.ensures w.if-not-has_rest.true) in
          subst (λ U. AreThose (IsOneLineShort U labels) c.selection_of.result) c.trace-trace.ensures (subst (AreThose (IsOneLineShort c.trace-trace.result.now labels)) (sym is) none)
    ]

pub has_rest-requires-clause-waited : goal.has_rest-requires-clause-waited
has_rest-requires-clause-waited c = grind (arith, elements)

pub short_numbers-requires-clause-waited : goal.short_numbers-requires-clause-waited
short_numbers-requires-clause-waited c = grind (arith, elements)

pub returns : goal.returns
returns c = grind (arith, elements)
