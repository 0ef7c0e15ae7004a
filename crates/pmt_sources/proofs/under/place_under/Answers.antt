use Rattle.std.proofs.Common.{◌≡◌, ⊎_elim, get_or, sym, subst, ◌∙◌, arith}
use Rattle.std.proofs.lemmas.Bool.{cases_lt, true≢false}
use Rattle.pmt_sources.specs.Places.{Names}
use Rattle.pmt_sources.proofs.NamingLemmas.{names-too}
use Rattle.pmt_sources.proofs.under.place_under.Goals as goal

pub returns-in_default : goal.returns-in_default
returns-in_default c = λ file line names. absurd (c.in_default.ensures file line names)

pub returns-then-is_named : goal.returns-then-is_named
returns-then-is_named c = λ file line names.
    let labels = c.args.labels.now in
    let events = c.args.events.now in
    let j = c.loop-earlier.earlier in
    let place = c.in-Some.place in
    let own = c.is_named.ensures.0 c.if-is_named.true in (
      j,
      omega arith,
      names-too labels (get_or events c.args.index 0) (get_or events j 0) file place.file.now line place.line c.in-Some.ensures names own,
    )

pub loop-earlier-preserved : goal.loop-earlier-preserved
loop-earlier-preserved c = λ j below names.
    let labels = c.args.labels.now in
    let place = c.in-Some.place in
    let k = c.loop-earlier.earlier in
    ⊎_elim (λ before. c.loop-earlier.invariant j before names)
    (λ after.
    let same : j ≡ k = omega arith in
    let told = c.is_named.ensures.1 (subst (λ i. Names labels (get_or c.args.events.now i 0) place.file.now place.line) same names) in
    true≢false (sym told ∙ c.if-is_named.false))
    (cases_lt j k)
