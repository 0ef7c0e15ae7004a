use Rattle.std.proofs.Common.{length, sym, subst, ◌∙◌}
use Rattle.pmt_sweep.specs.Entries.{AreEndsOf, AreMarked, AreSafePlaces}
use Rattle.pmt_sweep.proofs.MarkedLemmas.{many-rows}
use Rattle.pmt_sweep.proofs.LostLemmas.{refill-all, safe-places}
use Rattle.pmt_sweep.proofs.at_end.Ended.of.Goals as goal

pub mark_lost-before-requires : goal.mark_lost-before-requires
mark_lost-before-requires c =
    let T = c.requires.0 in
    (T, subst (AreEndsOf T (length T.events) c.into_ends-rows.result.rows) (sym c.as_mut_slice.ensures.value) (c.into_ends-rows.ensures T (length T.events) c.requires.1))

pub returns-clause-lines : goal.returns-clause-lines
returns-clause-lines c = λ T known. c.len.ensures ∙ many-rows T c.into_ends-rows.result.rows c.into_ends-rows.result.entries.items (c.into_ends-rows.ensures T (length T.events) known)

pub returns-clause-lost : goal.returns-clause-lost
returns-clause-lost c = λ T known.
    let ends = subst (AreEndsOf T (length T.events) c.into_ends-rows.result.rows) (sym c.as_mut_slice.ensures.value) (c.into_ends-rows.ensures T (length T.events) known) in
    let marked : AreMarked T c.mark_lost-before.new.entries = c.mark_lost-before.ensures.marked T ends in
    let as_long = marked.many ∙ sym (c.into_ends-rows.ensures T (length T.events) known).entries.many in
    let written = c.as_slice.ensures.value ∙ refill-all c.into_ends-rows.result.entries.len c.into_ends-rows.result.entries.items c.mark_lost-before.new.entries c.into_ends-rows.result.entries.ok.0 as_long in
    c.in_ok-lost.ensures T (subst (AreMarked T) (sym written) marked) (c.mark_lost-before.ensures.after T ends)

pub returns-clause-safe : goal.returns-clause-safe
returns-clause-safe c = λ T known.
    let ends = subst (AreEndsOf T (length T.events) c.into_ends-rows.result.rows) (sym c.as_mut_slice.ensures.value) (c.into_ends-rows.ensures T (length T.events) known) in
    let marked : AreMarked T c.mark_lost-before.new.entries = c.mark_lost-before.ensures.marked T ends in
    let as_long = marked.many ∙ sym (c.into_ends-rows.ensures T (length T.events) known).entries.many in
    let written = c.new.ensures ∙ refill-all c.into_ends-rows.result.entries.len c.into_ends-rows.result.entries.items c.mark_lost-before.new.entries c.into_ends-rows.result.entries.ok.0 as_long in
    subst (AreSafePlaces T) (sym written) (safe-places T c.mark_lost-before.new.entries marked)
