use Rattle.std.proofs.Common.{ap, subst, ◌∙◌}
use Rattle.pmt_entries.specs.Entries.{AreByWeight, entries_in_turn, AreLosses, verdict}
use Rattle.pmt_entries.specs.Sites.{AreClaimedIf, AreSites}
use Rattle.pmt_entries.proofs.entries.entries_of.Goals as goal

pub returns : goal.returns
returns c =
    let judged = c.args.verdicts.now in
    let in_turn = entries_in_turn c.args.trace.now c.args.failures c.args.frames.now c.args.table.now c.args.hints.now in
    let sites = c.in_ok-sites.sites.items in
    let contrasts = c.in_ok-contrasts.contrasts.items in
    record {
      claimed = c.in_ok-claimed.claimed.items;
      are_claimed = subst (λ rows. AreClaimedIf c.args.trace.now rows c.in_ok-claimed.claimed.items) c.as_slice.ensures.value c.in_ok-claimed.ensures;
      sites = subst (λ claimed. AreSites c.args.trace.now c.args.frames.now c.args.table.now c.args.hints.now c.args.told.now c.args.waited.now claimed sites) c.as_slice-2.ensures.value c.in_ok-sites.ensures;
      losses = subst (λ sites. AreLosses sites c.in_ok-losses.losses.items) c.as_slice-3.ensures.value c.in_ok-losses.ensures;
      contrasts = c.in_ok-contrasts.ensures;
      entries = subst (λ given. AreByWeight given c.sort.new.entries.items)
          (c.in_ok-entries.ensures ∙ ap (λ contrasts. in_turn contrasts c.as_slice-5.result.now c.as_slice-6.result.now) c.as_slice-4.ensures.value
          ∙ ap (λ sites. in_turn contrasts sites c.as_slice-6.result.now) c.as_slice-5.ensures.value ∙ ap (in_turn contrasts sites) c.as_slice-6.ensures.value) c.in_ok-sort.ensures;
      verdict = c.verdict_of-verdict.ensures ∙ ap (λ places. verdict places judged c.as_slice-8.result.now) c.as_slice-7.ensures.value
          ∙ ap (verdict c.args.table.now.places.items judged) c.as_slice-8.ensures.value;
    }
