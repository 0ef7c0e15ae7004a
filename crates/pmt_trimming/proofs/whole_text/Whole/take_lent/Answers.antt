use Rattle.std.proofs.Common.{ℕ, List, ◌++◌, map, length, refl, sym, ap, subst, ◌∙◌}
use Rattle.pmt_text.specs.Spelling.{event_text}
use Rattle.pmt_trimming.specs.Streaming.{HaveLeft}
use Rattle.pmt_trimming.proofs.LengthLemmas.{sum-lengths, cut-lines}
use Rattle.pmt_trimming.proofs.StreamLemmas.{left-next, lines-more}
use Rattle.pmt_trimming.proofs.whole_text.Whole.take_lent.Goals as goal

pub push_all-requires : goal.push_all-requires
push_all-requires c =
    let es = c.args.events.now in
    sum-lengths es _ _ (c.as_slice.ensures.value ∙ c.in_ok-take_measured.ensures.lengths ∙ ap (λ (ns : List ℕ). ns ++ map (λ e. length (event_text e)) es) c.in_ok-lengths.ensures.items) c.requires.lines

pub returns : goal.returns
returns c = λ T is.
    let es = c.args.events.now in
    let took = c.in_ok-take_measured.ensures in
    let cut = cut-lines es _ _ (c.as_slice.ensures.value ∙ took.lengths ∙ ap (λ (ns : List ℕ). ns ++ map (λ e. length (event_text e)) es) c.in_ok-lengths.ensures.items) c.requires.lines in
    record {
      pass = took.follows T is.pass;
      waiting = is.waiting ++ es;
      lines = lines-more is.waiting es _ _ is.lines (c.in_ok-push_all.ensures.lines ∙ ap (λ (ls : List (List ℕ)). c.args.self.now.held.lines ++ ls) cut);
      left = left-next T es _ _ _ is.waiting _ _ took.settled refl is.pass.before is.pass.all (subst (λ (bytes : List ℕ). HaveLeft T c.args.self.now.pass.settled is.waiting bytes) (sym c.in_ok-push_all.ensures.text) is.left);
    }
