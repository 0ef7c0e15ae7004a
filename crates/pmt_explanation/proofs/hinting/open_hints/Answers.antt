use Rattle.std.proofs.Common.{rules, ◌≡◌, ◌++◌, subst}
use Rattle.pmt_entries.specs.Prelude.{OpenAtStore, AreHintsOf, ArePathHintsOf}
use Rattle.pmt_explanation.proofs.hinting.open_hints.Goals as goal

pub returns : goal.returns
returns c =
    let T = c.args.trace.now in
    let frames = c.args.frames.now in
    let paths = c.args.paths.now in
    let placed = c.in_ok-hints.hints.items in
    let more = c.in_ok-more.more.items in
    let whole : c.extend_from_slice.new.self.items ≡ c.in_ok-hints.hints.items ++ c.in_ok-more.more.items = search rules in
    record {
      of_places = placed;
      of_paths = more;
      numbers = c.in_ok-partly.partly;
      are_placed = record {
        numbers = c.in_ok-unfenced.unfenced;
        those = c.in_ok-unfenced.ensures;
        told = subst (λ ns. AreHintsOf T frames OpenAtStore ns placed) c.numbers.ensures.value c.in_ok-hints.ensures;
      };
      those = c.in_ok-partly.ensures;
      told = subst (λ ns. ArePathHintsOf T frames paths OpenAtStore ns more) c.numbers-2.ensures.value c.in_ok-more.ensures;
      whole = whole;
    }
