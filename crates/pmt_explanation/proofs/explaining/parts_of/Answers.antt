use Rattle.std.proofs.Common.{rules, subst}
use Rattle.pmt_explanation.specs.Explaining.{AreFound}
use Rattle.pmt_explanation.proofs.explaining.parts_of.Goals as goal

pub returns : goal.returns
returns g c =
    let a = c.args.analysis.now in
    record {
      label_numbers = search rules;
      frames = search rules;
      found = subst (λ ns. AreFound a c.args.labels.now ns c.in_ok-frames.frames.items c.args.options.now c.in_ok-found.found) c.as_slice-numbers.ensures.value
          (subst (λ fs. AreFound a c.args.labels.now c.as_slice-numbers.result.now fs c.args.options.now c.in_ok-found.found) c.as_slice.ensures.value c.in_ok-found.ensures);
    }
