use Rattle.std.proofs.Common.{map, ◌∙◌}
use Rattle.std.proofs.lemmas.List.{length-map}
use Rattle.pmtrim.proofs.record.text_of.Goals as goal

pub returns : goal.returns
returns g c =
    let scripts = c.in_ok-scripts.scripts.items in
    record {
      scripts = map (λ script. script.items) scripts;
      trace = c.in_ok-trace.trace;
      many = length-map scripts (λ script. script.items) ∙ c.in_ok-scripts.ensures;
      recorded = c.in_ok-trace.ensures;
      spelled = c.in_ok-write_trace.ensures;
    }
