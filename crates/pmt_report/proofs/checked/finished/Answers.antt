use Rattle.pmt_report.proofs.checked.finished.Goals as goal

pub finish-requires : goal.finish-requires
finish-requires c = (c.requires.0, c.requires.1.swept)

pub returns : goal.returns
returns c T taken = record {
  is_trace = taken.swept.known.trace;
  counted = taken.counted;
  right = record {
    touched = c.in_ok-swept.ensures.lines T taken.swept;
    found = c.in_ok-swept.ensures.findings T taken.swept;
    judged = c.in_ok-swept.ensures.verdicts T taken.swept;
    kept = c.in_ok-swept.ensures.kept T taken.swept;
  };
}
