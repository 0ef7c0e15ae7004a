use Rattle.command_explain.proofs.explain.explain_taken.Goals as goal

pub returns-clause-json : goal.returns-clause-json
returns-clause-json g c no-out is-json = record {
  explanation = c.in_ok-explanation.explanation;
  analysed = c.in_ok-explanation.ensures.analysed;
  of_trace = c.in_ok-explanation.ensures.trace;
  explained = c.in_ok-explanation.ensures.explained;
  limit = c.in_ok-explanation.ensures.limit;
  told = c.in_ok-told.ensures.json no-out is-json;
}
