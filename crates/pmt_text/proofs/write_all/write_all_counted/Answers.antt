use Rattle.std.proofs.Common.{◌∙◌, arith}
use Rattle.std.proofs.lemmas.Grind.{elements}
use Rattle.pmt_text.proofs.WriteLemmas.{Appends-more, within-more, same_count}
use Rattle.pmt_text.proofs.write_all.write_all_counted.Goals as goal

pub loop-written-preserved : goal.loop-written-preserved
loop-written-preserved g c = record {
  within = within-more _ _ _ (omega arith) c.in-Ok.ensures.bound;
  out = Appends-more _ _ _ _ _ _ c.loop-written.invariant.out c.in-Ok.ensures.bytes;
  no_failure = same_count _ _ _ _ c.if-count-gt0.true c.in-Ok.ensures.failures ∙ c.loop-written.invariant.no_failure;
}

pub returns-clause-ok : goal.returns-clause-ok
returns-clause-ok g c = grind (arith, elements)
