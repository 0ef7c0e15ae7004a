use Rattle.std.proofs.Common.{Some, refl}
use Rattle.pmt_model.specs.Machine.{Stores}
use Rattle.pmt_laws.proofs.Histories.{act-within}
use Rattle.pmt_explain.proofs.FailingLemmas.{first-lost, keeps-none}
use Rattle.pmt_explain.proofs.failing.crash_keeping.Goals as goal

pub first_in-requires-clause-within : goal.first_in-requires-clause-within
first_in-requires-clause-within c = (act-within c.args.trace.now c.args.kept.store (Stores c.args.line c.requires.store.0) c.requires.store.1).1

pub returns-in-None : goal.returns-in-None
returns-in-None c =
    keeps-none c.args.trace.now c.args.number c.args.range c.args.kept.store c.args.line c.requires.store.0 c.requires.store.1 (c.in-None.ensures c.args.number c.requires.range)

pub returns-in-Some : goal.returns-in-Some
returns-in-Some c = record {
  line = c.args.line;
  what = c.requires.store.0;
  place = refl;
  kept = refl;
  is_store = c.requires.store.1;
  lost = first-lost c.args.trace.now c.args.number c.args.kept.store c.args.range (Some c.args.line) c.in-Some.lost (c.in-Some.ensures c.args.number c.requires.range);
}
