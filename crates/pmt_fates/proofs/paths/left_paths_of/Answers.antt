use Rattle.std.proofs.lemmas.Result.{IfOk-weaker}
use Rattle.pmt_fates.proofs.PathLemmas.{found-left, none-left}
use Rattle.pmt_fates.proofs.paths.left_paths_of.Goals as goal

pub returns-then-not-may_differ : goal.returns-then-not-may_differ
returns-then-not-may_differ c = λ told dropped are.
    none-left c.args.trace.now c.args.labels.now c.args.paths.now told dropped c.args.places.now c.new.result.items c.may_differ.result c.may_differ.ensures c.if-not-may_differ.true c.new.ensures.items

pub returns : goal.returns
returns c =
    IfOk-weaker c.left_alone.result _ _
    (λ found is told dropped are.
    found-left c.args.trace.now c.args.labels.now c.args.paths.now told dropped c.args.places.now found.items c.may_differ.result c.may_differ.ensures c.if-not-may_differ.false c.args.rows.now are is)
    c.left_alone.ensures
