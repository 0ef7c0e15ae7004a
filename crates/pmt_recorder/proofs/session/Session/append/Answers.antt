use Rattle.pmt_recorder.proofs.AppendLemmas.{records-from_appends}
use Rattle.pmt_recorder.proofs.session.Session.append.Goals as goal

pub returns : goal.returns
returns g c = records-from_appends g.L.Roll.format c.deref_mut.result.now c.args.tape.now c.args.op c.append.result c.append.new.self c.append.new.tape c.append.ensures.format c.append.ensures.appends
