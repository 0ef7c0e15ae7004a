use Rattle.std.proofs.Common.{rules}
use Rattle.command_inputs.proofs.NamedLemmas.{kept-first}
use Rattle.command_inputs.proofs.writing.write_whole.Goals as goal

pub returns-in-Err : goal.returns-in-Err
returns-in-Err g c = kept-first _ _ _ _ (search (rules, c.write_all_counted.ensures.ok)) c.in-Err.ensures.bytes
