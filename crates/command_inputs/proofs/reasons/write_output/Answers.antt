use Rattle.std.proofs.Common.{ℕ, take, rules}
use Rattle.std.specs.Io.KnownBytes.{Appends}
use Rattle.pmt_text.specs.Counting.{inner_device}
use Rattle.command_inputs.specs.Devices.{named_contents, recalled_device}
use Rattle.command_inputs.proofs.NamedLemmas.{appends-back}
use Rattle.command_inputs.proofs.reasons.write_output.Goals as goal

pub returns-in-Ok : goal.returns-in-Ok
returns-in-Ok g c =
    let held = g.W.Write.contents in
    let lent = (recalled_device (inner_device c.counted-writer.result)).ghost_name in
    let now = c.uncounted-out.result.0 in
    let old = c.args.out.now in
    let written : Appends (named_contents lent (held old)) (named_contents now.ghost_name (held now.now)) c.args.answer.now = search rules in
    appends-back lent now.ghost_name (held old) (held now.now) _ c.args.answer.now (search rules) written

pub returns : goal.returns
returns g c =
    let held = g.W.Write.contents in
    let lent = (recalled_device (inner_device c.counted-writer.result)).ghost_name in
    let now = c.uncounted-out.result.0 in
    let old = c.args.out.now in
    let written : (n : ℕ) × Appends (named_contents lent (held old)) (named_contents now.ghost_name (held now.now)) (take n c.args.answer.now) = search rules in
    (written.0, appends-back lent now.ghost_name (held old) (held now.now) _ (take written.0 c.args.answer.now) (search rules) written.1)
