use Rattle.std.proofs.Common.{◌<◌}
use Rattle.pmt_lines.specs.Jobs.{last_number}
use Rattle.pmt_lines.proofs.StepLemmas.{are_steps-push}
use Rattle.pmt_lines.proofs.thread_job.ThreadJob.push.Goals as goal

pub invariant_of-self-2 : goal.invariant_of-self-2
invariant_of-self-2 c =
    let later : last_number 0 c.self.inside.steps.items < c.args.step.now.number = rw (← c.self.view_is) at c.requires.later in
    rw c.in_ok-push.ensures.items (are_steps-push 0 c.self.inside.steps.items c.args.step.now c.self.invariant later c.requires.within c.requires.kind)
