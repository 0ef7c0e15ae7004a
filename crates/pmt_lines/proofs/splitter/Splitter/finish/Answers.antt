use Rattle.pmt_lines.proofs.FenceActLemmas.{split-end}
use Rattle.pmt_lines.proofs.splitter.Splitter.finish.Goals as goal

pub returns-clause-apart : goal.returns-clause-apart
returns-clause-apart c =
    let s = c.args.self in
    split-end c.args.trace s.lines.keys s.jobs.items s.open_flushes s.fences c.requires.so_far
