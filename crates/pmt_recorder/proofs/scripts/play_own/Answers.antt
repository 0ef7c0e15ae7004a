use Rattle.std.proofs.Common.{ℕ, ◌∙◌, ap, sym, get_or, Some}
use Rattle.pmt_recorder.proofs.AppendLemmas.{script_at}
use Rattle.pmt_recorder.proofs.scripts.play_own.Goals as goal

pub returns : goal.returns
returns g c =
    let x = c.index-scripts-thread.result in (
      c.as_slice.result.now,
      script_at (λ script. script.items) c.args.scripts.now c.args.tape.thread x c.requires.0 (c.index-scripts-thread.is ∙ ap (λ (k : ℕ). get_or c.args.scripts.now k x) c.thread.ensures.value)
          ∙ ap Some (sym c.as_slice.ensures.value),
      c.play.ensures,
    )
