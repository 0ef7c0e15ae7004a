use Rattle.std.proofs.Common.{◌≡◌, ◌+◌, ◌<◌, ◌≤◌, ◌++◌, ◌∷◌, [], length, get_or, set, take, ap, ◌∙◌, arith}
use Rattle.std.proofs.lemmas.List.{take_more, set-get_or}
use Rattle.pmt_lines.specs.Jobs.{LineWork, last_number, with_step}
use Rattle.pmt_lines.proofs.PlaceLemmas.{ends-more, ends-same}
use Rattle.pmt_lines.proofs.splitter.end_intervals.Goals as goal
use Rattle.pmt_lines.proofs.splitter.end_intervals.Goals.{then-last_number-fence+in_ok-push, else-last_number-fence}

pub loop-place-preserved : goal.loop-place-preserved
loop-place-preserved c =
    let places = c.args.places.now in
    let i = c.loop-place.place-index in
    let place = get_or places i 0 in
    let old = c.args.jobs.now.items in
    let mid = c.loop-place.jobs.items in
    let job = c.index_mut-job.result.now in
    let read = c.index_mut-job.ensures.value in
    let within : place < length old = omega (arith, c.requires.placed i 0 c.loop-place-test.true, c.args.jobs.now.ok.0) in
    let more : take (i + 1) places ≡ take i places ++ place ∷ [] = take_more places i 0 c.loop-place-test.true in
    rw more (elim c.if-last_number-fence.branch [
      | then-last_number-fence+in_ok-push w ↦
          let told : c.if-last_number-fence.jobs.items ≡ set mid place (with_step (get_or mid place job) c.args.fence.now) = rw w.jobs-is (ap (set mid place) (w.in_ok-push.ensures.ok ∙ ap (λ j. with_step j c.args.fence.now) read)) in
          let lacks : last_number 0 (get_or mid place job).steps < c.args.fence.now.number = omega (arith, w.if-last_number-fence.true, c.last_number.ensures, ap (λ (j : LineWork). last_number 0 j.steps) read) in
          rw told (ends-more (take i places) c.args.fence.now old mid place job c.loop-place.invariant within c.requires.later lacks)
      | else-last_number-fence w ↦
          let told : c.if-last_number-fence.jobs.items ≡ mid = rw w.jobs-is (ap (set mid place) read ∙ set-get_or mid place job) in
          let has : c.args.fence.now.number ≤ last_number 0 (get_or mid place job).steps = omega (arith, w.if-last_number-fence.false, c.last_number.ensures, ap (λ (j : LineWork). last_number 0 j.steps) read) in
          rw told (ends-same (take i places) c.args.fence.now old mid place job c.loop-place.invariant within c.requires.later has)
    ])
