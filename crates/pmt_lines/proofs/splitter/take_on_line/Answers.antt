use Rattle.std.proofs.Common.{◌≡◌, [], get_or, set, sym, ap, subst, ◌∙◌, arith}
use Rattle.std.proofs.lemmas.Grind.{elements}
use Rattle.std.specs.Prelude.{nat_eq, slice_get}
use Rattle.pmt_laws.specs.Prelude.{IsDistinct, with_line}
use Rattle.std.proofs.lemmas.List.{get_or_default}
use Rattle.pmt_lines.specs.Jobs.{LineWork, last_number, with_step, with_job, TakesOnLine}
use Rattle.pmt_lines.proofs.PlaceLemmas.{takes_on_line, insert_key-with_line, end_before-with_job, has_line-from_new, has_line-from_old, with_job-new, with_job-old}
use Rattle.pmt_lines.proofs.splitter.take_on_line.Goals as goal
use Rattle.pmt_lines.proofs.splitter.take_on_line.Goals.{then-is_new+in_ok-push, else-is_new, After-index_mut}

-- the jobs once the line has one
jobs_then : (c : After-index_mut) → c.if-is_new.jobs.items ≡ with_job c.args.line c.args.lines.now.keys c.args.jobs.now.items
jobs_then c =
    let keys = c.args.lines.now.keys in
    let l = c.args.line in
    elim c.if-is_new.branch [
      | then-is_new+in_ok-push w ↦
          let new = has_line-from_new l keys c.in_ok-place.is_new c.in_ok-place.ensures.added w.if-is_new.true in
          rw (w.jobs-is, w.in_ok-push.ensures.items, w.new.ensures) (sym (with_job-new l keys c.args.jobs.now.items new))
      | else-is_new w ↦
          let old = has_line-from_old l keys c.in_ok-place.is_new c.in_ok-place.ensures.added w.if-is_new.false in
          rw w.jobs-is (sym (with_job-old l keys c.args.jobs.now.items old))
    ]

-- the lines once it is among them
keys_then : (c : After-index_mut) → c.insert_full.new.self.keys ≡ with_line c.args.line c.args.lines.now.keys
keys_then c = c.in_ok-place.ensures.keys ∙ insert_key-with_line c.args.line c.args.lines.now.keys

taken : (c : After-index_mut) → TakesOnLine c.args.line c.args.step.now c.in_ok-place.place c.args.lines.now.keys (with_line c.args.line c.args.lines.now.keys) c.args.jobs.now.items (set (with_job c.args.line c.args.lines.now.keys c.args.jobs.now.items) c.in_ok-place.place (with_step (get_or (with_job c.args.line c.args.lines.now.keys c.args.jobs.now.items) c.in_ok-place.place (record { line = c.args.line; steps = [] })) c.args.step.now))
taken c =
    let stored = c.in_ok-place.ensures.stored in
    let here = ap (λ ks. slice_get ks c.in_ok-place.place) (sym (keys_then c)) ∙ stored.1 in
    takes_on_line c.args.line c.args.step.now c.in_ok-place.place c.args.lines.now.keys c.args.jobs.now.items stored.0 c.requires.same
    (subst (IsDistinct nat_eq) (keys_then c) c.in_ok-place.ensures.unique) here stored.2

-- the job that the step is added to
read_then : (c : After-index_mut) → c.index_mut.result.now ≡ get_or (with_job c.args.line c.args.lines.now.keys c.args.jobs.now.items) c.in_ok-place.place c.index_mut.result.now
read_then c = c.index_mut.ensures.value ∙ ap (λ jobs. get_or jobs c.in_ok-place.place c.index_mut.result.now) (jobs_then c)

pub push-requires-2-clause-later : goal.push-requires-2-clause-later
push-requires-2-clause-later c =
    let before = end_before-with_job c.args.step.now.number c.args.line c.args.lines.now.keys c.args.jobs.now.items c.requires.numbered c.requires.later in
    omega (arith, before c.in_ok-place.place c.index_mut.result.now (taken c).within, ap (λ (j : LineWork). last_number 0 j.steps) (read_then c))

pub returns : goal.returns
returns c =
    let a = (goal.at.returns c).After-index_mut in
    let l = c.args.line in
    let keys = c.args.lines.now.keys in
    let jobs = c.args.jobs.now.items in
    let place = c.in_ok-place.place in
    let blank : LineWork = record { line = l; steps = [] } in
    let job = c.index_mut.result.now in
    let same : job ≡ get_or (with_job l keys jobs) place blank = read_then a ∙ get_or_default (with_job l keys jobs) place job blank (taken a).within in
    let added : set c.if-is_new.jobs.items place c.push-2.new.self ≡ set (with_job l keys jobs) place (with_step (get_or (with_job l keys jobs) place blank) c.args.step.now) =
    ap (λ js. set js place c.push-2.new.self) (jobs_then a) ∙ ap (set (with_job l keys jobs) place) (c.in_ok-push-2.ensures.ok ∙ ap (λ j. with_step j c.args.step.now) same) in
    rw (added, keys_then a) (taken a)

pub index_mut-requires : goal.index_mut-requires
index_mut-requires c = grind (arith, elements)
