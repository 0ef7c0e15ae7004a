use Rattle.std.proofs.Common.{◌≡◌, ◌<◌, length, map, get_or, vec_len, rules, arith, ap, sym, ◌∙◌}
use Rattle.std.proofs.lemmas.List.{length-map}
use Rattle.pmt_recorder.proofs.RecordLemmas.{given-tape, thread-given, length-empty_tapes, plays_at}
use Rattle.pmt_recorder.proofs.scripts.play_all.Goals as goal

pub map_vec-requires-after_bounds : goal.map_vec-requires-after_bounds
map_vec-requires-after_bounds g c = λ κ ok i x h e. given-tape (length c.args.scripts.now) i c.args.tapes.items x c.requires h e

pub returns-clause-each : goal.returns-clause-each
returns-clause-each g c = λ t d h.
    let n = length c.args.scripts.now in
    let within : t < length c.args.tapes.items =
    omega (arith, h, length-map c.args.scripts.now (λ script. script.items), ap length c.requires, length-empty_tapes n) in
    let gives = (c.in_ok-played.ensures.each t d within).1 in
    let thread : gives.job.thread ≡ t = thread-given n t c.args.tapes.items gives.job gives.job c.requires within (gives.job_is gives.job) in
    let says = gives.call.met in
    plays_at g.L.Roll.format (map (λ script. script.items) c.args.scripts.now) t gives.job.thread (get_or c.in_ok-played.played.items t d) thread says

pub returns-clause-len : goal.returns-clause-len
returns-clause-len g c =
    let tapes : length c.args.tapes.items ≡ length c.args.scripts.now = ap length c.requires ∙ length-empty_tapes (length c.args.scripts.now) in
    let before : length c.args.tapes.items ≡ vec_len c.args.tapes = search rules in
    let after : length c.in_ok-played.played.items ≡ vec_len c.in_ok-played.played = search rules in
    after ∙ c.in_ok-played.ensures.len ∙ sym before ∙ tapes
