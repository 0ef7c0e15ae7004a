use Rattle.std.proofs.Common.{◌≡◌, arith, map, ◌∙◌, sym, IfOk, IfErr}
use Rattle.std.proofs.lemmas.Grind.{elements}
use Rattle.std.proofs.lemmas.List.{length-map}
use Rattle.pmt_model.specs.Values.{first_version}
use Rattle.pmt_recorder.specs.Scripts.{IsRecorded, RecordFails}
use Rattle.pmt_recorder.proofs.RecordLemmas.{told_fits, told-not_count, made-not_told, all_there, recorded_or_torn, torn-not_count}
use Rattle.pmt_recorder.specs.declared.fault.RecordError.TheVariants.{BadCount as BadScripts}
use Rattle.pmt_recorder.specs.declared.fault.StartError.TheVariants.{BadCount}
use Rattle.pmt_recorder.proofs.scripts.record_over.Goals as goal

pub returns-in-Some-clause-err : goal.returns-in-Some-clause-err
returns-in-Some-clause-err g c =
    c.told_fault.ensures.fits first_version
    (told_fits g.L.Roll.format first_version (map (λ script. script.items) c.args.scripts.now) c.in-Ok-play_all.played.items c.as_slice.result.now c.in-Some.fault c.requires.format
    (c.in-Ok-play_all.ensures.len ∙ sym (length-map c.args.scripts.now (λ script. script.items))) c.in-Ok-play_all.ensures.each c.as_slice.ensures.value c.in-Some.ensures)

pub finish-requires : goal.finish-requires
finish-requires g c =
    all_there g.L.Roll.tapes g.L.Roll.format (map (λ script. script.items) c.args.scripts.now) c.in-Ok-play_all.played.items c.in-Ok-tapes_of.tapes.items
    (length-map c.args.scripts.now (λ script. script.items) ∙ c.requires.tapes) (c.in-Ok-play_all.ensures.len ∙ sym (length-map c.args.scripts.now (λ script. script.items)))
    c.in-Ok-play_all.ensures.each c.in-Ok-tapes_of.ensures

pub returns-in-Some-clause-count : goal.returns-in-Some-clause-count
returns-in-Some-clause-count g c =
    (λ is. let bad : c.told_fault.result ≡ BadScripts = cc in absurd (told-not_count c.as_slice.result.now c.in-Some.fault c.in-Some.ensures (c.told_fault.ensures.count bad)), λ bad. absurd (made-not_told c.start.result c.in-Ok.started BadCount c.in-Ok.is c.start.ensures.count bad))

-- what the session's end says, of the scripts
at_end : (g : _) (c : goal.After-finish g) →
    IfOk c.finish.result (IsRecorded first_version (map (λ script. script.items) c.args.scripts.now))
    × IfErr c.finish.result (RecordFails first_version (map (λ script. script.items) c.args.scripts.now))
at_end g c =
    recorded_or_torn g.L.Roll.tapes g.L.Roll.format first_version (map (λ script. script.items) c.args.scripts.now) c.in-Ok-play_all.played.items c.as_slice.result.now
    c.in-Ok-tapes_of.tapes.items c.finish.result (length-map c.args.scripts.now (λ script. script.items) ∙ c.requires.tapes)
    (c.in-Ok-play_all.ensures.len ∙ sym (length-map c.args.scripts.now (λ script. script.items))) c.requires.format c.in-Ok-tapes_of.ensures c.in-Ok-play_all.ensures.each
    c.as_slice.ensures.value c.in_default-lowest_fault.ensures c.finish.ensures.ok c.finish.ensures.torn

pub returns-clause-ok : goal.returns-clause-ok
returns-clause-ok g c = (at_end g c).0

pub returns-clause-err : goal.returns-clause-err
returns-clause-err g c = (at_end g c).1

pub returns-clause-count : goal.returns-clause-count
returns-clause-count g c =
    (λ is. absurd (torn-not_count g.L.Roll.tapes c.in-Ok-tapes_of.tapes.items c.finish.result c.finish.ensures.torn is), λ bad. absurd (made-not_told c.start.result c.in-Ok.started BadCount c.in-Ok.is c.start.ensures.count bad))

pub returns-in-Err-BadCount-clause-err : goal.returns-in-Err-BadCount-clause-err
returns-in-Err-BadCount-clause-err g c = grind (arith, elements)
