use Rattle.std.proofs.Common.{◌≡◌, length, take, drop, ◌++◌, refl, sym, ◌∙◌, ap, subst}
use Rattle.std.proofs.lemmas.Bool.{false≢true}
use Rattle.pmt_model.specs.Traces.{Recording}
use Rattle.pmt_recorder.specs.Strips.{IsOneOfEach, total_length, IsSealed, SealFails, IsHandedBack}
use Rattle.pmt_recorder.specs.declared.fault.SealKind.TheVariants.{Torn}
use Rattle.pmt_recorder.proofs.SealLemmas.{sealed, torn_at, each_after, not_each, few_tapes, parts_after, written_back}
use Rattle.pmt_recorder.proofs.shelf.Shelf.seal.Goals as goal

pub returns-in-None-clause-ok : goal.returns-in-None-clause-ok
returns-in-None-clause-ok g c =
    let n = g.L.Roll.tapes in
    let strips = c.args.tapes.items in
    let T = c.audit.new.self in
    let back : c.as_slice-2.result.now ≡ strips =
    written_back strips c.audit.new.tapes c.as_slice-2.result.now c.args.tapes.len c.as_slice-2.ensures.value
    (c.audit.ensures.tapes ∙ c.as_mut_slice.ensures.value) (ap length (sym c.as_mut_slice.ensures.value) ∙ c.as_mut_slice.ensures.len) in
    let before : c.as_slice.result.now ≡ strips =
    written_back strips c.audit.new.tapes c.as_slice.result.now c.args.tapes.len c.as_slice.ensures.value
    (c.audit.ensures.tapes ∙ c.as_mut_slice.ensures.value) (ap length (sym c.as_mut_slice.ensures.value) ∙ c.as_mut_slice.ensures.len) in
    let given : IsOneOfEach n strips = each_after n c.args.count strips c.as_slice.result.now c.requires before (c.if-not-is_one_of_each.ensures.0 refl) in
    let P : Recording → Type 0 = λ R. IsSealed n g.L.Roll.format strips R in
    subst P (sym (c.into_trace.ensures ∙ c.into_book-in-None.ensures))
    (sealed n g.L.Roll.format strips T c.events.ensures.format given c.events.ensures.whose
    (parts_after n strips c.as_slice-2.result.now T c.events.result.now back c.events.ensures.value given.count c.in-None.ensures.none))

pub returns-clause-err : goal.returns-clause-err
returns-clause-err g c =
    let n = g.L.Roll.tapes in
    let strips = c.args.tapes.items in
    let T = c.audit.new.self in
    let back : c.as_slice-2.result.now ≡ strips =
    written_back strips c.audit.new.tapes c.as_slice-2.result.now c.args.tapes.len c.as_slice-2.ensures.value
    (c.audit.ensures.tapes ∙ c.as_mut_slice.ensures.value) (ap length (sym c.as_mut_slice.ensures.value) ∙ c.as_mut_slice.ensures.len) in
    let before : c.as_slice.result.now ≡ strips =
    written_back strips c.audit.new.tapes c.as_slice.result.now c.args.tapes.len c.as_slice.ensures.value
    (c.audit.ensures.tapes ∙ c.as_mut_slice.ensures.value) (ap length (sym c.as_mut_slice.ensures.value) ∙ c.as_mut_slice.ensures.len) in
    let given : IsOneOfEach n strips = each_after n c.args.count strips c.as_slice.result.now c.requires before (c.if-not-is_one_of_each.ensures.0 refl) in
    let P : Recording → Type 0 = λ R. SealFails n strips (Torn c.in-Some.recorder) R in
    let count : length c.as_mut_slice.result.now ≡ n = ap length c.as_mut_slice.ensures.value ∙ given.count in
    subst P (sym c.into_book-in-Some.ensures)
    (torn_at n strips c.as_slice-2.result.now T c.events.result.now c.in-Some.recorder c.in-Some.ensures.within given back c.events.ensures.value
    (ap total_length (sym c.as_mut_slice.ensures.value) ∙ c.audit.ensures.book.all count ∙ ap (λ (R : Recording). length R.events) (sym c.audit.ensures.same))
    c.in-Some.ensures.torn c.in-Some.ensures.lowest)

pub returns-clause-book : goal.returns-clause-book
returns-clause-book g c =
    let P : Recording → Type 0 = λ R. IsHandedBack g.L.Roll.tapes g.L.Roll.format c.args.tapes.items R in
    subst P (sym (c.into_book-in-Some.ensures ∙ c.audit.ensures.same))
    (subst (λ tapes. IsHandedBack g.L.Roll.tapes g.L.Roll.format tapes c.args.self) c.as_mut_slice.ensures.value c.audit.ensures.book)

pub lowest_torn-requires-clause-each : goal.lowest_torn-requires-clause-each
lowest_torn-requires-clause-each g c =
    let n = g.L.Roll.tapes in
    let strips = c.args.tapes.items in
    let back : c.as_slice-2.result.now ≡ strips =
    written_back strips c.audit.new.tapes c.as_slice-2.result.now c.args.tapes.len c.as_slice-2.ensures.value
    (c.audit.ensures.tapes ∙ c.as_mut_slice.ensures.value) (ap length (sym c.as_mut_slice.ensures.value) ∙ c.as_mut_slice.ensures.len) in
    let before : c.as_slice.result.now ≡ strips =
    written_back strips c.audit.new.tapes c.as_slice.result.now c.args.tapes.len c.as_slice.ensures.value
    (c.audit.ensures.tapes ∙ c.as_mut_slice.ensures.value) (ap length (sym c.as_mut_slice.ensures.value) ∙ c.as_mut_slice.ensures.len) in
    let given : IsOneOfEach n strips = each_after n c.args.count strips c.as_slice.result.now c.requires before (c.if-not-is_one_of_each.ensures.0 refl) in
    subst (λ tapes. IsOneOfEach (length tapes) tapes) (sym back) (subst (λ m. IsOneOfEach m strips) (sym given.count) given)

pub lowest_torn-requires-clause-few : goal.lowest_torn-requires-clause-few
lowest_torn-requires-clause-few g c =
    let n = g.L.Roll.tapes in
    let strips = c.args.tapes.items in
    let back : c.as_slice-2.result.now ≡ strips =
    written_back strips c.audit.new.tapes c.as_slice-2.result.now c.args.tapes.len c.as_slice-2.ensures.value
    (c.audit.ensures.tapes ∙ c.as_mut_slice.ensures.value) (ap length (sym c.as_mut_slice.ensures.value) ∙ c.as_mut_slice.ensures.len) in
    let before : c.as_slice.result.now ≡ strips =
    written_back strips c.audit.new.tapes c.as_slice.result.now c.args.tapes.len c.as_slice.ensures.value
    (c.audit.ensures.tapes ∙ c.as_mut_slice.ensures.value) (ap length (sym c.as_mut_slice.ensures.value) ∙ c.as_mut_slice.ensures.len) in
    let given : IsOneOfEach n strips = each_after n c.args.count strips c.as_slice.result.now c.requires before (c.if-not-is_one_of_each.ensures.0 refl) in
    few_tapes c.args.rest.share.parts n strips c.as_slice-2.result.now back given.count c.args.rest.left

pub returns-clause-tapes : goal.returns-clause-tapes
returns-clause-tapes g c =
    let strips = c.args.tapes.items in
    written_back strips c.audit.new.tapes (take c.args.tapes.len (c.audit.new.tapes ++ drop (length c.audit.new.tapes) strips)) c.args.tapes.len refl
    (c.audit.ensures.tapes ∙ c.as_mut_slice.ensures.value) (ap length (sym c.as_mut_slice.ensures.value) ∙ c.as_mut_slice.ensures.len)

pub returns-then-not-is_one_of_each-clause-err : goal.returns-then-not-is_one_of_each-clause-err
returns-then-not-is_one_of_each-clause-err g c =
    let strips = c.args.tapes.items in
    let before : c.as_slice.result.now ≡ strips =
    written_back strips c.audit.new.tapes c.as_slice.result.now c.args.tapes.len c.as_slice.ensures.value
    (c.audit.ensures.tapes ∙ c.as_mut_slice.ensures.value) (ap length (sym c.as_mut_slice.ensures.value) ∙ c.as_mut_slice.ensures.len) in
    not_each g.L.Roll.tapes c.args.count strips c.as_slice.result.now c.requires before (λ each. false≢true (c.if-not-is_one_of_each.ensures.1 each))

pub returns-then-not-is_one_of_each-clause-book : goal.returns-then-not-is_one_of_each-clause-book
returns-then-not-is_one_of_each-clause-book g c =
    let P : Recording → Type 0 = λ R. IsHandedBack g.L.Roll.tapes g.L.Roll.format c.args.tapes.items R in
    subst P (sym (c.into_book.ensures ∙ c.audit.ensures.same))
    (subst (λ tapes. IsHandedBack g.L.Roll.tapes g.L.Roll.format tapes c.args.self) c.as_mut_slice.ensures.value c.audit.ensures.book)

pub returns-then-not-is_one_of_each-clause-tapes : goal.returns-then-not-is_one_of_each-clause-tapes
returns-then-not-is_one_of_each-clause-tapes g c =
    let strips = c.args.tapes.items in
    written_back strips c.audit.new.tapes (take c.args.tapes.len (c.audit.new.tapes ++ drop (length c.audit.new.tapes) strips)) c.args.tapes.len refl
    (c.audit.ensures.tapes ∙ c.as_mut_slice.ensures.value) (ap length (sym c.as_mut_slice.ensures.value) ∙ c.as_mut_slice.ensures.len)
