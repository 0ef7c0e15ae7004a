-- What was read is the front of the reader's bytes.
use Rattle.std.proofs.Common.{◌≡◌, ◌∙◌, refl, arith}
use Rattle.std.proofs.KnownBytes.{Consumes-nil}
use Rattle.pmt_text.specs.Coming.{byte_limit}
use Rattle.pmt_text.specs.Lines.{unread}
use Rattle.pmt_text.proofs.InputLemmas.{reads-kept, reads-more, read-ended, read-over}
use Rattle.pmt_text.proofs.script_input.read_text.Goals as goal

pub returns-in-Ok-eq0-clause-text : goal.returns-in-Ok-eq0-clause-text
returns-in-Ok-eq0-clause-text g c =
    let h = c.in-Ok-eq0.ensures in
    let none : c.in-Ok-eq0.field-0 ≡ 0 = c.in-Ok-eq0.field-0-test in
    read-ended byte_limit _ _ _ _ (unread c.refill.new.self) c.loop-room.invariant.taken h.bytes (h.len ∙ none) (h.end none) (omega (arith, c.loop-room.invariant.room))

pub returns-then-is_err-clause-within : goal.returns-then-is_err-clause-within
returns-then-is_err-clause-within g c =
    let h = c.in-Ok.ensures in
    reads-more _ _ _ _ _ (unread c.refill.new.self) (omega (arith, c.loop-room.invariant.room, h.len, h.most)) c.loop-room.invariant.taken h.bytes

pub returns-in-Ok-eq0-refill-clause-text : goal.returns-in-Ok-eq0-refill-clause-text
returns-in-Ok-eq0-refill-clause-text g c =
    let h = c.in-Ok-eq0-refill.ensures in
    let none : c.in-Ok-eq0-refill.field-0 ≡ 0 = c.in-Ok-eq0-refill.field-0-test in
    read-ended byte_limit _ _ _ _ (unread c.refill-2.new.self) c.loop-room.invariant.taken h.bytes (h.len ∙ none) (h.end none) (omega (arith, c.loop-room.invariant.room))

pub returns-in-Ok-refill-clause-text : goal.returns-in-Ok-refill-clause-text
returns-in-Ok-refill-clause-text g c =
    let h = c.in-Ok-refill.ensures in
    read-over byte_limit _ _ _ _ (unread c.refill-2.new.self) c.loop-room.invariant.taken h.bytes (omega (arith, h.len, c.in-Ok-refill.field-0-test)) (omega (arith, c.loop-room.invariant.room, c.loop-room-test.false))

pub returns-in-Ok-refill-clause-within : goal.returns-in-Ok-refill-clause-within
returns-in-Ok-refill-clause-within g c =
    let h = c.in-Ok-refill.ensures in
    reads-more _ _ _ _ _ (unread c.refill-2.new.self) (omega (arith, c.loop-room.invariant.room, h.len, h.most)) c.loop-room.invariant.taken h.bytes

pub loop-room-init : goal.loop-room-init
loop-room-init g c = record { room = rw c.requires.none refl; taken = rw c.requires.none (Consumes-nil _); counted = refl }

pub refill-requires-clause-counted : goal.refill-requires-clause-counted
refill-requires-clause-counted g c = omega (arith, c.requires.counted, c.loop-room.invariant.counted)

pub refill-requires-clause-some : goal.refill-requires-clause-some
refill-requires-clause-some g c = c.loop-room-test.true

pub returns-in-Ok-eq0-clause-within : goal.returns-in-Ok-eq0-clause-within
returns-in-Ok-eq0-clause-within g c =
    let h = c.in-Ok-eq0.ensures in
    reads-more _ _ _ _ _ (unread c.refill.new.self) (omega (arith, c.loop-room.invariant.room, h.len, h.most)) c.loop-room.invariant.taken h.bytes

pub returns-in-Ok-eq0-clause-failures : goal.returns-in-Ok-eq0-clause-failures
returns-in-Ok-eq0-clause-failures g c = omega (arith, c.in-Ok-eq0.ensures.failures, c.loop-room.invariant.counted)

pub overflow_sub-room : goal.overflow_sub-room
overflow_sub-room g c = c.in-Ok.ensures.most

pub returns-in-Err-clause-within : goal.returns-in-Err-clause-within
returns-in-Err-clause-within g c = reads-kept _ _ _ _ _ (omega (arith, c.loop-room.invariant.room)) c.loop-room.invariant.taken c.in-Err.ensures.kept

pub returns-in-Err-clause-failures : goal.returns-in-Err-clause-failures
returns-in-Err-clause-failures g c = omega (arith, c.in-Err.ensures.failures, c.loop-room.invariant.counted)

pub returns-then-is_err-clause-failures : goal.returns-then-is_err-clause-failures
returns-then-is_err-clause-failures g c = omega (arith, c.in-Ok.ensures.failures, c.loop-room.invariant.counted)

pub loop-room-smaller : goal.loop-room-smaller
loop-room-smaller g c = omega (arith, c.in-Ok.count-test, c.in-Ok.ensures.most, c.loop-room-test.true)

pub refill-requires-2-clause-counted : goal.refill-requires-2-clause-counted
refill-requires-2-clause-counted g c = omega (arith, c.requires.counted, c.loop-room.invariant.counted)

pub returns-in-Ok-eq0-refill-clause-within : goal.returns-in-Ok-eq0-refill-clause-within
returns-in-Ok-eq0-refill-clause-within g c =
    let h = c.in-Ok-eq0-refill.ensures in
    reads-more _ _ _ _ _ (unread c.refill-2.new.self) (omega (arith, c.loop-room.invariant.room, h.len, h.most)) c.loop-room.invariant.taken h.bytes

pub returns-in-Ok-eq0-refill-clause-failures : goal.returns-in-Ok-eq0-refill-clause-failures
returns-in-Ok-eq0-refill-clause-failures g c = omega (arith, c.in-Ok-eq0-refill.ensures.failures, c.loop-room.invariant.counted)

pub returns-in-Ok-refill-clause-failures : goal.returns-in-Ok-refill-clause-failures
returns-in-Ok-refill-clause-failures g c = omega (arith, c.in-Ok-refill.ensures.failures, c.loop-room.invariant.counted)

pub returns-in-Err-refill-clause-within : goal.returns-in-Err-refill-clause-within
returns-in-Err-refill-clause-within g c = reads-kept _ _ _ _ _ (omega (arith, c.loop-room.invariant.room)) c.loop-room.invariant.taken c.in-Err-refill.ensures.kept

pub returns-in-Err-refill-clause-failures : goal.returns-in-Err-refill-clause-failures
returns-in-Err-refill-clause-failures g c = omega (arith, c.in-Err-refill.ensures.failures, c.loop-room.invariant.counted)
