use Rattle.std.proofs.Common.{ℕ, List, ◌++◌, ◌∷◌, [], length, ap, ◌∙◌, arith}
use Rattle.pmt_trimming.specs.LineQueues.{Queued, cut_by}
use Rattle.pmt_trimming.proofs.QueueLemmas.{queue-more, queue-with, still-queue, text-kept}
use Rattle.pmt_trimming.proofs.line_queue.LineQueue.push.Goals as goal

pub invariant_of-self : goal.invariant_of-self
invariant_of-self c = rw c.reserve.ensures.items (still-queue c.self.inside.lengths.items _ _ _ _ _ c.self.invariant c.give_up_room.ensures.rest c.give_up_room.ensures.before c.give_up_room.ensures.within)

pub invariant_of-self-in_err-extend_from_slice : goal.invariant_of-self-in_err-extend_from_slice
invariant_of-self-in_err-extend_from_slice c =
    rw (c.in_ok-reserve.ensures.items, c.in_err-extend_from_slice.ensures.items)
    (still-queue c.self.inside.lengths.items _ _ _ _ _ c.self.invariant c.give_up_room.ensures.rest c.give_up_room.ensures.before c.give_up_room.ensures.within)

pub invariant_of-self-2 : goal.invariant_of-self-2
invariant_of-self-2 c =
    let queue = still-queue c.self.inside.lengths.items _ _ _ _ _ c.self.invariant c.give_up_room.ensures.rest c.give_up_room.ensures.before c.give_up_room.ensures.within in
    queue-with c.self.inside.lengths.items _ _ _ _ _ c.args.line.now queue (c.push_back_reserved.ensures.items ∙ ap (λ (ns : List ℕ). ns ++ length c.args.line.now ∷ []) c.in_ok-reserve.ensures.items)
    c.in_ok-extend_from_slice.ensures.items

pub returns-clause-lines : goal.returns-clause-lines
returns-clause-lines c =
    let old = c.self.inside in
    let more = c.push_back_reserved.ensures.items ∙ ap (λ (ns : List ℕ). ns ++ length c.args.line.now ∷ []) c.in_ok-reserve.ensures.items in
    let queue = still-queue old.lengths.items old.end old.start _ _ _ c.self.invariant c.give_up_room.ensures.rest c.give_up_room.ensures.before c.give_up_room.ensures.within in
    queue-more old.lengths.items _ c.give_up_room.new.start _ c.give_up_room.new.bytes.items _ c.args.line.now queue.cut (omega arith) more c.in_ok-extend_from_slice.ensures.items
    ∙ ap (λ (bytes : List ℕ). cut_by old.lengths.items bytes ++ c.args.line.now ∷ []) c.give_up_room.ensures.rest
    ∙ ap (λ (q : Queued). q.lines ++ c.args.line.now ∷ []) c.self.view_is

pub returns-clause-text : goal.returns-clause-text
returns-clause-text c =
    let old = c.self.inside in
    let queue = still-queue old.lengths.items old.end old.start _ _ _ c.self.invariant c.give_up_room.ensures.rest c.give_up_room.ensures.before c.give_up_room.ensures.within in
    text-kept old.lengths.items old.end _ c.give_up_room.new.bytes.items _ c.args.line.now queue c.in_ok-extend_from_slice.ensures.items ∙ c.give_up_room.ensures.text ∙ ap (λ (q : Queued). q.text) c.self.view_is
