use Rattle.std.proofs.Common.{arith, rules, ◌≡◌, ℕ, None, refl, ap, ◌∙◌, slice_get, string_bytes, unwrap_or, set}
use Rattle.std.proofs.lemmas.Grind.{elements}
use Rattle.pmt_asked.specs.Texts.{all_told, told_at}
use Rattle.pmt_asked.proofs.EventTextsLemmas.{told-at, told-kept, number-set, number-apart, numbers-kept, numbers-set}
use Rattle.pmt_asked.proofs.event_texts.EventTexts.insert.Goals as goal

pub returns-in_err-make_room-clause-err : goal.returns-in_err-make_room-clause-err
returns-in_err-make_room-clause-err c =
    let same : (other : ℕ) → unwrap_or (slice_get (all_told (λ s. string_bytes s) c.self.inside.texts.items c.make_room.new.numbers.items) other) None ≡ unwrap_or (slice_get c.args.self.now other) None =
    λ other. told-kept (λ s. string_bytes s) c.self.inside.texts.items c.self.inside.texts.items c.self.inside.numbers.items c.make_room.new.numbers.items other (c.make_room.ensures.same other) (c.self.invariant other) (λ k w. refl) ∙ ap (λ v. unwrap_or (slice_get v other) None) c.self.view_is in
    search (rules, same)

pub invariant_of-self-in_err-number : goal.invariant_of-self-in_err-number
invariant_of-self-in_err-number c = numbers-kept c.self.inside.texts.items c.number_of.new.texts.items c.self.inside.numbers.items c.make_room.new.numbers.items c.make_room.ensures.same c.self.invariant c.number_of.ensures.more

pub returns-in_err-number-clause-err : goal.returns-in_err-number-clause-err
returns-in_err-number-clause-err c =
    let same : (other : ℕ) → unwrap_or (slice_get (all_told (λ s. string_bytes s) c.number_of.new.texts.items c.make_room.new.numbers.items) other) None ≡ unwrap_or (slice_get c.args.self.now other) None =
    λ other. told-kept (λ s. string_bytes s) c.self.inside.texts.items c.number_of.new.texts.items c.self.inside.numbers.items c.make_room.new.numbers.items other (c.make_room.ensures.same other) (c.self.invariant other) c.number_of.ensures.same ∙ ap (λ v. unwrap_or (slice_get v other) None) c.self.view_is in
    search (rules, same)

pub invariant_of-self-2 : goal.invariant_of-self-2
invariant_of-self-2 c =
    numbers-set c.number_of.new.texts.items c.make_room.new.numbers.items c.args.event c.in_ok-number.number c.in_ok-make_room.ensures.room
    (numbers-kept c.self.inside.texts.items c.number_of.new.texts.items c.self.inside.numbers.items c.make_room.new.numbers.items c.make_room.ensures.same c.self.invariant c.number_of.ensures.more)
    c.in_ok-number.ensures.within

pub returns-clause-ok : goal.returns-clause-ok
returns-clause-ok c =
    told-at (λ s. string_bytes s) c.number_of.new.texts.items (set c.make_room.new.numbers.items c.args.event c.in_ok-number.number) c.args.event
    ∙ ap (λ k. told_at (λ s. string_bytes s) c.number_of.new.texts.items k) (number-set c.make_room.new.numbers.items c.args.event c.in_ok-number.number c.in_ok-make_room.ensures.room)
    ∙ c.in_ok-number.ensures.told

pub returns-clause-others : goal.returns-clause-others
returns-clause-others c = λ other apart.
    told-kept (λ s. string_bytes s) c.self.inside.texts.items c.number_of.new.texts.items c.self.inside.numbers.items (set c.make_room.new.numbers.items c.args.event c.in_ok-number.number) other
    (number-apart c.make_room.new.numbers.items c.args.event other c.in_ok-number.number apart ∙ c.make_room.ensures.same other)
    (c.self.invariant other)
    c.number_of.ensures.same
    ∙ ap (λ v. unwrap_or (slice_get v other) None) c.self.view_is

pub invariant_of-self : goal.invariant_of-self
invariant_of-self c = omega arith

pub returns-in_err-make_room-clause-others : goal.returns-in_err-make_room-clause-others
returns-in_err-make_room-clause-others c = grind (arith, elements)

pub returns-in_err-number-clause-others : goal.returns-in_err-number-clause-others
returns-in_err-number-clause-others c = grind (arith, elements)

pub index_mut-requires : goal.index_mut-requires
index_mut-requires c = grind (arith, elements)
