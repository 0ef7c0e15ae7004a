use Rattle.std.proofs.Common.{◌≡◌, ◌-◌, ◌<◌, ◌≤◌, inr, ◌++◌, length, refl, ap, ◌∙◌, arith}
use Rattle.std.proofs.lemmas.Grind.{common_steps, elements}
use Rattle.std.specs.Prelude.{replicate}
use Rattle.std.specs.Vec.{vec_len}
use Rattle.std.proofs.lemmas.List.{take_all, length-map}
use Rattle.pmt_tables.specs.Lasts.{last_at, all_bytes, bytes_of}
use Rattle.pmt_tables.proofs.WordLemmas.{added-none}
use Rattle.pmt_tables.proofs.words.Words.add_many.Goals as goal

pub returns-clause-none : goal.returns-clause-none
returns-clause-none c = λ i k from to small.
    let words = c.self.inside.words.items in
    let tables = c.self.inside.tables.items in
    let many = c.in-Some.count - vec_len c.self.inside.words in
    let fewer : length words ≤ c.in-Some.count = omega (arith, c.in-Some.ensures) in
    let all : c.resize.new.self.items ≡ words ++ replicate many 128 = c.in_ok-resize.ensures.items ∙ ap (λ xs. xs ++ replicate many 128) (take_all c.in-Some.count words fewer) in
    let here : length words ≤ i = omega (arith, from, ap length c.self.view_is, length-map words (bytes_of tables)) in
    let there : i < length (words ++ replicate many 128) = omega (arith, to, length-map c.resize.new.self.items (bytes_of tables), ap length all) in
    ap (λ ws. last_at (all_bytes ws tables) i k) all ∙ added-none words tables c.self.invariant many 128 (omega arith) (record { some = inr refl; eight = omega arith }) refl i k here there small

pub invariant_of-self : goal.invariant_of-self
invariant_of-self c = grind arith

pub invariant_of-self-2 : goal.invariant_of-self-2
invariant_of-self-2 c = grind arith

pub returns-clause-many : goal.returns-clause-many
returns-clause-many c = grind (arith, elements)

pub returns-clause-others : goal.returns-clause-others
returns-clause-others c = grind (arith, common_steps)
