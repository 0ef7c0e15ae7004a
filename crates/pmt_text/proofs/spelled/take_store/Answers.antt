-- The thread, the address and the bytes stand after the word.
use Rattle.std.proofs.Common.{arith, ◌≡◌, ℕ, ◌*◌, List, [], ◌∷◌, ◌++◌, take, drop, refl, sym, ap, ◌∙◌}
use Rattle.std.proofs.lemmas.Grind.{elements}
use Rattle.std.proofs.lemmas.List.{take_rest}
use Rattle.std.specs.Int.{to_le_bytes, w64}
use Rattle.pmt_text.specs.Spelling.{address, hex_bytes}
use Rattle.pmt_text.proofs.AfterLemmas.{spaced-more, thread-spaced}
use Rattle.pmt_text.proofs.LaneReading.{pairs-first}
use Rattle.pmt_text.proofs.spelled.take_store.Goals as goal

pub returns-clause-spelled : goal.returns-clause-spelled
returns-clause-spelled c =
    let rest : List ℕ = c.in_ok-text-2.text.now in
    let a = c.in_ok-addr.addr in
    let text : List ℕ = c.in_ok-text.text.now in
    let len : ℕ = c.in_ok-number.len in
    let bytes : List ℕ = to_le_bytes w64 c.in_ok-number.number in
    let told = c.in_ok-number.ensures in
    let hex : List ℕ = hex_bytes (take len bytes) in
    let ended : drop (2 * len) text ≡ 10 ∷ rest = sym (take_rest text (2 * len)) ∙ c.in_ok-text-2.ensures in
    let read : text ≡ hex ++ 10 ∷ rest = pairs-first text bytes len told.digits told.bytes ∙ ap (λ (xs : List ℕ). hex ++ xs) ended in
    let last = c.in_ok-text.ensures ∙ ap (λ (xs : List ℕ). 32 ∷ xs) read ∙ spaced-more hex [] (10 ∷ rest) (10 ∷ rest) refl in
    let both = c.in_ok-take_space.ensures ∙ ap (λ (xs : List ℕ). 32 ∷ xs) c.in_ok-addr.ensures ∙ spaced-more (address a) (hex ∷ []) c.in_ok-addr.text.now (10 ∷ rest) last in
    thread-spaced c.in_ok-thread.thread (address a ∷ hex ∷ []) c.args.text.now c.in_ok-thread.text.now rest c.in_ok-thread.ensures both

pub returns-clause-few : goal.returns-clause-few
returns-clause-few c = grind (arith, elements)
