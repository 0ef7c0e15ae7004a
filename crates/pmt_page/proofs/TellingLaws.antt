-- The columns tell the events.
use Rattle.pmt_page.proofs.Prelude.{◌≡◌, ℕ, ◌/◌, ◌%◌, List, [], ◌∷◌, ◌++◌, true, drop, codes, refl, sym, ap, ap₂, ◌∙◌, arith, AllByRecursion, flat_map, nat_tests, flat_map-append, Event, Op, Store, Verdict, IsEvent, IsOp, glyph, hex_pair, hex_bytes, Thread, Address, Length, SecondAddress, SecondLength, op_letter, op_column, numbers_of, stored_bytes, number_column, value_column, found_columns, columns_with, ColumnsTellEvents}
use Rattle.pmt_text.specs.Judging.{paired}
use Rattle.pmt_text.proofs.FieldLemmas.{AreSmall, paired-hex_bytes}
use Rattle.pmt_page.specs.declared.events.NumberColumn.{NumberColumn}
use Rattle.pmt_explain.specs.declared.dropped_event.Dropped.{Dropped}
use Rattle.pmt_page.specs.declared.known.SafePlace.{SafePlace}
use Rattle.pmt_page.proofs.SplittingLemmas.{Lacks, lacks-flat_map, strip, next, split, parts-append}
use Rattle.pmt_page.proofs.StepLemmas.{steps-lack, steps-same}
use Rattle.pmt_page.proofs.ReadingBack.{read_back, read-events}

-- ---- No column has a quote

letter-plain : (op : Op) → ¬ (op_letter op ≡ 34)
letter-plain (Store w) e = omega arith
letter-plain op e = omega arith

ops-lack : (es : List Event) → Lacks 34 (op_column es)
ops-lack [] = tt
ops-lack (e ∷ es) = (letter-plain e.op, ops-lack es)

glyph-plain : (d : ℕ) → ¬ (glyph d ≡ 34)
glyph-plain d e = grind (arith, nat_tests)

bytes-lack : (bytes : List ℕ) → Lacks 34 (hex_bytes bytes)
unfolding hex_bytes
bytes-lack bytes = lacks-flat_map 34 hex_pair (λ b. (glyph-plain (b / 16 % 16), (glyph-plain (b % 16), tt))) bytes

values-lack : (es : List Event) → Lacks 34 (value_column true es)
values-lack es = lacks-flat_map 34 (λ (e : Event). hex_bytes (stored_bytes e.op)) (λ e. bytes-lack (stored_bytes e.op)) es

-- ---- The bytes of the stores

hex-append : (xs ys : List ℕ) → hex_bytes (xs ++ ys) ≡ hex_bytes xs ++ hex_bytes ys
unfolding hex_bytes
hex-append xs ys = flat_map-append hex_pair xs ys

values-are_hex : (es : List Event) → value_column true es ≡ hex_bytes (flat_map (λ (e : Event). stored_bytes e.op) es)
unfolding hex_bytes
values-are_hex [] = refl
values-are_hex (e ∷ es) =
    ap (λ (rest : List ℕ). hex_bytes (stored_bytes e.op) ++ rest) (values-are_hex es)
    ∙ sym (hex-append (stored_bytes e.op) (flat_map (λ (d : Event). stored_bytes d.op) es))

op-small : (op : Op) → IsOp op → AreSmall (stored_bytes op)
op-small (Store w) is = is.each
op-small op is = tt

small-append : (xs ys : List ℕ) → AreSmall xs → AreSmall ys → AreSmall (xs ++ ys)
small-append [] ys one two = two
small-append (x ∷ xs) ys one two = (one.0, small-append xs ys one.1 two)

values-small : (es : List Event) → AllByRecursion IsEvent es → AreSmall (flat_map (λ (e : Event). stored_bytes e.op) es)
values-small [] each = tt
values-small (e ∷ es) each =
    small-append (stored_bytes e.op) (flat_map (λ (d : Event). stored_bytes d.op) es) (op-small e.op each.0.op) (values-small es each.1)

values-same : (es fs : List Event) → AllByRecursion IsEvent es → AllByRecursion IsEvent fs → value_column true es ≡ value_column true fs →
    flat_map (λ (e : Event). stored_bytes e.op) es ≡ flat_map (λ (e : Event). stored_bytes e.op) fs
values-same es fs one two same =
    let first : List ℕ = flat_map (λ (e : Event). stored_bytes e.op) es in
    let second : List ℕ = flat_map (λ (e : Event). stored_bytes e.op) fs in
    let texts : hex_bytes first ≡ hex_bytes second = sym (values-are_hex es) ∙ same ∙ values-are_hex fs in
    sym (paired-hex_bytes first (values-small es one)) ∙ ap paired texts ∙ paired-hex_bytes second (values-small fs two)

-- ---- Column by column

-- The columns of the events, and what follows them behind its quote.
abbrev laid : List Event → List ℕ → List ℕ
laid es rest =
    codes "{\"op\":\"" ++ (op_column es
    ++ (34 ∷ (codes ",\"thread\":\"" ++ (number_column true Thread es
    ++ (34 ∷ (codes ",\"address\":\"" ++ (number_column true Address es
    ++ (34 ∷ (codes ",\"length\":\"" ++ (number_column true Length es
    ++ (34 ∷ (codes ",\"address2\":\"" ++ (number_column true SecondAddress es
    ++ (34 ∷ (codes ",\"length2\":\"" ++ (number_column true SecondLength es
    ++ (34 ∷ (codes ",\"value\":\"" ++ (value_column true es
    ++ (34 ∷ rest))))))))))))))))))))

-- What follows them.
abbrev behind : List Event → List SafePlace → List Verdict → List Dropped → List ℕ
behind es safe verdicts dropped = drop 1 (found_columns es safe verdicts dropped)

columns-laid : (es : List Event) (safe : List SafePlace) (verdicts : List Verdict) (dropped : List Dropped) →
    columns_with true true es safe verdicts dropped ≡ laid es (behind es safe verdicts dropped)
unfolding columns_with
columns-laid es safe verdicts dropped =
    parts-append (codes "{\"op\":\"") (op_column es) (codes "\",\"thread\":\"") (number_column true Thread es)
    (codes "\",\"address\":\"") (number_column true Address es) (codes "\",\"length\":\"") (number_column true Length es)
    (codes "\",\"address2\":\"") (number_column true SecondAddress es) (codes "\",\"length2\":\"") (number_column true SecondLength es)
    (codes "\",\"value\":\"") (value_column true es) (found_columns es safe verdicts dropped)

record Same (es fs : List Event) : Type 0 where
  ops : op_column es ≡ op_column fs
  numbers : (column : NumberColumn) → flat_map (numbers_of true column) es ≡ flat_map (numbers_of true column) fs
  values : value_column true es ≡ value_column true fs

laid-same : (es fs : List Event) (r s : List ℕ) → laid es r ≡ laid fs s → Same es fs
laid-same es fs r s e =
    let number : (column : NumberColumn) (es : List Event) → Lacks 34 (number_column true column es) = λ column es. steps-lack 0 (flat_map (numbers_of true column) es) in
    let a = next (codes ",\"thread\":\"") (op_column es) (op_column fs) _ _ (ops-lack es) (ops-lack fs) (strip (codes "{\"op\":\"") _ _ e) in
    let b = next (codes ",\"address\":\"") (number_column true Thread es) (number_column true Thread fs) _ _ (number Thread es) (number Thread fs) a.1 in
    let c = next (codes ",\"length\":\"") (number_column true Address es) (number_column true Address fs) _ _ (number Address es) (number Address fs) b.1 in
    let d = next (codes ",\"address2\":\"") (number_column true Length es) (number_column true Length fs) _ _ (number Length es) (number Length fs) c.1 in
    let f = next (codes ",\"length2\":\"") (number_column true SecondAddress es) (number_column true SecondAddress fs) _ _ (number SecondAddress es) (number SecondAddress fs) d.1 in
    let g = next (codes ",\"value\":\"") (number_column true SecondLength es) (number_column true SecondLength fs) _ _ (number SecondLength es) (number SecondLength fs) f.1 in
    let h = split 34 (value_column true es) (value_column true fs) r s (values-lack es) (values-lack fs) g.1 in
    record { ops = a.0; numbers = all b.0 c.0 d.0 f.0 g.0; values = h.0 }
  where
    all : number_column true Thread es ≡ number_column true Thread fs → number_column true Address es ≡ number_column true Address fs →
        number_column true Length es ≡ number_column true Length fs → number_column true SecondAddress es ≡ number_column true SecondAddress fs →
        number_column true SecondLength es ≡ number_column true SecondLength fs → (column : NumberColumn) → flat_map (numbers_of true column) es ≡ flat_map (numbers_of true column) fs
    all b c d f g Thread = steps-same 0 _ _ b
    all b c d f g Address = steps-same 0 _ _ c
    all b c d f g Length = steps-same 0 _ _ d
    all b c d f g SecondAddress = steps-same 0 _ _ f
    all b c d f g SecondLength = steps-same 0 _ _ g

pub columns_tell_events : ColumnsTellEvents
columns_tell_events es fs safe other_safe verdicts other_verdicts dropped other_dropped one two e =
    let both : laid es (behind es safe verdicts dropped) ≡ laid fs (behind fs other_safe other_verdicts other_dropped) =
    sym (columns-laid es safe verdicts dropped) ∙ e ∙ columns-laid fs other_safe other_verdicts other_dropped in
    let same = laid-same es fs (behind es safe verdicts dropped) (behind fs other_safe other_verdicts other_dropped) both in
    let bytes = values-same es fs one two same.values in
    let threads = same.numbers Thread in
    let addresses = same.numbers Address in
    let lengths = same.numbers Length in
    let seconds = same.numbers SecondAddress in
    let second_lengths = same.numbers SecondLength in
    let read : read_back (op_column es) (flat_map (numbers_of true Thread) es) (flat_map (numbers_of true Address) es) (flat_map (numbers_of true Length) es)
    (flat_map (numbers_of true SecondAddress) es) (flat_map (numbers_of true SecondLength) es) (flat_map (λ (e : Event). stored_bytes e.op) es)
    ≡ read_back (op_column fs) (flat_map (numbers_of true Thread) fs) (flat_map (numbers_of true Address) fs) (flat_map (numbers_of true Length) fs)
    (flat_map (numbers_of true SecondAddress) fs) (flat_map (numbers_of true SecondLength) fs) (flat_map (λ (e : Event). stored_bytes e.op) fs) =
    ap (λ (cs : List ℕ). read_back cs (flat_map (numbers_of true Thread) es) (flat_map (numbers_of true Address) es) (flat_map (numbers_of true Length) es)
    (flat_map (numbers_of true SecondAddress) es) (flat_map (numbers_of true SecondLength) es) (flat_map (λ (e : Event). stored_bytes e.op) es)) same.ops
    ∙ ap₂ (λ (ts xs : List ℕ). read_back (op_column fs) ts xs (flat_map (numbers_of true Length) es)
    (flat_map (numbers_of true SecondAddress) es) (flat_map (numbers_of true SecondLength) es) (flat_map (λ (e : Event). stored_bytes e.op) es)) threads addresses
    ∙ ap₂ (λ (ls bs : List ℕ). read_back (op_column fs) (flat_map (numbers_of true Thread) fs) (flat_map (numbers_of true Address) fs) ls bs
    (flat_map (numbers_of true SecondLength) es) (flat_map (λ (e : Event). stored_bytes e.op) es)) lengths seconds
    ∙ ap₂ (λ (ms bytes : List ℕ). read_back (op_column fs) (flat_map (numbers_of true Thread) fs) (flat_map (numbers_of true Address) fs) (flat_map (numbers_of true Length) fs)
    (flat_map (numbers_of true SecondAddress) fs) ms bytes) second_lengths bytes in
    sym (read-events es) ∙ read ∙ read-events fs
