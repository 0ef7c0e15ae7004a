-- How the fields of an op, read one by one, meet the op that they spell.
use Rattle.std.proofs.Common.{◌≡◌, ℕ, ◌+◌, ◌^◌, ◌<◌, ◌≤◌, inl, inr, Bool, true, false, cond, ◌&&◌, nat_lt, nat_le, ◌==◌, List, [], ◌∷◌, length, Option, Some, None, is_some, option_map, Result, Ok, Err, refl, sym, ◌∙◌, ap, ap₂, arith, Bor, le-ltb, ltb-true, leb-true}
use Rattle.std.specs.List.{onto_first}
use Rattle.std.proofs.lemmas.Bool.{cond-false, and_left, and_right, and_parts, cases_lt, lt-leb}
use Rattle.std.proofs.lemmas.Bool.Decides.{nat_tests}
use Rattle.pmt_text.specs.Prelude.{Op, Store, OpError, Span, address_of, store_of}
use Rattle.pmt_model.specs.declared.fault.OpError.TheVariants as faults
use Rattle.pmt_text.specs.declared.kind.TextKind.{TextKind}
use Rattle.pmt_text.specs.declared.kind.TextKind.TheVariants.{BadField, OutOfRange, CrossesWord}
use Rattle.pmt_text.specs.declared.word.Word.TheVariants as words
use Rattle.pmt_text.specs.Judging.{◌>>=◌, number_in, address_in, bytes_in, span_in, store_in, flushed_in, fields_of, required, checked, is_address, is_span, is_in_range, is_in_word, op_checked, capped, fields_left, first_number, first_address, first_span, op_of_fields, flushed_of_fields, kind_of, span_checked}

-- ---- What is left

fields_of-nonempty : (line : List ℕ) → fields_of line ≡ [] → ⊥
fields_of-nonempty [] e = cc
fields_of-nonempty (b ∷ bytes) e = go (nat_eq_space b) (fields_of bytes) e
  where
    nat_eq_space : ℕ → Bool
    nat_eq_space x = x == 32

    go : (t : Bool) (parts : List (List ℕ)) → cond t ([] ∷ parts) (onto_first b parts) ≡ [] → ⊥
    go true parts e = cc
    go false [] e = cc
    go false (part ∷ parts) e = cc

pub left-some : (rest : Option (Bor (List ℕ))) → is_some rest ≡ true → fields_left rest ≡ [] → ⊥
left-some None t e = cc
left-some (Some r) t e = fields_of-nonempty r.now e

pub left-none : (rest : Option (Bor (List ℕ))) → is_some rest ≡ false → fields_left rest ≡ []
left-none None t = refl
left-none (Some r) t = cc

-- ---- Capped numbers pass the same checks

flushed-capped : (a : ℕ) → ◌≡◌ {A = Result ℕ TextKind} (checked OutOfRange (is_address a) (Ok a)) (checked OutOfRange (is_address (capped a)) (Ok (capped a)))
flushed-capped a = elim (cases_lt a (2 ^ 48)) [
  | inl l ↦ (let same : capped a ≡ a = omega arith in ap (λ (x : ℕ). checked OutOfRange (is_address x) (Ok x)) (sym same))
  | inr l ↦ (let high : 2 ^ 48 ≤ capped a = omega arith in
      cond-false (is_address a) (Ok a) (Err OutOfRange) (le-ltb a (2 ^ 48) l) ∙ sym (cond-false (is_address (capped a)) (Ok (capped a)) (Err OutOfRange) (le-ltb (capped a) (2 ^ 48) high)))
]

abbrev stored : ℕ → List ℕ → Op
stored a bytes = Store (record { addr = a; bytes = bytes })

abbrev in_word_then : ℕ → List ℕ → Result Op TextKind
in_word_then a bytes = checked CrossesWord (is_in_word (stored a bytes)) (Ok (stored a bytes))

store-capped : (a : ℕ) (bytes : List ℕ) → op_checked (stored a bytes) ≡ op_checked (stored (capped a) bytes)
store-capped a bytes = elim (cases_lt a (2 ^ 48)) [
  | inl l ↦ (let same : capped a ≡ a = omega arith in ap (λ (x : ℕ). op_checked (stored x bytes)) (sym same))
  | inr l ↦ (let high : 2 ^ 48 ≤ capped a = omega arith in
      cond-false (is_in_range (stored a bytes)) (in_word_then a bytes) (Err OutOfRange) (and_left (is_address a) (nat_le (length bytes) 8) (le-ltb a (2 ^ 48) l))
      ∙ sym (cond-false (is_in_range (stored (capped a) bytes)) (in_word_then (capped a) bytes) (Err OutOfRange) (and_left (is_address (capped a)) (nat_le (length bytes) 8) (le-ltb (capped a) (2 ^ 48) high))))
]

abbrev spanning : ℕ → ℕ → Span
spanning a n = record { addr = a; len = n }

span_bounds : (a n : ℕ) → is_span (spanning a n) ≡ true → (a < 2 ^ 48) × (n ≤ 4096)
span_bounds a n t =
    let outer = and_parts (is_address a && nat_le 1 n && nat_le n 4096) (nat_le (a + n) (2 ^ 48)) t in
    let middle = and_parts (is_address a && nat_le 1 n) (nat_le n 4096) outer.0 in
    let inner = and_parts (is_address a) (nat_le 1 n) middle.0 in
    (ltb-true a (2 ^ 48) inner.0, leb-true n 4096 middle.1)

pub span-capped : (a n : ℕ) → span_checked a n ≡ span_checked (capped a) (capped n)
span-capped a n = go (is_span (spanning a n)) (is_span (spanning (capped a) (capped n))) refl refl
  where
    go : (p q : Bool) → is_span (spanning a n) ≡ p → is_span (spanning (capped a) (capped n)) ≡ q → span_checked a n ≡ span_checked (capped a) (capped n)
    go true q t u =
        let bounds = span_bounds a n t in
        let same_addr : capped a ≡ a = omega arith in
        let same_len : capped n ≡ n = omega arith in
        ap₂ (λ (x y : ℕ). span_checked x y) (sym same_addr) (sym same_len)
    go false true t u =
        let bounds = span_bounds (capped a) (capped n) u in
        let same_addr : capped a ≡ a = omega arith in
        let same_len : capped n ≡ n = omega arith in
        ap₂ (λ (x y : ℕ). span_checked x y) (sym same_addr) (sym same_len)
    go false false t u =
        cond-false (is_span (spanning a n)) (Ok (spanning a n)) (Err OutOfRange) t
        ∙ sym (cond-false (is_span (spanning (capped a) (capped n))) (Ok (spanning (capped a) (capped n))) (Err OutOfRange) u)

-- what a reader of one field gives, with the fields that are left
abbrev pub kept : List (List ℕ) → ℕ → ℕ × List (List ℕ)
kept left n = (capped n, left)

-- ---- The flushes

pub flushed-none : (fields : List (List ℕ)) → None ≡ first_address fields → Err BadField ≡ flushed_of_fields fields
unfolding flushed_of_fields flushed_in
flushed-none (field ∷ []) e = go (address_in field) e
  where
    go : (o : Option ℕ) → None ≡ option_map (kept []) o → Err BadField ≡ required BadField o (λ a. checked OutOfRange (is_address a) (Ok a))
    go None e = refl
    go (Some a) e = cc
flushed-none a e = refl

pub flushed-more : (fields left : List (List ℕ)) (a : ℕ) → Some (a, left) ≡ first_address fields → (left ≡ [] → ⊥) → Err BadField ≡ flushed_of_fields fields
unfolding flushed_of_fields flushed_in
flushed-more [] left a e more = cc
flushed-more (field ∷ []) left a e more = go (address_in field) e
  where
    go : (o : Option ℕ) → Some (a, left) ≡ option_map (kept []) o → Err BadField ≡ required BadField o (λ a. checked OutOfRange (is_address a) (Ok a))
    go None e = refl
    go (Some b) e = let same : ◌≡◌ {A = ℕ × List (List ℕ)} (a, left) (capped b, []) = cc in absurd (more (ap (λ p. p.1) same))
flushed-more (field ∷ next ∷ rest) left a e more = refl

pub flushed-last : (fields left : List (List ℕ)) (a : ℕ) → Some (a, left) ≡ first_address fields → left ≡ [] → checked OutOfRange (is_address a) (Ok a) ≡ flushed_of_fields fields
unfolding flushed_of_fields flushed_in
flushed-last [] left a e last = cc
flushed-last (field ∷ []) left a e last = go (address_in field) e
  where
    go : (o : Option ℕ) → Some (a, left) ≡ option_map (kept []) o → checked OutOfRange (is_address a) (Ok a) ≡ required BadField o (λ a. checked OutOfRange (is_address a) (Ok a))
    go None e = cc
    go (Some b) e =
        let same : ◌≡◌ {A = ℕ × List (List ℕ)} (a, left) (capped b, []) = cc in
        ap (λ (x : ℕ). checked OutOfRange (is_address x) (Ok x)) (ap (λ p. p.0) same) ∙ sym (flushed-capped b)
flushed-last (field ∷ next ∷ rest) left a e last = go (address_in field) e
  where
    go : (o : Option ℕ) → Some (a, left) ≡ option_map (kept (next ∷ rest)) o → checked OutOfRange (is_address a) (Ok a) ≡ Err BadField
    go None e = cc
    go (Some b) e =
        let same : ◌≡◌ {A = ℕ × List (List ℕ)} (a, left) (capped b, next ∷ rest) = cc in
        let never : ◌≡◌ {A = List (List ℕ)} [] (next ∷ rest) = sym last ∙ ap (λ p. p.1) same in cc

-- ---- The store

pub store-none : (fields : List (List ℕ)) → None ≡ first_address fields → Err BadField ≡ op_of_fields words.Store fields
unfolding op_of_fields store_in
store-none (field ∷ bytes ∷ []) e = go (address_in field) e
  where
    go : (o : Option ℕ) → None ≡ option_map (kept (bytes ∷ [])) o → Err BadField ≡ required BadField (o >>= λ a. (bytes_in bytes >>= λ bs. Some (stored a bs))) op_checked
    go None e = refl
    go (Some a) e = cc
store-none a e = refl

pub store-alone : (fields left : List (List ℕ)) (a : ℕ) → Some (a, left) ≡ first_address fields → left ≡ [] → Err BadField ≡ op_of_fields words.Store fields
unfolding op_of_fields store_in
store-alone (field ∷ bytes ∷ rest) left a e last = go (address_in field) e
  where
    go : (o : Option ℕ) → Some (a, left) ≡ option_map (kept (bytes ∷ rest)) o → Err BadField ≡ required BadField (store_in (field ∷ bytes ∷ rest)) op_checked
    go None e = cc
    go (Some b) e =
        let same : ◌≡◌ {A = ℕ × List (List ℕ)} (a, left) (capped b, bytes ∷ rest) = cc in
        let never : ◌≡◌ {A = List (List ℕ)} [] (bytes ∷ rest) = sym last ∙ ap (λ p. p.1) same in cc
store-alone b left a e last = refl

pub store-more : (fields left : List (List ℕ)) (a : ℕ) (bytes : List ℕ) (after : List (List ℕ)) → Some (a, left) ≡ first_address fields → left ≡ bytes ∷ after → (after ≡ [] → ⊥) → Err BadField ≡ op_of_fields words.Store fields
unfolding op_of_fields store_in
store-more (field ∷ given ∷ []) left a bytes after e l more = go (address_in field) e
  where
    go : (o : Option ℕ) → Some (a, left) ≡ option_map (kept (given ∷ [])) o → Err BadField ≡ required BadField (o >>= λ a. (bytes_in given >>= λ bs. Some (stored a bs))) op_checked
    go None e = refl
    go (Some b) e =
        let same : ◌≡◌ {A = ℕ × List (List ℕ)} (a, left) (capped b, given ∷ []) = cc in
        let both : ◌≡◌ {A = List (List ℕ)} (bytes ∷ after) (given ∷ []) = sym l ∙ ap (λ p. p.1) same in
        let none : after ≡ [] = cc in absurd (more none)
store-more b left a bytes after e l more = refl

-- what the bytes are, and then the checks
abbrev pub store_checked : ℕ → Option (List ℕ) → Result Op TextKind
store_checked a None = Err BadField
store_checked a (Some bytes) = op_checked (stored a bytes)

pub store-last : (fields left : List (List ℕ)) (a : ℕ) (bytes : List ℕ) (after : List (List ℕ)) → Some (a, left) ≡ first_address fields → left ≡ bytes ∷ after → after ≡ [] → store_checked a (bytes_in bytes) ≡ op_of_fields words.Store fields
unfolding op_of_fields store_in
store-last [] left a bytes after e l last = cc
store-last (field ∷ []) left a bytes after e l last = go (address_in field) e
  where
    go : (o : Option ℕ) → Some (a, left) ≡ option_map (kept []) o → store_checked a (bytes_in bytes) ≡ Err BadField
    go None e = cc
    go (Some b) e =
        let same : ◌≡◌ {A = ℕ × List (List ℕ)} (a, left) (capped b, []) = cc in
        let never : ◌≡◌ {A = List (List ℕ)} (bytes ∷ after) [] = sym l ∙ ap (λ p. p.1) same in cc
store-last (field ∷ given ∷ []) left a bytes after e l last = go (address_in field) e
  where
    go : (o : Option ℕ) → Some (a, left) ≡ option_map (kept (given ∷ [])) o → store_checked a (bytes_in bytes) ≡ required BadField (o >>= λ a. (bytes_in given >>= λ bs. Some (stored a bs))) op_checked
    go None e = cc
    go (Some b) e =
        let same : ◌≡◌ {A = ℕ × List (List ℕ)} (a, left) (capped b, given ∷ []) = cc in
        let both : ◌≡◌ {A = List (List ℕ)} (bytes ∷ after) (given ∷ []) = sym l ∙ ap (λ p. p.1) same in
        let one : bytes ≡ given = cc in
        ap₂ (λ (x : ℕ) (f : List ℕ). store_checked x (bytes_in f)) (ap (λ p. p.0) same) one ∙ checks (bytes_in given)
      where
        checks : (o : Option (List ℕ)) → store_checked (capped b) o ≡ required BadField (o >>= λ bs. Some (stored b bs)) op_checked
        checks None = refl
        checks (Some bs) = sym (store-capped b bs)
store-last (field ∷ given ∷ next ∷ rest) left a bytes after e l last = go (address_in field) e
  where
    go : (o : Option ℕ) → Some (a, left) ≡ option_map (kept (given ∷ next ∷ rest)) o → store_checked a (bytes_in bytes) ≡ Err BadField
    go None e = cc
    go (Some b) e =
        let same : ◌≡◌ {A = ℕ × List (List ℕ)} (a, left) (capped b, given ∷ next ∷ rest) = cc in
        let both : ◌≡◌ {A = List (List ℕ)} (bytes ∷ after) (given ∷ next ∷ rest) = sym l ∙ ap (λ p. p.1) same in
        let never : ◌≡◌ {A = List (List ℕ)} [] (next ∷ rest) = cc in cc

-- what the constructor answers, with the kind of its refusal
abbrev pub in_text : Result Op OpError → Result Op TextKind
in_text (Ok op) = Ok op
in_text (Err error) = Err (kind_of error)

-- the constructor of stores makes the checks of the text
pub store_of-checked : (a : ℕ) (bytes : List ℕ) → 1 ≤ length bytes → length bytes ≤ 8 → in_text (store_of a bytes) ≡ op_checked (stored a bytes)
store_of-checked a bytes some few = grind (arith, nat_tests)

-- more than 8 bytes are out of range
pub store-long : (a : ℕ) (bytes : List ℕ) → 8 < length bytes → Err OutOfRange ≡ op_checked (stored a bytes)
store-long a bytes h = sym (cond-false (is_in_range (stored a bytes)) (in_word_then a bytes) (Err OutOfRange) (and_right (is_address a) (nat_le (length bytes) 8) (lt-leb (length bytes) 8 h)))

-- ---- Spans

abbrev span_from : Option ℕ → Option ℕ → Option Span
span_from o p = o >>= λ a. (p >>= λ n. Some (spanning a n))

abbrev pub kept_span : List (List ℕ) → Span → (ℕ × ℕ) × List (List ℕ)
kept_span left r = ((capped r.addr, capped r.len), left)

pub span-none : (fields : List (List ℕ)) → None ≡ first_address fields → None ≡ first_span fields
unfolding span_in
span-none (addr ∷ len ∷ rest) e = go (address_in addr) e
  where
    go : (o : Option ℕ) → None ≡ option_map (kept (len ∷ rest)) o → None ≡ option_map (kept_span rest) (span_from o (number_in 10 len))
    go None e = refl
    go (Some a) e = cc
span-none a e = refl

pub span-no_len : (fields left : List (List ℕ)) (a : ℕ) → Some (a, left) ≡ first_address fields → None ≡ first_number left → None ≡ first_span fields
unfolding span_in
span-no_len (addr ∷ len ∷ rest) left a e f = go (address_in addr) e
  where
    go : (o : Option ℕ) → Some (a, left) ≡ option_map (kept (len ∷ rest)) o → None ≡ option_map (kept_span rest) (span_from o (number_in 10 len))
    go None e = refl
    go (Some b) e =
        let same : ◌≡◌ {A = ℕ × List (List ℕ)} (a, left) (capped b, len ∷ rest) = cc in
        none (number_in 10 len) (f ∙ ap first_number (ap (λ p. p.1) same))
      where
        none : (o : Option ℕ) → None ≡ option_map (kept rest) o → None ≡ option_map (kept_span rest) (o >>= λ n. Some (spanning b n))
        none None e = refl
        none (Some n) e = cc
span-no_len b left a e f = refl

pub span-some : (fields left after : List (List ℕ)) (a n : ℕ) → Some (a, left) ≡ first_address fields → Some (n, after) ≡ first_number left → Some ((a, n), after) ≡ first_span fields
unfolding span_in
span-some [] left after a n e f = cc
span-some (addr ∷ []) left after a n e f = go (address_in addr) e
  where
    go : (o : Option ℕ) → Some (a, left) ≡ option_map (kept []) o → ◌≡◌ {A = Option ((ℕ × ℕ) × List (List ℕ))} (Some ((a, n), after)) None
    go None e = cc
    go (Some b) e =
        let same : ◌≡◌ {A = ℕ × List (List ℕ)} (a, left) (capped b, []) = cc in
        let never = f ∙ ap first_number (ap (λ p. p.1) same) in cc
span-some (addr ∷ len ∷ rest) left after a n e f = go (address_in addr) e
  where
    go : (o : Option ℕ) → Some (a, left) ≡ option_map (kept (len ∷ rest)) o → Some ((a, n), after) ≡ option_map (kept_span rest) (span_from o (number_in 10 len))
    go None e = cc
    go (Some b) e =
        let same : ◌≡◌ {A = ℕ × List (List ℕ)} (a, left) (capped b, len ∷ rest) = cc in
        some (number_in 10 len) (ap (λ p. p.0) same) (f ∙ ap first_number (ap (λ p. p.1) same))
      where
        some : (o : Option ℕ) → a ≡ capped b → Some (n, after) ≡ option_map (kept rest) o → Some ((a, n), after) ≡ option_map (kept_span rest) (o >>= λ n. Some (spanning b n))
        some None s e = cc
        some (Some m) s e =
            let same : ◌≡◌ {A = ℕ × List (List ℕ)} (n, after) (capped m, rest) = cc in
            ap₂ (λ (x : ℕ) (p : ℕ × List (List ℕ)). Some ((x, p.0), p.1)) s same

-- ---- The constructor of addresses makes the check of the text

pub address-ok : (a b : ℕ) → Ok b ≡ address_of a → Ok b ≡ checked OutOfRange (is_address a) (Ok a)
address-ok a b e = go (nat_lt a (2 ^ 48)) e
  where
    go : (t : Bool) → ◌≡◌ {A = Result ℕ OpError} (Ok b) (cond t (Ok a) (Err faults.OutOfRange)) → ◌≡◌ {A = Result ℕ TextKind} (Ok b) (cond t (Ok a) (Err OutOfRange))
    go true e = let same : b ≡ a = cc in ap (λ (x : ℕ). Ok x) same
    go false e = cc

pub address-err : (a : ℕ) (kind : OpError) → Err kind ≡ address_of a → Err OutOfRange ≡ checked OutOfRange (is_address a) (Ok a)
address-err a kind e = go (nat_lt a (2 ^ 48)) e
  where
    go : (t : Bool) → ◌≡◌ {A = Result ℕ OpError} (Err kind) (cond t (Ok a) (Err faults.OutOfRange)) → ◌≡◌ {A = Result ℕ TextKind} (Err OutOfRange) (cond t (Ok a) (Err OutOfRange))
    go true e = cc
    go false e = refl
