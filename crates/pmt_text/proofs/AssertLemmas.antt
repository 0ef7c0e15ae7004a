-- How the spans of an assertion, read one by one, meet the op that the fields spell; and how the thread joins an op.
use Rattle.std.proofs.Common.{◌≡◌, ℕ, ◌≤◌, inl, inr, Bool, true, false, ◌&&◌, List, [], ◌∷◌, Option, Some, None, option_map, Result, Ok, Err, refl, sym, ◌∙◌, ap, ap₂, arith, lt-ltb, le-ltb}
use Rattle.std.proofs.lemmas.Bool.{cond-false, and_left, cases_lt}
use Rattle.pmt_text.specs.Prelude.{Op, IsPersist, IsOrderedBefore, Event, Span}
use Rattle.pmt_text.specs.declared.kind.TextKind.{TextKind}
use Rattle.pmt_text.specs.declared.kind.TextKind.TheVariants.{BadField, OutOfRange, CrossesWord}
use Rattle.pmt_text.specs.declared.word.Word.{Word}
use Rattle.pmt_text.specs.declared.word.Word.TheVariants as words
use Rattle.pmt_text.specs.Judging.{◌>>=◌, number_in, span_in, persist_in, ordered_in, op_in, event_in, required, checked, is_thread, is_span, is_in_range, is_in_word, op_checked, event_checked, capped, first_number, first_span, op_of_fields, span_checked, with_thread}
use Rattle.pmt_text.proofs.OpLemmas.{span-capped, kept, kept_span}

-- ---- isPersist

-- the assertion on a span, or what refuses the span
abbrev pub persisted_of : Result Span TextKind → Result Op TextKind
persisted_of (Ok r) = Ok (IsPersist r)
persisted_of (Err kind) = Err kind

persist-checked : (r : Span) → persisted_of (span_checked r.addr r.len) ≡ op_checked (IsPersist r)
persist-checked r = go (is_span r)
  where
    go : (t : Bool) → persisted_of (checked OutOfRange t (Ok r)) ≡ checked OutOfRange t (Ok (IsPersist r))
    go true = refl
    go false = refl

pub persist-none : (fields : List (List ℕ)) → None ≡ first_span fields → Err BadField ≡ op_of_fields words.IsPersist fields
unfolding op_of_fields persist_in
persist-none (addr ∷ len ∷ []) e = go (span_in addr len) e
  where
    go : (o : Option Span) → None ≡ option_map (kept_span []) o → Err BadField ≡ required BadField (option_map IsPersist o) op_checked
    go None e = refl
    go (Some r) e = cc
persist-none a e = refl

pub persist-more : (fields left : List (List ℕ)) (a n : ℕ) → Some ((a, n), left) ≡ first_span fields → (left ≡ [] → ⊥) → Err BadField ≡ op_of_fields words.IsPersist fields
unfolding op_of_fields persist_in
persist-more (addr ∷ len ∷ []) left a n e more = go (span_in addr len) e
  where
    go : (o : Option Span) → Some ((a, n), left) ≡ option_map (kept_span []) o → Err BadField ≡ required BadField (option_map IsPersist o) op_checked
    go None e = refl
    go (Some r) e = let same : ◌≡◌ {A = (ℕ × ℕ) × List (List ℕ)} ((a, n), left) (kept_span [] r) = cc in absurd (more (ap (λ p. p.1) same))
persist-more b left a n e more = refl

pub persist-last : (fields left : List (List ℕ)) (a n : ℕ) → Some ((a, n), left) ≡ first_span fields → left ≡ [] → persisted_of (span_checked a n) ≡ op_of_fields words.IsPersist fields
unfolding op_of_fields persist_in
persist-last (addr ∷ len ∷ []) left a n e last = go (span_in addr len) e
  where
    go : (o : Option Span) → Some ((a, n), left) ≡ option_map (kept_span []) o → persisted_of (span_checked a n) ≡ required BadField (option_map IsPersist o) op_checked
    go None e = cc
    go (Some r) e =
        let same : ◌≡◌ {A = (ℕ × ℕ) × List (List ℕ)} ((a, n), left) (kept_span [] r) = cc in
        ap (λ (p : (ℕ × ℕ) × List (List ℕ)). persisted_of (span_checked p.0.0 p.0.1)) same
        ∙ ap persisted_of (sym (span-capped r.addr r.len)) ∙ persist-checked r
persist-last (addr ∷ len ∷ next ∷ rest) left a n e last = go (span_in addr len) e
  where
    go : (o : Option Span) → Some ((a, n), left) ≡ option_map (kept_span (next ∷ rest)) o → persisted_of (span_checked a n) ≡ Err BadField
    go None e = cc
    go (Some r) e =
        let same : ◌≡◌ {A = (ℕ × ℕ) × List (List ℕ)} ((a, n), left) (kept_span (next ∷ rest) r) = cc in
        let never : ◌≡◌ {A = List (List ℕ)} [] (next ∷ rest) = sym last ∙ ap (λ p. p.1) same in cc
persist-last b left a n e last = cc

-- ---- isOrderedBefore

-- the assertion on two spans, or what refuses the first of them that is refused
abbrev pub ordered_of : Result Span TextKind → Result Span TextKind → Result Op TextKind
ordered_of (Err kind) q = Err kind
ordered_of (Ok r) (Err kind) = Err kind
ordered_of (Ok r) (Ok q) = Ok (IsOrderedBefore r q)

ordered-checked : (r q : Span) → ordered_of (span_checked r.addr r.len) (span_checked q.addr q.len) ≡ op_checked (IsOrderedBefore r q)
ordered-checked r q = go (is_span r) (is_span q)
  where
    go : (t u : Bool) → ordered_of (checked OutOfRange t (Ok r)) (checked OutOfRange u (Ok q)) ≡ checked OutOfRange (t && u) (Ok (IsOrderedBefore r q))
    go true true = refl
    go true false = refl
    go false u = refl

pub ordered-none : (fields : List (List ℕ)) → None ≡ first_span fields → Err BadField ≡ op_of_fields words.IsOrderedBefore fields
unfolding op_of_fields ordered_in
ordered-none (a ∷ b ∷ c ∷ d ∷ []) e = go (span_in a b) e
  where
    go : (o : Option Span) → None ≡ option_map (kept_span (c ∷ d ∷ [])) o → Err BadField ≡ required BadField (o >>= λ r. (span_in c d >>= λ q. Some (IsOrderedBefore r q))) op_checked
    go None e = refl
    go (Some r) e = cc
ordered-none x e = refl

pub ordered-one : (fields left : List (List ℕ)) (a n : ℕ) → Some ((a, n), left) ≡ first_span fields → None ≡ first_span left → Err BadField ≡ op_of_fields words.IsOrderedBefore fields
unfolding op_of_fields ordered_in
ordered-one (a ∷ b ∷ c ∷ d ∷ []) left x n e f = go (span_in a b) e
  where
    go : (o : Option Span) → Some ((x, n), left) ≡ option_map (kept_span (c ∷ d ∷ [])) o → Err BadField ≡ required BadField (o >>= λ r. (span_in c d >>= λ q. Some (IsOrderedBefore r q))) op_checked
    go None e = refl
    go (Some r) e =
        let same : ◌≡◌ {A = (ℕ × ℕ) × List (List ℕ)} ((x, n), left) (kept_span (c ∷ d ∷ []) r) = cc in
        none (span_in c d) (f ∙ ap first_span (ap (λ p. p.1) same))
      where
        none : (o : Option Span) → None ≡ option_map (kept_span []) o → Err BadField ≡ required BadField (o >>= λ q. Some (IsOrderedBefore r q)) op_checked
        none None e = refl
        none (Some q) e = cc
ordered-one y left x n e f = refl

-- the two spans of four fields or more, and what is left
two_spans : (a b c d : List ℕ) (rest left after : List (List ℕ)) (x n y m : ℕ) → Some ((x, n), left) ≡ first_span (a ∷ b ∷ c ∷ d ∷ rest) → Some ((y, m), after) ≡ first_span left →
    (Some ((x, n), c ∷ d ∷ rest) ≡ option_map (kept_span (c ∷ d ∷ rest)) (span_in a b)) × (Some ((y, m), after) ≡ option_map (kept_span rest) (span_in c d))
two_spans a b c d rest left after x n y m e f = go (span_in a b) e
  where
    go : (o : Option Span) → Some ((x, n), left) ≡ option_map (kept_span (c ∷ d ∷ rest)) o →
        (Some ((x, n), c ∷ d ∷ rest) ≡ option_map (kept_span (c ∷ d ∷ rest)) o) × (Some ((y, m), after) ≡ option_map (kept_span rest) (span_in c d))
    go None e = absurd (cc)
    go (Some r) e =
        let same : ◌≡◌ {A = (ℕ × ℕ) × List (List ℕ)} ((x, n), left) (kept_span (c ∷ d ∷ rest) r) = cc in
        (ap (λ (p : (ℕ × ℕ) × List (List ℕ)). Some (p.0, c ∷ d ∷ rest)) same, f ∙ ap first_span (ap (λ p. p.1) same))

pub ordered-more : (fields left after : List (List ℕ)) (x n y m : ℕ) → Some ((x, n), left) ≡ first_span fields → Some ((y, m), after) ≡ first_span left → (after ≡ [] → ⊥) → Err BadField ≡ op_of_fields words.IsOrderedBefore fields
unfolding op_of_fields ordered_in
ordered-more (a ∷ b ∷ c ∷ d ∷ []) left after x n y m e f more = go (span_in c d) (two_spans a b c d [] left after x n y m e f).1
  where
    go : (o : Option Span) → Some ((y, m), after) ≡ option_map (kept_span []) o → Err BadField ≡ required BadField (ordered_in (a ∷ b ∷ c ∷ d ∷ [])) op_checked
    go None e = absurd (cc)
    go (Some q) e = let same : ◌≡◌ {A = (ℕ × ℕ) × List (List ℕ)} ((y, m), after) (kept_span [] q) = cc in absurd (more (ap (λ p. p.1) same))
ordered-more z left after x n y m e f more = refl

-- after two or three fields there is no second span
no_second : (a b : List ℕ) (rest left after : List (List ℕ)) (x n y m : ℕ) → Some ((x, n), left) ≡ option_map (kept_span rest) (span_in a b) → Some ((y, m), after) ≡ first_span left → first_span rest ≡ None → ⊥
no_second a b rest left after x n y m e f none = go (span_in a b) e
  where
    go : (o : Option Span) → Some ((x, n), left) ≡ option_map (kept_span rest) o → ⊥
    go None e = cc
    go (Some r) e =
        let same : ◌≡◌ {A = (ℕ × ℕ) × List (List ℕ)} ((x, n), left) (kept_span rest r) = cc in
        let never = f ∙ ap first_span (ap (λ p. p.1) same) ∙ none in cc

pub ordered-last : (fields left after : List (List ℕ)) (x n y m : ℕ) → Some ((x, n), left) ≡ first_span fields → Some ((y, m), after) ≡ first_span left → after ≡ [] →
    ordered_of (span_checked x n) (span_checked y m) ≡ op_of_fields words.IsOrderedBefore fields
unfolding op_of_fields ordered_in
ordered-last (a ∷ b ∷ []) left after x n y m e f last = absurd (no_second a b [] left after x n y m e f refl)
ordered-last (a ∷ b ∷ c ∷ []) left after x n y m e f last = absurd (no_second a b (c ∷ []) left after x n y m e f refl)
ordered-last (a ∷ b ∷ c ∷ d ∷ []) left after x n y m e f last =
    let spans = two_spans a b c d [] left after x n y m e f in
    go (span_in a b) (span_in c d) spans.0 spans.1
  where
    go : (o p : Option Span) → Some ((x, n), c ∷ d ∷ []) ≡ option_map (kept_span (c ∷ d ∷ [])) o → Some ((y, m), after) ≡ option_map (kept_span []) p →
        ordered_of (span_checked x n) (span_checked y m) ≡ required BadField (o >>= λ r. (p >>= λ q. Some (IsOrderedBefore r q))) op_checked
    go None p e f = absurd (cc)
    go (Some r) None e f = absurd (cc)
    go (Some r) (Some q) e f =
        let first : ◌≡◌ {A = (ℕ × ℕ) × List (List ℕ)} ((x, n), c ∷ d ∷ []) (kept_span (c ∷ d ∷ []) r) = cc in
        let second : ◌≡◌ {A = (ℕ × ℕ) × List (List ℕ)} ((y, m), after) (kept_span [] q) = cc in
        ap₂ (λ (u v : (ℕ × ℕ) × List (List ℕ)). ordered_of (span_checked u.0.0 u.0.1) (span_checked v.0.0 v.0.1)) first second
        ∙ ap₂ ordered_of (sym (span-capped r.addr r.len)) (sym (span-capped q.addr q.len)) ∙ ordered-checked r q
ordered-last (a ∷ b ∷ c ∷ d ∷ next ∷ rest) left after x n y m e f last = go (span_in c d) (two_spans a b c d (next ∷ rest) left after x n y m e f).1
  where
    go : (o : Option Span) → Some ((y, m), after) ≡ option_map (kept_span (next ∷ rest)) o → ordered_of (span_checked x n) (span_checked y m) ≡ Err BadField
    go None e = absurd (cc)
    go (Some q) e =
        let same : ◌≡◌ {A = (ℕ × ℕ) × List (List ℕ)} ((y, m), after) (kept_span (next ∷ rest) q) = cc in
        let never : ◌≡◌ {A = List (List ℕ)} [] (next ∷ rest) = sym last ∙ ap (λ p. p.1) same in cc
ordered-last d left after x n y m e f last = cc

-- ---- The thread

pub event-none : (word : Word) (fields : List (List ℕ)) → None ≡ first_number fields → Err BadField ≡ required BadField (event_in word fields) event_checked
unfolding event_in
event-none word [] e = refl
event-none word (field ∷ rest) e = go (number_in 10 field) e
  where
    go : (o : Option ℕ) → None ≡ option_map (kept rest) o → Err BadField ≡ required BadField (o >>= λ t. (op_in word rest >>= λ op. Some (record { thread = t; op = op }))) event_checked
    go None e = refl
    go (Some t) e = cc

abbrev made : ℕ → Op → Event
made t op = record { thread = t; op = op }

abbrev op_checks : Op → Bool → Bool → Result Op TextKind
op_checks op r w = checked OutOfRange r (checked CrossesWord w (Ok op))

thread_passes : (t : ℕ) (op : Op) (r w : Bool) → is_thread t ≡ true → with_thread t (op_checks op r w) ≡ checked OutOfRange (is_thread t && r) (checked CrossesWord w (Ok (made t op)))
thread_passes t op true true e = rw e refl
thread_passes t op a b e = rw e refl

thread_fails : (t : ℕ) (op : Op) (r w : Bool) → is_thread t ≡ false → with_thread t (op_checks op r w) ≡ Err OutOfRange
thread_fails t op true true e = rw e refl
thread_fails t op a b e = rw e refl

thread_joins : (t : ℕ) (op : Op) → with_thread (capped t) (op_checked op) ≡ event_checked (made t op)
thread_joins t op = elim (cases_lt t 256) [
  | inl l ↦ (let same : capped t ≡ t = omega arith in
      ap (λ (x : ℕ). with_thread x (op_checked op)) same ∙ thread_passes t op (is_in_range op) (is_in_word op) (lt-ltb t 256 l))
  | inr l ↦ (let high : 256 ≤ capped t = omega arith in
      thread_fails (capped t) op (is_in_range op) (is_in_word op) (le-ltb (capped t) 256 high)
      ∙ sym (cond-false (is_thread t && is_in_range op) (checked CrossesWord (is_in_word op) (Ok (made t op))) (Err OutOfRange) (and_left (is_thread t) (is_in_range op) (le-ltb t 256 l))))
]

pub event-some : (word : Word) (fields left : List (List ℕ)) (t : ℕ) → Some (t, left) ≡ first_number fields → with_thread t (op_of_fields word left) ≡ required BadField (event_in word fields) event_checked
unfolding event_in op_of_fields
event-some word [] left t e = cc
event-some word (field ∷ rest) left t e = go (number_in 10 field) e
  where
    go : (o : Option ℕ) → Some (t, left) ≡ option_map (kept rest) o → with_thread t (required BadField (op_in word left) op_checked) ≡ required BadField (o >>= λ t. (op_in word rest >>= λ op. Some (made t op))) event_checked
    go None e = cc
    go (Some n) e =
        let same : ◌≡◌ {A = ℕ × List (List ℕ)} (t, left) (capped n, rest) = cc in
        ap (λ (p : ℕ × List (List ℕ)). with_thread p.0 (required BadField (op_in word p.1) op_checked)) same ∙ join (op_in word rest)
      where
        join : (o : Option Op) → with_thread (capped n) (required BadField o op_checked) ≡ required BadField (o >>= λ op. Some (made n op)) event_checked
        join None = refl
        join (Some op) = thread_joins n op
