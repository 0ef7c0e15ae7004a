-- That an event that a line is judged, or that a trace holds, is within its limits and of the format.
use Rattle.std.specs.Prelude.{◌≡◌, ℕ, ◌+◌, ◌*◌, ◌/◌, ◌%◌, ◌^◌, ◌<◌, ◌≤◌, ◌==◌, Bool, true, false, cond, ◌&&◌, nat_le, find, List, [], ◌∷◌, length, drop, get_or, Option, Some, None, Result, Ok, Err, IfOk, refl}
use Rattle.std.specs.Option.{option_map}
use Rattle.std.specs.Char.{digit_value}
use Rattle.std.specs.Str.{bytes_eq}
use Rattle.std.proofs.Common.{sym, ap, subst, ◌∙◌, arith, ltb-true, leb-true, eqb-true}
use Rattle.std.proofs.lemmas.Bool.{and_parts, agree_below_at}
use Rattle.std.proofs.lemmas.Slice.Eq.{bytes_eq-Decides}
use Rattle.pmt_text.specs.Prelude.{Op, Store, Clwb, ClflushOpt, Clflush, Sfence, Mfence, IsPersist, IsOrderedBefore, Event, Layout, Span, AreBytes, IsRange, IsOp, IsEventIn, in_format, Recording}
use Rattle.std.specs.List.{AllByRecursion, AllByRecursion-prop}
use Rattle.std.specs.Coded.{Unit-prop}
use Rattle.std.proofs.Props.{props}
use Rattle.pmt_text.specs.declared.kind.TextKind.{TextKind}
use Rattle.pmt_text.specs.declared.kind.TextKind.TheVariants.{BadWord, BadField, OutOfRange, CrossesWord}
use Rattle.pmt_text.specs.declared.word.Word.{Word}
use Rattle.pmt_text.specs.Spelling.{glyph, hex_bytes, word_text, word_of}
use Rattle.pmt_text.specs.Judging.{◌>>=◌, number_in, address_in, bytes_in, paired, span_in, store_in, flushed_in, none_in, persist_in, ordered_in, op_in, event_in, fields_of, word_in, all_words, is_known, required, checked, is_thread, is_address, is_span, is_in_range, is_in_word, event_checked, event_judged, line_judged}
use Rattle.pmt_text.specs.declared.word.Word.TheVariants as words

-- ---- What an answer came from

pub bind-some : {A B : Type 0} (o : Option A) (f : A → Option B) (y : B) → (o >>= f) ≡ Some y → (x : A) × (o ≡ Some x) × (f x ≡ Some y)
bind-some None f y e = cc
bind-some (Some x) f y e = (x, refl, e)

pub map-some : {A B : Type 0} (o : Option A) (f : A → B) (y : B) → option_map f o ≡ Some y → (x : A) × (o ≡ Some x) × (f x ≡ y)
map-some None f y e = cc
map-some (Some x) f y e = (x, refl, cc)

pub required-ok : {A B : Type 0} (kind : TextKind) (o : Option A) (next : A → Result B TextKind) (y : B) → required kind o next ≡ Ok y → (x : A) × (o ≡ Some x) × (next x ≡ Ok y)
required-ok kind None next y e = cc
required-ok kind (Some x) next y e = (x, refl, e)

pub checked-ok : {A : Type 0} (kind : TextKind) (t : Bool) (r : Result A TextKind) (y : A) → checked kind t r ≡ Ok y → (t ≡ true) × (r ≡ Ok y)
checked-ok kind true r y e = (refl, e)
checked-ok kind false r y e = cc

pub find-some : {X : Type 0} (test : X → Bool) (xs : List X) (x : X) → find test xs ≡ Some x → test x ≡ true
find-some test [] x e = cc
find-some test (y ∷ xs) x e = go (test y) refl e (find-some test xs x)
  where
    go : (b : Bool) → test y ≡ b → cond b (Some y) (find test xs) ≡ Some x → (find test xs ≡ Some x → test x ≡ true) → test x ≡ true
    go true t some later = let same : y ≡ x = cc in ap test (sym same) ∙ t
    go false t none later = later none

-- ---- Fields

digit-below : (d : ℕ) → d < 16 → digit_value (glyph d) < 16
digit-below d h =
    let same : digit_value (glyph d) ≡ d = eqb-true _ _ (agree_below_at (λ n. digit_value (glyph n) == n) (λ _. true) 16 d refl h) in
    let P : ℕ → Type 0 = λ n. n < 16 in
    subst P (sym same) h

-- pairs of digits that are the spelling of what they write are bytes
paired-small : (field : List ℕ) → hex_bytes (paired field) ≡ field → AreBytes (paired field)
unfolding hex_bytes
paired-small [] e = tt
paired-small (x ∷ []) e = tt
paired-small (x ∷ y ∷ rest) e =
    let P : ℕ → Type 0 = λ c. digit_value c < 16 in
    let first : glyph ((16 * digit_value x + digit_value y) / 16 % 16) ≡ x = ap (λ (l : List ℕ). get_or l 0 0) e in
    let second : glyph ((16 * digit_value x + digit_value y) % 16) ≡ y = ap (λ (l : List ℕ). get_or l 1 0) e in
    let high : digit_value x < 16 = subst P first (digit-below ((16 * digit_value x + digit_value y) / 16 % 16) (omega arith)) in
    let low : digit_value y < 16 = subst P second (digit-below ((16 * digit_value x + digit_value y) % 16) (omega arith)) in
    let below : 16 * digit_value x + digit_value y < 256 = omega (arith, high, low) in
    (below, paired-small rest (ap (λ (l : List ℕ). drop 2 l) e))

paired-some : (x : ℕ) (rest : List ℕ) → hex_bytes (paired (x ∷ rest)) ≡ x ∷ rest → 1 ≤ length (paired (x ∷ rest))
unfolding hex_bytes
paired-some x [] e = cc
paired-some x (y ∷ rest) e = omega arith

-- bytes that were read are bytes, and there is one
bytes-read : (field bytes : List ℕ) → bytes_in field ≡ Some bytes → (1 ≤ length bytes) × AreBytes bytes
unfolding bytes_in
bytes-read [] bytes e = cc
bytes-read (x ∷ rest) bytes e = go (bytes_eq (hex_bytes (paired (x ∷ rest))) (x ∷ rest)) refl e
  where
    go : (t : Bool) → bytes_eq (hex_bytes (paired (x ∷ rest))) (x ∷ rest) ≡ t → cond t (Some (paired (x ∷ rest))) None ≡ Some bytes → (1 ≤ length bytes) × AreBytes bytes
    go true same some =
        let value : paired (x ∷ rest) ≡ bytes = cc in
        let spelled = (bytes_eq-Decides (hex_bytes (paired (x ∷ rest))) (x ∷ rest)).0 same in
        let P : List ℕ → Type 0 = λ bs. (1 ≤ length bs) × AreBytes bs in
        subst P value (paired-some x rest spelled, paired-small (x ∷ rest) spelled)
    go false same some = cc

-- what an op that was read keeps without any check
abbrev pub HasBytes : Op → Type 0
HasBytes (Store w) = (1 ≤ length w.bytes) × AreBytes w.bytes
HasBytes (Clwb a) = Unit {0}
HasBytes (ClflushOpt a) = Unit {0}
HasBytes (Clflush a) = Unit {0}
HasBytes Sfence = Unit {0}
HasBytes Mfence = Unit {0}
HasBytes (IsPersist r) = Unit {0}
HasBytes (IsOrderedBefore r q) = Unit {0}

-- the op was read after the word
pub record IsNamed (word : Word) (op : Op) : Type 0 where
  pub named : word_of op ≡ word
  pub bytes : HasBytes op

store_named : (fields : List (List ℕ)) (op : Op) → store_in fields ≡ Some op → IsNamed words.Store op
unfolding store_in
store_named [] op e = cc
store_named (addr ∷ []) op e = cc
store_named (addr ∷ bytes ∷ []) op e =
    let a = bind-some (address_in addr) (λ a. bytes_in bytes >>= λ bs. Some (Store (record { addr = a; bytes = bs }))) op e in
    let bs = bind-some (bytes_in bytes) (λ bs. Some (Store (record { addr = a.0; bytes = bs }))) op a.2 in
    let made : Store (record { addr = a.0; bytes = bs.0 }) ≡ op = let some = bs.2 in cc in
    subst (λ (o : Op). IsNamed words.Store o) made (record { named = refl; bytes = bytes-read bytes bs.0 bs.1 })
store_named (addr ∷ bytes ∷ next ∷ rest) op e = cc

persist_named : (fields : List (List ℕ)) (op : Op) → persist_in fields ≡ Some op → IsNamed words.IsPersist op
unfolding persist_in
persist_named [] op e = cc
persist_named (addr ∷ []) op e = cc
persist_named (addr ∷ len ∷ []) op e =
    let r = map-some (span_in addr len) IsPersist op e in subst (λ (o : Op). IsNamed words.IsPersist o) r.2 (record { named = refl; bytes = tt })
persist_named (addr ∷ len ∷ next ∷ rest) op e = cc

ordered_named : (fields : List (List ℕ)) (op : Op) → ordered_in fields ≡ Some op → IsNamed words.IsOrderedBefore op
unfolding ordered_in
ordered_named [] op e = cc
ordered_named (a ∷ []) op e = cc
ordered_named (a ∷ b ∷ []) op e = cc
ordered_named (a ∷ b ∷ c ∷ []) op e = cc
ordered_named (a ∷ b ∷ c ∷ d ∷ []) op e =
    let r = bind-some (span_in a b) (λ r. span_in c d >>= λ q. Some (IsOrderedBefore r q)) op e in
    let q = bind-some (span_in c d) (λ q. Some (IsOrderedBefore r.0 q)) op r.2 in
    let made : IsOrderedBefore r.0 q.0 ≡ op = let some = q.2 in cc in
    subst (λ (o : Op). IsNamed words.IsOrderedBefore o) made (record { named = refl; bytes = tt })
ordered_named (a ∷ b ∷ c ∷ d ∷ next ∷ rest) op e = cc

fence_named : (w : Word) (op made : Op) (fields : List (List ℕ)) → word_of made ≡ w → HasBytes made → none_in made fields ≡ Some op → IsNamed w op
fence_named w op made [] name bytes e = let same : made ≡ op = cc in subst (λ (o : Op). IsNamed w o) same (record { named = name; bytes = bytes })
fence_named w op made (field ∷ fields) name bytes e = cc

pub op_named : (w : Word) (fields : List (List ℕ)) (op : Op) → op_in w fields ≡ Some op → IsNamed w op
op_named words.Store fields op e = store_named fields op e
op_named words.Clwb fields op e =
    let a = map-some (flushed_in fields) Clwb op e in subst (λ (o : Op). IsNamed words.Clwb o) a.2 (record { named = refl; bytes = tt })
op_named words.ClflushOpt fields op e =
    let a = map-some (flushed_in fields) ClflushOpt op e in subst (λ (o : Op). IsNamed words.ClflushOpt o) a.2 (record { named = refl; bytes = tt })
op_named words.Clflush fields op e =
    let a = map-some (flushed_in fields) Clflush op e in subst (λ (o : Op). IsNamed words.Clflush o) a.2 (record { named = refl; bytes = tt })
op_named words.Sfence fields op e = fence_named words.Sfence op Sfence fields refl tt e
op_named words.Mfence fields op e = fence_named words.Mfence op Mfence fields refl tt e
op_named words.IsPersist fields op e = persist_named fields op e
op_named words.IsOrderedBefore fields op e = ordered_named fields op e

-- ---- Checks

is_range : (r : Span) → is_span r ≡ true → IsRange r
is_range r t =
    let outer = and_parts (is_address r.addr && nat_le 1 r.len && nat_le r.len 4096) (nat_le (r.addr + r.len) (2 ^ 48)) t in
    let middle = and_parts (is_address r.addr && nat_le 1 r.len) (nat_le r.len 4096) outer.0 in
    let inner = and_parts (is_address r.addr) (nat_le 1 r.len) middle.0 in
    record { some = leb-true 1 r.len inner.1; few = leb-true r.len 4096 middle.1; within = leb-true (r.addr + r.len) (2 ^ 48) outer.1 }

pub is_op : (op : Op) → HasBytes op → is_in_range op ≡ true → is_in_word op ≡ true → IsOp op
is_op (Store w) h r i =
    let parts = and_parts (is_address w.addr) (nat_le (length w.bytes) 8) r in
    record { address = ltb-true w.addr (2 ^ 48) parts.0; some = h.0; inside = leb-true (w.addr % 8 + length w.bytes) 8 i; each = h.1 }
is_op (Clwb a) h r i = ltb-true a (2 ^ 48) r
is_op (ClflushOpt a) h r i = ltb-true a (2 ^ 48) r
is_op (Clflush a) h r i = ltb-true a (2 ^ 48) r
is_op Sfence h r i = tt
is_op Mfence h r i = tt
is_op (IsPersist s) h r i = is_range s r
is_op (IsOrderedBefore s q) h r i = let parts = and_parts (is_span s) (is_span q) r in (is_range s parts.0, is_range q parts.1)

pub in_format-is_known : (f : Layout) (op : Op) → in_format f op ≡ is_known f (word_of op)
in_format-is_known f (Store w) = refl
in_format-is_known f (Clwb a) = refl
in_format-is_known f (ClflushOpt a) = refl
in_format-is_known f (Clflush a) = refl
in_format-is_known f Sfence = refl
in_format-is_known f Mfence = refl
in_format-is_known f (IsPersist r) = refl
in_format-is_known f (IsOrderedBefore r q) = refl

-- the format has a word that was read
word-known : (f : Layout) (field : List ℕ) (w : Word) → word_in f field ≡ Some w → is_known f w ≡ true
unfolding word_in
word-known f field w e = (and_parts (bytes_eq (word_text w) field) (is_known f w) (find-some (λ v. bytes_eq (word_text v) field && is_known f v) all_words w e)).1

-- ---- Lines

pub event_judged-in : (f : Layout) (fields : List (List ℕ)) (e : Event) → event_judged f fields ≡ Ok e → IsEventIn f e
unfolding event_in
event_judged-in f [] e j = cc
event_judged-in f (word ∷ []) e j =
    let w = required-ok BadWord (word_in f word) (λ w. required BadField (event_in w []) event_checked) e j in
    let never = w.2 in cc
event_judged-in f (word ∷ thread ∷ rest) e j =
    let w = required-ok BadWord (word_in f word) (λ w. required BadField (event_in w (thread ∷ rest)) event_checked) e j in
    let made = required-ok BadField (event_in w.0 (thread ∷ rest)) event_checked e w.2 in
    let t = bind-some (number_in 10 thread) (λ t. op_in w.0 rest >>= λ op. Some (record { thread = t; op = op })) made.0 made.1 in
    let op = bind-some (op_in w.0 rest) (λ op. Some (record { thread = t.0; op = op })) made.0 t.2 in
    let read = op_named w.0 rest op.0 op.1 in
    let is : ◌≡◌ {A = Event} (record { thread = t.0; op = op.0 }) made.0 = let some = op.2 in cc in
    let ranged = checked-ok OutOfRange (is_thread made.0.thread && is_in_range made.0.op) (checked CrossesWord (is_in_word made.0.op) (Ok made.0)) e made.2 in
    let inside = checked-ok CrossesWord (is_in_word made.0.op) (Ok made.0) e ranged.1 in
    let same : made.0 ≡ e = let ok = inside.1 in cc in
    let both = and_parts (is_thread made.0.thread) (is_in_range made.0.op) ranged.0 in
    let bytes : HasBytes made.0.op = subst (λ (x : Event). HasBytes x.op) is read.bytes in
    let known : in_format f made.0.op ≡ true =
    in_format-is_known f made.0.op ∙ ap (λ (x : Event). is_known f (word_of x.op)) (sym is) ∙ ap (is_known f) read.named ∙ word-known f word w.0 w.1 in
    subst (λ (x : Event). IsEventIn f x) same (record { event = record { thread = ltb-true made.0.thread 256 both.0; op = is_op made.0.op bytes both.1 inside.0 }; known = known })

pub line_judged-in : (f : Layout) (line : List ℕ) (e : Event) → line_judged f line ≡ Ok e → IsEventIn f e
unfolding line_judged
line_judged-in f line e j = event_judged-in f (fields_of line) e j

pub allowed_line : (f : Layout) (line : List ℕ) (r : Result Event TextKind) → r ≡ line_judged f line → IfOk r (IsEventIn f)
allowed_line f line (Err kind) e = tt
allowed_line f line (Ok event) e = line_judged-in f line event (sym e)

-- ---- That the events of a trace are of its format is a fact, with one proof at most

op-prop : (op : Op) → IsProp (IsOp op)
op-prop (Store w) = Prim.hlevel props
op-prop (Clwb a) = Prim.hlevel props
op-prop (ClflushOpt a) = Prim.hlevel props
op-prop (Clflush a) = Prim.hlevel props
op-prop Sfence = Unit-prop
op-prop Mfence = Unit-prop
op-prop (IsPersist r) = Prim.hlevel props
op-prop (IsOrderedBefore r q) = Prim.hlevel props

event-prop : (f : Layout) (e : Event) → IsProp (IsEventIn f e)
event-prop f e = let op = op-prop e.op in Prim.hlevel (props, op)

pub are_of_format_prop : (T : Recording) → IsProp (AllByRecursion (IsEventIn T.format) T.events)
are_of_format_prop T = AllByRecursion-prop _ (event-prop T.format) T.events
