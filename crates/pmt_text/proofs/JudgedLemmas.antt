-- A line that is judged an event is the event's spelling, and the event is within its limits and in the format.
use Rattle.std.proofs.Common.{◌≡◌, ℕ, true, ◌&&◌, List, [], ◌∷◌, Some, Ok, refl, sym, ◌∙◌, ap, ap₂, subst}
use Rattle.std.specs.List.{join_with_byte}
use Rattle.std.proofs.lemmas.List.Splits.{join_with_byte-slice_split}
use Rattle.pmt_text.specs.Prelude.{Op, Store, Clwb, ClflushOpt, Clflush, Sfence, Mfence, IsPersist, IsOrderedBefore, Event, Layout, Span, first_version, IsOp, IsEventIn, in_format}
use Rattle.pmt_text.specs.declared.kind.TextKind.TheVariants.{BadWord, BadField, OutOfRange, CrossesWord}
use Rattle.pmt_text.specs.declared.word.Word.{Word}
use Rattle.pmt_text.specs.declared.word.Word.TheVariants as words
use Rattle.pmt_text.specs.Spelling.{numeral, address, word_text, arguments_of, event_line, op_line}
use Rattle.pmt_text.specs.Judging.{◌>>=◌, number_in, address_in, bytes_in, span_in, store_in, flushed_in, none_in, persist_in, ordered_in, op_in, event_in, fields_of, word_in, is_known, required, checked, is_thread, is_in_range, is_in_word, op_checked, event_checked, event_judged, op_judged, line_judged, script_line_judged}
use Rattle.pmt_text.specs.JudgedEvents.{bind-some, map-some, required-ok, checked-ok, is_op, in_format-is_known, op_named, event_judged-in}
use Rattle.pmt_text.proofs.NumeralLemmas.{numeral-number_in}
use Rattle.pmt_text.proofs.FieldLemmas.{address-address_in, hex_bytes-bytes_in}
use Rattle.pmt_text.proofs.WordLemmas.{word_text-word_in}

-- ---- Fields

store_read : (fields : List (List ℕ)) (op : Op) → store_in fields ≡ Some op → arguments_of op ≡ fields
unfolding store_in
store_read (addr ∷ bytes ∷ []) op e =
    let a = bind-some (address_in addr) (λ a. bytes_in bytes >>= λ bs. Some (Store (record { addr = a; bytes = bs }))) op e in
    let bs = bind-some (bytes_in bytes) (λ bs. Some (Store (record { addr = a.0; bytes = bs }))) op a.2 in
    let made : Store (record { addr = a.0; bytes = bs.0 }) ≡ op = let some = bs.2 in cc in
    subst (λ (o : Op). arguments_of o ≡ addr ∷ bytes ∷ []) made (ap₂ (λ (x y : List ℕ). x ∷ y ∷ []) (address-address_in addr a.0 a.1) (hex_bytes-bytes_in bytes bs.0 bs.1))
store_read b op e = cc

flushed_read : (fields : List (List ℕ)) (a : ℕ) → flushed_in fields ≡ Some a → address a ∷ [] ≡ fields
unfolding flushed_in
flushed_read (addr ∷ []) a e = ap (λ (x : List ℕ). x ∷ []) (address-address_in addr a e)
flushed_read b a e = cc

span_read : (addr len : List ℕ) (r : Span) → span_in addr len ≡ Some r → (address r.addr ≡ addr) × (numeral 10 r.len ≡ len)
unfolding span_in
span_read addr len r e =
    let a = bind-some (address_in addr) (λ a. number_in 10 len >>= λ n. Some (record { addr = a; len = n })) r e in
    let n = bind-some (number_in 10 len) (λ n. Some (record { addr = a.0; len = n })) r a.2 in
    let made : ◌≡◌ {A = Span} (record { addr = a.0; len = n.0 }) r = let some = n.2 in cc in
    (ap (λ (s : Span). address s.addr) (sym made) ∙ address-address_in addr a.0 a.1, ap (λ (s : Span). numeral 10 s.len) (sym made) ∙ numeral-number_in 10 len n.0 n.1)

persist_read : (fields : List (List ℕ)) (op : Op) → persist_in fields ≡ Some op → arguments_of op ≡ fields
unfolding persist_in
persist_read (addr ∷ len ∷ []) op e =
    let r = map-some (span_in addr len) IsPersist op e in
    let parts = span_read addr len r.0 r.1 in
    subst (λ (o : Op). arguments_of o ≡ addr ∷ len ∷ []) r.2 (ap₂ (λ (x y : List ℕ). x ∷ y ∷ []) parts.0 parts.1)
persist_read a op e = cc

ordered_read : (fields : List (List ℕ)) (op : Op) → ordered_in fields ≡ Some op → arguments_of op ≡ fields
unfolding ordered_in
ordered_read (a ∷ b ∷ c ∷ d ∷ []) op e =
    let r = bind-some (span_in a b) (λ r. span_in c d >>= λ q. Some (IsOrderedBefore r q)) op e in
    let q = bind-some (span_in c d) (λ q. Some (IsOrderedBefore r.0 q)) op r.2 in
    let made : IsOrderedBefore r.0 q.0 ≡ op = let some = q.2 in cc in
    let first = span_read a b r.0 r.1 in
    let second = span_read c d q.0 q.1 in
    subst (λ (o : Op). arguments_of o ≡ a ∷ b ∷ c ∷ d ∷ []) made
    (ap₂ (λ (x y : List ℕ). x ∷ y ∷ address q.0.addr ∷ numeral 10 q.0.len ∷ []) first.0 first.1 ∙ ap₂ (λ (x y : List ℕ). a ∷ b ∷ x ∷ y ∷ []) second.0 second.1)
ordered_read z op e = cc

fence_read : (op made : Op) (fields : List (List ℕ)) → arguments_of made ≡ [] → none_in made fields ≡ Some op → arguments_of op ≡ fields
fence_read op made [] args e = let same : made ≡ op = cc in subst (λ (o : Op). arguments_of o ≡ []) same args
fence_read op made (field ∷ fields) args e = cc

-- an op is spelled by the fields that it was read from
op_read : (w : Word) (fields : List (List ℕ)) (op : Op) → op_in w fields ≡ Some op → arguments_of op ≡ fields
op_read words.Store fields op e = store_read fields op e
op_read words.Clwb fields op e = let a = map-some (flushed_in fields) Clwb op e in subst (λ (o : Op). arguments_of o ≡ fields) a.2 (flushed_read fields a.0 a.1)
op_read words.ClflushOpt fields op e =
    let a = map-some (flushed_in fields) ClflushOpt op e in subst (λ (o : Op). arguments_of o ≡ fields) a.2 (flushed_read fields a.0 a.1)
op_read words.Clflush fields op e =
    let a = map-some (flushed_in fields) Clflush op e in subst (λ (o : Op). arguments_of o ≡ fields) a.2 (flushed_read fields a.0 a.1)
op_read words.Sfence fields op e = fence_read op Sfence fields refl e
op_read words.Mfence fields op e = fence_read op Mfence fields refl e
op_read words.IsPersist fields op e = persist_read fields op e
op_read words.IsOrderedBefore fields op e = ordered_read fields op e

-- ---- Lines

-- the line is the event's spelling, and the event may stand in the format
pub record IsLineOf (f : Layout) (line : List ℕ) (e : Event) : Type 0 where
  pub spelled : event_line e ≡ line
  pub allowed : IsEventIn f e

joined_fields : (line : List ℕ) (fields : List (List ℕ)) → fields_of line ≡ fields → join_with_byte 32 fields ≡ line
joined_fields line fields e = ap (join_with_byte 32) (sym e) ∙ join_with_byte-slice_split 32 line

event_judged-ok : (f : Layout) (line : List ℕ) (fields : List (List ℕ)) (e : Event) → fields_of line ≡ fields → event_judged f fields ≡ Ok e → event_line e ≡ line
unfolding event_line event_in
event_judged-ok f line [] e fs j = cc
event_judged-ok f line (word ∷ []) e fs j =
    let w = required-ok BadWord (word_in f word) (λ w. required BadField (event_in w []) event_checked) e j in
    let never = w.2 in cc
event_judged-ok f line (word ∷ thread ∷ rest) e fs j =
    let w = required-ok BadWord (word_in f word) (λ w. required BadField (event_in w (thread ∷ rest)) event_checked) e j in
    let named = word_text-word_in f word w.0 w.1 in
    let made = required-ok BadField (event_in w.0 (thread ∷ rest)) event_checked e w.2 in
    let t = bind-some (number_in 10 thread) (λ t. op_in w.0 rest >>= λ op. Some (record { thread = t; op = op })) made.0 made.1 in
    let op = bind-some (op_in w.0 rest) (λ op. Some (record { thread = t.0; op = op })) made.0 t.2 in
    let is : ◌≡◌ {A = Event} (record { thread = t.0; op = op.0 }) made.0 = let some = op.2 in cc in
    let ranged = checked-ok OutOfRange (is_thread made.0.thread && is_in_range made.0.op) (checked CrossesWord (is_in_word made.0.op) (Ok made.0)) e made.2 in
    let inside = checked-ok CrossesWord (is_in_word made.0.op) (Ok made.0) e ranged.1 in
    let same : made.0 ≡ e = let ok = inside.1 in cc in
    let text : event_line made.0 ≡ line =
    ap event_line (sym is)
    ∙ ap (λ (v : Word). join_with_byte 32 (word_text v ∷ numeral 10 t.0 ∷ arguments_of op.0)) (op_named w.0 rest op.0 op.1).named
    ∙ ap (λ (x : List ℕ). join_with_byte 32 (x ∷ numeral 10 t.0 ∷ arguments_of op.0)) named.0
    ∙ ap (λ (x : List ℕ). join_with_byte 32 (word ∷ x ∷ arguments_of op.0)) (numeral-number_in 10 thread t.0 t.1)
    ∙ ap (λ (xs : List (List ℕ)). join_with_byte 32 (word ∷ thread ∷ xs)) (op_read w.0 rest op.0 op.1)
    ∙ joined_fields line (word ∷ thread ∷ rest) fs in
    subst (λ (x : Event). event_line x ≡ line) same text

-- a line that is judged an event is its spelling
pub line_judged-ok : (f : Layout) (line : List ℕ) (e : Event) → line_judged f line ≡ Ok e → IsLineOf f line e
unfolding line_judged
line_judged-ok f line e j = record { spelled = event_judged-ok f line (fields_of line) e refl j; allowed = event_judged-in f (fields_of line) e j }

-- the same of a script
pub record IsScriptLineOf (line : List ℕ) (op : Op) : Type 0 where
  pub spelled : op_line op ≡ line
  pub allowed : IsOp op
  pub known : in_format first_version op ≡ true

op_judged-ok : (line : List ℕ) (fields : List (List ℕ)) (op : Op) → fields_of line ≡ fields → op_judged fields ≡ Ok op → IsScriptLineOf line op
unfolding op_line
op_judged-ok line [] op fs j = cc
op_judged-ok line (word ∷ rest) op fs j =
    let w = required-ok BadWord (word_in first_version word) (λ w. required BadField (op_in w rest) op_checked) op j in
    let named = word_text-word_in first_version word w.0 w.1 in
    let made = required-ok BadField (op_in w.0 rest) op_checked op w.2 in
    let read = op_named w.0 rest made.0 made.1 in
    let ranged = checked-ok OutOfRange (is_in_range made.0) (checked CrossesWord (is_in_word made.0) (Ok made.0)) op made.2 in
    let inside = checked-ok CrossesWord (is_in_word made.0) (Ok made.0) op ranged.1 in
    let same : made.0 ≡ op = let ok = inside.1 in cc in
    subst (λ (x : Op). IsScriptLineOf line x) same (record {
      spelled =
          ap (λ (v : Word). join_with_byte 32 (word_text v ∷ arguments_of made.0)) read.named
          ∙ ap (λ (x : List ℕ). join_with_byte 32 (x ∷ arguments_of made.0)) named.0
          ∙ ap (λ (xs : List (List ℕ)). join_with_byte 32 (word ∷ xs)) (op_read w.0 rest made.0 made.1)
          ∙ joined_fields line (word ∷ rest) fs;
      allowed = is_op made.0 read.bytes ranged.0 inside.0;
      known = in_format-is_known first_version made.0 ∙ ap (is_known first_version) read.named ∙ named.1;
    })

pub script_line_judged-ok : (line : List ℕ) (op : Op) → script_line_judged line ≡ Ok op → IsScriptLineOf line op
unfolding script_line_judged
script_line_judged-ok line op j = op_judged-ok line (fields_of line) op refl j
