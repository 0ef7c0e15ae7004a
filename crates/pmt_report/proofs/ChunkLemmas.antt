-- A text that is put piece by piece, and written chunk by chunk.
use Rattle.std.proofs.Common.{◌≡◌, ℕ, zero, suc, ◌+◌, ◌-◌, ◌*◌, ◌<◌, ◌≤◌, ◌^◌, List, [], ◌∷◌, ◌++◌, length, take, Option, None, Some, Result, Ok, Err, vec_capacity, vec_len, sym, ap, ◌∙◌, subst, append_assoc, append-nil, arith}
use Rattle.std.proofs.lemmas.List.{length-append, take-append-le, take_all}
use Rattle.std.specs.Io.KnownBytes.{Appends, Keeps}
use Rattle.pmt_laws.specs.Prelude.{Finding, Verdict}
use Rattle.pmt_report.specs.Reports.{entries, report, report_head, report_end}
use Rattle.pmt_report.specs.declared.chunks.Chunks.{Chunks}
use Rattle.pmt_report.specs.declared.fault.RunError.{RunError}
use Rattle.pmt_report.specs.declared.fault.RunError.TheVariants.{BadWorkers, Text, TooMany, Read, PastEnd, OutOfMemory, Write}
use Rattle.pmt_report.specs.Runs.{WritesText, IsPut, WritesReport}

-- what is appended to what was appended
pub appends-more : (before old new : Option (List ℕ)) (a b : List ℕ) → Appends before old a → Appends old new b → Appends before new (a ++ b)
appends-more None old new a b h g = _
appends-more (Some xs) None new a b h g = absurd h
appends-more (Some xs) (Some ys) None a b h g = absurd g
appends-more (Some xs) (Some ys) (Some zs) a b h g = g ∙ ap (λ (l : List ℕ). l ++ b) h ∙ append_assoc xs a b

take-past : (xs ys : List ℕ) (n m : ℕ) → m ≡ length xs + n → take m (xs ++ ys) ≡ xs ++ take n ys
take-past [] ys n m e = ap (λ (k : ℕ). take k ys) (the e)
  where
    the : m ≡ length {A = ℕ} [] + n → m ≡ n
    the h = omega (arith, h)
take-past (x ∷ xs) ys n zero e = absurd (omega (arith, e))
take-past (x ∷ xs) ys n (suc m) e = ap (λ (l : List ℕ). x ∷ l) (take-past xs ys n m (omega (arith, e)))

-- a write that failed within a text failed within a longer one
pub written-within : (before new : Option (List ℕ)) (text rest : List ℕ) (e : RunError) → WritesText before new text (Err e) → WritesText before new (text ++ rest) (Err e)
written-within before new text rest (Write written) h =
    let long = length-append text rest in
    (subst (Appends before new) (sym (take-append-le written text rest h.1)) h.0, omega (arith, long, h.1))
written-within before new text rest BadWorkers h = h
written-within before new text rest (Text f) h = h
written-within before new text rest TooMany h = h
written-within before new text rest Read h = h
written-within before new text rest (PastEnd events) h = h
written-within before new text rest OutOfMemory h = h

-- how many bytes are put
pub put-long : (before now : Option (List ℕ)) (text : List ℕ) (c : Chunks) → IsPut before now text c → length text ≡ c.written + length c.waiting.items
put-long before now text c put = ap length put.parts ∙ length-append put.out c.waiting.items ∙ ap (λ (n : ℕ). n + length c.waiting.items) (sym put.count)

-- all that waited is out
pub waiting-out : (before old now : Option (List ℕ)) (text : List ℕ) (c new : Chunks) → IsPut before old text c → Appends old now c.waiting.items → new.waiting.items ≡ []
    → new.written ≡ c.written + length c.waiting.items → vec_capacity new.waiting ≡ vec_capacity c.waiting → IsPut before now text new
waiting-out before old now text c new put g none count same =
    let room = put.room in
    record {
      out = text;
      parts = sym (append-nil text) ∙ ap (λ (l : List ℕ). text ++ l) (sym none);
      written = subst (Appends before now) (sym put.parts) (appends-more before old now put.out c.waiting.items put.written g);
      count = count ∙ sym (put-long before old text c put);
      room = omega (arith, same, room);
    }

-- some of what waited is out, and then a write failed
pub waiting-fails : (before old now : Option (List ℕ)) (text : List ℕ) (c : Chunks) (n : ℕ) → IsPut before old text c → Appends old now (take n c.waiting.items) → n < length c.waiting.items
    → WritesText before now text (Err (Write (c.written + n)))
waiting-fails before old now text c n put g within =
    let long = put-long before old text c put in
    let first : take (c.written + n) text ≡ put.out ++ take n c.waiting.items =
    ap (take (c.written + n)) put.parts ∙ take-past put.out c.waiting.items n (c.written + n) (ap (λ (k : ℕ). k + n) put.count) in
    (subst (Appends before now) (sym first) (appends-more before old now put.out (take n c.waiting.items) put.written g), omega (arith, long, within))

-- the last flush failed, or did not
pub all-written : (before old now : Option (List ℕ)) (text : List ℕ) (c : Chunks) → IsPut before old text c → c.waiting.items ≡ [] → Keeps old now → Appends before now text
all-written before old now text c put none kept = go before old now put.written kept
  where
    all : put.out ≡ text
    all = sym (put.parts ∙ ap (λ (l : List ℕ). put.out ++ l) none ∙ append-nil put.out)

    go : (before old now : Option (List ℕ)) → Appends before old put.out → Keeps old now → Appends before now text
    go None old now h k = _
    go (Some xs) None now h k = absurd h
    go (Some xs) (Some ys) None h k = absurd k
    go (Some xs) (Some ys) (Some zs) h k = k ∙ h ∙ ap (λ (l : List ℕ). xs ++ l) all

pub all-counted : (before old : Option (List ℕ)) (text : List ℕ) (c : Chunks) → IsPut before old text c → c.waiting.items ≡ [] → c.written ≡ length text
all-counted before old text c put none =
    let long = put-long before old text c put in
    let zero : length c.waiting.items ≡ 0 = ap length none in
    omega (arith, long, zero)

pub flush-fails : (before old now : Option (List ℕ)) (text : List ℕ) (c : Chunks) → IsPut before old text c → c.waiting.items ≡ [] → Keeps old now
    → Appends before now (take c.written text) × (c.written ≤ length text)
flush-fails before old now text c put none kept =
    let all = all-counted before old text c put none in
    (subst (Appends before now) (sym (ap (λ (n : ℕ). take n text) all ∙ take_all (length text) text (omega arith))) (all-written before old now text c put none kept), omega (arith, all))

-- there is room for a line
pub no-room : (c : Chunks) (line : List ℕ) → 65536 ≤ vec_capacity c.waiting → length c.waiting.items + length line ≤ 65536 → vec_capacity c.waiting < vec_len c.waiting + length line → ⊥
no-room c line room fits full =
    let long = c.waiting.ok.0 in
    omega (arith, room, fits, full, long)

-- ---- Line by line

-- So much of the whole is put, and so many lines are left.
pub record IsUnderWay (before now : Option (List ℕ)) (whole left : List ℕ) (lines : ℕ) (c : Chunks) : Type 0 where
  pub sofar : List ℕ
  pub put : IsPut before now sofar c
  pub rest : sofar ++ left ≡ whole
  pub few : length sofar + 128 * lines ≤ 2 ^ 57

-- one line more
pub way-on : (before now then : Option (List ℕ)) (whole left line later : List ℕ) (lines fewer : ℕ) (c new : Chunks) (way : IsUnderWay before now whole left lines c) → left ≡ line ++ later
    → fewer ≡ lines - 1 → 1 ≤ lines → length line ≤ 128 → IsPut before then (way.sofar ++ line) new → IsUnderWay before then whole later fewer new
way-on before now then whole left line later lines fewer c new way split one some short put =
    let long = length-append way.sofar line in
    let few = way.few in
    record {
      sofar = way.sofar ++ line;
      put = put;
      rest = append_assoc way.sofar line later ∙ ap (λ (l : List ℕ). way.sofar ++ l) (sym split) ∙ way.rest;
      few = omega (arith, long, few, one, some, short);
    }

-- all lines are put
pub all-put : (before now : Option (List ℕ)) (whole left : List ℕ) (lines : ℕ) (c : Chunks) → IsUnderWay before now whole left lines c → left ≡ [] → IsPut before now whole c
all-put before now whole left lines c way none =
    subst (λ (t : List ℕ). IsPut before now t c) (sym (append-nil way.sofar) ∙ ap (λ (l : List ℕ). way.sofar ++ l) (sym none) ∙ way.rest) way.put

pub all-few : (before now : Option (List ℕ)) (text lines-of left : List ℕ) (lines : ℕ) (c : Chunks) → IsUnderWay before now (text ++ lines-of) left lines c → left ≡ [] → length lines-of ≤ 2 ^ 60
all-few before now text lines-of left lines c way none =
    let whole : length way.sofar + length left ≡ length text + length lines-of = sym (length-append way.sofar left) ∙ ap length way.rest ∙ length-append text lines-of in
    let zero-left : length left ≡ 0 = ap length none in
    let few = way.few in
    omega (arith, whole, zero-left, few)

-- a write failed at a line
pub line-fails : (before new : Option (List ℕ)) (sofar left line later whole : List ℕ) (e : RunError) → WritesText before new (sofar ++ line) (Err e) → left ≡ line ++ later → sofar ++ left ≡ whole
    → WritesText before new whole (Err e)
line-fails before new sofar left line later whole e h split rest =
    subst (λ (w : List ℕ). WritesText before new w (Err e)) (append_assoc sofar line later ∙ ap (λ (l : List ℕ). sofar ++ l) (sym split) ∙ rest) (written-within before new (sofar ++ line) later e h)

-- ---- The report

pub report-fails : (before new : Option (List ℕ)) (text rest whole : List ℕ) (e : RunError) → WritesText before new text (Err e) → text ++ rest ≡ whole → WritesReport before new whole (Err e)
report-fails before new text rest whole (Write written) h same = subst (λ (w : List ℕ). WritesText before new w (Err (Write written))) same (written-within before new text rest (Write written) h)
report-fails before new text rest whole BadWorkers h same = h
report-fails before new text rest whole (Text f) h same = h
report-fails before new text rest whole TooMany h same = h
report-fails before new text rest whole Read h same = h
report-fails before new text rest whole (PastEnd events) h same = h
report-fails before new text rest whole OutOfMemory h same = absurd h

pub report-ends : (before new : Option (List ℕ)) (text whole : List ℕ) (result : Result (Unit {0}) RunError) → WritesText before new text result → text ≡ whole → WritesReport before new whole result
report-ends before new text whole (Ok u) h same = subst (Appends before new) same h
report-ends before new text whole (Err e) h same = report-fails before new text [] whole e h (append-nil text ∙ same)

pub is-report : (events lines kept : ℕ) (fs : List Finding) (vs : List Verdict) (head last : List ℕ) → head ≡ report_head events lines → last ≡ report_end events kept
    → head ++ entries fs vs ++ last ≡ report events lines fs vs kept
unfolding report
is-report events lines kept fs vs head last a b =
    ap (λ (l : List ℕ). l ++ entries fs vs ++ last) a ∙ ap (λ (l : List ℕ). report_head events lines ++ entries fs vs ++ l) b
