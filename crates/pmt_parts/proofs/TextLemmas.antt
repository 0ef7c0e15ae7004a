-- The events of a text of any length, piece by piece.
use Rattle.pmt_parts.proofs.Prelude.{◌≡◌, ℕ, suc, ◌+◌, ◌<◌, ◌≤◌, ◌⊎◌, length-append, append-nil, lt-ltb, inl, inr, Bool, true, false, cond, ◌==◌, nat_lt, if◌then◌else◌, List, [], ◌∷◌, ◌++◌, length, Some, None, Result, Ok, Err, append_assoc, refl, sym, ap, subst, ◌∙◌, arith, onto_first, event_limit, Items, Coming, ends_with, fault_at, item_then, rest_fault, lines_coming, text_lines, header_then, whole, EndsLine, line_count, long_item, long_coming, items_then, EventsOfPieces, FaultsOfPieces}
use Rattle.pmt_text.specs.declared.kind.TextKind.{TextKind}
use Rattle.pmt_text.specs.declared.kind.TextKind.TheVariants.{Truncated, TooManyEvents}
use Rattle.pmt_text.specs.declared.kind.TextError.{TextError}
use Rattle.pmt_text.specs.declared.kind.SourceError.TheVariants.{Text}
use Rattle.pmt_text.specs.Judging.{line_judged}
use Rattle.pmt_text.proofs.ComingLemmas.{text_lines-nonempty}
use Rattle.pmt_text.proofs.ReaderLemmas.{judged-lines}
use Rattle.pmt_text.proofs.TextLemmas.{first_line}

-- ---- Lines

-- a line more, where others follow
short-line : {A : Type 0} (rule : List ℕ → Result A TextKind) (first before : ℕ) (line : List ℕ) (lines : List (List ℕ)) → (lines ≡ [] → ⊥) →
    lines_coming rule false first before (line ∷ lines) ≡ item_then (first + before) before (rule line) (lines_coming rule false first (before + 1) lines)
unfolding lines_coming
short-line rule first before line [] some = absurd (some refl)
short-line rule first before line (next ∷ tail) some = refl

long-line : {A : Type 0} (rule : List ℕ → Result A TextKind) (number : ℕ) (line : List ℕ) (lines : List (List ℕ)) → (lines ≡ [] → ⊥) →
    long_coming rule number (line ∷ lines) ≡ long_item number (rule line) (long_coming rule (number + 1) lines)
unfolding long_coming
long-line rule number line [] some = absurd (some refl)
long-line rule number line (next ∷ tail) some = refl

-- what stands after the last LF is empty
short-end : {A : Type 0} (rule : List ℕ → Result A TextKind) (first before : ℕ) → lines_coming rule false first before ([] ∷ []) ≡ ends_with None
unfolding lines_coming
short-end rule first before = refl

some-lines : (ls tail : List (List ℕ)) → (tail ≡ [] → ⊥) → ls ++ tail ≡ [] → ⊥
some-lines [] tail some e = some e
some-lines (l ∷ ls) tail some e = cc

-- an item that comes without a fault is one, and more may come
item-told : {A : Type 0} (number before : ℕ) (j : Result A TextKind) (later : Items A) (xs : List A) → item_then number before j later ≡ record { items = xs; fault = None } →
    (x : A) × (j ≡ Ok x) × (x ∷ later.items ≡ xs) × (later.fault ≡ None)
item-told number before (Err kind) later xs e = let wrong : Some (fault_at number kind) ≡ None = ap (λ i. i.fault) e in absurd cc
item-told {A = A} number before (Ok x) later xs e = go (nat_lt before event_limit) e
  where
    go : (t : Bool) → (if t then record { items = x ∷ later.items; fault = later.fault } else ends_with (Some (fault_at number TooManyEvents))) ≡ record { items = xs; fault = None } →
        (y : A) × (◌≡◌ {A = Result A TextKind} (Ok x) (Ok y)) × (y ∷ later.items ≡ xs) × (later.fault ≡ None)
    go true same = (x, refl, ap (λ i. i.items) same, ap (λ i. i.fault) same)
    go false same = let wrong : Some (fault_at number TooManyEvents) ≡ None = ap (λ i. i.fault) same in absurd cc

-- Lines of which each is an item are so many items of the whole, whatever lines follow.
abbrev Follows : {A : Type 0} → (List ℕ → Result A TextKind) → ℕ → List (List ℕ) → List (List ℕ) → List A → Type 0
Follows rule number ls tail xs = (length xs ≡ length ls) × (long_coming rule number (ls ++ tail) ≡ items_then xs (long_coming rule (number + length ls) tail))

one-more : {A : Type 0} (rule : List ℕ → Result A TextKind) (number : ℕ) (l : List ℕ) (ls tail : List (List ℕ)) (x : A) (xs : List A) → (tail ≡ [] → ⊥) → rule l ≡ Ok x → Follows rule (number + 1) ls tail xs →
    Follows rule number (l ∷ ls) tail (x ∷ xs)
one-more rule number l ls tail x xs some is rest = (
  ap (λ n. suc n) rest.0,
  long-line rule number l (ls ++ tail) (some-lines ls tail some) ∙ ap (λ j. long_item number j (long_coming rule (number + 1) (ls ++ tail))) is
      ∙ ap (λ i. long_item number (Ok x) i) rest.1 ∙ ap (λ n. items_then (x ∷ xs) (long_coming rule n tail)) place,
)
  where
    place : number + 1 + length ls ≡ number + suc (length ls)
    place = omega arith

pub lines-follow : {A : Type 0} (rule : List ℕ → Result A TextKind) (first before number : ℕ) (ls tail : List (List ℕ)) (xs : List A) → (tail ≡ [] → ⊥) →
    lines_coming rule false first before (ls ++ [] ∷ []) ≡ record { items = xs; fault = None } → Follows rule number ls tail xs
lines-follow rule first before number [] tail xs some e =
    let none : [] ≡ xs = ap (λ i. i.items) (sym (short-end rule first before) ∙ e) in
    let place : number ≡ number + 0 = omega arith in
    subst (Follows rule number [] tail) none (refl, ap (λ n. long_coming rule n tail) place)
lines-follow rule first before number (l ∷ ls) tail xs some e =
    let more : (ls ++ [] ∷ []) ≡ [] → ⊥ = some-lines ls ([] ∷ []) (λ h. cc) in
    let later = lines_coming rule false first (before + 1) (ls ++ [] ∷ []) in
    let x = item-told (first + before) before (rule l) later xs (sym (short-line rule first before l (ls ++ [] ∷ []) more) ∙ e) in
    let rest = lines-follow rule first (before + 1) (number + 1) ls tail later.items some (ap (λ o. record { items = later.items; fault = o }) x.3) in
    subst (Follows rule number (l ∷ ls) tail) x.2 (one-more rule number l ls tail x.0 later.items some x.1 rest)

-- ---- The lines of bytes

split-cond : (b : ℕ) (t : Bool) (parts rest : List (List ℕ)) → (parts ≡ [] → ⊥) → cond t ([] ∷ (parts ++ rest)) (onto_first b (parts ++ rest)) ≡ cond t ([] ∷ parts) (onto_first b parts) ++ rest
split-cond b true parts rest some = refl
split-cond b false [] rest some = absurd (some refl)
split-cond b false (part ∷ parts) rest some = refl

-- what stands before an LF, and what stands after it
pub lines-both : (front rest : List ℕ) → text_lines (front ++ 10 ∷ rest) ≡ text_lines front ++ text_lines rest
lines-both [] rest = refl
lines-both (b ∷ front) rest =
    ap (λ ls. cond (b == 10) ([] ∷ ls) (onto_first b ls)) (lines-both front rest) ∙ split-cond b (b == 10) (text_lines front) (text_lines rest) (text_lines-nonempty front)

-- whole lines, and the rest
record IsLines (piece rest : List ℕ) : Type 0 where
  lines : List (List ℕ)
  own : text_lines piece ≡ lines ++ [] ∷ []
  both : text_lines (piece ++ rest) ≡ lines ++ text_lines rest

lines-of : (piece rest : List ℕ) → (piece ≡ []) ⊎ EndsLine piece → IsLines piece rest
lines-of piece rest (inl none) = record { lines = []; own = ap text_lines none; both = ap (λ bs. text_lines (bs ++ rest)) none }
lines-of piece rest (inr (front, is)) = record {
  lines = text_lines front;
  own = ap text_lines is ∙ lines-both front [];
  both = ap (λ bs. text_lines (bs ++ rest)) is ∙ ap text_lines (append_assoc front (10 ∷ []) rest) ∙ lines-both front rest;
}

pub events_of_pieces : EventsOfPieces
events_of_pieces head piece rest f B number one format whole_lines is = (
  sym same,
  ap (long_coming (line_judged f) number) split.both ∙ subst (λ n. long_coming (line_judged f) number (split.lines ++ text_lines rest) ≡ items_then B.events (long_coming (line_judged f) (number + n) (text_lines rest))) (sym follow.0) follow.1,
)
  where
    split : IsLines piece rest
    split = lines-of piece rest whole_lines

    came : header_then (Some f) false (text_lines piece) ≡ whole B
    came = ap (λ o. header_then o false (text_lines piece)) (sym format) ∙ sym (judged-lines (head ++ 10 ∷ piece) head piece (first_line head piece one)) ∙ is

    same : f ≡ B.format
    same = let some : Some f ≡ Some B.format = ap (λ c. c.format) came in cc

    items : lines_coming (line_judged f) false 2 0 (split.lines ++ [] ∷ []) ≡ record { items = B.events; fault = None }
    items = ap (lines_coming (line_judged f) false 2 0) (sym split.own) ∙ ap (λ (c : Coming). record { items = c.events; fault = c.fault }) came

    follow : Follows (line_judged f) number split.lines (text_lines rest) B.events
    follow = lines-follow (line_judged f) 2 0 number split.lines (text_lines rest) B.events (text_lines-nonempty rest) items

-- ---- Faults

-- a fault at a line is the same one so many lines later
same-fault : (number later m : ℕ) (kind : TextKind) (t : TextError) → later ≡ number + m → Some (fault_at number kind) ≡ Some (Text t) → Some (fault_at later kind) ≡ Some (Text (record { line = t.line + m; kind = t.kind }))
same-fault number later m kind t place e =
    let one : record { line = number; kind = kind } ≡ t = cc in
    ap (λ n. Some (fault_at n kind)) place ∙ ap (λ (u : TextError). Some (Text (record { line = u.line + m; kind = u.kind }))) one

-- What holds of the last lines holds of all.
abbrev Shifts : {A : Type 0} → (List ℕ → Result A TextKind) → ℕ → TextError → List (List ℕ) → List (List ℕ) → ℕ → Type 0
Shifts rule m t short long before =
    (lines_coming rule false 2 before short).fault ≡ Some (Text t) → (long_coming rule (2 + before + m) long).fault ≡ Some (Text (record { line = t.line + m; kind = t.kind }))

item-shifts : {A : Type 0} (m before : ℕ) (t : TextError) (j : Result A TextKind) (short long : Items A) → before < event_limit → (short.fault ≡ Some (Text t) → long.fault ≡ Some (Text (record { line = t.line + m; kind = t.kind }))) →
    (item_then (2 + before) before j short).fault ≡ Some (Text t) → (long_item (2 + before + m) j long).fault ≡ Some (Text (record { line = t.line + m; kind = t.kind }))
item-shifts m before t (Err kind) short long few rest e = same-fault (2 + before) (2 + before + m) m kind t refl e
item-shifts m before t (Ok x) short long few rest e =
    rest (sym (ap (λ b. (if b then record { items = x ∷ short.items; fault = short.fault } else ends_with (Some (fault_at (2 + before) TooManyEvents))).fault) (lt-ltb before event_limit few)) ∙ e)

lines-shift : {A : Type 0} (rule : List ℕ → Result A TextKind) (m : ℕ) (t : TextError) (ls short long : List (List ℕ)) (before : ℕ) → before + length ls ≤ event_limit → (short ≡ [] → ⊥) → (long ≡ [] → ⊥) →
    ((b : ℕ) → Shifts rule m t short long b) → Shifts rule m t (ls ++ short) (ls ++ long) before
lines-shift rule m t [] short long before few some also last e = last before e
lines-shift rule m t (l ∷ ls) short long before few some also last e =
    let next : 2 + before + m + 1 ≡ 2 + (before + 1) + m = omega arith in
    let rest = lines-shift rule m t ls short long (before + 1) (omega (arith, few)) some also last in
    ap (λ i. i.fault) (long-line rule (2 + before + m) l (ls ++ long) (some-lines ls long also))
    ∙ item-shifts m before t (rule l) (lines_coming rule false 2 (before + 1) (ls ++ short)) (long_coming rule (2 + before + m + 1) (ls ++ long)) (omega (arith, few))
    (λ f. ap (λ n. (long_coming rule n (ls ++ long)).fault) next ∙ rest f) (sym (ap (λ i. i.fault) (short-line rule 2 before l (ls ++ short) (some-lines ls short some))) ∙ e)

-- lines and a last one
record IsEnded (lines : List (List ℕ)) : Type 0 where
  front : List (List ℕ)
  last : List ℕ
  whole : lines ≡ front ++ last ∷ []

ended-lines : (l : List ℕ) (ls : List (List ℕ)) → IsEnded (l ∷ ls)
ended-lines l [] = record { front = []; last = l; whole = refl }
ended-lines l (next ∷ ls) = let x = ended-lines next ls in record { front = l ∷ x.front; last = x.last; whole = ap (λ ys. l ∷ ys) x.whole }

short-rest : {A : Type 0} (rule : List ℕ → Result A TextKind) (before : ℕ) (rest : List ℕ) → lines_coming rule false 2 before (rest ∷ []) ≡ ends_with (rest_fault false (2 + before) rest)
unfolding lines_coming
short-rest rule before rest = refl

long-rest : {A : Type 0} (rule : List ℕ → Result A TextKind) (number : ℕ) (rest : List ℕ) → long_coming rule number (rest ∷ []) ≡ ends_with (rest_fault false number rest)
unfolding long_coming
long-rest rule number rest = refl

-- of a last line without LF
rest-shifts : {A : Type 0} (rule : List ℕ → Result A TextKind) (m : ℕ) (t : TextError) (rest : List ℕ) (before : ℕ) → Shifts rule m t (rest ∷ []) (rest ∷ []) before
rest-shifts rule m t rest before e = ap (λ i. i.fault) (long-rest rule (2 + before + m) rest) ∙ go rest (sym (ap (λ i. i.fault) (short-rest rule before rest)) ∙ e)
  where
    go : (bytes : List ℕ) → rest_fault false (2 + before) bytes ≡ Some (Text t) → rest_fault false (2 + before + m) bytes ≡ Some (Text (record { line = t.line + m; kind = t.kind }))
    go [] none = absurd cc
    go (b ∷ bytes) is = same-fault (2 + before) (2 + before + m) m Truncated t refl is

-- as many lines stand there as end, and one
lines-length : (bytes : List ℕ) → length (text_lines bytes) ≡ suc (line_count bytes)
lines-length [] = refl
lines-length (b ∷ bytes) = go (b == 10) (text_lines bytes) (text_lines-nonempty bytes) (lines-length bytes)
  where
    go : (t : Bool) (parts : List (List ℕ)) → (parts ≡ [] → ⊥) → length parts ≡ suc (line_count bytes) → length (cond t ([] ∷ parts) (onto_first b parts)) ≡ suc (if t then suc (line_count bytes) else line_count bytes)
    go true parts some is = ap (λ n. suc n) is
    go false [] some is = absurd (some refl)
    go false (part ∷ parts) some is = is

pub faults_of_pieces : FaultsOfPieces
faults_of_pieces head piece rest f t m one format few whole_lines is = go whole_lines
  where
    came : (lines_coming (line_judged f) false 2 0 (text_lines piece)).fault ≡ Some (Text t)
    came = ap (λ (c : Coming). c.fault) (ap (λ o. header_then o false (text_lines piece)) (sym format) ∙ sym (judged-lines (head ++ 10 ∷ piece) head piece (first_line head piece one))) ∙ is

    Wanted : List (List ℕ) → Type 0
    Wanted lines = (long_coming (line_judged f) (2 + m) lines).fault ≡ Some (Text (record { line = t.line + m; kind = t.kind }))

    place : 2 + 0 + m ≡ 2 + m
    place = omega arith

    by : (ls short long : List (List ℕ)) → length ls ≤ event_limit → (short ≡ [] → ⊥) → (long ≡ [] → ⊥) → ((b : ℕ) → Shifts (line_judged f) m t short long b) → text_lines piece ≡ ls ++ short → Wanted (ls ++ long)
    by ls short long fewer some also last split =
        subst (λ n. (long_coming (line_judged f) n (ls ++ long)).fault ≡ Some (Text (record { line = t.line + m; kind = t.kind }))) place
        (lines-shift (line_judged f) m t ls short long 0 (omega (arith, fewer)) some also last (subst (λ lines. (lines_coming (line_judged f) false 2 0 lines).fault ≡ Some (Text t)) split came))

    ends : (lines : List (List ℕ)) → (lines ≡ [] → ⊥) → IsEnded lines
    ends [] some = absurd (some refl)
    ends (l ∷ ls) some = ended-lines l ls

    none-shifts : (tail : List (List ℕ)) (b : ℕ) → Shifts (line_judged f) m t ([] ∷ []) tail b
    none-shifts tail b e = let none : None ≡ Some (Text t) = sym (ap (λ i. i.fault) (short-end (line_judged f) 2 b)) ∙ e in absurd cc

    go : EndsLine piece ⊎ (rest ≡ []) → Wanted (text_lines (piece ++ rest))
    go (inl ends_line) =
        let split = lines-of piece rest (inr ends_line) in
        let long : length (split.lines ++ [] ∷ []) ≡ suc (line_count piece) = ap (λ ls. length ls) (sym split.own) ∙ lines-length piece in
        subst Wanted (sym split.both) (by split.lines ([] ∷ []) (text_lines rest) (omega (arith, long, few, length-append split.lines ([] ∷ []))) (λ e. cc) (text_lines-nonempty rest) (none-shifts (text_lines rest)) split.own)
    go (inr none) =
        let x = ends (text_lines piece) (text_lines-nonempty piece) in
        let long : length (x.front ++ x.last ∷ []) ≡ suc (line_count piece) = ap (λ ls. length ls) (sym x.whole) ∙ lines-length piece in
        let all : piece ++ rest ≡ piece = ap (λ ys. piece ++ ys) none ∙ append-nil piece in
        subst Wanted (sym (ap text_lines all ∙ x.whole))
        (by x.front (x.last ∷ []) (x.last ∷ []) (omega (arith, long, few, length-append x.front (x.last ∷ []))) (λ e. cc) (λ e. cc) (rest-shifts (line_judged f) m t x.last) x.whole)
