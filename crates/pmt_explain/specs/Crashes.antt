-- What a crash leaves of each line and each byte, what code holds of it, and the first store that it loses.
use Rattle.std.specs.Prelude.{◌≡◌, ℕ, ◌<◌, ◌≤◌, ◌⊎◌, ◌==◌, ◌&&◌, Bool, true, false, List, unwrap_or, nat_eq, slice_index_or, slice_set, if◌then◌else◌, length, Option, None, Some, suc, ◌+◌, ◌-◌, [], ◌∷◌, IsSomeAnd, slice_get, slice_index, nat_le, min, MatchOption, ◌↔◌, ◌||◌, nat_lt, IsTrue, Contains, ◌≢◌, ◌*◌, ◌/◌, ◌%◌, ◌^◌}
use Rattle.std.specs.declared.hash.FoldHasher.{FoldHasher}
use Rattle.std.specs.declared.hash.BuildHasherDefault.{BuildHasherDefault}
use Rattle.indexmap.specs.IndexMap.{IndexMap, get, keys}
use Rattle.pmt_explain.specs.Prelude.{Act, Stores, Flushes, Clflushes, Fences, Asserts, Recording, IsAct, count_at, front_at, writes, Written, with_line, lines_of, history, Event, Layout, Span, image_of, act, event, IsTrace, IsStrictlyIncreasing, persisted_at, IsLost, IsLastIn, IsNoLater, IsFirstLost, ByteStore, Failure}
use Rattle.pmt_tables.specs.Lasts.{last_at, last_number}
use Rattle.pmt_explain.specs.declared.crash.Crash.{Crash}
use Rattle.pmt_explain.specs.declared.bytes.StoredByte.{StoredByte}
use Rattle.pmt_explain.specs.declared.bytes.CrashByte.{CrashByte}
use Rattle.pmt_explain.specs.declared.lines.LineCount.{LineCount}
use Rattle.pmt_explain.specs.declared.wanted.Wanted.{Wanted}
use Rattle.pmt_explain.specs.declared.wanted.Wanted.TheVariants.{Lost, Off}
use Rattle.pmt_explain.specs.declared.first_in.Search.{Search}
use Rattle.pmt_explain.specs.Following.{AreSafePlaces}

-- Event k is a flush of line l that is complete at place n: a clflush, or a flush whose thread has fenced since.
pub data IsCompleted (T : Recording) (l n k : ℕ) : Type 0 where
  AtOnce : IsAct T k (Clflushes l) → k ≤ n → IsCompleted T l n k
  Fenced : (t j : ℕ) → IsAct T k (Flushes t l) → IsAct T j (Fences t) → k < j → j ≤ n → IsCompleted T l n k

-- It is the last one, or 0 where there is none.
pub record IsLastCompleted (T : Recording) (l n k : ℕ) : Type 0 where
  pub reached : (k ≡ 0) ⊎ IsCompleted T l n k
  pub last : (j : ℕ) → IsCompleted T l n j → j ≤ k

-- The stores to a line that are safe at a place are those before its last complete flush.
abbrev pub SafeBeforeLastFlush : Type 0
SafeBeforeLastFlush = (T : Recording) (l n k : ℕ) → IsLastCompleted T l n k → front_at T l n ≡ count_at T l k

-- The numbers of flushes, by line.
abbrev pub Numbers : Type 0
Numbers = IndexMap ℕ ℕ (BuildHasherDefault FoldHasher)

abbrev pub flush_at : Numbers → ℕ → ℕ
flush_at flushes l = unwrap_or (get nat_eq flushes l) 0

-- The act is a complete flush of line l, where `fenced` marks the threads that fence after it.
abbrev pub completes : ℕ → Act → List Bool → Bool
completes l (Stores k w) fenced = false
completes l (Flushes t k) fenced = (k == l) && slice_index_or fenced t false
completes l (Clflushes k) fenced = k == l
completes l (Fences t) fenced = false
completes l Asserts fenced = false

-- The threads that fence from the act on.
abbrev pub fenced_before : Act → List Bool → List Bool
fenced_before (Stores l w) fenced = fenced
fenced_before (Flushes t l) fenced = fenced
fenced_before (Clflushes l) fenced = fenced
fenced_before (Fences t) fenced = slice_set fenced t true
fenced_before Asserts fenced = fenced

-- The persisted stores to line l are those by place n if it is the full line, and else those before its last complete flush.
abbrev pub persisted_by : ℕ → Option ℕ → ℕ → ℕ → ℕ
persisted_by n None flush l = flush
persisted_by n (Some full) flush l = if l == full then n else flush

abbrev pub persisted_to : Crash → ℕ → ℕ
persisted_to c l = persisted_by c.place c.full (flush_at c.flushes l) l

-- It is the crash at place n, with all stores to the full line. Its own place is at most the last event's.
pub record IsCrashAt (T : Recording) (n : ℕ) (full : Option ℕ) (c : Crash) : Type 0 where
  pub within : c.place ≤ length T.events
  pub same : history T c.place ≡ history T n
  pub by_place : (l : ℕ) → persisted_to c l ≤ c.place
  pub persisted : (l : ℕ) → persisted_at T n full l ≡ count_at T l (persisted_to c l)

-- ---- The last persisted stores to bytes while the events before a crash are met

-- Event i, which is this act, is a persisted store to the byte at b.
abbrev pub keeps : Crash → ℕ → Act → ℕ → Bool
keeps c i (Stores l w) b = nat_le i (persisted_to c l) && writes w b
keeps c i (Flushes t l) b = false
keeps c i (Clflushes l) b = false
keeps c i (Fences t) b = false
keeps c i Asserts b = false

-- The number of the last persisted store to the byte at b.
abbrev pub last_kept : Crash → ℕ → List Act → Option ℕ
last_kept c b [] = None
last_kept c b (a ∷ h) = if keeps c (suc (length h)) a b then Some (suc (length h)) else last_kept c b h

-- Of each byte from `first` on, the number of the last persisted store to it among the first n events, or 0.
abbrev pub AreLastKept : Recording → Crash → ℕ → ℕ → List ℕ → Type 0
AreLastKept T c first n last = (k : ℕ) → k < length last → slice_index last k ≡ unwrap_or (last_kept c (first + k) (history T n)) 0

-- The byte that store i wrote at b.
abbrev pub IsWrittenBy : ℕ → Written → ℕ → Option StoredByte → Type 0
IsWrittenBy i w b o = IsSomeAnd o (λ y. (y.store ≡ i) × (Some y.value ≡ slice_get w.bytes (b - w.addr)))

-- This is the byte at b as store i wrote it, with no store where i is 0.
pub record IsReadOf (T : Recording) (i b : ℕ) (x : CrashByte) : Type 0 where
  pub byte : x.byte ≡ b
  pub none : i ≡ 0 → x.last ≡ None
  pub some : (l : ℕ) (w : Written) → IsAct T i (Stores l w) → writes w b ≡ true → IsWrittenBy i w b x.last

-- These are the bytes from `first` on as these stores wrote them.
pub record AreReadOf (T : Recording) (first : ℕ) (stores : List ℕ) (bytes : List CrashByte) : Type 0 where
  pub size : length bytes ≡ length stores
  pub each : (k : ℕ) (x : CrashByte) → slice_get bytes k ≡ Some x → IsReadOf T (slice_index stores k) (first + k) x

-- ---- The counts of lines while the events before a crash are met

-- The counts, by line.
abbrev pub Counts : Type 0
Counts = IndexMap ℕ LineCount (BuildHasherDefault FoldHasher)

-- The count of line l; of a line without events, one with no stores.
abbrev pub count_in : Counts → ℕ → LineCount
count_in counts l = unwrap_or (get nat_eq counts l) (record { line = l; stores = 0; persisted = 0 })

-- So many stores more.
abbrev pub raised : LineCount → ℕ → ℕ → LineCount
raised x stores persisted = record { line = x.line; stores = x.stores + stores; persisted = x.persisted + persisted }

-- The lines that are stored or flushed, with one more act.
abbrev pub lines_after : Act → List ℕ → List ℕ
lines_after (Stores l w) lines = with_line l lines
lines_after (Flushes t l) lines = with_line l lines
lines_after (Clflushes l) lines = with_line l lines
lines_after (Fences t) lines = lines
lines_after Asserts lines = lines

-- The count of line k, with one more act, which is event number i.
abbrev pub count_after : Crash → ℕ → Act → ℕ → LineCount → LineCount
count_after c i (Stores l w) k x = if l == k then raised x 1 (if nat_le i (persisted_to c l) then 1 else 0) else x
count_after c i (Flushes t l) k x = if l == k then raised x 0 0 else x
count_after c i (Clflushes l) k x = if l == k then raised x 0 0 else x
count_after c i (Fences t) k x = x
count_after c i Asserts k x = x

-- The count of line l among the first n events.
abbrev pub count_by : Recording → Crash → ℕ → ℕ → LineCount
count_by T c n l = record { line = l; stores = count_at T l n; persisted = count_at T l (min n (persisted_to c l)) }

-- The counts are those of the lines among the first n events.
pub record AreCountsBy (T : Recording) (c : Crash) (n : ℕ) (counts : Counts) : Type 0 where
  pub lines : keys counts ≡ lines_of (history T n)
  pub each : (l : ℕ) → count_in counts l ≡ count_by T c n l

-- ---- What a crash leaves of each line and each byte, and the first store that it loses

-- The line that an act stores to.
abbrev pub stored_line : Act → Option ℕ
stored_line (Stores l w) = Some l
stored_line (Flushes t l) = None
stored_line (Clflushes l) = None
stored_line (Fences t) = None
stored_line Asserts = None

abbrev pub line_of_event : Layout → Option Event → Option ℕ
line_of_event f None = None
line_of_event f (Some e) = stored_line (act f e)

-- The line of the kept store: the crash leaves all its stores persisted.
abbrev pub full_line : Recording → Option ByteStore → Option ℕ
full_line T None = None
full_line T (Some y) = line_of_event T.format (event T y.store)

-- How many stores of line l the crash at place n leaves persisted.
abbrev pub line_count : Recording → ℕ → Option ℕ → ℕ → LineCount
line_count T n full l = record { line = l; stores = count_at T l n; persisted = persisted_at T n full l }

-- Event i stores to the byte at b, and is persisted after the crash at place n.
pub record IsPersistedStore (T : Recording) (n : ℕ) (full : Option ℕ) (b i : ℕ) : Type 0 where
  pub line : ℕ
  pub what : Written
  pub is_store : IsAct T i (Stores line what)
  pub writes_byte : writes what b ≡ true
  pub persisted : count_at T line i ≤ persisted_at T n full line

-- It is the last one.
pub record IsLastPersisted (T : Recording) (n : ℕ) (full : Option ℕ) (b i : ℕ) : Type 0 where
  pub is_persisted : IsPersistedStore T n full b i
  pub last : (j : ℕ) → IsPersistedStore T n full b j → j ≤ i

abbrev pub value_of : Option StoredByte → Option ℕ
value_of None = None
value_of (Some y) = Some y.value

-- What the crash at place n leaves at the byte at b.
pub record IsCrashByte (T : Recording) (n : ℕ) (full : Option ℕ) (b : ℕ) (x : CrashByte) : Type 0 where
  pub byte : x.byte ≡ b
  pub value : value_of x.last ≡ image_of (persisted_at T n full) (history T n) b
  pub last : MatchOption x.last ((j : ℕ) → ¬ IsPersistedStore T n full b j) (λ y. IsLastPersisted T n full b y.store)

-- What it leaves at each byte of A, lowest first.
pub record AreCrashBytes (T : Recording) (n : ℕ) (full : Option ℕ) (A : Span) (bytes : List CrashByte) : Type 0 where
  pub size : length bytes ≡ A.len
  pub each : (k : ℕ) (x : CrashByte) → slice_get bytes k ≡ Some x → IsCrashByte T n full (A.addr + k) x

-- ---- The stores that a crash loses, and the first of them

-- The byte of a store comes before the first one so far: by the number of the store, and then by the address.
abbrev pub comes_before : ByteStore → Option ByteStore → Bool
comes_before x None = true
comes_before x (Some y) = nat_lt x.store y.store || (x.store == y.store && nat_lt x.byte y.byte)

-- The store of the first one so far, or the greatest number where there is none.
abbrev pub store_bound : Option ByteStore → ℕ
store_bound None = 18446744073709551615
store_bound (Some x) = x.store

-- The one that is found is picked exactly where it comes before the first one and has the property.
abbrev pub Picks : Type 0 → Option ByteStore → ByteStore → Option ByteStore → Type 0
Picks P first found result = (IsTrue (comes_before found first) × P × (result ≡ Some found)) ⊎ ((IsTrue (comes_before found first) → P → ⊥) × (result ≡ first))

-- Of the last stores among the first i events to covered bytes of A none that has the property comes before x, which has it.
pub record IsFirstAmong (T : Recording) (i : ℕ) (A : Span) (P Covered : ℕ → Type 0) (x : ByteStore) : Type 0 where
  pub is_last : IsLastIn T i A x
  pub has : P x.store
  pub first : (z : ByteStore) → IsLastIn T i A z → Covered z.byte → P z.store → IsNoLater x z

-- The first one, if there is one.
abbrev pub IsFirstIn : Recording → ℕ → Span → (ℕ → Type 0) → (ℕ → Type 0) → Option ByteStore → Type 0
IsFirstIn T i A P Covered None = (z : ByteStore) → IsLastIn T i A z → Covered z.byte → P z.store → ⊥
IsFirstIn T i A P Covered (Some x) = IsFirstAmong T i A P Covered x

-- Every byte is covered.
abbrev pub Anywhere : ℕ → Type 0
Anywhere b = Unit

-- The crash at place n loses store x, which stands below index k of the list.
pub record IsLostAmong (T : Recording) (n : ℕ) (full : Option ℕ) (last : List ℕ) (k x : ℕ) : Type 0 where
  pub index : ℕ
  pub below : index < k
  pub store : slice_index last index ≡ x
  pub is_lost : IsLost T n full x

-- All such stores.
abbrev pub AreLostAmong : Recording → ℕ → Option ℕ → List ℕ → ℕ → List ℕ → Type 0
AreLostAmong T n full last k lost = (x : ℕ) → Contains lost x ↔ IsLostAmong T n full last k x

-- The crash at place n loses store x, which is the last one of the first i events to some byte of A.
pub record IsLostIn (T : Recording) (i : ℕ) (A : Span) (n : ℕ) (full : Option ℕ) (x : ℕ) : Type 0 where
  pub byte : ℕ
  pub is_last : IsLastIn T i A (record { store = x; byte = byte })
  pub is_lost : IsLost T n full x

-- All such stores, by rising number and each once.
pub record AreLostIn (T : Recording) (i : ℕ) (A : Span) (n : ℕ) (full : Option ℕ) (stores : List ℕ) : Type 0 where
  pub rising : IsStrictlyIncreasing stores
  pub each : (x : ℕ) → Contains stores x ↔ IsLostIn T i A n full x

-- ---- A crash that keeps one store without another

-- Event y is a store to another line than this one.
pub record IsStoreOff (T : Recording) (apart : Option ℕ) (y : ℕ) : Type 0 where
  pub line : ℕ
  pub what : Written
  pub is_store : IsAct T y (Stores line what)
  pub other : Some line ≢ apart

-- The crash right after store y, with all stores to its line persisted, loses a store that is the last one of the first i events to a
-- byte of A.
pub record KeepsWithout (T : Recording) (i : ℕ) (A : Span) (y : ℕ) : Type 0 where
  pub line : ℕ
  pub what : Written
  pub is_store : IsAct T y (Stores line what)
  pub without : ByteStore
  pub is_last : IsLastIn T i A without
  pub is_lost : IsLost T y (Some line) without.store

-- That crash, and the first of these stores that it loses.
pub record IsCrashAfter (T : Recording) (i : ℕ) (A : Span) (y : ByteStore) (f : Failure) : Type 0 where
  pub line : ℕ
  pub what : Written
  pub place : f.place ≡ y.store
  pub kept : f.kept ≡ Some y
  pub is_store : IsAct T y.store (Stores line what)
  pub lost : IsFirstLost T i A y.store (Some line) f.lost

-- Of the last stores to bytes of B, y is the first one that can be kept without another, and this is the crash after it.
pub record IsCrashAfterFirst (T : Recording) (i : ℕ) (A B : Span) (f : Failure) : Type 0 where
  pub y : ByteStore
  pub first : IsFirstAmong T i B (KeepsWithout T i A) Anywhere y
  pub crash : IsCrashAfter T i A y f

-- None of them can, where there is no crash.
abbrev pub IsFirstCrash : Recording → ℕ → Span → Span → Option Failure → Type 0
IsFirstCrash T i A B None = (z : ByteStore) → IsLastIn T i B z → KeepsWithout T i A z.store → ⊥
IsFirstCrash T i A B (Some f) = IsCrashAfterFirst T i A B f

-- Store x is wanted.
abbrev pub Wants : Recording → Wanted → ℕ → Type 0
Wants T (Lost place full) x = IsLost T place full x
Wants T (Off line) x = IsStoreOff T line x

-- What is wanted is of a place of the trace.
abbrev pub IsWithin : Recording → Wanted → Type 0
IsWithin T (Lost place full) = place ≤ length T.events
IsWithin T (Off line) = Unit

-- ---- The first one of the last stores to bytes of a range that is wanted, while the bytes are met

-- Some bytes are searched for stores of a trace, whose safe places are known.
pub record IsSearch (S : Search) : Type 0 where
  pub safe : AreSafePlaces S.trace.now S.safe.now
  pub within : IsWithin S.trace.now S.wanted
  pub is_trace : IsTrace S.trace.now
  pub some : S.low < S.high
  pub below : S.high ≤ 2 ^ 48
  pub whole : S.whole ≡ true → 64 ≤ S.trace.now.format.line_size

abbrev pub range_of : Search → Span
range_of S = record { addr = S.low; len = S.high - S.low }

-- Of the last stores among the first i events to bytes of the range below b this is the first one that is wanted.
abbrev pub IsFirstBelow : Search → ℕ → ℕ → Option ByteStore → Type 0
IsFirstBelow S i b o = IsFirstIn S.trace.now i (range_of S) (Wants S.trace.now S.wanted) (λ c. c < b) o

-- From the first one below a byte it goes on to the first one below another.
abbrev pub GoesOn : Search → ℕ → ℕ → ℕ → Option ByteStore → Option ByteStore → Type 0
GoesOn S i from to first result = IsFirstBelow S i from first → IsFirstBelow S i to result

-- At this index the words have the last stores of the first i events to those bytes of the word that lie in the range.
abbrev pub IsWordIn : Search → ℕ → List (List ℕ) → ℕ → ℕ → Type 0
IsWordIn S i words index word = (k : ℕ) → k < 8 → S.low ≤ word * 8 + k → word * 8 + k < S.high → last_at words index k ≡ last_number S.trace.now i (word * 8 + k)

-- So it is of each word of the block.
abbrev pub IsBlockIn : Search → ℕ → List (List ℕ) → ℕ → ℕ → Type 0
IsBlockIn S i words place block = (word : ℕ) → word / 8 ≡ block → IsWordIn S i words (place * 8 + word % 8) word
