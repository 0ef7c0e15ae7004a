-- What a table of a line tells of a trace, and how the verdicts come about from the tables.
use Rattle.std.specs.Prelude.{◌≡◌, ℕ, ◌<◌, ◌≤◌, List, length, map, Option, None, Some, IfSome, MatchOption, ◌≢◌, Bool, true, false, ◌==◌, nat_le, if◌then◌else◌, All, slice_index_or}
use Rattle.pmt_laws.specs.Prelude.{line_of, Recording, IsTrace, history, lines_of, front_at, last_store, up_to_last, Verdict, Layout, Span, Event, Op, Store, Clwb, ClflushOpt, Clflush, Sfence, Mfence, IsPersist, IsOrderedBefore, event, IsRising, Has, InSpan, IsVerdictOf, AllByRecursion, option_map}
use Rattle.pmt_lines.specs.Jobs.{IsJob, LineFound}
use Rattle.pmt_asserts.specs.declared.oldest.Oldest.{Oldest}
use Rattle.pmt_asserts.specs.declared.oldest.Earliest.{Earliest}

abbrev pub found_line : LineFound → ℕ
found_line found = found.job.line

-- The results of the jobs of the trace: one for each line that is stored or flushed, in order of first appearance.
pub record AreResultsOf (T : Recording) (results : List LineFound) : Type 0 where
  pub covering : map found_line results ≡ lines_of (history T (length T.events))
  pub jobs : AllByRecursion (λ found. IsJob T found.job) results

-- Where the result is of the trace, p holds of the trace and its line.
abbrev pub OfEachTrace : LineFound → (Recording → ℕ → Type 0) → Type 0
OfEachTrace found p = (T : Recording) → IsTrace T → IsJob T found.job → p T found.job.line

-- The bytes from low to high lie in line l.
abbrev pub LieIn : Recording → ℕ → ℕ → ℕ → Type 0
LieIn T l low high = (b : ℕ) → low ≤ b → b < high → line_of T.format b ≡ l

-- By place n the last one of the first i events that stores to the byte at b is persisted for sure.
abbrev pub PersistedBy : Recording → ℕ → ℕ → ℕ → Type 0
PersistedBy T i n b = IfSome (last_store b (history T i)) (λ x. x.rank ≤ front_at T x.line n)

-- The last one of the first i events that stores to the byte at b has at most this rank.
abbrev pub RankedBy : Recording → ℕ → ℕ → ℕ → Type 0
RankedBy T i rank b = IfSome (last_store b (history T i)) (λ x. x.rank ≤ rank)

abbrev pub EachFrom : ℕ → ℕ → (ℕ → Type 0) → Type 0
EachFrom low high P = (b : ℕ) → low ≤ b → b < high → P b

-- The last one of the first i events that stores to the byte at b has at least this rank and comes at this place or later.
abbrev pub ComesFrom : Recording → ℕ → ℕ → ℕ → ℕ → Type 0
ComesFrom T i rank place b =
    IfSome (last_store b (history T i)) (λ y. (rank ≤ y.rank) × ((n : ℕ) × (place ≤ n) × (up_to_last b (history T i) ≡ history T n)))

-- It is the store to line l with this rank, which comes at this place.
pub record IsLastAt (T : Recording) (i l rank place b : ℕ) : Type 0 where
  pub store : last_store b (history T i) ≡ Some (record { line = l; rank = rank })
  pub past : up_to_last b (history T i) ≡ history T place
  pub by_now : place ≤ i

-- Of the last ones of the first i events that store to a byte from low to high, in line l, this is the first.
pub record IsOldest (T : Recording) (i l low high : ℕ) (o : Oldest) : Type 0 where
  pub first : EachFrom low high (ComesFrom T i o.rank o.number)
  pub reached : (b : ℕ) × (low ≤ b) × (b < high) × IsLastAt T i l o.rank o.number b

-- None of the first i events stores to the byte at b.
abbrev pub IsUnwritten : Recording → ℕ → ℕ → Type 0
IsUnwritten T i b = last_store b (history T i) ≡ None

abbrev pub IsOldestOf : Recording → ℕ → ℕ → ℕ → ℕ → Option Oldest → Type 0
IsOldestOf T i l low high o = MatchOption o (EachFrom low high (IsUnwritten T i)) (IsOldest T i l low high)

-- ---- How the verdicts come about from the tables

-- The tables are those of the results of all jobs of the trace, which has this format, and n events at least.
pub record Knows (tables : List LineFound) (format : Layout) (n : ℕ) (T : Recording) : Type 0 where
  pub results : AreResultsOf T tables
  pub within : n ≤ length T.events
  pub formatted : T.format ≡ format
  pub trace : IsTrace T

-- P holds of each byte of A in this line.
abbrev pub EachIn : Recording → ℕ → Span → (ℕ → Type 0) → Type 0
EachIn T line A P = (b : ℕ) → InSpan A b → line_of T.format b ≡ line → P b

-- Of the last ones of the first i events that store to a byte of A in this line, this is the first.
pub record IsOldestIn (T : Recording) (i line : ℕ) (A : Span) (o : Oldest) : Type 0 where
  pub first : EachIn T line A (ComesFrom T i o.rank o.number)
  pub reached : (b : ℕ) × InSpan A b × (line_of T.format b ≡ line) × IsLastAt T i line o.rank o.number b

abbrev pub IsOldestOfLine : Recording → ℕ → ℕ → Span → Option Oldest → Type 0
IsOldestOfLine T i line A o = MatchOption o (EachIn T line A (IsUnwritten T i)) (IsOldestIn T i line A)

-- It is not the line that is left out.
abbrev pub IsTaken : Option ℕ → ℕ → Type 0
IsTaken skipped line = IfSome skipped (λ s. line ≢ s)

-- P holds of each byte of A that lies in another line than that left out.
abbrev pub EachApart : Recording → Option ℕ → Span → (ℕ → Type 0) → Type 0
EachApart T skipped A P = (b : ℕ) → InSpan A b → IsTaken skipped (line_of T.format b) → P b

-- The last one of the first i events that stores to the byte at b comes at this place or later.
abbrev pub ComesNoEarlier : Recording → ℕ → ℕ → ℕ → Type 0
ComesNoEarlier T i place b = IfSome (last_store b (history T i)) (λ y. (n : ℕ) × (place ≤ n) × (up_to_last b (history T i) ≡ history T n))

-- Of the last ones of the first i events that store to a byte of A, this is the first, where those to one line are left out.
pub record IsEarliest (T : Recording) (i : ℕ) (skipped : Option ℕ) (A : Span) (e : Earliest) : Type 0 where
  pub first : EachApart T skipped A (ComesNoEarlier T i e.number)
  pub taken : IsTaken skipped e.line
  pub reached : (b : ℕ) × (rank : ℕ) × InSpan A b × (line_of T.format b ≡ e.line) × IsLastAt T i e.line rank e.number b

abbrev pub IsEarliestOf : Recording → ℕ → Option ℕ → Span → Option Earliest → Type 0
IsEarliestOf T i skipped A o = MatchOption o (EachApart T skipped A (IsUnwritten T i)) (IsEarliest T i skipped A)

-- The earlier one of those of the lines before and that of this line.
abbrev pub earlier_of : Option Earliest → ℕ → Option Oldest → Option Earliest
earlier_of earliest line None = earliest
earlier_of None line (Some o) = Some (record { line = line; number = o.number })
earlier_of (Some e) line (Some o) = if nat_le e.number o.number then Some e else Some (record { line = line; number = o.number })

-- Where the byte at b is written, the last store to the byte at a has at most the rank of that to the byte at b.
abbrev pub RanksBefore : Recording → ℕ → ℕ → ℕ → Type 0
RanksBefore T i a b = IfSome (last_store b (history T i)) (λ y. RankedBy T i y.rank a)

-- In this line the last stores to bytes of A come before those to bytes of B.
abbrev pub IsLineInOrder : Recording → ℕ → Span → Span → ℕ → Type 0
IsLineInOrder T i A B line = EachIn T line A (λ a. EachIn T line B (RanksBefore T i a))

-- It is so, and they are persisted for sure by a place.
abbrev pub IsLineOrdered : Recording → ℕ → Span → Span → ℕ → Option ℕ → Type 0
IsLineOrdered T i A B line by = IsLineInOrder T i A B line × IfSome by (λ n. EachIn T line A (PersistedBy T i n))

-- The place by which the stores to a line have to be persisted: that of the earliest store to another line.
abbrev pub place_for : Earliest → Option Earliest → ℕ → Option ℕ
place_for e other line = if line == e.line then option_map (λ o. o.number) other else Some e.number

-- The verdict of the event with this number, if it is an assertion.
abbrev pub IsVerdictAt : Recording → ℕ → Option Verdict → Type 0
IsVerdictAt T number o = MatchOption o ((v : Verdict) → IsVerdictOf T v → v.event ≢ number) (λ v. (v.event ≡ number) × IsVerdictOf T v)

-- The op is an assertion.
abbrev pub asserts : Op → Bool
asserts (Store w) = false
asserts (Clwb a) = false
asserts (ClflushOpt a) = false
asserts (Clflush a) = false
asserts Sfence = false
asserts Mfence = false
asserts (IsPersist r) = true
asserts (IsOrderedBefore r q) = true

-- Rising numbers, among them those of all assertions of the first n events, and none above n.
pub record AreAssertions (T : Recording) (n : ℕ) (numbers : List ℕ) : Type 0 where
  pub rising : IsRising 0 numbers
  pub within : (k : ℕ) → Has numbers k → k ≤ n
  pub all : (k : ℕ) (e : Event) → k ≤ n → event T k ≡ Some e → asserts e.op ≡ true → Has numbers k

-- place_of tells of each line where a result of it stands in the list, if there is one.
pub record IsPlacing (results : List LineFound) (place_of : ℕ → Option ℕ) : Type 0 where
  pub found : (l k : ℕ) → place_of l ≡ Some k → (k < length results) × ((d : LineFound) → (slice_index_or results k d).job.line ≡ l)
  pub all : (l : ℕ) → place_of l ≡ None → All (λ r. r.job.line ≢ l) results
