-- Whether a store goes on from the word or the line before it, and whether a flush is one line short.
use Rattle.std.specs.Prelude.{ℕ, ◌+◌, ◌%◌, ◌^◌, ◌==◌, ◌&&◌, ◌||◌, Bool, false, if◌then◌else◌, nat_le, nat_lt, List, length, Option, None, Some, suc, ◌-◌, true}
use Rattle.pmt_laws.specs.Prelude.{Event, Op, Store, Clwb, ClflushOpt, Clflush, Sfence, Mfence, IsPersist, IsOrderedBefore, Layout, Written, Recording, event, Act, Stores, Flushes, Clflushes, Fences, Asserts, act, act_of}
use Rattle.pmt_causes.specs.Groups.{origin_of}
use Rattle.pmt_hints.specs.declared.split_word.Part.{Part}
use Rattle.pmt_hints.specs.declared.per_thread.PerThread.{PerThread}
use Rattle.pmt_hints.specs.Hints.{GoesOn, IsLostOrLate}
use Rattle.pmt_hints.specs.Claiming.{store_line}
use Rattle.pmt_hints.specs.Numbers.{LastFlushes, flush_at, of_thread}
use Rattle.pmt_causes.specs.contracts.failure_keys.OriginPartialEq.TheImpl as origin_eq

-- The last store of thread t, once the op with this number by thread u is met.
abbrev pub store_of_thread : Op → ℕ → ℕ → ℕ → ℕ → ℕ
store_of_thread (Store w) u number t old = if u == t then number else old
store_of_thread o u number t old = old

-- The bytes of an op that is a store, and of an event.
abbrev pub part : Written → Part
part w = record { addr = w.addr; len = length w.bytes }

abbrev pub op_part : Op → Option Part
op_part (Store w) = Some (part w)
op_part o = None

abbrev pub event_part : Option Event → Option Part
event_part None = None
event_part (Some e) = op_part e.op

-- The second part's bytes follow those of the first one, at most 8 together, and begin a line.
abbrev pub joins : Layout → Part → Part → Bool
joins f a b = a.addr + a.len == b.addr && nat_le (a.len + b.len) 8 && b.addr % f.line_size == 0

-- The part begins or ends a line; and it may be one of two that join.
abbrev pub begins_or_ends : Layout → Part → Bool
begins_or_ends f a = a.addr % f.line_size == 0 || (a.addr + a.len) % 2 ^ 64 % f.line_size == 0

abbrev pub may_join : Layout → Part → Bool
may_join f a = nat_lt a.len 8 && begins_or_ends f a

-- Events j and i of thread t come from one place.
abbrev pub is_same_place : List (Option ℕ) → ℕ → ℕ → ℕ → Bool
is_same_place labels j i t = (origin_eq.ghosts).eq (origin_of labels j t) (origin_of labels i t)

-- The part at i by thread t joins the one at j.
abbrev pub split_parts : Layout → List (Option ℕ) → ℕ → ℕ → ℕ → Option Part → Option Part → Bool
split_parts f labels j t i None a = false
split_parts f labels j t i (Some b) None = false
split_parts f labels j t i (Some b) (Some a) = (joins f a b || joins f b a) && is_same_place labels j i t

-- The op at i by thread t is a store, and joins the event at j.
abbrev pub split_so : Recording → List (Option ℕ) → ℕ → ℕ → Op → ℕ → Bool
split_so T labels j t o i = split_parts T.format labels j t i (op_part o) (event_part (event T j))

-- ---- Whether a store goes on from a line, and whether a flush is one line short

-- The line of an event that is a store.
abbrev pub event_line : Layout → Option Event → Option ℕ
event_line f None = None
event_line f (Some e) = store_line (act f e)

-- The second part's bytes follow those of the first one.
abbrev pub is_behind : Option Part → Option Part → Bool
is_behind None b = false
is_behind (Some a) None = false
is_behind (Some a) (Some b) = a.addr + a.len == b.addr

-- Event i of thread t, which is this op, comes from the place of event j, or its bytes follow those of that one.
abbrev pub is_joined : Recording → List (Option ℕ) → ℕ → ℕ → Op → ℕ → Bool
is_joined T labels j t o i = is_same_place labels j i t || is_behind (event_part (event T j)) (op_part o)

-- The line from which a store goes on, if the two are joined. These are its line and that of the store before it.
abbrev pub line_from : Bool → Option ℕ → Option ℕ → Option ℕ
line_from joined None before = None
line_from joined (Some m) None = None
line_from joined (Some m) (Some l) = if suc l == m && joined then Some l else None

-- The line from which event i of thread t, which is this op, goes on, where the store of its thread before it is event j.
abbrev pub line_left : Recording → List (Option ℕ) → ℕ → ℕ → Op → ℕ → Option ℕ
line_left T labels j t o i = line_from (is_joined T labels j t o i) (store_line (act_of T.format t o)) (event_line T.format (event T j))

-- The line before.
abbrev pub line_before : Option ℕ → Option ℕ
line_before None = None
line_before (Some l) = if l == 0 then None else Some (l - 1)

abbrev pub line_if : Bool → Option ℕ → Option ℕ
line_if true line = line
line_if false line = None

-- The number of line l by thread t, once thread u's event with this number is met, which tells of this line.
abbrev pub line_by : Option ℕ → ℕ → ℕ → ℕ → ℕ → ℕ → ℕ
line_by None u number t l old = old
line_by (Some k) u number t l old = if u == t && k == l then number else old

-- The number of thread t, alike, for all lines.
abbrev pub last_by : Option ℕ → ℕ → ℕ → ℕ → ℕ → ℕ
last_by None u number t old = old
last_by (Some k) u number t old = if u == t then number else old

-- A store of a trace with so many events is lost or late: it waits for so many fences, and this is its safe place.
abbrev pub is_lost_or_late : ℕ → ℕ → ℕ → Bool
is_lost_or_late waited safe events = nat_le 2 waited || nat_le 1 waited && nat_lt events safe

-- Event i of thread t goes on from line l, and is lost or late.
abbrev pub IsRest : Recording → List (Option ℕ) → ℕ → ℕ → ℕ → Type 0
IsRest T labels t l i = GoesOn T labels t l i × IsLostOrLate T t (suc l) i

-- It goes on from the line right after line l.
abbrev pub GoesFurther : Recording → List (Option ℕ) → ℕ → ℕ → ℕ → Type 0
GoesFurther T labels t l i = GoesOn T labels t (suc l) i

-- By the last fences, and of each line the last of these two: a flush of line l by thread t is one line short.
abbrev pub is_line_short : PerThread → LastFlushes → LastFlushes → ℕ → ℕ → Bool
is_line_short fences rests further t l = nat_lt (of_thread fences t) (flush_at rests t l) && nat_le (flush_at further t l) (of_thread fences t)

-- The same of an act.
abbrev pub short_so : PerThread → LastFlushes → LastFlushes → Act → Bool
short_so fences rests further (Flushes t l) = is_line_short fences rests further t l
short_so fences rests further a = false
