-- The entries of an explanation as JSON, with events, causes, reasons and mends.
use Rattle.std.specs.Prelude.{ℕ, ◌+◌, ◌-◌, ◌^◌, min, ◌≡◌, Bool, List, [], ◌∷◌, ◌++◌, Option, None, Some, Result, IsOkAnd, codes, map, false}
use Rattle.std.specs.Borrow.{Bor}
use Rattle.serde_json.specs.Data.{Data, null, boolean, number, string, array, object, unsigned, Members, no_members, member, put}
use Rattle.serde_json.specs.View.{view, items_of}
use Rattle.serde_json.specs.declared.value.Value.{Value}
use Rattle.serde_json.specs.Written.{compact_text}
use Rattle.pmt_text.specs.Prelude.{Span, Event, Op, Store, Clwb, ClflushOpt, Clflush, Sfence, Mfence, IsPersist, IsOrderedBefore, Recording, event}
use Rattle.pmt_text.specs.Spelling.{address, event_line, line_address}
use Rattle.pmt_explanation.specs.Prelude.{Cause, Reason, ByteStore, Mend, mend_of, LineCount, StoredByte, CrashByte, Dropped, LostGroup, OverwrittenGroup, Labels, label_of, RangeAfter, ShownCrash, Unwritten}
use Rattle.pmt_reasons.specs.declared.cause.Cause.TheVariants as causes
use Rattle.pmt_reasons.specs.declared.reason.Reason.TheVariants as reasons
use Rattle.pmt_reasons.specs.declared.mend.Mend.TheVariants as mends

-- A line of the answer: the value, and LF.
abbrev pub json_line : Data → List ℕ
json_line d = compact_text d ++ 10 ∷ []

abbrev pub members_from : List (List ℕ × Data) → Members
members_from [] = no_members
members_from (m ∷ ms) = member m.0 m.1 (members_from ms)

-- The object with these members, whose keys are in order.
abbrev pub object_of : List (List ℕ × Data) → Data
object_of ms = object (members_from ms)

-- The members with these keys, put in one after the other.
abbrev pub put_all : List (Bor (List ℕ) × Value) → Members → Members
put_all [] ms = ms
put_all (f ∷ fs) ms = put_all fs (put f.0.now (view f.1) ms)

-- All of these values were made, and the object is that with these members and then the values, put in by their keys one after the other.
abbrev pub IsMadeOf : {E : Type 0} → List (Bor (List ℕ) × Result Value E) → Members → Data → Type 0
IsMadeOf [] ms d = d ≡ object ms
IsMadeOf (f ∷ fs) ms d = IsOkAnd f.1 (λ v. IsMadeOf fs (put f.0.now (view v) ms) d)

abbrev pub array_of : List Data → Data
array_of ds = array (items_of ds)

abbrev pub count_data : ℕ → Data
count_data n = number (unsigned n)

abbrev pub or_null : {A : Type 0} → (A → Data) → Option A → Data
or_null f None = null
or_null f (Some x) = f x

abbrev pub address_data : ℕ → Data
address_data a = string (address a)

-- A line by the address of its first byte.
abbrev pub line_data : Recording → ℕ → Data
line_data T l = address_data (line_address T.format l)

-- The address of a store, of a flush, or of an assertion's range or its first one.
abbrev pub address_of : Op → Option ℕ
address_of (Store w) = Some w.addr
address_of (Clwb a) = Some a
address_of (ClflushOpt a) = Some a
address_of (Clflush a) = Some a
address_of Sfence = None
address_of Mfence = None
address_of (IsPersist r) = Some r.addr
address_of (IsOrderedBefore r q) = Some r.addr

-- The line of event n in the text of its trace, at most the highest number of 64 bits.
abbrev pub text_line : ℕ → ℕ
text_line n = min (n + 1) (2 ^ 64 - 1)

abbrev pub known_event_data : Labels → ℕ → Event → Data
known_event_data labels n e = object_of
    ((codes "address", or_null address_data (address_of e.op))
    ∷ (codes "event", count_data n)
    ∷ (codes "label", or_null string (label_of labels n))
    ∷ (codes "line", count_data (text_line n))
    ∷ (codes "thread", count_data e.thread)
    ∷ (codes "words", string (event_line e))
    ∷ [])

-- Event n as a person finds it again, or null.
abbrev pub event_data : Recording → Labels → ℕ → Data
event_data T labels n = or_null (known_event_data labels n) (event T n)

abbrev pub byte_store_data : Recording → Labels → ByteStore → Data
byte_store_data T labels x = object_of
    ((codes "byte", address_data x.byte)
    ∷ (codes "store", event_data T labels x.store)
    ∷ [])

abbrev pub range_data : Span → Data
range_data r = object_of
    ((codes "address", address_data r.addr)
    ∷ (codes "length", count_data r.len)
    ∷ [])

-- A cause that has nothing but its name.
abbrev pub named_cause : List ℕ → Data
named_cause name = object_of ((codes "cause", string name) ∷ [])

abbrev pub unfenced_data : Recording → Labels → ℕ → ℕ → Option ℕ → Data
unfenced_data T labels flush thread other = object_of
    ((codes "cause", string (codes "unfenced"))
    ∷ (codes "flush", event_data T labels flush)
    ∷ (codes "other", or_null (event_data T labels) other)
    ∷ (codes "thread", count_data thread)
    ∷ [])

abbrev pub cause_data : Recording → Labels → Cause → Data
cause_data T labels causes.Later = named_cause (codes "later")
cause_data T labels causes.Unflushed = named_cause (codes "unflushed")
cause_data T labels (causes.Unfenced flush thread other) = unfenced_data T labels flush thread other

abbrev pub reason_name : Reason → List ℕ
reason_name reasons.Safe = codes "safe"
reason_name reasons.Unfenced = codes "unfenced"
reason_name (reasons.Repeated by) = codes "repeated"
reason_name (reasons.Overtaken by) = codes "overtaken"
reason_name reasons.Empty = codes "empty"
reason_name reasons.Useless = codes "useless"

-- The event in whose favour the other is dropped.
abbrev pub by_of : Reason → Option ℕ
by_of reasons.Safe = None
by_of reasons.Unfenced = None
by_of (reasons.Repeated by) = Some by
by_of (reasons.Overtaken by) = Some by
by_of reasons.Empty = None
by_of reasons.Useless = None

abbrev pub reason_data : Recording → Labels → Reason → Data
reason_data T labels r = object_of
    ((codes "by", or_null (event_data T labels) (by_of r))
    ∷ (codes "reason", string (reason_name r))
    ∷ [])

-- Before this event, or before the end.
abbrev pub fence_data : ℕ → ℕ → Option ℕ → Data
fence_data thread after before = object_of
    ((codes "after", count_data after)
    ∷ (codes "before", or_null count_data before)
    ∷ (codes "mend", string (codes "fence"))
    ∷ (codes "thread", count_data thread)
    ∷ [])

abbrev pub flush_data : Recording → ℕ → ℕ → Option ℕ → Data
flush_data T line after before = object_of
    ((codes "after", count_data after)
    ∷ (codes "before", or_null count_data before)
    ∷ (codes "cache_line", line_data T line)
    ∷ (codes "mend", string (codes "flush_and_fence"))
    ∷ [])

abbrev pub store_first_data : ℕ → Option ℕ → Bool → Data
store_first_data store before same_line = object_of
    ((codes "before", or_null count_data before)
    ∷ (codes "mend", string (codes "store_first"))
    ∷ (codes "same_line", boolean same_line)
    ∷ (codes "store", count_data store)
    ∷ [])

abbrev pub mend_data : Recording → Mend → Data
mend_data T (mends.Fence thread after before) = fence_data thread after before
mend_data T (mends.FlushAndFence line after before) = flush_data T line after before
mend_data T (mends.StoreFirst store before same_line) = store_first_data store before same_line

-- ---- The entries of an explanation as JSON

abbrev pub line_count_data : Recording → LineCount → Data
line_count_data T c = object_of
    ((codes "cache_line", line_data T c.line)
    ∷ (codes "persisted", count_data c.persisted)
    ∷ (codes "stores", count_data c.stores)
    ∷ [])

-- The number of the store that the byte is from.
abbrev pub byte_store : CrashByte → Data
byte_store b = or_null (λ (s : StoredByte). count_data s.store) b.last

-- What the byte holds.
abbrev pub byte_value : CrashByte → Data
byte_value b = or_null (λ (s : StoredByte). count_data s.value) b.last

abbrev pub range_after_data : RangeAfter → Data
range_after_data r = object_of
    ((codes "address", address_data r.range.addr)
    ∷ (codes "length", count_data r.range.len)
    ∷ (codes "stores", array_of (map byte_store r.bytes.items))
    ∷ (codes "values", array_of (map byte_value r.bytes.items))
    ∷ [])

-- A failed assertion in full.
abbrev pub failure_data : Recording → Labels → ShownCrash → Data
failure_data T labels c = object_of
    ((codes "cause", cause_data T labels c.shown.cause)
    ∷ (codes "event", event_data T labels c.shown.event)
    ∷ (codes "kept", or_null (byte_store_data T labels) c.shown.failure.kept)
    ∷ (codes "kind", string (codes "failure"))
    ∷ (codes "lines", array_of (map (line_count_data T) c.lines.items))
    ∷ (codes "lost", byte_store_data T labels c.shown.failure.lost)
    ∷ (codes "mend", mend_data T c.shown.mend)
    ∷ (codes "more_lines", count_data c.more_lines)
    ∷ (codes "place", count_data c.shown.failure.place)
    ∷ (codes "ranges", array_of (map range_after_data c.ranges.items))
    ∷ (codes "whole_lines", count_data c.whole_lines)
    ∷ [])

-- Stores that are never persisted.
abbrev pub lost_data : Recording → Labels → LostGroup → Data
lost_data T labels g = object_of
    ((codes "cache_line", line_data T g.line)
    ∷ (codes "cause", cause_data T labels g.cause)
    ∷ (codes "count", count_data g.count)
    ∷ (codes "first", event_data T labels g.first)
    ∷ (codes "kind", string (codes "never_persisted"))
    ∷ (codes "last", event_data T labels g.last)
    ∷ (codes "mend", mend_data T (mend_of g.cause g.line g.last None false))
    ∷ [])

-- A flush or fence that is dropped.
abbrev pub dropped_data : Recording → Labels → Dropped → Data
dropped_data T labels d = object_of
    ((codes "event", event_data T labels d.event)
    ∷ (codes "kind", string (codes "dropped"))
    ∷ (codes "reason", reason_data T labels d.reason)
    ∷ [])

-- Stores that are overwritten.
abbrev pub overwritten_data : Recording → Labels → OverwrittenGroup → Data
overwritten_data T labels g = object_of
    ((codes "cache_line", line_data T g.line)
    ∷ (codes "count", count_data g.count)
    ∷ (codes "earlier", event_data T labels g.first.earlier)
    ∷ (codes "kind", string (codes "overwritten"))
    ∷ (codes "later", event_data T labels g.first.later)
    ∷ (codes "same", count_data g.same)
    ∷ [])

abbrev pub ranges_of : Option Span → List Span
ranges_of None = []
ranges_of (Some r) = r ∷ []

-- An assertion on bytes that no store has written.
abbrev pub unwritten_data : Recording → Labels → Unwritten → Data
unwritten_data T labels u = object_of
    ((codes "event", event_data T labels u.event)
    ∷ (codes "kind", string (codes "unwritten"))
    ∷ (codes "ranges", array_of (map range_data (ranges_of u.first ++ ranges_of u.second)))
    ∷ [])

abbrev pub failure_line : Recording → Labels → ShownCrash → List ℕ
failure_line T labels c = json_line (failure_data T labels c)

abbrev pub lost_line : Recording → Labels → LostGroup → List ℕ
lost_line T labels g = json_line (lost_data T labels g)

abbrev pub dropped_line : Recording → Labels → Dropped → List ℕ
dropped_line T labels d = json_line (dropped_data T labels d)

abbrev pub overwritten_line : Recording → Labels → OverwrittenGroup → List ℕ
overwritten_line T labels g = json_line (overwritten_data T labels g)

abbrev pub unwritten_line : Recording → Labels → Unwritten → List ℕ
unwritten_line T labels u = json_line (unwritten_data T labels u)
