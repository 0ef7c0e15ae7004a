-- What the user asks for: findings, by the labels of their events, and stores to be ignored.
use Rattle.std.specs.Prelude.{ℕ, List, Option, None, slice_get, unwrap_or, Bool, not, take, drop, length, option_map, codes, bytes_eq, ◌+◌, ◌-◌, ◌*◌, ◌^◌, ◌==◌, ◌&&◌, ◌||◌, nat_lt, nat_le, nat_eq, true, false, Some, is_none, string_bytes, if◌then◌else◌, [], ◌∷◌}
use Rattle.std.specs.List.{prefix_len, range_with_len, list_any, starts_with}
use Rattle.pmt_model.specs.Values.{Layout, line_of, Written}
use Rattle.pmt_model.specs.declared.event.Event.{Event}
use Rattle.pmt_model.specs.declared.event.Op.{Op}
use Rattle.pmt_model.specs.declared.event.Op.TheVariants.{Store, Clwb, ClflushOpt, Clflush, Sfence, Mfence, IsPersist, IsOrderedBefore}
use Rattle.pmt_model.specs.Traces.{Recording, event}
use Rattle.pmt_asked.specs.declared.labels.Labels.{Labels}
use Rattle.pmt_asked.specs.declared.choosing.Choice.{Choice}
use Rattle.pmt_asked.specs.declared.choosing.Kind.{Kind}
use Rattle.pmt_asked.specs.declared.ignoring.ByteRange.{ByteRange}
use Rattle.pmt_asked.specs.declared.ignoring.Ignored.{Ignored}
use Rattle.pmt_asked.specs.declared.ignoring.IgnoredPlace.{IgnoredPlace}
use Rattle.pmt_asked.specs.declared.choosing.Kind.TheVariants as kinds

-- The label of event n, if it has one.
abbrev pub label_of : Labels → ℕ → Option (List ℕ)
label_of labels n = unwrap_or (slice_get labels.texts n) None

-- What stands between a place and that of its caller.
abbrev pub caller : List ℕ
caller = codes " < "

-- It stands in the text at place k.
abbrev pub has_caller : List ℕ → ℕ → Bool
has_caller text k = bytes_eq caller (take (length caller) (drop k text))

-- How many bytes stand before the first caller.
abbrev pub inner_length : List ℕ → ℕ
inner_length text = prefix_len (λ k. not (has_caller text k)) (range_with_len 0 (length text))

-- The innermost frame of a label: what stands before its first caller, or all of it.
abbrev pub inner_frame : List ℕ → List ℕ
inner_frame text = take (inner_length text) text

-- The innermost frame of event i; none where it has no label.
abbrev pub frame_of : Labels → ℕ → Option (List ℕ)
frame_of labels i = option_map inner_frame (label_of labels i)

-- ---- Which findings are asked for

-- What a kind is called.
abbrev pub kind_name : Kind → List ℕ
kind_name kinds.Failure = codes "failure"
kind_name kinds.NeverPersisted = codes "never_persisted"
kind_name kinds.Dropped = codes "dropped"
kind_name kinds.Overwritten = codes "overwritten"
kind_name kinds.Unwritten = codes "unwritten"
kind_name kinds.Late = codes "late"
kind_name kinds.Hint = codes "hint"

abbrev pub is_same_kind : Kind → Kind → Bool
is_same_kind kinds.Failure kinds.Failure = true
is_same_kind kinds.NeverPersisted kinds.NeverPersisted = true
is_same_kind kinds.Dropped kinds.Dropped = true
is_same_kind kinds.Overwritten kinds.Overwritten = true
is_same_kind kinds.Unwritten kinds.Unwritten = true
is_same_kind kinds.Late kinds.Late = true
is_same_kind kinds.Hint kinds.Hint = true
is_same_kind a b = false

abbrev pub kind_allowed : Option Kind → Kind → Bool
kind_allowed None k = true
kind_allowed (Some only) k = is_same_kind only k

-- Findings of this kind are asked for.
abbrev pub is_kind_chosen : Choice → Kind → Bool
is_kind_chosen c k = kind_allowed c.only k

-- Event i is none before the first that is asked for, and none after the last.
abbrev pub stands_between : Choice → ℕ → Bool
stands_between c i = nat_le (unwrap_or c.from 0) i && nat_le i (unwrap_or c.to (2 ^ 64 - 1))

abbrev pub thread_allowed : Option ℕ → ℕ → Bool
thread_allowed None t = true
thread_allowed (Some asked) t = asked == t

abbrev pub is_thread_chosen : Choice → ℕ → Bool
is_thread_chosen c t = thread_allowed c.thread t

-- The bytes of r and the len bytes from a on meet.
abbrev pub meets : ByteRange → ℕ → ℕ → Bool
meets r a len = nat_lt r.addr (a + len) && nat_lt a (r.addr + r.len)

-- A byte of the line of address a is one of those of r.
abbrev pub meets_line : ByteRange → Layout → ℕ → Bool
meets_line r format a = meets r (line_of format a * format.line_size) format.line_size

abbrev pub op_touches : Layout → ByteRange → Op → Bool
op_touches format r (Store w) = meets r w.addr (length w.bytes)
op_touches format r (Clwb a) = meets_line r format a
op_touches format r (ClflushOpt a) = meets_line r format a
op_touches format r (Clflush a) = meets_line r format a
op_touches format r Sfence = false
op_touches format r Mfence = false
op_touches format r (IsPersist s) = meets r s.addr s.len
op_touches format r (IsOrderedBefore s q) = meets r s.addr s.len || meets r q.addr q.len

-- The op stores, asserts or flushes one of the bytes, if any are asked for.
abbrev pub op_meets : Layout → Option ByteRange → Op → Bool
op_meets format None op = true
op_meets format (Some r) op = op_touches format r op

-- The text stands in the label.
abbrev pub has_text : List ℕ → List ℕ → Bool
has_text label text = list_any (λ k. starts_with nat_eq (drop k label) text) (range_with_len 0 (length label))

abbrev pub label_has : Option (List ℕ) → List ℕ → Bool
label_has None text = false
label_has (Some label) text = has_text label text

abbrev pub label_allowed : Option (List ℕ) → Option (List ℕ) → Bool
label_allowed None label = true
label_allowed (Some text) label = label_has label text

abbrev pub is_label_chosen : Labels → Choice → ℕ → Bool
is_label_chosen labels c i = label_allowed (option_map (λ s. string_bytes s) c.label) (label_of labels i)

abbrev pub is_event_chosen : Recording → Labels → Choice → ℕ → Option Event → Bool
is_event_chosen T labels c i None = false
is_event_chosen T labels c i (Some e) = stands_between c i && is_thread_chosen c e.thread && op_meets T.format c.range e.op && is_label_chosen labels c i

-- Nothing but a kind is asked for.
abbrev pub chooses_all : Choice → Bool
chooses_all c = is_none c.thread && is_none c.range && is_none c.from && is_none c.to && is_none c.label

-- No option chooses findings.
abbrev pub tells_all : Choice → Bool
tells_all c = is_none c.only && chooses_all c

-- Findings of event i are asked for.
abbrev pub is_chosen : Recording → Labels → Choice → ℕ → Bool
is_chosen T labels c i = is_event_chosen T labels c i (event T i)

-- The finding of this kind at event i is asked for.
abbrev pub is_asked_for : Recording → Labels → Choice → Kind → ℕ → Bool
is_asked_for T labels c kind i = is_kind_chosen c kind && is_chosen T labels c i

-- ---- Which stores the user ignores

-- The byte lies in the range.
abbrev pub has_byte : ℕ → ByteRange → Bool
has_byte b r = nat_le r.addr b && nat_lt b (r.addr + r.len)

-- The byte lies in one of the ranges.
abbrev pub is_byte_ignored : List ByteRange → ℕ → Bool
is_byte_ignored ranges b = list_any (has_byte b) ranges

-- Each of these bytes, the first of which is at a, lies in one of the ranges.
abbrev pub are_ignored : List ByteRange → ℕ → List ℕ → Bool
are_ignored ranges a [] = true
are_ignored ranges a (b ∷ bytes) = is_byte_ignored ranges a && are_ignored ranges (a + 1) bytes

-- Each byte of the store lies in one of the ranges.
abbrev pub is_store_ignored : List ByteRange → Written → Bool
is_store_ignored ranges w = are_ignored ranges w.addr w.bytes

abbrev pub is_op_ignored : List ByteRange → Op → Bool
is_op_ignored ranges (Store w) = is_store_ignored ranges w
is_op_ignored ranges (Clwb a) = false
is_op_ignored ranges (ClflushOpt a) = false
is_op_ignored ranges (Clflush a) = false
is_op_ignored ranges Sfence = false
is_op_ignored ranges Mfence = false
is_op_ignored ranges (IsPersist r) = false
is_op_ignored ranges (IsOrderedBefore r q) = false

abbrev pub is_event_ignored : List ByteRange → Option Event → Bool
is_event_ignored ranges None = false
is_event_ignored ranges (Some e) = is_op_ignored ranges e.op

-- Event i is a store that is ignored by its bytes.
abbrev pub is_ignored : Recording → List ByteRange → ℕ → Bool
is_ignored T ranges i = is_event_ignored ranges (event T i)

-- The frame is that of the place, or begins so.
abbrev pub is_named : IgnoredPlace → List ℕ → Bool
is_named p frame = if p.is_start then starts_with nat_eq frame (string_bytes p.text) else bytes_eq frame (string_bytes p.text)

abbrev pub is_frame : IgnoredPlace → Option (List ℕ) → Bool
is_frame p None = false
is_frame p (Some frame) = is_named p frame

-- The innermost frame of event i is that of the place, or begins so.
abbrev pub is_at_place : Labels → IgnoredPlace → ℕ → Bool
is_at_place labels p i = is_frame p (frame_of labels i)

-- Event i is at one of the places.
abbrev pub is_place_ignored : Labels → List IgnoredPlace → ℕ → Bool
is_place_ignored labels places i = list_any (λ (p : IgnoredPlace). is_at_place labels p i) places

-- Store i is ignored, by its bytes or by its place.
abbrev pub is_left_out : Recording → Labels → Ignored → ℕ → Bool
is_left_out T labels ignored i = is_ignored T ignored.ranges.items i || is_place_ignored labels ignored.places.items i
