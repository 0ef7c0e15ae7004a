-- The entries of an explanation have no floats.
use Rattle.std.proofs.Common.{◌≡◌, ℕ, ◌||◌, Bool, true, false, List, [], ◌∷◌, ◌++◌, map, Option, None, Some, refl}
use Rattle.std.specs.Global.{Global}
use Rattle.std.specs.Prelude.{String, string_bytes}
use Rattle.serde_json.specs.Data.{Data, string}
use Rattle.serde_json.specs.View.{items_of}
use Rattle.serde_json.specs.Written.{has_float, items_have_float}
use Rattle.pmt_text.specs.Prelude.{Recording, event, Event}
use Rattle.pmt_explanation.specs.Prelude.{Cause, ByteStore, Reason, Mend, mend_of, StoredByte, CrashByte, Dropped, LostGroup, OverwrittenGroup, FailureKey, Group, LateSpot, first_in, Verdict, RangeAfter, ShownCrash, Labels, Unwritten, label_of, kind_name, Choice, Kind, ByteRange}
use Rattle.pmt_reasons.specs.declared.cause.Cause.TheVariants as causes
use Rattle.pmt_explanation.specs.declared.explaining.Explanation.{Explanation}
use Rattle.pmt_reasons.specs.declared.mend.Mend.TheVariants as mends
use Rattle.pmt_explanation.specs.declared.summing.Summary.{Summary}
use Rattle.pmt_explain_json.specs.Entries.{or_null, count_data, address_data, address_of, known_event_data, event_data, line_data, byte_store_data, range_data, cause_data, by_of, reason_data, mend_data, line_count_data, byte_store, byte_value, range_after_data, failure_data, lost_data, dropped_data, overwritten_data, ranges_of, unwritten_data}
use Rattle.pmt_explain_json.specs.Places.{cause_group_data, place_label, place_thread}
use Rattle.pmt_explain_json.specs.Lines.{late_data, spot_label, spot_line, summary_data, more_data, asked_data, byte_range_data, lack_data}
use Rattle.pmt_explain_json.specs.declared.lacking.Lack.{Lack}

pub both : (a b : Bool) → a ≡ false → b ≡ false → (a || b) ≡ false
both true b p q = p
both false b p q = q

pub or_null-float : {A : Type 0} (f : A → Data) → ((x : A) → has_float (f x) ≡ false) → (o : Option A) → has_float (or_null f o) ≡ false
or_null-float f each None = refl
or_null-float f each (Some x) = each x

pub array-float : {A : Type 0} (f : A → Data) → ((x : A) → has_float (f x) ≡ false) → (xs : List A) → items_have_float (items_of (map f xs)) ≡ false
array-float f each [] = refl
array-float f each (x ∷ xs) = both (has_float (f x)) (items_have_float (items_of (map f xs))) (each x) (array-float f each xs)

address-float : (o : Option ℕ) → has_float (or_null address_data o) ≡ false
address-float o = or_null-float address_data (λ a. refl) o

pub count-float : (o : Option ℕ) → has_float (or_null count_data o) ≡ false
count-float o = or_null-float count_data (λ n. refl) o

pub label-float : (o : Option (List ℕ)) → has_float (or_null string o) ≡ false
label-float o = or_null-float string (λ s. refl) o

known-float : (labels : Labels) (n : ℕ) (e : Event) → has_float (known_event_data labels n e) ≡ false
known-float labels n e =
    both (has_float (or_null address_data (address_of e.op))) (has_float (or_null string (label_of labels n)) || false) (address-float (address_of e.op))
    (both (has_float (or_null string (label_of labels n))) false (label-float (label_of labels n)) refl)

pub event-float : (T : Recording) (labels : Labels) (n : ℕ) → has_float (event_data T labels n) ≡ false
event-float T labels n = or_null-float (known_event_data labels n) (known-float labels n) (event T n)

other-float : (T : Recording) (labels : Labels) (o : Option ℕ) → has_float (or_null (event_data T labels) o) ≡ false
other-float T labels o = or_null-float (event_data T labels) (event-float T labels) o

byte_store-float : (T : Recording) (labels : Labels) (x : ByteStore) → has_float (byte_store_data T labels x) ≡ false
byte_store-float T labels x = both (has_float (event_data T labels x.store)) false (event-float T labels x.store) refl

kept-float : (T : Recording) (labels : Labels) (o : Option ByteStore) → has_float (or_null (byte_store_data T labels) o) ≡ false
kept-float T labels o = or_null-float (byte_store_data T labels) (byte_store-float T labels) o

cause-float : (T : Recording) (labels : Labels) (c : Cause) → has_float (cause_data T labels c) ≡ false
cause-float T labels causes.Later = refl
cause-float T labels causes.Unflushed = refl
cause-float T labels (causes.Unfenced flush thread other) =
    both (has_float (event_data T labels flush)) (has_float (or_null (event_data T labels) other) || false) (event-float T labels flush)
    (both (has_float (or_null (event_data T labels) other)) false (other-float T labels other) refl)

reason-float : (T : Recording) (labels : Labels) (r : Reason) → has_float (reason_data T labels r) ≡ false
reason-float T labels r = both (has_float (or_null (event_data T labels) (by_of r))) false (other-float T labels (by_of r)) refl

mend-float : (T : Recording) (m : Mend) → has_float (mend_data T m) ≡ false
mend-float T (mends.Fence thread after before) = both (has_float (or_null count_data before)) false (count-float before) refl
mend-float T (mends.FlushAndFence line after before) = both (has_float (or_null count_data before)) false (count-float before) refl
mend-float T (mends.StoreFirst store before same_line) = both (has_float (or_null count_data before)) false (count-float before) refl

byte_store_number-float : (b : CrashByte) → has_float (byte_store b) ≡ false
byte_store_number-float b = or_null-float (λ (s : StoredByte). count_data s.store) (λ s. refl) b.last

byte_value-float : (b : CrashByte) → has_float (byte_value b) ≡ false
byte_value-float b = or_null-float (λ (s : StoredByte). count_data s.value) (λ s. refl) b.last

range_after-float : (r : RangeAfter) → has_float (range_after_data r) ≡ false
range_after-float r =
    both (items_have_float (items_of (map byte_store r.bytes.items))) _ (array-float byte_store byte_store_number-float r.bytes.items)
    (both (items_have_float (items_of (map byte_value r.bytes.items))) false (array-float byte_value byte_value-float r.bytes.items) refl)

pub failure-float : (T : Recording) (labels : Labels) (c : ShownCrash) → has_float (failure_data T labels c) ≡ false
failure-float T labels c =
    let f = c.shown in
    both (has_float (cause_data T labels f.cause)) _ (cause-float T labels f.cause)
    (both (has_float (event_data T labels f.event)) _ (event-float T labels f.event)
    (both (has_float (or_null (byte_store_data T labels) f.failure.kept)) _ (kept-float T labels f.failure.kept)
    (both (items_have_float (items_of (map (line_count_data T) c.lines.items))) _ (array-float (line_count_data T) (λ n. refl) c.lines.items)
    (both (has_float (byte_store_data T labels f.failure.lost)) _ (byte_store-float T labels f.failure.lost)
    (both (has_float (mend_data T f.mend)) _ (mend-float T f.mend)
    (both (items_have_float (items_of (map range_after_data c.ranges.items))) false (array-float range_after_data range_after-float c.ranges.items) refl))))))

pub lost-float : (T : Recording) (labels : Labels) (g : LostGroup) → has_float (lost_data T labels g) ≡ false
lost-float T labels g =
    let mend : Mend = mend_of g.cause g.line g.last None false in
    both (has_float (cause_data T labels g.cause)) _ (cause-float T labels g.cause)
    (both (has_float (event_data T labels g.first)) _ (event-float T labels g.first)
    (both (has_float (event_data T labels g.last)) _ (event-float T labels g.last)
    (both (has_float (mend_data T mend)) false (mend-float T mend) refl)))

pub dropped-float : (T : Recording) (labels : Labels) (d : Dropped) → has_float (dropped_data T labels d) ≡ false
dropped-float T labels d =
    both (has_float (event_data T labels d.event)) _ (event-float T labels d.event)
    (both (has_float (reason_data T labels d.reason)) false (reason-float T labels d.reason) refl)

pub overwritten-float : (T : Recording) (labels : Labels) (g : OverwrittenGroup) → has_float (overwritten_data T labels g) ≡ false
overwritten-float T labels g =
    both (has_float (event_data T labels g.first.earlier)) _ (event-float T labels g.first.earlier)
    (both (has_float (event_data T labels g.first.later)) false (event-float T labels g.first.later) refl)

pub unwritten-float : (T : Recording) (labels : Labels) (u : Unwritten) → has_float (unwritten_data T labels u) ≡ false
unwritten-float T labels u =
    both (has_float (event_data T labels u.event)) _ (event-float T labels u.event)
    (both (items_have_float (items_of (map range_data (ranges_of u.first ++ ranges_of u.second)))) false
    (array-float range_data (λ r. refl) (ranges_of u.first ++ ranges_of u.second)) refl)

pub cause_group-float : (labels : Labels) (g : Group FailureKey) → has_float (cause_group_data labels g) ≡ false
cause_group-float labels g =
    both (items_have_float (items_of (map count_data g.members.items))) _ (array-float count_data (λ n. refl) g.members.items)
    (both (has_float (or_null string (place_label labels g.key.origin))) _ (label-float (place_label labels g.key.origin))
    (both (has_float (or_null count_data (place_thread g.key.origin))) false (count-float (place_thread g.key.origin)) refl))

line-float : (T : Recording) (o : Option ℕ) → has_float (or_null (line_data T) o) ≡ false
line-float T o = or_null-float (line_data T) (λ l. refl) o

pub late-float : (T : Recording) (labels : Labels) (g : Group LateSpot) → has_float (late_data T labels g) ≡ false
late-float T labels g =
    both (has_float (or_null (line_data T) (spot_line g.key))) _ (line-float T (spot_line g.key))
    (both (has_float (event_data T labels (first_in g))) _ (event-float T labels (first_in g))
    (both (has_float (or_null string (spot_label labels g.key))) false (label-float (spot_label labels g.key)) refl))

label_text-float : (o : Option (String Global)) → has_float (or_null (λ s. string (string_bytes s)) o) ≡ false
label_text-float o = or_null-float (λ s. string (string_bytes s)) (λ s. refl) o

kind-float : (o : Option Kind) → has_float (or_null (λ k. string (kind_name k)) o) ≡ false
kind-float o = or_null-float (λ k. string (kind_name k)) (λ k. refl) o

range-float : (o : Option ByteRange) → has_float (or_null byte_range_data o) ≡ false
range-float o = or_null-float byte_range_data (λ r. refl) o

asked-float : (c : Choice) → has_float (asked_data c) ≡ false
asked-float c =
    both (has_float (or_null count_data c.from)) _ (count-float c.from)
    (both (has_float (or_null (λ s. string (string_bytes s)) c.label)) _ (label_text-float c.label)
    (both (has_float (or_null (λ k. string (kind_name k)) c.only)) _ (kind-float c.only)
    (both (has_float (or_null byte_range_data c.range)) _ (range-float c.range)
    (both (has_float (or_null count_data c.thread)) _ (count-float c.thread)
    (both (has_float (or_null count_data c.to)) false (count-float c.to) refl)))))

lack-float : (l : Lack) → has_float (lack_data l) ≡ false
lack-float l = both (has_float (or_null count_data l.count)) false (count-float l.count) refl

pub summary-float : (s : Summary) (limit : ℕ) (c : Choice) (more : Data) (lacks : List Lack) (v : Verdict) → has_float more ≡ false → has_float (summary_data s limit c more lacks v) ≡ false
summary-float s limit c more lacks v none =
    both (has_float (asked_data c)) _ (asked-float c)
    (both (items_have_float (items_of (map lack_data lacks))) _ (array-float lack_data lack-float lacks) (both (has_float more) false none refl))

pub more-float : (x : Explanation) (c : Choice) → has_float (more_data x c) ≡ false
more-float x c = refl
