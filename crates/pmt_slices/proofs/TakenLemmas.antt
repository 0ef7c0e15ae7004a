-- Bytes that no store writes, going back event by event.
use Rattle.pmt_slices.proofs.Prelude.{◌≡◌, ◌≢◌, ℕ, suc, ◌+◌, ◌-◌, ◌<◌, ◌≤◌, ◌⊎◌, inl, inr, Bool, true, false, max, min, List, length, refl, sym, ap, subst, ◌∙◌, true≢false, arith, nat_le, nat_lt, cases_lt, le-leb, lt-ltb, and_from, append-nil, drop_all, take_all, Layout, Written, Span, IsStore, line_of, IsFormat, Stores, writes, Op, Store, Recording, IsAct, act_of, InSpan, refill, act-unique, last_store_number-from, last_store_number-is, IsLastIn, Unwritten, IsUnwritten, AreUnwritten, is_free, TakesBytes, TakesStore, size-of_format, same-line, byte-from_writes}

-- a store writes the bytes from its address on
pub from-writes : (w : Written) (b : ℕ) → w.addr ≤ b → b < w.addr + length w.bytes → writes w b ≡ true
from-writes w b above below = and_from (nat_le w.addr b) (nat_lt (b - w.addr) (length w.bytes)) (le-leb w.addr b above) (lt-ltb (b - w.addr) (length w.bytes) (omega arith))

-- they are all of its line
pub byte-line : (f : Layout) (w : Written) (b : ℕ) → IsFormat f → IsStore w → writes w b ≡ true → line_of f b ≡ line_of f w.addr
byte-line f w b format store h =
    let at = byte-from_writes w b h in
    same-line f b w.addr (size-of_format f format) (omega (arith, store.inside, at.0, at.1))

-- which is that of the act
pub store-line : (T : Recording) (n l : ℕ) (w : Written) → IsAct T n (Stores l w) → line_of T.format w.addr ≡ l
store-line T n l w (e, at, is) = go e.op is
  where
    go : (op : Op) → act_of T.format e.thread op ≡ Stores l w → line_of T.format w.addr ≡ l
    go (Store v) is = let what : v ≡ w = cc in let line : line_of T.format v.addr ≡ l = cc in subst (λ x. line_of T.format x.addr ≡ l) what line
    go other is = cc

-- a byte of the range is one of the list
byte-at : (A : Span) (b : ℕ) → InSpan A b → (k : ℕ) × (k < A.len) × (A.addr + k ≡ b)
byte-at A b (above, below) = (b - A.addr, omega arith, omega arith)

-- over an event that is no store to the byte
free-over : (T : Recording) (m n b : ℕ) → ((l : ℕ) (w : Written) → IsAct T (suc m) (Stores l w) → writes w b ≢ true) → IsUnwritten T (suc m) n b → IsUnwritten T m n b
free-over T m n b none old k l w after by is = elim (cases_lt (suc m) k) [
  | inl later ↦ old k l w later by is
  | inr here ↦ let e : k ≡ suc m = omega arith in none l w (subst (λ i. IsAct T i (Stores l w)) e is)
]

free-back : (T : Recording) (m n b : ℕ) → IsUnwritten T m n b → IsUnwritten T (suc m) n b
free-back T m n b all k l w after by is = all k l w (omega arith) by is

pub unwritten-over : (T : Recording) (A : Span) (m n : ℕ) (u : Unwritten) → ((l : ℕ) (w : Written) → ¬ IsAct T (suc m) (Stores l w)) → AreUnwritten T A (suc m) n u → AreUnwritten T A m n u
unwritten-over T A m n u none old = record {
  low = old.low;
  size = old.size;
  free = λ k within is. free-over T m n (A.addr + k) (λ l w store. absurd (none l w store)) (old.free k within is);
  taken = λ k within is all. old.taken k within is (free-back T m n (A.addr + k) all);
}

-- over a store
pub unwritten-store : (T : Recording) (A : Span) (m n l : ℕ) (w : Written) (told : Bool) (u v : Unwritten) → IsAct T (suc m) (Stores l w) → suc m ≤ n → TakesStore w told u v → AreUnwritten T A (suc m) n u → AreUnwritten T A m n v
unwritten-store T A m n l w told u v is within takes old = record {
  low = takes.low ∙ old.low;
  size = takes.size ∙ old.size;
  free = λ k fits is. stays-free k fits is (writes w (u.low + k)) refl;
  taken = λ k fits is. is-taken k fits is (writes w (u.low + k)) refl;
}
  where
    at : (k : ℕ) → u.low + k ≡ A.addr + k
    at k = omega (arith, old.low)

    stays-free : (k : ℕ) → k < A.len → is_free v.bytes.items k ≡ true → (t : Bool) → writes w (u.low + k) ≡ t → IsUnwritten T m n (A.addr + k)
    stays-free k fits so true own = absurd (true≢false (sym so ∙ takes.own k (omega (arith, old.size)) own))
    stays-free k fits so false other =
        free-over T m n (A.addr + k)
        (λ j x store written.
        let same = act-unique T (suc m) (Stores j x) (Stores l w) store is in
        let what : x ≡ w = cc in
        true≢false (sym written ∙ ap (λ y. writes y (A.addr + k)) what ∙ ap (writes w) (sym (at k)) ∙ other))
        (old.free k fits (sym (takes.others k (omega (arith, old.size)) other) ∙ so))

    is-taken : (k : ℕ) → k < A.len → is_free v.bytes.items k ≡ false → (t : Bool) → writes w (u.low + k) ≡ t → ¬ IsUnwritten T m n (A.addr + k)
    is-taken k fits so true own all = all (suc m) l w (omega arith) within is (ap (writes w) (sym (at k)) ∙ own)
    is-taken k fits so false other all = old.taken k fits (sym (takes.others k (omega (arith, old.size)) other) ∙ so) (free-back T m n (A.addr + k) all)

-- a store that takes a byte is the last one there
pub taken-last : (T : Recording) (A : Span) (m n l : ℕ) (w : Written) (u v : Unwritten) → IsAct T (suc m) (Stores l w) → suc m ≤ n → TakesStore w true u v → AreUnwritten T A (suc m) n u →
    (b : ℕ) × InSpan A b × (writes w b ≡ true) × IsLastIn T n A l (suc m)
taken-last T A m n l w u v is within takes old =
    let x = takes.some refl in
    let at : u.low + x.0 ≡ A.addr + x.0 = omega (arith, old.low) in
    let fits : x.0 < A.len = omega (arith, x.1, old.size) in
    let own : writes w (A.addr + x.0) ≡ true = ap (writes w) (sym at) ∙ x.2 in
    let inside : InSpan A (A.addr + x.0) = (omega arith, omega arith) in (
      A.addr + x.0,
      inside,
      own,
      record {
        what = w;
        is_store = is;
        byte = A.addr + x.0;
        within = inside;
        last = last_store_number-from T (A.addr + x.0) n (suc m) (record { line = l; what = w; is_store = is; by_now = within; writes_it = own; last = λ k j y later by store. old.free x.0 fits x.3 k j y later by store });
      },
    )

-- one that takes none is not
pub untaken-not_last : (T : Recording) (A : Span) (m n l k : ℕ) (w : Written) (u v : Unwritten) → IsAct T (suc m) (Stores l w) → TakesStore w false u v → AreUnwritten T A (suc m) n u → ¬ IsLastIn T n A k (suc m)
untaken-not_last T A m n l k w u v is takes old last =
    let it = last_store_number-is T last.byte n (suc m) last.last in
    let same = act-unique T (suc m) (Stores it.line it.what) (Stores l w) it.is_store is in
    let what : it.what ≡ w = cc in
    let place = byte-at A last.byte last.within in
    let at : last.byte ≡ u.low + place.0 = omega (arith, place.2, old.low) in
    let own : writes w (u.low + place.0) ≡ true = ap (writes w) (sym at) ∙ ap (λ x. writes x last.byte) (sym what) ∙ it.writes_it in
    let free : IsUnwritten T (suc m) n (A.addr + place.0) = subst (IsUnwritten T (suc m) n) (sym place.2) (λ i j x later by store. it.last i j x later by store) in
    old.taken place.0 place.1 (takes.none refl place.0 (omega (arith, place.1, old.size)) own) free

-- all places of a store
pub takes-store : (w : Written) (told : Bool) (from to : ℕ) (u v : Unwritten) → ((k : ℕ) → k < length u.bytes.items → writes w (u.low + k) ≡ true → (from ≤ k) × (k < to)) →
    ((k : ℕ) → k < length u.bytes.items → from ≤ k → k < to → writes w (u.low + k) ≡ true) → to ≤ length u.bytes.items → v.low ≡ u.low → TakesBytes from to told u.bytes.items v.bytes.items → TakesStore w told u v
takes-store w told from to u v there back within same takes = record {
  low = same;
  size = takes.size;
  own = λ k fits own. let x = there k fits own in takes.inside k x.0 x.1;
  others = λ k fits other. takes.others k (apart k fits other);
  some = λ is. let x = takes.some is in (x.0, omega (arith, x.2, within), back x.0 (omega (arith, x.2, within)) x.1 x.2, x.3);
  none = λ is k fits own. let x = there k fits own in takes.none is k x.0 x.1;
}
  where
    apart : (k : ℕ) → k < length u.bytes.items → writes w (u.low + k) ≡ false → (k < from) ⊎ (to ≤ k)
    apart k fits other = elim (cases_lt k from) [
      | inl below ↦ inl below
      | inr above ↦ elim (cases_lt k to) [ inl inside ↦ absurd (true≢false (sym (back k fits above inside) ∙ other)) | inr past ↦ inr past ]
    ]

-- a list all of which was written again
pub refill-all : (n : ℕ) (xs ws : List Bool) → n ≡ length xs → length ws ≡ length xs → refill n xs ws ≡ ws
refill-all n xs ws size same = rw (drop_all (length ws) xs (omega arith), append-nil ws) (take_all n ws (omega arith))

-- the places of the bytes that a store writes, among those of a range
pub taken-there : (w : Written) (low len high from to k : ℕ) → high ≤ low + len → (low + len ≤ high) ⊎ (w.addr + length w.bytes ≤ high) → from ≡ max w.addr low - low → to ≡ max (min (w.addr + length w.bytes) high) low - low →
    k < len → writes w (low + k) ≡ true → (from ≤ k) × (k < to)
taken-there w low len high from to k most (inl all) first last fits own = let at = byte-from_writes w (low + k) own in (omega (arith, at.0), omega (arith, at.1))
taken-there w low len high from to k most (inr past) first last fits own = let at = byte-from_writes w (low + k) own in (omega (arith, at.0), omega (arith, at.1))

pub taken-back : (w : Written) (low high from to k : ℕ) → from ≡ max w.addr low - low → to ≡ max (min (w.addr + length w.bytes) high) low - low → from ≤ k → k < to → writes w (low + k) ≡ true
taken-back w low high from to k first last above below = from-writes w (low + k) (omega arith) (omega arith)
