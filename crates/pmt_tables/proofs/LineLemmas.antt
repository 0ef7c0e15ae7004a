-- A byte that a store of a trace writes is of the store's line.
use Rattle.std.proofs.Common.{◌≡◌, ℕ, zero, suc, ◌+◌, ◌-◌, ◌/◌, ◌<◌, ◌≤◌, ◌==◌, Bool, true, false, List, [], ◌∷◌, length, Some, refl, sym, ap, subst, ◌∙◌, arith, eqb-true}
use Rattle.std.specs.Prelude.{slice_get, ◌&&◌, ◌||◌, nat_le, nat_lt, IsTrue}
use Rattle.std.proofs.lemmas.Option.{none-some, same_Some}
use Rattle.std.proofs.lemmas.Bool.{ltb-true, leb-true, true≢false, and_parts}
use Rattle.pmt_laws.specs.Prelude.{Op, Store, Clwb, ClflushOpt, Clflush, Sfence, Mfence, IsPersist, IsOrderedBefore, Written, Layout, line_of, IsStore, IsFormat, is_line_size, Stores, writes, Recording, IsTrace, IsEventIn, IsOp, IsAct, act_of, AllByRecursion}

-- an element of a list has what all have
all-at : {A : Type 0} (P : A → Type 0) (xs : List A) (k : ℕ) (x : A) → AllByRecursion P xs → slice_get xs k ≡ Some x → P x
all-at P [] k x all is = absurd (none-some x is)
all-at P (y ∷ xs) zero x all is = subst P (same_Some y x is) all.0
all-at P (y ∷ xs) (suc k) x all is = all-at P xs k x all.1 is

-- A store within its limits, of this line.
pub record IsStoreOf (f : Layout) (l : ℕ) (w : Written) : Type 0 where
  pub store : IsStore w
  pub line : line_of f w.addr ≡ l

-- an op that is a store to a line
store-of_op : (f : Layout) (t l : ℕ) (w : Written) (op : Op) → IsOp op → act_of f t op ≡ Stores l w → IsStoreOf f l w
store-of_op f t l w (Store x) is e =
    let same : x ≡ w = cc in
    let line : line_of f x.addr ≡ l = cc in
    record { store = subst IsStore same is; line = ap (λ (y : Written). line_of f y.addr) (sym same) ∙ line }
store-of_op f t l w (Clwb a) is e = absurd (let no : ⊥ = cc in no)
store-of_op f t l w (ClflushOpt a) is e = absurd (let no : ⊥ = cc in no)
store-of_op f t l w (Clflush a) is e = absurd (let no : ⊥ = cc in no)
store-of_op f t l w Sfence is e = absurd (let no : ⊥ = cc in no)
store-of_op f t l w Mfence is e = absurd (let no : ⊥ = cc in no)
store-of_op f t l w (IsPersist r) is e = absurd (let no : ⊥ = cc in no)
store-of_op f t l w (IsOrderedBefore r q) is e = absurd (let no : ⊥ = cc in no)

-- a store of a trace
pub store-of_trace : (T : Recording) (i l : ℕ) (w : Written) → IsTrace T → IsAct T i (Stores l w) → IsStoreOf T.format l w
store-of_trace T zero l w is_trace is = absurd (none-some is.0 is.1)
store-of_trace T (suc i) l w is_trace is =
    let e = all-at (IsEventIn T.format) T.events i is.0 is_trace.each is.1 in
    store-of_op T.format is.0.thread l w is.0.op e.event.op is.2

-- a line has 32, 64, 128 or 256 bytes
pub data IsSize (size : ℕ) : Type 0 where
  Bytes32 : size ≡ 32 → IsSize size
  Bytes64 : size ≡ 64 → IsSize size
  Bytes128 : size ≡ 128 → IsSize size
  Bytes256 : size ≡ 256 → IsSize size

second-size : (size : ℕ) → IsTrue (is_line_size size) → IsSize size
second-size size h = go (size == 32) (size == 64) (size == 128) (size == 256) refl refl refl refl h
  where
    go : (a b c d : Bool) → (size == 32) ≡ a → (size == 64) ≡ b → (size == 128) ≡ c → (size == 256) ≡ d → IsTrue (a || b || c || d) → IsSize size
    go true b c d p q r s h = Bytes32 (eqb-true size 32 p)
    go false true c d p q r s h = Bytes64 (eqb-true size 64 q)
    go false false true d p q r s h = Bytes128 (eqb-true size 128 r)
    go false false false true p q r s h = Bytes256 (eqb-true size 256 s)
    go false false false false p q r s h = absurd (true≢false (sym h))

pub size-of_format : (f : Layout) → IsFormat f → IsSize f.line_size
size-of_format f h = go (f.version == 1) (f.line_size == 64) (f.version == 2) refl h
  where
    go : (a b c : Bool) → (f.line_size == 64) ≡ b → IsTrue ((a && b) || (c && is_line_size f.line_size)) → IsSize f.line_size
    go true true c e h = Bytes64 (eqb-true f.line_size 64 e)
    go true false true e h = second-size f.line_size h
    go true false false e h = absurd (true≢false (sym h))
    go false b true e h = second-size f.line_size h
    go false b false e h = absurd (true≢false (sym h))

-- addresses of one word are of one line
pub same-line : (f : Layout) (a b : ℕ) → IsSize f.line_size → a / 8 ≡ b / 8 → line_of f a ≡ line_of f b
same-line f a b size h = go f.line_size size
  where
    go : (size : ℕ) → IsSize size → a / size ≡ b / size
    go size (Bytes32 e) = rw e (omega (arith, h))
    go size (Bytes64 e) = rw e (omega (arith, h))
    go size (Bytes128 e) = rw e (omega (arith, h))
    go size (Bytes256 e) = rw e (omega (arith, h))

-- the bytes that a store writes
pub byte-from_writes : (w : Written) (b : ℕ) → writes w b ≡ true → (w.addr ≤ b) × (b < w.addr + length w.bytes)
byte-from_writes w b h =
    let x = and_parts (nat_le w.addr b) (nat_lt (b - w.addr) (length w.bytes)) h in
    let from = leb-true w.addr b x.0 in
    let to = ltb-true (b - w.addr) (length w.bytes) x.1 in
    (from, omega (arith, from, to))

-- are of its line
pub writes-line : (T : Recording) (n l : ℕ) (w : Written) (b : ℕ) → IsTrace T → IsAct T n (Stores l w) → writes w b ≡ true → line_of T.format b ≡ l
writes-line T n l w b is_trace is h =
    let store = store-of_trace T n l w is_trace is in
    let at = byte-from_writes w b h in
    let word : b / 8 ≡ w.addr / 8 = omega (arith, store.store.inside, at.0, at.1) in
    same-line T.format b w.addr (size-of_format T.format is_trace.format) word ∙ store.line
