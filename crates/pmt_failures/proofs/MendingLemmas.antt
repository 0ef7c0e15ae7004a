-- What is told to mend a failure mends it.
use Rattle.std.proofs.Common.{◌≡◌, ℕ, true, Option, None, Some, refl, sym, ap, ◌∙◌, subst, eqb-true, true≢false}
use Rattle.std.specs.Prelude.{nat_eq, unwrap_or}
use Rattle.std.proofs.lemmas.Option.{none-some, same_Some}
use Rattle.pmt_explain.specs.Prelude.{Layout, Written, line_of, Event, Op, Store, Clwb, ClflushOpt, Clflush, Sfence, Mfence, IsPersist, IsOrderedBefore, Stores, Recording, IsAct, act_of, event, option_eq, Cause, ByteStore, Failure, IsFailureAt, mend_of, KeepsInLine, MendsFailure}
use Rattle.pmt_reasons.proofs.MendLaws.{failure_is_mended}
use Rattle.pmt_explain.specs.CauseOf.{IsStoreCause}
use Rattle.pmt_failures.specs.Showing.{stored_line, event_line, store_line, keeps_same_line, failure_mend}

-- the line of an op that is a store
line-op : (f : Layout) (t l : ℕ) (w : Written) (op : Op) → act_of f t op ≡ Stores l w → stored_line f op ≡ Some l
line-op f t l w (Store v) e = let line : line_of f v.addr ≡ l = cc in ap Some line
line-op f t l w (Clwb a) e = absurd (let x : ⊥ = cc in x)
line-op f t l w (ClflushOpt a) e = absurd (let x : ⊥ = cc in x)
line-op f t l w (Clflush a) e = absurd (let x : ⊥ = cc in x)
line-op f t l w Sfence e = absurd (let x : ⊥ = cc in x)
line-op f t l w Mfence e = absurd (let x : ⊥ = cc in x)
line-op f t l w (IsPersist r) e = absurd (let x : ⊥ = cc in x)
line-op f t l w (IsOrderedBefore r q) e = absurd (let x : ⊥ = cc in x)

line-store : (T : Recording) (x l : ℕ) (w : Written) → IsAct T x (Stores l w) → store_line T x ≡ Some l
line-store T x l w (e, is, a) = ap (event_line T.format) is ∙ line-op T.format e.thread l w e.op a

-- an op that has a line is a store to it
op-line : (f : Layout) (t l : ℕ) (op : Op) → stored_line f op ≡ Some l → (w : Written) × (act_of f t op ≡ Stores l w)
op-line f t l (Store w) e = (w, ap (λ (k : ℕ). Stores k w) (same_Some (line_of f w.addr) l e))
op-line f t l (Clwb a) e = absurd (none-some l e)
op-line f t l (ClflushOpt a) e = absurd (none-some l e)
op-line f t l (Clflush a) e = absurd (none-some l e)
op-line f t l Sfence e = absurd (none-some l e)
op-line f t l Mfence e = absurd (none-some l e)
op-line f t l (IsPersist r) e = absurd (none-some l e)
op-line f t l (IsOrderedBefore r q) e = absurd (none-some l e)

store-line : (T : Recording) (y l : ℕ) → store_line T y ≡ Some l → (w : Written) × IsAct T y (Stores l w)
store-line T y l h = go (event T y) refl h
  where
    go : (o : Option Event) → event T y ≡ o → event_line T.format o ≡ Some l → (w : Written) × IsAct T y (Stores l w)
    go None none e = absurd (none-some l e)
    go (Some x) is e = let found = op-line T.format x.thread l x.op e in (found.0, (x, is, found.1))

-- two stores with one line are stores to that line
in-line : (T : Recording) (l : ℕ) (kept : Option ByteStore) → keeps_same_line T (Some l) kept ≡ true → KeepsInLine T l kept
in-line T l None e = absurd (true≢false (sym e))
in-line T l (Some y) e = store-line T y.store l (go (store_line T y.store) e)
  where
    go : (o : Option ℕ) → option_eq nat_eq o (Some l) ≡ true → o ≡ Some l
    go None same = absurd (true≢false (sym same))
    go (Some k) same = ap Some (eqb-true k l same)

pub failure_mend-mends : (T : Recording) (i : ℕ) (f : Failure) (c : Cause) → IsFailureAt T i (Some f) → IsStoreCause T f.place f.lost.store c →
    MendsFailure T i f (failure_mend T f c)
failure_mend-mends T i f c fails why =
    let x = f.lost.store in
    let line : store_line T x ≡ Some why.line = line-store T x why.line why.what why.is_store in
    let mends : MendsFailure T i f (mend_of c why.line x (Some f.place) (keeps_same_line T (Some why.line) f.kept)) =
    failure_is_mended T i why.line why.what f c (keeps_same_line T (Some why.line) f.kept) fails why.is_store why.why (in-line T why.line f.kept) in
    subst (λ (o : Option ℕ). MendsFailure T i f (mend_of c (unwrap_or o 0) x (Some f.place) (keeps_same_line T o f.kept))) (sym line) mends
