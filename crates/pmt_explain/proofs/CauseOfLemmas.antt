-- The cause of the store that an event is.
use Rattle.std.proofs.Common.{◌≡◌, ◌≤◌, ℕ, Option, None, Some, ap, subst, arith}
use Rattle.std.specs.Prelude.{MatchOption}
use Rattle.pmt_explain.specs.Prelude.{Event, Store, Written, line_of, Stores, Recording, IsAct, act_of, event, count_at, front_at, Cause, IsPending, IsCause}
use Rattle.pmt_laws.proofs.Histories.{act-unique}
use Rattle.pmt_reasons.proofs.CauseLemmas.{pending_by_fronts}
use Rattle.pmt_explain.specs.CauseOf.{IsCauseOf}

-- an event whose op is a store is one to the line of its address
pub store-act : (T : Recording) (i : ℕ) (e : Event) (w : Written) → event T i ≡ Some e → e.op ≡ Store w → IsAct T i (Stores (line_of T.format w.addr) w)
store-act T i e w is op = (e, is, ap (act_of T.format e.thread) op)

-- a store whose rank the front has reached is pending in no run
no_pending : (T : Recording) (n i l k : ℕ) (w v : Written) → IsAct T i (Stores l w) → count_at T l i ≤ front_at T l n → IsAct T i (Stores k v) → ¬ IsPending T k n i
no_pending T n i l k w v store safe other p =
    let same = act-unique T i (Stores l w) (Stores k v) store other in
    let line : l ≡ k = cc in
    let above = (pending_by_fronts T k n i).0 p in
    let P : ℕ → Type 0 = λ j. count_at T j i ≤ front_at T j n in
    omega (arith, subst P line safe, above)

-- what is found for the store's line is found for the event
pub cause-found : (T : Recording) (n i l : ℕ) (w : Written) (o : Option Cause) → IsAct T i (Stores l w) → MatchOption o (count_at T l i ≤ front_at T l n) (IsCause T l n i) → IsCauseOf T n i o
cause-found T n i l w None store safe = λ k v other p. no_pending T n i l k w v store safe other p
cause-found T n i l w (Some c) store why = record { line = l; what = w; is_store = store; why = why }
