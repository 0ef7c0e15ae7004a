-- The persisted stores, event by event.
use Rattle.pmt_image.proofs.Prelude.{◌≡◌, ℕ, zero, suc, ◌<◌, ◌≤◌, ◌==◌, inl, inr, Bool, true, false, List, ◌∷◌, Some, sym, ap, subst, ◌∙◌, arith, if◌then◌else◌, slice_get, Event, Layout, Written, line_of, Act, Stores, count, Recording, IsAct, act, act_of, history, count_at, history-act, history-step, Pool, StoreFault, Table, AreFound, IsInside, AllInside, IsOpFault, FindsFault}
use Rattle.pmt_image.specs.declared.persisting.StoreFault.TheVariants.{Outside, OutOfMemory}

-- no line has more stores than there are events
count-step : (l : ℕ) (a : Act) (h : List Act) → count l (a ∷ h) ≤ suc (count l h)
count-step l (Stores k w) h = go (k == l)
  where
    go : (b : Bool) → (if b then suc (count l h) else count l h) ≤ suc (count l h)
    go true = omega arith
    go false = omega arith
count-step l a h = omega arith

pub count-few : (T : Recording) (l n : ℕ) → count_at T l n ≤ n
count-few T l zero = omega arith
count-few T l (suc n) = let few = count-few T l n in elim (history-step T n) [
  | inl x ↦ omega (arith, ap (count l) (history-act T n x.0 x.1), count-step l x.0 (history T n))
  | inr x ↦ omega (arith, ap (count l) x.1)
]

-- one more event
pub found-next : (T : Recording) (f : Layout) (es : List Event) (n number : ℕ) (e : Event) (v : ℕ → ℕ) (pool : Pool) (old new : Table) (xs ys : List Written) → f ≡ T.format → es ≡ T.events → number ≡ suc n → slice_get es n ≡ Some e →
    ((t : ℕ) (h : List Act) → AreFound v h old xs → AreFound v (act_of f t e.op ∷ h) new ys) → ((t : ℕ) → IsInside pool (act_of f t e.op)) →
    AreFound v (history T n) old xs → AllInside pool (history T n) → AreFound v (history T number) new ys × AllInside pool (history T number)
found-next T f es n number e v pool old new xs ys format events next is grown inside before all =
    let a : Act = act f e in
    let at : IsAct T (suc n) a = (e, ap (λ zs. slice_get zs n) (sym events) ∙ is, ap (λ g. act g e) (sym format)) in
    let h : history T number ≡ a ∷ history T n = ap (history T) next ∙ history-act T n a at in
    let P : List Act → Type 0 = λ k. AreFound v k new ys × AllInside pool k in
    subst P (sym h) (grown e.thread (history T n) before, (inside e.thread, all))

-- a store outside of the pool
pub fault-found : (T : Recording) (f : Layout) (es : List Event) (n number place : ℕ) (e : Event) (pool : Pool) (fault : StoreFault) → f ≡ T.format → es ≡ T.events → number ≡ suc n → slice_get es n ≡ Some e → n < place →
    AllInside pool (history T n) → IsOpFault e.op pool number fault → FindsFault T place pool fault
fault-found T f es n number place e pool (Outside event address) format events next is within all (same, x) =
    let w = x.what in
    let own : event ≡ suc n = same ∙ next in
    let g : Layout = T.format in
    let act_is : act g e ≡ Stores (line_of g w.addr) w = ap (act_of g e.thread) x.is_store in
    let at : IsAct T (suc n) (Stores (line_of g w.addr) w) = (e, ap (λ zs. slice_get zs n) (sym events) ∙ is, act_is) in
    record {
      before = n;
      number = own;
      by_now = omega arith;
      line = line_of g w.addr;
      what = w;
      is_store = (let P : ℕ → Type 0 = λ i. IsAct T i (Stores (line_of g w.addr) w) in subst P (sym own) at);
      writes_byte = x.byte.writes_byte;
      outside = x.byte.outside;
      others = all;
    }
fault-found T f es n number place e pool OutOfMemory format events next is within all x = tt
