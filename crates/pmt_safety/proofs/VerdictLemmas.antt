-- The two assertions, by the last stores to bytes.
use Rattle.std.proofs.Common.{◌≡◌, ℕ, zero, suc, ◌≤◌, ◌⊎◌, inl, inr, Bool, true, false, List, ◌∷◌, length, Option, Some, None, IfSome, refl, sym, ap, subst, ◌∙◌, arith}
use Rattle.std.specs.Prelude.{if◌then◌else◌, ◌↔◌}
use Rattle.pmt_laws.specs.Prelude.{Written, Span, Act, Stores, Flushes, Clflushes, Fences, Asserts, count, writes, Recording, IsAct, history, count_at, front, front_at, last_store_number, Placed, last_store, InSpan, PersistPasses, OrderedPasses, up_to_last, NoLater}
use Rattle.pmt_laws.proofs.Histories.{act-unique, history-act, history-step, count-mono}
use Rattle.pmt_laws.proofs.AssertLemmas.{persist_by_fronts, ordered_by_fronts}
use Rattle.pmt_safety.specs.Safety.{safe_store_at, IsLastIn, PersistByStores, OrderedByStores}
use Rattle.pmt_safety.proofs.StoreLemmas.{length-before, count-at_store, store-by}
use Rattle.pmt_safety.proofs.SafetyLemmas.{front-covers}

-- Store x is number j, and g the history up to it.
record IsNumbered (T : Recording) (x : Placed) (j : ℕ) (g : List Act) : Type 0 where
  pub what : Written
  pub is_store : IsAct T j (Stores x.line what)
  pub rank : count_at T x.line j ≡ x.rank
  pub up_to : g ≡ history T j

-- There is such a store with its number, or neither.
abbrev Numbers : Recording → List Act → Option Placed → Option ℕ → Type 0
Numbers T g None None = Unit {0}
Numbers T g (Some x) (Some j) = IsNumbered T x j g
Numbers T g a b = ⊥

abbrev NumbersLast : Recording → ℕ → List Act → Type 0
NumbersLast T b h = Numbers T (up_to_last b h) (last_store b h) (last_store_number b h)

numbered-last : (T : Recording) (b n : ℕ) → NumbersLast T b (history T n)
numbered-last T b zero = tt
numbered-last T b (suc n) = elim (history-step T n) [
  | inl x ↦ subst (NumbersLast T b) (sym (history-act T n x.0 x.1)) (go x.0 x.1 (numbered-last T b n))
  | inr x ↦ subst (NumbersLast T b) (sym x.1) (numbered-last T b n)
]
  where
    go : (a : Act) → IsAct T (suc n) a → NumbersLast T b (history T n) → NumbersLast T b (a ∷ history T n)
    go (Stores k w) is old = at (writes w b)
      where
        at : (c : Bool) → Numbers T (if c then Stores k w ∷ history T n else up_to_last b (history T n)) (if c then Some (record { line = k; rank = suc (count k (history T n)) }) else last_store b (history T n))
            (if c then Some (suc (length (history T n))) else last_store_number b (history T n))
        at true =
            let P : ℕ → Type 0 = λ m. IsNumbered T (record { line = k; rank = suc (count k (history T n)) }) (suc m) (Stores k w ∷ history T n) in
            subst P (sym (length-before T n (Stores k w) is)) (record { what = w; is_store = is; rank = count-at_store T k n w is; up_to = sym (history-act T n (Stores k w) is) })
        at false = old
    go (Flushes t k) is old = old
    go (Clflushes k) is old = old
    go (Fences t) is old = old
    go Asserts is old = old

-- a number that is told is that of the store
number-told : (T : Recording) (b n : ℕ) (x : Placed) → last_store b (history T n) ≡ Some x → (j : ℕ) × (last_store_number b (history T n) ≡ Some j) × IsNumbered T x j (up_to_last b (history T n))
number-told T b n x is = go (last_store_number b (history T n)) refl (subst (λ o. Numbers T (up_to_last b (history T n)) o (last_store_number b (history T n))) is (numbered-last T b n))
  where
    go : (p : Option ℕ) → last_store_number b (history T n) ≡ p → Numbers T (up_to_last b (history T n)) (Some x) p → (j : ℕ) × (last_store_number b (history T n) ≡ Some j) × IsNumbered T x j (up_to_last b (history T n))
    go None e h = absurd h
    go (Some j) e h = (j, e, h)

-- and a store that has a number is told
store-told : (T : Recording) (b n j : ℕ) → last_store_number b (history T n) ≡ Some j → (x : Placed) × (last_store b (history T n) ≡ Some x) × IsNumbered T x j (up_to_last b (history T n))
store-told T b n j is = go (last_store b (history T n)) refl (subst (Numbers T (up_to_last b (history T n)) (last_store b (history T n))) is (numbered-last T b n))
  where
    go : (o : Option Placed) → last_store b (history T n) ≡ o → Numbers T (up_to_last b (history T n)) o (Some j) → (x : Placed) × (last_store b (history T n) ≡ Some x) × IsNumbered T x j (up_to_last b (history T n))
    go None e h = absurd h
    go (Some x) e h = (x, e, h)

-- what holds of the store that is there, if there is one
if_some : {X : Type 0} (o : Option X) (Q : X → Type 0) → ((x : X) → o ≡ Some x → Q x) → IfSome o Q
if_some None Q each = tt
if_some (Some x) Q each = each x refl

at_some : {X : Type 0} (o : Option X) (Q : X → Type 0) (x : X) → o ≡ Some x → IfSome o Q → Q x
at_some o Q x is h = subst (λ p. IfSome p Q) is h

-- the store with this number is of its line
same-line : (T : Recording) (x : Placed) (l j : ℕ) (w : Written) (g : List Act) → IsNumbered T x j g → IsAct T j (Stores l w) → x.line ≡ l
same-line T x l j w g numbered is = let same = act-unique T j (Stores x.line numbered.what) (Stores l w) numbered.is_store is in cc

-- the last store to a byte of a range, with its number
last_in : (T : Recording) (n b j : ℕ) (A : Span) (x : Placed) (g : List Act) → InSpan A b → last_store_number b (history T n) ≡ Some j → IsNumbered T x j g → IsLastIn T n A x.line j
last_in T n b j A x g within told numbered = record { what = numbered.what; is_store = numbered.is_store; byte = b; within = within; last = told }

pub persist_by_stores : PersistByStores
persist_by_stores T n A = (there, back)
  where
    there : PersistPasses (history T n) A → (l j : ℕ) → IsLastIn T n A l j → j ≤ safe_store_at T l n
    there passes l j it =
        let x = store-told T it.byte n j it.last in
        let covered : (x.0).rank ≤ front (x.0).line (history T n) = at_some (last_store it.byte (history T n)) (λ y. y.rank ≤ front y.line (history T n)) x.0 x.1 ((persist_by_fronts (history T n) A).0 passes it.byte it.within) in
        let by_now : j ≤ safe_store_at T (x.0).line n = (front-covers T (x.0).line n j (x.2).what (x.2).is_store).0 (omega (arith, covered, (x.2).rank)) in
        subst (λ k. j ≤ safe_store_at T k n) (same-line T x.0 l j it.what (up_to_last it.byte (history T n)) x.2 it.is_store) by_now

    back : ((l j : ℕ) → IsLastIn T n A l j → j ≤ safe_store_at T l n) → PersistPasses (history T n) A
    back each = (persist_by_fronts (history T n) A).1 (λ a within. if_some (last_store a (history T n)) (λ y. y.rank ≤ front y.line (history T n)) (λ y is.
        let x = number-told T a n y is in
        let by_now = each y.line x.0 (last_in T n a x.0 A y (up_to_last a (history T n)) within x.1 x.2) in
        omega (arith, (x.2).rank, (front-covers T y.line n x.0 (x.2).what (x.2).is_store).1 by_now)))

-- the first store persists no later than the second, by their numbers
no_later : (T : Recording) (x y : Placed) (j i : ℕ) (g h : List Act) → IsNumbered T x j g → IsNumbered T y i h → NoLater h x y ↔ (((x.line ≡ y.line) × (j ≤ i)) ⊎ (j ≤ safe_store_at T x.line i))
no_later T x y j i g h first second = (there, back)
  where
    there : NoLater h x y → ((x.line ≡ y.line) × (j ≤ i)) ⊎ (j ≤ safe_store_at T x.line i)
    there (inl same) =
        let counted : count_at T x.line i ≡ y.rank = ap (λ l. count_at T l i) same.0 ∙ second.rank in
        inl (same.0, store-by T x.line j i first.what first.is_store (omega (arith, same.1, counted, first.rank)))
    there (inr covered) =
        let here : x.rank ≤ front_at T x.line i = subst (λ m. x.rank ≤ front x.line m) second.up_to covered in
        inr ((front-covers T x.line i j first.what first.is_store).0 (omega (arith, here, first.rank)))

    back : ((x.line ≡ y.line) × (j ≤ i)) ⊎ (j ≤ safe_store_at T x.line i) → NoLater h x y
    back (inl same) =
        let counted : count_at T x.line i ≡ y.rank = ap (λ l. count_at T l i) same.0 ∙ second.rank in
        inl (same.0, omega (arith, count-mono T x.line j i same.1, counted, first.rank))
    back (inr by_then) =
        let here : x.rank ≤ front_at T x.line i = omega (arith, (front-covers T x.line i j first.what first.is_store).1 by_then, first.rank) in
        inr (subst (λ m. x.rank ≤ front x.line m) (sym second.up_to) here)

pub ordered_by_stores : OrderedByStores
ordered_by_stores T n A B = (there, back)
  where
    before : ℕ → Placed → Placed → Type 0
    before b y x = NoLater (up_to_last b (history T n)) x y

    there : OrderedPasses (history T n) A B → (l j k i : ℕ) → IsLastIn T n A l j → IsLastIn T n B k i → ((l ≡ k) × (j ≤ i)) ⊎ (j ≤ safe_store_at T l i)
    there passes l j k i first second =
        let x = store-told T first.byte n j first.last in
        let y = store-told T second.byte n i second.last in
        let earlier = at_some (last_store second.byte (history T n)) (λ z. (a : ℕ) → InSpan A a → IfSome (last_store a (history T n)) (λ v. NoLater (up_to_last second.byte (history T n)) v z)) y.0 y.1 ((ordered_by_fronts (history T n) A B).0 passes second.byte second.within) in
        let one = at_some (last_store first.byte (history T n)) (λ v. NoLater (up_to_last second.byte (history T n)) v y.0) x.0 x.1 (earlier first.byte first.within) in
        let told = (no_later T x.0 y.0 j i (up_to_last first.byte (history T n)) (up_to_last second.byte (history T n)) x.2 y.2).0 one in
        let line = same-line T x.0 l j first.what (up_to_last first.byte (history T n)) x.2 first.is_store in
        let other = same-line T y.0 k i second.what (up_to_last second.byte (history T n)) y.2 second.is_store in
        elim told [ inl same ↦ inl (sym line ∙ same.0 ∙ other, same.1) | inr safe ↦ inr (subst (λ m. j ≤ safe_store_at T m i) line safe) ]

    back : ((l j k i : ℕ) → IsLastIn T n A l j → IsLastIn T n B k i → ((l ≡ k) × (j ≤ i)) ⊎ (j ≤ safe_store_at T l i)) → OrderedPasses (history T n) A B
    back each = (ordered_by_fronts (history T n) A B).1 (λ b within.
        if_some (last_store b (history T n)) (λ z. (a : ℕ) → InSpan A a → IfSome (last_store a (history T n)) (λ v. NoLater (up_to_last b (history T n)) v z)) (λ z is a inside.
        if_some (last_store a (history T n)) (λ v. NoLater (up_to_last b (history T n)) v z) (λ v there.
        let y = number-told T b n z is in
        let x = number-told T a n v there in
        (no_later T v z x.0 y.0 (up_to_last a (history T n)) (up_to_last b (history T n)) x.2 y.2).1
        (each v.line x.0 z.line y.0 (last_in T n a x.0 A v (up_to_last a (history T n)) inside x.1 x.2) (last_in T n b y.0 B z (up_to_last b (history T n)) within y.1 y.2)))))
