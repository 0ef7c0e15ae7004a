-- The places where what crashes leave turns.
use Rattle.pmt_image.proofs.Prelude.{◌≡◌, ℕ, zero, suc, ◌+◌, ◌-◌, ◌≤◌, ◌⊎◌, ◌==◌, inl, inr, Bool, true, false, List, ◌∷◌, length, refl, sym, ap, subst, ◌∙◌, arith, true≢false, ◌&&◌, ◌||◌, not, nat_le, le-leb, Act, Stores, Clflushes, Fences, Vectors, count, Recording, IsAct, VectorsAt, count_at, history, front, front_at, InBox, event-none, event-some, history-act, count-grows, same_fronts-vectors, vectors_are_a_box, is_kind, is_kind_of, stores_act, raises_act, turns, AreAlike, HaveAllCrashes}

-- an event is of the kind of its act
kind-of : (kind : Act → Bool) (T : Recording) (n : ℕ) (a : Act) → IsAct T n a → is_kind kind T n ≡ kind a
kind-of kind T n a is = ap (λ e. is_kind_of kind T.format e) is.1 ∙ ap kind is.2

no-kind : (kind : Act → Bool) (T : Recording) → is_kind kind T (suc (length T.events)) ≡ false
no-kind kind T = ap (λ e. is_kind_of kind T.format e) (event-none T (length T.events) (omega arith))

alike-self : (T : Recording) (n : ℕ) → AreAlike T n n
alike-self T n = record { fronts = λ l. refl; counts = λ l. refl }

alike-then : (T : Recording) (m n k : ℕ) → AreAlike T m n → AreAlike T n k → AreAlike T m k
alike-then T m n k x y = record { fronts = λ l. x.fronts l ∙ y.fronts l; counts = λ l. x.counts l ∙ y.counts l }

-- a flush or a claim changes nothing by itself
alike-next : (T : Recording) (n : ℕ) (a : Act) → IsAct T (suc n) a → ((l : ℕ) → front l (a ∷ history T n) ≡ front_at T l n) → ((l : ℕ) → count l (a ∷ history T n) ≡ count_at T l n) → AreAlike T n (suc n)
alike-next T n a is fronts counts = record {
  fronts = λ l. sym (ap (λ (h : List Act). front l h) (history-act T n a is) ∙ fronts l);
  counts = λ l. sym (ap (λ (h : List Act). count l h) (history-act T n a is) ∙ counts l);
}

-- whether a place turns, by what is asked
turning : (within raises begins stored goes_on : Bool) → within ≡ true → (raises ≡ true) ⊎ ((begins || stored ≡ true) × (goes_on ≡ false)) → within && (raises || ((begins || stored) && not goes_on)) ≡ true
turning within raises begins stored goes_on is (inl raise) = rw (is, raise) refl
turning within raises begins stored goes_on is (inr x) = rw (is, x.0, x.1) (last raises)
  where
    last : (b : Bool) → b || true ≡ true
    last true = refl
    last false = refl

-- right after a fence or a clflush
at-raise : (T : Recording) (n : ℕ) → n ≤ length T.events → is_kind raises_act T n ≡ true → turns T n ≡ true
at-raise T n within is = turning (nat_le n (length T.events)) (is_kind raises_act T n) (n == 0) (is_kind stores_act T n) (is_kind stores_act T (suc n)) (le-leb n (length T.events) within) (inl is)

-- after stores, or at the beginning
at-rest : (T : Recording) (n : ℕ) → n ≤ length T.events → (n == 0) || is_kind stores_act T n ≡ true → is_kind stores_act T (suc n) ≡ false → turns T n ≡ true
at-rest T n within is none = turning (nat_le n (length T.events)) (is_kind raises_act T n) (n == 0) (is_kind stores_act T n) (is_kind stores_act T (suc n)) (le-leb n (length T.events) within) (inr (is, none))

or-last : (b : Bool) → b || true ≡ true
or-last true = refl
or-last false = refl

before-rest : (T : Recording) (n : ℕ) → n ≤ length T.events → is_kind stores_act T (suc n) ≡ false → (m : ℕ) × (turns T m ≡ true) × AreAlike T m n
before-rest T zero within none = (0, at-rest T 0 (omega arith) refl none, alike-self T 0)
before-rest T (suc n) within none =
    let some = event-some T n (omega (arith, within)) in
    go _ (some.0, some.1, refl) (λ rest. before-rest T n (omega (arith, within)) rest)
  where
    Turned : ℕ → Type 0
    Turned k = (m : ℕ) × (turns T m ≡ true) × AreAlike T m k

    onward : (a : Act) → IsAct T (suc n) a → stores_act a ≡ false → AreAlike T n (suc n) → (is_kind stores_act T (suc n) ≡ false → Turned n) → Turned (suc n)
    onward a is kind same back =
        let x = back (kind-of stores_act T (suc n) a is ∙ kind) in
        (x.0, x.1, alike-then T x.0 n (suc n) x.2 same)

    go : (a : Act) → IsAct T (suc n) a → (is_kind stores_act T (suc n) ≡ false → Turned n) → Turned (suc n)
    go (Stores l w) is back = (suc n, at-rest T (suc n) within (ap (λ (b : Bool). (suc n == 0) || b) (kind-of stores_act T (suc n) (Stores l w) is) ∙ or-last (suc n == 0)) none, alike-self T (suc n))
    go (Clflushes l) is back = (suc n, at-raise T (suc n) within (kind-of raises_act T (suc n) (Clflushes l) is), alike-self T (suc n))
    go (Fences t) is back = (suc n, at-raise T (suc n) within (kind-of raises_act T (suc n) (Fences t) is), alike-self T (suc n))
    go a is back = onward a is refl (alike-next T n a is (λ k. refl) (λ k. refl)) back

after-rest : (T : Recording) (n : ℕ) → suc n ≤ length T.events → is_kind stores_act T (suc n) ≡ false → (m : ℕ) × (turns T m ≡ true) × AreAlike T m (suc n)
after-rest T n within none =
    let some = event-some T n (omega (arith, within)) in
    go _ (some.0, some.1, refl)
  where
    onward : AreAlike T n (suc n) → (m : ℕ) × (turns T m ≡ true) × AreAlike T m (suc n)
    onward same = let x = before-rest T n (omega (arith, within)) none in (x.0, x.1, alike-then T x.0 n (suc n) x.2 same)

    go : (a : Act) → IsAct T (suc n) a → (m : ℕ) × (turns T m ≡ true) × AreAlike T m (suc n)
    go (Stores l w) is = absurd (true≢false (sym (kind-of stores_act T (suc n) (Stores l w) is) ∙ none))
    go (Clflushes l) is = (suc n, at-raise T (suc n) within (kind-of raises_act T (suc n) (Clflushes l) is), alike-self T (suc n))
    go (Fences t) is = (suc n, at-raise T (suc n) within (kind-of raises_act T (suc n) (Fences t) is), alike-self T (suc n))
    go a is = onward (alike-next T n a is (λ k. refl) (λ k. refl))

-- a crash before a store may leave what one before it may
later-may : (T : Recording) (n : ℕ) (a : Act) (v : ℕ → ℕ) → IsAct T (suc n) a → stores_act a ≡ true → VectorsAt T n v → VectorsAt T (suc n) v
later-may T n (Stores k w) v is kind may =
    subst (λ (h : List Act). Vectors h v) (sym (history-act T n (Stores k w) is)) ((vectors_are_a_box (Stores k w ∷ history T n) v).1 box)
  where
    box : InBox (Stores k w ∷ history T n) v
    box l =
        let old = (vectors_are_a_box (history T n) v).0 may l in
        (old.0, let grows = count-grows l (Stores k w) (history T n) in let high = old.1 in omega arith)
later-may T n a v is kind may = absurd (true≢false (sym kind))

-- so no crash is missed
at-turn : (T : Recording) (n : ℕ) (v : ℕ → ℕ) → n ≤ length T.events → is_kind stores_act T (suc n) ≡ false → VectorsAt T n v → (m : ℕ) × (turns T m ≡ true) × VectorsAt T m v
at-turn T n v within none may =
    let x = before-rest T n within none in
    (x.0, x.1, (same_fronts-vectors (history T x.0) (history T n) x.2.fronts x.2.counts v).1 may)

onward-may : (T : Recording) (rest n : ℕ) (v : ℕ → ℕ) → n + rest ≡ length T.events → VectorsAt T n v → (m : ℕ) × (turns T m ≡ true) × VectorsAt T m v
onward-may T zero n v sum may =
    let end : length T.events ≡ n = omega (arith, sum) in
    at-turn T n v (omega (arith, sum)) (ap (λ (k : ℕ). is_kind stores_act T (suc k)) (sym end) ∙ no-kind stores_act T) may
onward-may T (suc rest) n v sum may =
    let some = event-some T n (omega (arith, sum)) in
    go _ (some.0, some.1, refl) (stores_act _) refl (λ later. onward-may T rest (suc n) v (omega (arith, sum)) later)
  where
    go : (a : Act) → IsAct T (suc n) a → (b : Bool) → stores_act a ≡ b → (VectorsAt T (suc n) v → (m : ℕ) × (turns T m ≡ true) × VectorsAt T m v) → (m : ℕ) × (turns T m ≡ true) × VectorsAt T m v
    go a is true kind onward = onward (later-may T n a v is kind may)
    go a is false kind onward = at-turn T n v (omega (arith, sum)) (kind-of stores_act T (suc n) a is ∙ kind) may

pub have-all : (T : Recording) → HaveAllCrashes T
have-all T = record {
  before = λ n within none. before-rest T n within none;
  after = λ n within none. after-rest T n within none;
  whole = λ n within v may. onward-may T (length T.events - n) n v (omega (arith, within)) may;
}
