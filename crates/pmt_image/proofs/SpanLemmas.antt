-- The stores that a crash can lose, and their lines.
use Rattle.pmt_image.proofs.Prelude.{◌≡◌, ℕ, zero, suc, ◌+◌, ◌-◌, ◌<◌, ◌≤◌, ◌⊎◌, ◌==◌, inl, inr, Bool, true, false, List, [], ◌∷◌, ◌++◌, length, map, get_or, take, reverse, Some, refl, sym, ap, ap₂, subst, ◌∙◌, arith, true≢false, if◌then◌else◌, ◌||◌, nat_lt, slice_get, cases_eq, cases_lt, eq-eqb, ne_eqb, lt-ltb, le-ltb, ltb-false, slice_get-get_or, slice_get_within, get_or_append_left, get_or_push, length-append, take_more, reverse-append, filter-append, Act, Stores, count, Recording, IsAct, history, count_at, has_line, with_line, front_at, AllByRecursion, filter, event-some, front-le-count, history-act, LineCount, TellsSafe, StoreSpan, AreSpans, IsSpan, line_by, lines_of_spans, span_by, stored_by, with_span, exposed_by}
use Rattle.pmt_reasons.proofs.CauseLemmas.{rank-store}
use Rattle.pmt_explain.proofs.SavingLemmas.{pending-before}
use Rattle.pmt_image.proofs.CountLemmas.{added, has_line-append}
use Rattle.pmt_image.proofs.NearLemmas.{AreNew, AreNewLines, AreOpen, IsBound, done_after, done-kept, new-with_line, or-true}

-- ---- The spans of events

-- an act that is no store leaves the counts as they are
pub stored-next : (T : Recording) (n : ℕ) (a : Act) (v : ℕ → ℕ) → IsAct T (suc n) a → ((l : ℕ) → v l ≡ count_at T l n) → (k : ℕ) → stored_by a v k ≡ count_at T k (suc n)
stored-next T n (Stores l w) v is before k = go (l == k) ∙ sym (ap (count k) (history-act T n (Stores l w) is))
  where
    go : (b : Bool) → (if b then suc (v k) else v k) ≡ (if b then suc (count_at T k n) else count_at T k n)
    go true = ap (λ (m : ℕ). suc m) (before k)
    go false = before k
stored-next T n a v is before k = before k ∙ sym (ap (count k) (history-act T n a is))

-- the span of the next act
pub span-next : (T : Recording) (n : ℕ) (a : Act) (v : ℕ → ℕ) (s : ℕ) → IsAct T (suc n) a → ((l : ℕ) → v l ≡ count_at T l n) → TellsSafe T (suc n) s → IsSpan T (suc n) a (span_by a v s)
span-next T n (Stores l w) v s is before tells = (refl, ap (λ (m : ℕ). suc m) (before l) ∙ sym (rank-store T l n w is), tells l w is)
span-next T n a v s is before tells = refl

-- ---- Lines by their stores

-- a line with a count and a front, if it is open
abbrev pub entry-by : Bool → ℕ → ℕ → ℕ → LineCount
entry-by true l m o = record { line = l; stores = m; persisted = o }
entry-by false l m o = record { line = l; stores = 0; persisted = 0 }

abbrev pub entry : (ℕ → ℕ) → (ℕ → ℕ) → ℕ → LineCount
entry f c l = entry-by (nat_lt (f l) (c l)) l (c l) (f l)

-- the stores are all those of each line beyond its front
pub record IsGrouped (f c : ℕ → ℕ) (xs : List StoreSpan) : Type 0 where
  pub apart : AreNewLines [] (lines_of_spans xs)
  pub has : (l : ℕ) → has_line l (lines_of_spans xs) ≡ nat_lt (f l) (c l)
  pub each : (l : ℕ) → line_by xs l ≡ entry f c l

grouped-none : (f c : ℕ → ℕ) → ((l : ℕ) → c l ≡ 0) → IsGrouped f c []
grouped-none f c zeros = record {
  apart = tt;
  has = λ l. sym (none l);
  each = λ l. sym (ap (λ (b : Bool). entry-by b l (c l) (f l)) (none l));
}
  where
    none : (l : ℕ) → nat_lt (f l) (c l) ≡ false
    none l = le-ltb (f l) (c l) (let z = zeros l in omega arith)

-- no store was added that is beyond a front
grouped-kept : (f c d : ℕ → ℕ) (xs : List StoreSpan) → ((l : ℕ) → (d l ≡ c l) ⊎ ((c l ≤ f l) × (d l ≤ f l))) → IsGrouped f c xs → IsGrouped f d xs
grouped-kept f c d xs kept x = record { apart = x.apart; has = λ l. x.has l ∙ test l (kept l); each = λ l. x.each l ∙ line l (kept l) }
  where
    test : (l : ℕ) → (d l ≡ c l) ⊎ ((c l ≤ f l) × (d l ≤ f l)) → nat_lt (f l) (c l) ≡ nat_lt (f l) (d l)
    test l (inl same) = ap (λ (m : ℕ). nat_lt (f l) m) (sym same)
    test l (inr both) = le-ltb (f l) (c l) both.0 ∙ sym (le-ltb (f l) (d l) both.1)

    line : (l : ℕ) → (d l ≡ c l) ⊎ ((c l ≤ f l) × (d l ≤ f l)) → entry f c l ≡ entry f d l
    line l (inl same) = ap (λ (m : ℕ). entry-by (nat_lt (f l) m) l m (f l)) (sym same)
    line l (inr both) = ap (λ (b : Bool). entry-by b l (c l) (f l)) (le-ltb (f l) (c l) both.0) ∙ sym (ap (λ (b : Bool). entry-by b l (d l) (f l)) (le-ltb (f l) (d l) both.1))

-- another line is among the lines as before
has-beside : (l k : ℕ) (lines : List ℕ) → (k ≡ l → ⊥) → has_line l (with_line k lines) ≡ has_line l lines
has-beside l k lines other = go (has_line k lines)
  where
    either : (b : Bool) → b || ((k == l) || false) ≡ b
    either true = refl
    either false = rw (ne_eqb k l other) refl

    go : (b : Bool) → has_line l (if b then lines else lines ++ k ∷ []) ≡ has_line l lines
    go true = refl
    go false = has_line-append l lines (k ∷ []) ∙ either (has_line l lines)

-- a line with one more store: it was open, or it is from now on
with-more : (f c : ℕ → ℕ) (l : ℕ) (x : StoreSpan) → x.rank ≡ suc (c l) → f l ≤ c l → with_span x (entry f c l) ≡ entry-by true l (suc (c l)) (f l)
with-more f c l x rank safe = go (cases_lt (f l) (c l))
  where
    before : (m : ℕ) → 0 < m → (if m == 0 then x.rank - 1 else f l) ≡ f l
    before m some = rw (ne_eqb m 0 (λ z. omega (arith, z, some))) refl

    go : (f l < c l) ⊎ (c l ≤ f l) → with_span x (entry f c l) ≡ entry-by true l (suc (c l)) (f l)
    go (inl below) =
        ap (λ (b : Bool). with_span x (entry-by b l (c l) (f l))) (lt-ltb (f l) (c l) below)
        ∙ ap (λ (m : ℕ). entry-by true l m (if c l == 0 then x.rank - 1 else f l)) rank
        ∙ ap (λ (m : ℕ). entry-by true l (suc (c l)) m) (before (c l) (omega (arith, below)))
    go (inr above) =
        let first : x.rank - 1 ≡ f l = omega (arith, rank, safe, above) in
        ap (λ (b : Bool). with_span x (entry-by b l (c l) (f l))) (le-ltb (f l) (c l) above)
        ∙ ap (λ (m : ℕ). entry-by true l m (x.rank - 1)) rank ∙ ap (λ (m : ℕ). entry-by true l (suc (c l)) m) first

-- a store beyond its front was added
grouped-more : (f c d : ℕ → ℕ) (xs : List StoreSpan) (x : StoreSpan) (l : ℕ) → x.line ≡ l → x.rank ≡ suc (c l) → d l ≡ suc (c l) → ((k : ℕ) → (l ≡ k → ⊥) → d k ≡ c k) → f l ≤ c l → IsGrouped f c xs → IsGrouped f d (x ∷ xs)
grouped-more f c d xs x l line rank more others safe g = record { apart = new-with_line x.line (lines_of_spans xs) g.apart; has = λ k. has k (cases_eq x.line k); each = λ k. each k (cases_eq x.line k) }
  where
    apart-from : (k : ℕ) → (x.line ≡ k → ⊥) → l ≡ k → ⊥
    apart-from k other same = other (line ∙ same)

    has : (k : ℕ) → (x.line ≡ k) ⊎ (x.line ≡ k → ⊥) → has_line k (with_line x.line (lines_of_spans xs)) ≡ nat_lt (f k) (d k)
    has k (inl same) =
        let is : l ≡ k = sym line ∙ same in
        let P : ℕ → Type 0 = λ j. has_line j (with_line x.line (lines_of_spans xs)) ≡ true in
        let Q : ℕ → Type 0 = λ j. nat_lt (f j) (d j) ≡ true in
        subst P same (added x.line (lines_of_spans xs)) ∙ sym (subst Q is (lt-ltb (f l) (d l) (omega (arith, more, safe))))
    has k (inr other) = has-beside k x.line (lines_of_spans xs) other ∙ g.has k ∙ ap (λ (m : ℕ). nat_lt (f k) m) (sym (others k (apart-from k other)))

    there : with_span x (line_by xs l) ≡ entry f d l
    there =
        ap (with_span x) (g.each l) ∙ with-more f c l x rank safe ∙ ap (λ (m : ℕ). entry-by true l m (f l)) (sym more)
        ∙ sym (ap (λ (b : Bool). entry-by b l (d l) (f l)) (lt-ltb (f l) (d l) (omega (arith, more, safe))))

    each : (k : ℕ) → (x.line ≡ k) ⊎ (x.line ≡ k → ⊥) → (if x.line == k then with_span x (line_by xs k) else line_by xs k) ≡ entry f d k
    each k (inl same) =
        let is : l ≡ k = sym line ∙ same in
        let Q : ℕ → Type 0 = λ j. with_span x (line_by xs j) ≡ entry f d j in
        rw (eq-eqb x.line k same) (subst Q is there)
    each k (inr other) =
        rw (ne_eqb x.line k other)
        (g.each k ∙ ap (λ (m : ℕ). entry-by (nat_lt (f k) m) k m (f k)) (sym (others k (apart-from k other))))

-- one more event was looked at
grouped-next : (T : Recording) (n k : ℕ) (a : Act) (x : StoreSpan) (xs : List StoreSpan) → IsAct T (suc k) a → IsSpan T (suc k) a x → n ≤ length T.events →
    IsGrouped (λ l. front_at T l n) (λ l. count_at T l k) xs → IsGrouped (λ l. front_at T l n) (λ l. count_at T l (suc k)) (if nat_lt n x.safe then x ∷ xs else xs)
grouped-next T n k (Stores l w) x xs is span within g = go (cases_lt (front_at T l n) (count_at T l (suc k)))
  where
    F : ℕ → ℕ
    F j = front_at T j n

    C : ℕ → ℕ
    C j = count_at T j k

    D : ℕ → ℕ
    D j = count_at T j (suc k)

    others : (j : ℕ) → (l ≡ j → ⊥) → count_at T j (suc k) ≡ count_at T j k
    others j other = ap (count j) (history-act T k (Stores l w) is) ∙ rw (ne_eqb l j other) refl

    more : count_at T l (suc k) ≡ suc (count_at T l k)
    more = rank-store T l k w is

    kept : (j : ℕ) → count_at T l (suc k) ≤ front_at T l n → (l ≡ j) ⊎ (l ≡ j → ⊥) → (D j ≡ C j) ⊎ ((C j ≤ F j) × (D j ≤ F j))
    kept j above (inr other) = inl (others j other)
    kept j above (inl same) =
        let P : ℕ → Type 0 = λ i. (C i ≤ F i) × (D i ≤ F i) in
        inr (subst P same (omega (arith, more, above), above))

    go : (front_at T l n < count_at T l (suc k)) ⊎ (count_at T l (suc k) ≤ front_at T l n) → IsGrouped F D (if nat_lt n x.safe then x ∷ xs else xs)
    go (inl below) =
        rw (lt-ltb n x.safe ((pending-before T l n (suc k) x.safe within span.2).1 below))
        (grouped-more F C D xs x l span.0 (span.1 ∙ more) more others (omega (arith, more, below)) g)
    go (inr above) =
        let late : x.safe ≤ n = elim (cases_lt n x.safe) [
          | inl before ↦ absurd (omega (arith, (pending-before T l n (suc k) x.safe within span.2).0 before, above))
          | inr upto ↦ upto
        ] in
        rw (le-ltb n x.safe late) (grouped-kept F C D xs (λ j. kept j above (cases_eq l j)) g)
grouped-next T n k a x xs is span within g = rw (le-ltb n x.safe (omega (arith, span))) (grouped-kept _ _ _ xs (λ j. inl (ap (count j) (history-act T k a is))) g)

-- the stores of the first k events that a crash at place n can lose, the newest first
abbrev pub exposed_to : List StoreSpan → ℕ → ℕ → List StoreSpan
exposed_to spans n k = reverse (filter (λ x. nat_lt n x.safe) (take k spans))

exposed-next : (spans : List StoreSpan) (n k : ℕ) (x : StoreSpan) → k < length spans → exposed_to spans n (suc k) ≡ (if nat_lt n (get_or spans k x).safe then get_or spans k x ∷ exposed_to spans n k else exposed_to spans n k)
exposed-next spans n k x within =
    let one : suc k ≡ k + 1 = omega arith in
    ap (λ (m : ℕ). exposed_to spans n m) one
    ∙ ap (λ (ys : List StoreSpan). reverse (filter (λ y. nat_lt n y.safe) ys)) (take_more spans k x within)
    ∙ ap (λ (ys : List StoreSpan). reverse ys) (filter-append (λ (y : StoreSpan). nat_lt n y.safe) (take k spans) (get_or spans k x ∷ []))
    ∙ reverse-append (filter (λ y. nat_lt n y.safe) (take k spans)) (filter (λ y. nat_lt n y.safe) (get_or spans k x ∷ []))
    ∙ go (nat_lt n (get_or spans k x).safe)
  where
    go : (b : Bool) → reverse (if b then get_or spans k x ∷ [] else []) ++ exposed_to spans n k ≡ (if b then get_or spans k x ∷ exposed_to spans n k else exposed_to spans n k)
    go true = refl
    go false = refl

-- so they are grouped
grouped-to : (T : Recording) (n k : ℕ) (spans : List StoreSpan) → AreSpans T spans → n ≤ length T.events → k ≤ n → IsGrouped (λ l. front_at T l n) (λ l. count_at T l k) (exposed_to spans n k)
grouped-to T n zero spans are within few = grouped-none _ _ (λ l. refl)
grouped-to T n (suc k) spans are within few =
    let inside : k < length T.events = omega (arith, within, few) in
    let at : k < length spans = omega (arith, are.size, within, few) in
    let some = event-some T k inside in
    let none : StoreSpan = record { line = 0; rank = 0; safe = 0 } in
    let span = are.each k (get_or spans k none) (slice_get-get_or spans k none at) _ (some.0, some.1, refl) in
    subst (λ (ys : List StoreSpan). IsGrouped (λ l. front_at T l n) (λ l. count_at T l (suc k)) ys) (sym (exposed-next spans n k none at))
    (grouped-next T n k _ (get_or spans k none) (exposed_to spans n k) (some.0, some.1, refl) span within (grouped-to T n k spans are within (omega (arith, few))))

-- ---- Open lines

new-mapped : (g : ℕ → LineCount) (ks done : List ℕ) → ((k : ℕ) → (g k).line ≡ k) → AreNewLines done ks → AreNew done (map g ks)
new-mapped g [] done own new = tt
new-mapped g (k ∷ ks) done own new = rw (own k) (new.0, new-mapped g ks (k ∷ done) own new.1)

done-mapped : (g : ℕ → LineCount) (l : ℕ) (ks done : List ℕ) → ((k : ℕ) → (g k).line ≡ k) → has_line l ks ≡ true → has_line l (done_after done (map g ks)) ≡ true
done-mapped g l [] done own has = absurd (true≢false (sym has))
done-mapped g l (k ∷ ks) done own has = rw (own k) (go (cases_eq k l) (done-mapped g l ks (k ∷ done) own))
  where
    go : (k ≡ l) ⊎ (k ≡ l → ⊥) → (has_line l ks ≡ true → has_line l (done_after (k ∷ done) (map g ks)) ≡ true) → has_line l (done_after (k ∷ done) (map g ks)) ≡ true
    go (inl same) later = done-kept l (map g ks) (k ∷ done) (ap (λ (b : Bool). b || has_line l done) (eq-eqb k l same))
    go (inr other) later = later (sym (ap (λ (b : Bool). b || has_line l ks) (ne_eqb k l other)) ∙ has)

all-mapped : (P : LineCount → Type 0) (g : ℕ → LineCount) (ks : List ℕ) → ((k : ℕ) → has_line k ks ≡ true → P (g k)) → AllByRecursion P (map g ks)
all-mapped P g [] each = tt
all-mapped P g (k ∷ ks) each = (each k (ap (λ (b : Bool). b || has_line k ks) (eq-eqb k k refl)), all-mapped P g ks (λ j has. each j (or-true (k == j) (has_line j ks) has)))

pub open-grouped : (T : Recording) (n : ℕ) (xs : List StoreSpan) → IsGrouped (λ l. front_at T l n) (λ l. count_at T l n) xs → AreOpen T n (map (line_by xs) (lines_of_spans xs))
open-grouped T n xs g = record {
  new = new-mapped (line_by xs) (lines_of_spans xs) [] own g.apart;
  bounds = all-mapped (IsBound T n) (line_by xs) (lines_of_spans xs) (λ k has. bound k (sym (g.has k) ∙ has));
  closed = λ l out. closed l out (has_line l (lines_of_spans xs)) refl;
}
  where
    named : (b : Bool) (l m o : ℕ) → (entry-by b l m o).line ≡ l
    named true l m o = refl
    named false l m o = refl

    own : (k : ℕ) → (line_by xs k).line ≡ k
    own k = ap (λ (y : LineCount). y.line) (g.each k) ∙ named (nat_lt (front_at T k n) (count_at T k n)) k (count_at T k n) (front_at T k n)

    bound : (k : ℕ) → nat_lt (front_at T k n) (count_at T k n) ≡ true → IsBound T n (line_by xs k)
    bound k is =
        let whole : line_by xs k ≡ entry-by true k (count_at T k n) (front_at T k n) = g.each k ∙ ap (λ (b : Bool). entry-by b k (count_at T k n) (front_at T k n)) is in
        subst (IsBound T n) (sym whole) (record { least = refl; greatest = refl })

    closed : (l : ℕ) → has_line l (done_after [] (map (line_by xs) (lines_of_spans xs))) ≡ false → (b : Bool) → has_line l (lines_of_spans xs) ≡ b → front_at T l n ≡ count_at T l n
    closed l out true has = absurd (true≢false (sym (done-mapped (line_by xs) l (lines_of_spans xs) [] own has) ∙ out))
    closed l out false none =
        let many = ltb-false (front_at T l n) (count_at T l n) (sym (g.has l) ∙ none) in
        let few = front-le-count l (history T n) in
        omega arith

-- the lines of the stores that a crash at the place can lose are its open ones
pub open-exposed : (T : Recording) (n : ℕ) (spans : List StoreSpan) → AreSpans T spans → n ≤ length T.events → AreOpen T n (map (line_by (reverse (exposed_by spans n))) (lines_of_spans (reverse (exposed_by spans n))))
open-exposed T n spans are within = open-grouped T n (reverse (exposed_by spans n)) (grouped-to T n n spans are within (omega arith))

-- ---- Steps of loops

-- one more store, newest first
pub newest-first : {X : Type 0} (xs : List X) (i : ℕ) (d : X) → i < length xs → reverse (take (i + 1) xs) ≡ get_or xs i d ∷ reverse (take i xs)
newest-first {X = X} xs i d within = ap (λ (ys : List X). reverse ys) (take_more xs i d within) ∙ reverse-append (take i xs) (get_or xs i d ∷ [])

-- the same lines by the same functions
pub mapped-same : (f g : ℕ → LineCount) (ks : List ℕ) → ((k : ℕ) → f k ≡ g k) → map f ks ≡ map g ks
mapped-same f g [] same = refl
mapped-same f g (k ∷ ks) same = ap₂ (λ (y : LineCount) (ys : List LineCount). y ∷ ys) (same k) (mapped-same f g ks same)

-- the span of one more event
pub spans-more : (T : Recording) (n : ℕ) (old new : List StoreSpan) (x : StoreSpan) → ((i : ℕ) (y : StoreSpan) → slice_get old i ≡ Some y → (a : Act) → IsAct T (suc i) a → IsSpan T (suc i) a y) → length old ≡ n → new ≡ old ++ x ∷ [] →
    ((a : Act) → IsAct T (suc n) a → IsSpan T (suc n) a x) → (i : ℕ) (y : StoreSpan) → slice_get new i ≡ Some y → (a : Act) → IsAct T (suc i) a → IsSpan T (suc i) a y
spans-more T n old new x each size is last i y at a act = go (cases_lt i n)
  where
    here : slice_get (old ++ x ∷ []) i ≡ Some y
    here = ap (λ (ys : List StoreSpan). slice_get ys i) (sym is) ∙ at

    within : i < length (old ++ x ∷ [])
    within = slice_get_within (old ++ x ∷ []) i y here

    read : get_or (old ++ x ∷ []) i x ≡ y
    read = some-same (sym (slice_get-get_or (old ++ x ∷ []) i x within) ∙ here)
      where
        some-same : Some (get_or (old ++ x ∷ []) i x) ≡ Some y → get_or (old ++ x ∷ []) i x ≡ y
        some-same e = cc

    go : (i < n) ⊎ (n ≤ i) → IsSpan T (suc i) a y
    go (inl before) =
        let inside : i < length old = omega (arith, before, size) in
        each i y (slice_get-get_or old i x inside ∙ ap Some (sym (get_or_append_left old (x ∷ []) x i inside) ∙ read)) a act
    go (inr past) =
        let long = length-append old (x ∷ []) in
        let same : i ≡ n = omega (arith, past, within, long, size) in
        let end : x ≡ y = sym (get_or_push old x x i (omega (arith, same, size))) ∙ read in
        subst (λ (z : StoreSpan). IsSpan T (suc i) a z) end (subst (λ (k : ℕ). IsAct T (suc k) a → IsSpan T (suc k) a x) (sym same) (last a) act)
