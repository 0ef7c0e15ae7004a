-- What is told of the events of a trace, one event more.
use Rattle.std.proofs.Common.{◌≡◌, ℕ, zero, suc, ◌+◌, ◌<◌, ◌≤◌, inl, inr, length, get_or, Bool, true, false, ◌||◌, List, [], ◌∷◌, ◌++◌, Option, Some, None, refl, sym, ap, subst, ◌∙◌, arith, true≢false}
use Rattle.std.specs.Prelude.{is_some, if◌then◌else◌, slice_get}
use Rattle.std.proofs.lemmas.Bool.{cases_lt, or_left, or_right}
use Rattle.std.proofs.lemmas.List.Elements.{filter_map-append}
use Rattle.std.proofs.lemmas.Option.{slice_get-get_or, slice_get_cases}
use Rattle.pmt_laws.specs.Prelude.{Layout, Span, Event, Op, Store, Clwb, ClflushOpt, Clflush, Sfence, Mfence, IsPersist, IsOrderedBefore, Act, writes, Recording, act_of, event, history, last_store, option_to_list, list_any, cons_option, filter_map, range_with_len}
use Rattle.pmt_laws.proofs.Histories.{history-suc}
use Rattle.pmt_explain.specs.LastStores.{written_by}
use Rattle.pmt_failures.specs.declared.unwritten.Noted.{Noted}
use Rattle.pmt_failures.specs.declared.unwritten.Unwritten.{Unwritten}
use Rattle.pmt_failures.specs.Showing.{AreNoted, has_byte, is_written, unless_written, entry_of, op_unwritten, event_unwritten, unwritten_at, unwritten_among}

-- ---- The bytes that are written, one event more

some-choice : {A : Type 0} (t : Bool) (x : A) (o : Option A) → is_some (if t then Some x else o) ≡ (t || is_some o)
some-choice true x o = refl
some-choice false x o = refl

written-more : (f : Layout) (t : ℕ) (op : Op) (b : ℕ) (h : List Act) → is_written (act_of f t op ∷ h) b ≡ (written_by op b || is_written h b)
written-more f t (Store w) b h = some-choice (writes w b) _ (last_store b h)
written-more f t (Clwb a) b h = refl
written-more f t (ClflushOpt a) b h = refl
written-more f t (Clflush a) b h = refl
written-more f t Sfence b h = refl
written-more f t Mfence b h = refl
written-more f t (IsPersist r) b h = refl
written-more f t (IsOrderedBefore r q) b h = refl

pub written-next : (T : Recording) (n : ℕ) (e : Event) → event T (suc n) ≡ Some e → (b : ℕ) → is_written (history T (suc n)) b ≡ (written_by e.op b || is_written (history T n) b)
written-next T n e is b = ap (λ (h : List Act). is_written h b) (history-suc T n e is) ∙ written-more T.format e.thread e.op b (history T n)

-- ---- What is told by two tests that agree

any-same : (p q : ℕ → Bool) → ((b : ℕ) → p b ≡ q b) → (bs : List ℕ) → list_any p bs ≡ list_any q bs
any-same p q h [] = refl
any-same p q h (b ∷ bs) = ap (λ (t : Bool). t || list_any p bs) (h b) ∙ ap (λ (t : Bool). q b || t) (any-same p q h bs)

unless-same : (p q : ℕ → Bool) → ((b : ℕ) → p b ≡ q b) → (r : Span) → unless_written p r ≡ unless_written q r
unless-same p q h r = ap (λ (t : Bool). if t then None else Some r) (any-same p q h (range_with_len r.addr r.len))

-- a store is told nothing of, and the others write nothing
told-after : (p q : ℕ → Bool) (i : ℕ) (op : Op) → ((b : ℕ) → q b ≡ (written_by op b || p b)) → op_unwritten q i op ≡ op_unwritten p i op
told-after p q i (Store w) h = refl
told-after p q i (Clwb a) h = refl
told-after p q i (ClflushOpt a) h = refl
told-after p q i (Clflush a) h = refl
told-after p q i Sfence h = refl
told-after p q i Mfence h = refl
told-after p q i (IsPersist r) h = ap (λ (o : Option Span). entry_of i o None) (unless-same q p h r)
told-after p q i (IsOrderedBefore r s) h = ap (λ (o : Option Span). entry_of i o (unless_written q s)) (unless-same q p h r) ∙ ap (λ (o : Option Span). entry_of i (unless_written p r) o) (unless-same q p h s)

told-at : (T : Recording) (n : ℕ) (e : Event) → event T (suc n) ≡ Some e → unwritten_at T (suc n) ≡ op_unwritten (is_written (history T n)) (suc n) e.op
told-at T n e is =
    ap (λ (o : Option Event). event_unwritten (is_written (history T (suc n))) (suc n) o) is
    ∙ told-after (is_written (history T n)) (is_written (history T (suc n))) (suc n) e.op (written-next T n e is)

-- ---- The list, one event more

range-more : (a n : ℕ) → range_with_len a (suc n) ≡ range_with_len a n ++ (a + n) ∷ []
range-more a zero = let same : a ≡ a + 0 = omega arith in ap (λ (k : ℕ). k ∷ []) same
range-more a (suc n) = let next : a + 1 + n ≡ a + suc n = omega arith in ap (λ (ks : List ℕ). a ∷ ks) (range-more (a + 1) n ∙ ap (λ (k : ℕ). range_with_len (a + 1) n ++ k ∷ []) next)

told-one : (f : ℕ → Option Unwritten) (i : ℕ) (o : Option Unwritten) → f i ≡ o → filter_map f (i ∷ []) ≡ option_to_list o
told-one f i None e = ap (λ (o : Option Unwritten). cons_option o []) e
told-one f i (Some u) e = ap (λ (o : Option Unwritten). cons_option o []) e

among-next : (T : Recording) (n : ℕ) (o : Option Unwritten) → unwritten_at T (suc n) ≡ o → unwritten_among T (suc n) ≡ unwritten_among T n ++ option_to_list o
among-next T n o e =
    let place : 1 + n ≡ suc n = omega arith in
    ap (λ (ks : List ℕ). filter_map (unwritten_at T) ks) (range-more 1 n ∙ ap (λ (k : ℕ). range_with_len 1 n ++ k ∷ []) place)
    ∙ filter_map-append (unwritten_at T) (range_with_len 1 n) (suc n ∷ [])
    ∙ ap (λ (us : List Unwritten). unwritten_among T n ++ us) (told-one (unwritten_at T) (suc n) o e)

pub found-next : (T : Recording) (n : ℕ) (e : Event) (old new : List Unwritten) → event T (suc n) ≡ Some e →
    old ≡ unwritten_among T n → new ≡ old ++ option_to_list (op_unwritten (is_written (history T n)) (n + 1) e.op) → new ≡ unwritten_among T (n + 1)
found-next T n e old new is before more =
    let place : n + 1 ≡ suc n = omega arith in
    let entry : Option Unwritten = op_unwritten (is_written (history T n)) (n + 1) e.op in
    let here : unwritten_at T (suc n) ≡ entry = told-at T n e is ∙ sym (ap (λ (i : ℕ). op_unwritten (is_written (history T n)) i e.op) place) in
    more ∙ ap (λ (us : List Unwritten). us ++ option_to_list entry) before ∙ sym (ap (unwritten_among T) place ∙ among-next T n entry here)

pub event-is : (T : Recording) (es : List Event) (i : ℕ) (e : Event) → es ≡ T.events → i < length es → e ≡ get_or es i e → event T (suc i) ≡ Some e
event-is T es i e events within is = ap (λ xs. slice_get xs i) (sym events) ∙ slice_get-get_or es i e within ∙ ap Some (sym is)

-- ---- Bytes that stay written

pub any-weaker : (p q : ℕ → Bool) → ((b : ℕ) → p b ≡ true → q b ≡ true) → (bs : List ℕ) → list_any p bs ≡ true → list_any q bs ≡ true
any-weaker p q h [] some = absurd (true≢false (sym some))
any-weaker p q h (b ∷ bs) some = go (p b) refl (any-weaker p q h bs)
  where
    go : (t : Bool) → p b ≡ t → (list_any p bs ≡ true → list_any q bs ≡ true) → (q b || list_any q bs) ≡ true
    go true is rest = or_left (q b) (list_any q bs) (h b is)
    go false is rest = or_right (q b) (list_any q bs) (rest (sym (ap (λ (t : Bool). t || list_any p bs) is) ∙ some))

stays-next : (T : Recording) (n : ℕ) → n < length T.events → (b : ℕ) → is_written (history T n) b ≡ true → is_written (history T (suc n)) b ≡ true
stays-next T n within b known = elim (slice_get_cases T.events n).1 [
  | inl (e, below, at, same) ↦ written-next T n e at b ∙ or_right (written_by e.op b) (is_written (history T n) b) known
  | inr (past, none) ↦ absurd (omega (arith, past, within))
]

pub written-stays : (T : Recording) (m n : ℕ) → m ≤ n → n ≤ length T.events → (b : ℕ) → is_written (history T m) b ≡ true → is_written (history T n) b ≡ true
written-stays T m zero order within b known = let e : m ≡ 0 = omega arith in subst (λ (k : ℕ). is_written (history T k) b ≡ true) e known
written-stays T m (suc n) order within b known = elim (cases_lt n m) [
  | inl past ↦ let e : m ≡ suc n = omega arith in subst (λ (k : ℕ). is_written (history T k) b ≡ true) e known
  | inr upto ↦ stays-next T n (omega arith) b (written-stays T m n upto (omega arith) b known)
]

-- a store before the place
pub written-before : (T : Recording) (k n : ℕ) (e : Event) (bs : List ℕ) → event T (suc k) ≡ Some e → k < n → n ≤ length T.events → list_any (written_by e.op) bs ≡ true →
    list_any (is_written (history T n)) bs ≡ true
written-before T k n e bs is before within some =
    any-weaker (written_by e.op) (is_written (history T n))
    (λ b writes. written-stays T (suc k) n (omega arith) within b (written-next T k e is b ∙ or_left (written_by e.op b) (is_written (history T k) b) writes)) bs some

-- a byte that is noted
pub noted-before : (T : Recording) (n : ℕ) (noted : Noted) (bs : List ℕ) → AreNoted T n noted → n ≤ length T.events → list_any (has_byte noted.bytes) bs ≡ true → list_any (is_written (history T n)) bs ≡ true
noted-before T n noted bs are within some =
    any-weaker (has_byte noted.bytes) (is_written (history T n)) (λ b has. written-stays T noted.count n are.within within b (sym (are.bytes b) ∙ has)) bs some

-- a range with a written byte is not told
pub none-told : (p : ℕ → Bool) (r : Span) → list_any p (range_with_len r.addr r.len) ≡ true → None ≡ unless_written p r
none-told p r some = sym (ap (λ (t : Bool). if t then None else Some r) some)

-- by what is noted up to the place
pub told-same : (T : Recording) (n : ℕ) (noted : Noted) (r : Span) → AreNoted T n noted → noted.count ≡ n → unless_written (has_byte noted.bytes) r ≡ unless_written (is_written (history T n)) r
told-same T n noted r are all = unless-same (has_byte noted.bytes) (is_written (history T n)) (λ b. are.bytes b ∙ ap (λ (k : ℕ). is_written (history T k) b) all) r
