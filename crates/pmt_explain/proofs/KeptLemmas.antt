-- What memory holds at a byte, by its last persisted store.
use Rattle.std.proofs.Common.{◌≡◌, ℕ, zero, suc, ◌+◌, ◌-◌, ◌<◌, ◌≤◌, ◌⊎◌, inl, inr, Bool, true, false, List, [], ◌∷◌, ◌++◌, length, take, drop, Option, None, Some, MatchOption, refl, sym, ap, subst, ◌∙◌, arith, get_or}
use Rattle.std.specs.Prelude.{◌&&◌, if◌then◌else◌, unwrap_or, nat_le, nat_lt, slice_get}
use Rattle.std.proofs.lemmas.List.{take_all, drop_all}
use Rattle.std.proofs.lemmas.Option.{same_Some, slice_get_within}
use Rattle.std.proofs.lemmas.Bool.{false≢true, cases_lt, leb-true, le-leb, lt-leb, lt-ltb, le-ltb}
use Rattle.pmt_explain.specs.Prelude.{Event, Layout, Span, Written, Act, Stores, Flushes, Clflushes, Fences, Asserts, writes, image_of, Recording, IsAct, act, act_of, history, count_at, persisted_at}
use Rattle.pmt_laws.proofs.Histories.{act-unique, act-within, history-act, history-suc, history-step, length-history, count-mono}
use Rattle.pmt_reasons.proofs.CauseLemmas.{rank-store, rank-above}
use Rattle.pmt_explain.specs.declared.crash.Crash.{Crash}
use Rattle.pmt_explain.specs.declared.bytes.StoredByte.{StoredByte}
use Rattle.pmt_explain.specs.declared.bytes.CrashByte.{CrashByte}
use Rattle.pmt_explain.specs.Crashes.{IsPersistedStore, IsLastPersisted, value_of, IsCrashByte, AreCrashBytes, persisted_to, IsCrashAt, keeps, last_kept, AreLastKept, IsReadOf, AreReadOf, IsWrittenBy}

-- a choice behind unwrap_or
choice-unwrapped : (t : Bool) (m : ℕ) (o : Option ℕ) → unwrap_or (if t then Some m else o) 0 ≡ (if t then m else unwrap_or o 0)
choice-unwrapped true m o = refl
choice-unwrapped false m o = refl

-- after one more event, at an index of the list
pub kept-next : (T : Recording) (c : Crash) (f : Layout) (es : List Event) (first n number : ℕ) (e : Event) (old new : List ℕ) → f ≡ T.format → es ≡ T.events → number ≡ suc n → slice_get es n ≡ Some e → n < length T.events →
    length new ≡ length old → ((t k : ℕ) → k < length old → get_or new k 0 ≡ (if keeps c number (act_of f t e.op) (first + k) then number else get_or old k 0)) →
    AreLastKept T c first n old → AreLastKept T c first number new
kept-next T c f es first n number e old new format events next is within size noted before k fits =
    let inside : k < length old = omega arith in
    let b = first + k in
    let h = history T n in
    let a : Act = act T.format e in
    let grown : history T number ≡ a ∷ h = ap (history T) next ∙ history-suc T n e (ap (λ xs. slice_get xs n) (sym events) ∙ is) in
    let long : suc (length h) ≡ number = ap suc (length-history T n (omega arith)) ∙ sym next in
    let told : unwrap_or (last_kept c b (history T number)) 0 ≡ (if keeps c (suc (length h)) a b then suc (length h) else unwrap_or (last_kept c b h) 0) =
    ap (λ (g : List Act). unwrap_or (last_kept c b g) 0) grown ∙ choice-unwrapped (keeps c (suc (length h)) a b) (suc (length h)) (last_kept c b h) in
    noted e.thread k inside
    ∙ ap (λ (g : Layout). if keeps c number (act_of g e.thread e.op) b then number else get_or old k 0) format
    ∙ ap (λ (x : ℕ). if keeps c number a b then number else x) (before k inside)
    ∙ ap (λ (x : ℕ). if keeps c x a b then x else unwrap_or (last_kept c b h) 0) (sym long)
    ∙ sym told

-- a slice that was lent out of a vector of its length comes back whole
nil-right : (xs : List ℕ) → xs ++ [] ≡ xs
nil-right [] = refl
nil-right (x ∷ xs) = ap (λ ys. x ∷ ys) (nil-right xs)

pub slice-back : (len : ℕ) (xs items : List ℕ) → length xs ≡ len → length items ≡ len → take len (xs ++ drop (length xs) items) ≡ xs
slice-back len xs items long whole = ap (λ ys. take len (xs ++ ys)) (drop_all (length xs) items (omega arith)) ∙ ap (take len) (nil-right xs) ∙ take_all len xs (omega arith)

-- of the first m events, store i is the last persisted one to the byte at b, and the image has what it wrote
pub record IsKeptStore (T : Recording) (n : ℕ) (full : Option ℕ) (m b i : ℕ) : Type 0 where
  pub line : ℕ
  pub what : Written
  pub is_store : IsAct T i (Stores line what)
  pub writes_byte : writes what b ≡ true
  pub persisted : count_at T line i ≤ persisted_at T n full line
  pub image : image_of (persisted_at T n full) (history T m) b ≡ slice_get what.bytes (b - what.addr)
  pub last : (j : ℕ) → j ≤ m → IsPersistedStore T n full b j → j ≤ i

-- what the number of the last persisted store tells
abbrev pub TellsKept : Recording → ℕ → Option ℕ → ℕ → ℕ → Option ℕ → Type 0
TellsKept T n full m b None = (image_of (persisted_at T n full) (history T m) b ≡ None) × ((j : ℕ) → j ≤ m → ¬ IsPersistedStore T n full b j)
TellsKept T n full m b (Some i) = IsKeptStore T n full m b i

-- one more event that is no persisted store to the byte
tells-same : (T : Recording) (n : ℕ) (full : Option ℕ) (m b : ℕ) (o : Option ℕ) → image_of (persisted_at T n full) (history T (suc m)) b ≡ image_of (persisted_at T n full) (history T m) b →
    ¬ IsPersistedStore T n full b (suc m) → TellsKept T n full m b o → TellsKept T n full (suc m) b o
tells-same T n full m b None image none x = (
  image ∙ x.0,
  λ j within p. elim (cases_lt j (suc m)) [
    | inl earlier ↦ x.1 j (omega arith) p
    | inr late ↦ let e : j ≡ suc m = omega arith in none (subst (λ k. IsPersistedStore T n full b k) e p)
  ],
)
tells-same T n full m b (Some i) image none x = record {
  line = x.line;
  what = x.what;
  is_store = x.is_store;
  writes_byte = x.writes_byte;
  persisted = x.persisted;
  image = image ∙ x.image;
  last = λ j within p. elim (cases_lt j (suc m)) [
    | inl earlier ↦ x.last j (omega arith) p
    | inr late ↦ let e : j ≡ suc m = omega arith in absurd (none (subst (λ k. IsPersistedStore T n full b k) e p))
  ];
}

-- the image writes a store exactly where the crash has it persisted
kept-test : (T : Recording) (n : ℕ) (full : Option ℕ) (c : Crash) (m l : ℕ) (w : Written) → IsCrashAt T n full c → IsAct T (suc m) (Stores l w) →
    nat_lt (count_at T l m) (persisted_at T n full l) ≡ nat_le (suc m) (persisted_to c l)
kept-test T n full c m l w crash is = go (cases_lt (persisted_to c l) (suc m))
  where
    to : ℕ
    to = persisted_to c l

    go : (to < suc m) ⊎ (suc m ≤ to) → nat_lt (count_at T l m) (persisted_at T n full l) ≡ nat_le (suc m) to
    go (inl past) =
        le-ltb (count_at T l m) (persisted_at T n full l) (omega (arith, crash.persisted l, count-mono T l to m (omega arith)))
        ∙ sym (lt-leb (suc m) to past)
    go (inr within) =
        lt-ltb (count_at T l m) (persisted_at T n full l) (omega (arith, crash.persisted l, rank-store T l m w is, count-mono T l (suc m) to within))
        ∙ sym (le-leb (suc m) to within)

-- a persisted store passes both tests
persisted-tests : (T : Recording) (n : ℕ) (full : Option ℕ) (c : Crash) (m l b : ℕ) (w : Written) → IsCrashAt T n full c → IsAct T (suc m) (Stores l w) → IsPersistedStore T n full b (suc m) →
    (nat_le (suc m) (persisted_to c l) ≡ true) × (writes w b ≡ true)
persisted-tests T n full c m l b w crash is p =
    let same = act-unique T (suc m) (Stores p.line p.what) (Stores l w) p.is_store is in
    let line : p.line ≡ l = cc in
    let what : p.what ≡ w = cc in
    let few : count_at T l (suc m) ≤ persisted_at T n full l = subst (λ k. count_at T k (suc m) ≤ persisted_at T n full k) line p.persisted in (
      elim (cases_lt (persisted_to c l) (suc m)) [
        | inl past ↦ absurd (omega (arith, crash.persisted l, few, rank-above T l (persisted_to c l) (suc m) w is past))
        | inr within ↦ le-leb (suc m) (persisted_to c l) within
      ],
      subst (λ v. writes v b ≡ true) what p.writes_byte,
    )

-- a store
tells-store : (T : Recording) (n : ℕ) (full : Option ℕ) (c : Crash) (m l b : ℕ) (w : Written) (o : Option ℕ) → IsCrashAt T n full c → IsAct T (suc m) (Stores l w) → TellsKept T n full m b o →
    TellsKept T n full (suc m) b (if nat_le (suc m) (persisted_to c l) && writes w b then Some (suc m) else o)
tells-store T n full c m l b w o crash is x = go (nat_le (suc m) (persisted_to c l)) (writes w b) refl refl
  where
    old : Option ℕ
    old = image_of (persisted_at T n full) (history T m) b

    image : image_of (persisted_at T n full) (history T (suc m)) b ≡ (if nat_le (suc m) (persisted_to c l) then (if writes w b then slice_get w.bytes (b - w.addr) else old) else old)
    image =
        ap (λ h. image_of (persisted_at T n full) h b) (history-act T m (Stores l w) is)
        ∙ ap (λ (t : Bool). if t then (if writes w b then slice_get w.bytes (b - w.addr) else old) else old) (kept-test T n full c m l w crash is)

    go : (t u : Bool) → nat_le (suc m) (persisted_to c l) ≡ t → writes w b ≡ u → TellsKept T n full (suc m) b (if t && u then Some (suc m) else o)
    go true true kept own = record {
      line = l;
      what = w;
      is_store = is;
      writes_byte = own;
      persisted = omega (arith, crash.persisted l, count-mono T l (suc m) (persisted_to c l) (leb-true (suc m) (persisted_to c l) kept));
      image = image ∙ ap (λ (t : Bool). if t then (if writes w b then slice_get w.bytes (b - w.addr) else old) else old) kept ∙ ap (λ (u : Bool). if u then slice_get w.bytes (b - w.addr) else old) own;
      last = λ j within p. within;
    }
    go true false kept other =
        tells-same T n full m b o
        (image ∙ ap (λ (t : Bool). if t then (if writes w b then slice_get w.bytes (b - w.addr) else old) else old) kept ∙ ap (λ (u : Bool). if u then slice_get w.bytes (b - w.addr) else old) other)
        (λ p. false≢true (sym other ∙ (persisted-tests T n full c m l b w crash is p).1)) x
    go false u lost own =
        tells-same T n full m b o (image ∙ ap (λ (t : Bool). if t then (if writes w b then slice_get w.bytes (b - w.addr) else old) else old) lost)
        (λ p. false≢true (sym lost ∙ (persisted-tests T n full c m l b w crash is p).0)) x

-- an act that is no store
tells-other : (T : Recording) (n : ℕ) (full : Option ℕ) (m b : ℕ) (a : Act) (o : Option ℕ) → IsAct T (suc m) a → ((l : ℕ) (w : Written) → Stores l w ≡ a → ⊥) →
    image_of (persisted_at T n full) (a ∷ history T m) b ≡ image_of (persisted_at T n full) (history T m) b → TellsKept T n full m b o → TellsKept T n full (suc m) b o
tells-other T n full m b a o is apart image x =
    tells-same T n full m b o (ap (λ h. image_of (persisted_at T n full) h b) (history-act T m a is) ∙ image)
    (λ p. apart p.line p.what (act-unique T (suc m) (Stores p.line p.what) a p.is_store is)) x

tells-act : (T : Recording) (n : ℕ) (full : Option ℕ) (c : Crash) (m b : ℕ) (a : Act) (o : Option ℕ) → IsCrashAt T n full c → IsAct T (suc m) a → TellsKept T n full m b o →
    TellsKept T n full (suc m) b (if keeps c (suc m) a b then Some (suc m) else o)
tells-act T n full c m b (Stores l w) o crash is x = tells-store T n full c m l b w o crash is x
tells-act T n full c m b (Flushes t l) o crash is x = tells-other T n full m b (Flushes t l) o is (λ k w e. cc) refl x
tells-act T n full c m b (Clflushes l) o crash is x = tells-other T n full m b (Clflushes l) o is (λ k w e. cc) refl x
tells-act T n full c m b (Fences t) o crash is x = tells-other T n full m b (Fences t) o is (λ k w e. cc) refl x
tells-act T n full c m b Asserts o crash is x = tells-other T n full m b Asserts o is (λ k w e. cc) refl x

-- the last persisted store is told, and the image with it
pub tells-kept : (T : Recording) (n : ℕ) (full : Option ℕ) (c : Crash) (b m : ℕ) → IsCrashAt T n full c → TellsKept T n full m b (last_kept c b (history T m))
tells-kept T n full c b zero crash = (refl, λ j within p. absurd (omega (arith, (act-within T j (Stores p.line p.what) p.is_store).0)))
tells-kept T n full c b (suc m) crash =
    let before = tells-kept T n full c b m crash in
    elim (history-step T m) [
      | inl x ↦
          let within = (act-within T (suc m) x.0 x.1).1 in
          let long : length (history T m) ≡ m = length-history T m (omega arith) in
          let grown : last_kept c b (history T (suc m)) ≡ (if keeps c (suc m) x.0 b then Some (suc m) else last_kept c b (history T m)) =
          ap (last_kept c b) (history-act T m x.0 x.1) ∙ ap (λ (k : ℕ). if keeps c (suc k) x.0 b then Some (suc k) else last_kept c b (history T m)) long in
          subst (TellsKept T n full (suc m) b) (sym grown) (tells-act T n full c m b x.0 (last_kept c b (history T m)) crash x.1 before)
      | inr x ↦
          subst (TellsKept T n full (suc m) b) (sym (ap (last_kept c b) x.1))
          (tells-same T n full m b (last_kept c b (history T m)) (ap (λ h. image_of (persisted_at T n full) h b) x.1)
          (λ p. absurd (omega (arith, x.0, (act-within T (suc m) (Stores p.line p.what) p.is_store).1))) before)
    ]

-- a persisted store comes by the crash
persisted-by_place : (T : Recording) (n : ℕ) (full : Option ℕ) (c : Crash) (b j : ℕ) → IsCrashAt T n full c → IsPersistedStore T n full b j → j ≤ c.place
persisted-by_place T n full c b j crash p = elim (cases_lt c.place j) [
  | inl after ↦
      absurd (omega (arith, p.persisted, crash.persisted p.line, rank-above T p.line c.place j p.what p.is_store after, count-mono T p.line (persisted_to c p.line) c.place (crash.by_place p.line)))
  | inr within ↦ within
]

-- what the byte holds
abbrev HoldsByte : Recording → ℕ → Option ℕ → ℕ → Option StoredByte → Type 0
HoldsByte T n full b o =
    (value_of o ≡ image_of (persisted_at T n full) (history T n) b) × MatchOption o ((j : ℕ) → ¬ IsPersistedStore T n full b j) (λ y. IsLastPersisted T n full b y.store)

holds-none : (T : Recording) (n : ℕ) (full : Option ℕ) (c : Crash) (b : ℕ) → IsCrashAt T n full c → TellsKept T n full c.place b None → HoldsByte T n full b None
holds-none T n full c b crash x = (
  sym (ap (λ h. image_of (persisted_at T n full) h b) (sym crash.same) ∙ x.0),
  λ j p. x.1 j (persisted-by_place T n full c b j crash p) p,
)

holds-some : (T : Recording) (n : ℕ) (full : Option ℕ) (c : Crash) (b i : ℕ) (o : Option StoredByte) → IsCrashAt T n full c → (x : IsKeptStore T n full c.place b i) → IsWrittenBy i x.what b o → HoldsByte T n full b o
holds-some T n full c b i None crash x written = absurd written
holds-some T n full c b i (Some y) crash x written = (
  written.1 ∙ sym (ap (λ h. image_of (persisted_at T n full) h b) (sym crash.same) ∙ x.image),
  subst (IsLastPersisted T n full b) (sym written.0) (record {
    is_persisted = record { line = x.line; what = x.what; is_store = x.is_store; writes_byte = x.writes_byte; persisted = x.persisted };
    last = λ j p. x.last j (persisted-by_place T n full c b j crash p) p;
  }),
)

pub crash-byte : (T : Recording) (n : ℕ) (full : Option ℕ) (c : Crash) (b store : ℕ) (x : CrashByte) → IsCrashAt T n full c → store ≡ unwrap_or (last_kept c b (history T c.place)) 0 → x.byte ≡ b →
    (store ≡ 0 → x.last ≡ None) → ((l : ℕ) (w : Written) → IsAct T store (Stores l w) → writes w b ≡ true → IsWrittenBy store w b x.last) → IsCrashByte T n full b x
crash-byte T n full c b store x crash is byte none some =
    let all : HoldsByte T n full b x.last = go (last_kept c b (history T c.place)) (tells-kept T n full c b c.place crash) is in
    record { byte = byte; value = all.0; last = all.1 }
  where
    go : (o : Option ℕ) → TellsKept T n full c.place b o → store ≡ unwrap_or o 0 → HoldsByte T n full b x.last
    go None tells e = subst (HoldsByte T n full b) (sym (none e)) (holds-none T n full c b crash tells)
    go (Some i) tells e =
        let written : IsWrittenBy store tells.what b x.last = some tells.line tells.what (subst (λ s. IsAct T s (Stores tells.line tells.what)) (sym e) tells.is_store) tells.writes_byte in
        holds-some T n full c b i x.last crash tells (subst (λ s. IsWrittenBy s tells.what b x.last) e written)

-- one more element
get-pushed : (xs : List CrashByte) (x y : CrashByte) (k : ℕ) → slice_get (xs ++ x ∷ []) k ≡ Some y → (slice_get xs k ≡ Some y) ⊎ ((k ≡ length xs) × (x ≡ y))
get-pushed [] x y zero e = inr (refl, same_Some x y e)
get-pushed [] x y (suc k) e = absurd (cc)
get-pushed (z ∷ xs) x y zero e = inl e
get-pushed (z ∷ xs) x y (suc k) e = elim (get-pushed xs x y k e) [ inl old ↦ inl old | inr new ↦ inr (omega (arith, new.0), new.1) ]

-- one more byte
pub bytes-pushed : (Tells : ℕ → CrashByte → Type 0) (index : ℕ) (xs ys : List CrashByte) (x : CrashByte) → ys ≡ xs ++ x ∷ [] → length xs ≡ index → Tells index x →
    ((k : ℕ) (y : CrashByte) → slice_get xs k ≡ Some y → Tells k y) → (k : ℕ) (y : CrashByte) → slice_get ys k ≡ Some y → Tells k y
bytes-pushed Tells index xs ys x is size new old k y e = elim (get-pushed xs x y k (ap (λ zs. slice_get zs k) (sym is) ∙ e)) [
  | inl there ↦ old k y there
  | inr last ↦
      let at : index ≡ k = omega (arith, last.0, size) in
      subst (λ j. Tells j y) at (subst (Tells index) last.1 new)
]

pub length-pushed : (xs ys : List CrashByte) (x : CrashByte) → ys ≡ xs ++ x ∷ [] → length ys ≡ suc (length xs)
length-pushed xs ys x e = ap (λ zs. length zs) e ∙ go xs
  where
    go : (zs : List CrashByte) → length (zs ++ x ∷ []) ≡ suc (length zs)
    go [] = refl
    go (z ∷ zs) = ap suc (go zs)

-- what is read of the last persisted stores
pub crash-bytes : (T : Recording) (n : ℕ) (full : Option ℕ) (c : Crash) (A : Span) (first : ℕ) (stores : List ℕ) (bytes : List CrashByte) → IsCrashAt T n full c → first ≡ A.addr → length stores ≡ A.len →
    AreLastKept T c A.addr c.place stores → AreReadOf T first stores bytes → AreCrashBytes T n full A bytes
crash-bytes T n full c A first stores bytes crash start long kept read = record {
  size = read.size ∙ long;
  each = λ k x e.
      let within : k < length stores = omega (arith, slice_get_within bytes k x e, read.size) in
      let r : IsReadOf T (get_or stores k 0) (A.addr + k) x = subst (λ b. IsReadOf T (get_or stores k 0) (b + k) x) start (read.each k x e) in
      crash-byte T n full c (A.addr + k) (get_or stores k 0) x crash (kept k within) r.byte r.none r.some;
}
