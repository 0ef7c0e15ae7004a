-- What comes after a place, going back event by event, and which events are carried.
use Rattle.pmt_parts.proofs.Prelude.{◌≡◌, ◌≢◌, ℕ, suc, ◌<◌, ◌≤◌, inl, inr, Bool, true, false, List, [], length, get_or, set, get_or-set_same, get_or-set_other, refl, sym, ap, subst, ◌∙◌, true≢false, eq-eqb, arith, ◌⊎◌, ◌↔◌, not, nat_eq, replicate, if◌then◌else◌, cases_lt, cases_eq, ne_eqb, length-set, get_or-replicate, length-replicate, Written, Act, Stores, Flushes, Clflushes, Fences, Asserts, Recording, IsAct, count_at, front_at, list_any, act-unique, safe_store_at, front-below, IsCompleteBy, ByFence, ByItself, IsCompletedAfter, completed-safe, IsCarried, Since, IsOpenAt, flush_key, HasKey, IsLater, TellsCarried}
use Rattle.pmt_parts.specs.declared.later.Later.{Later}

-- ---- One more event

since-here : (P : ℕ → Type 0) (m n : ℕ) → suc m ≤ n → P (suc m) → Since P m n
since-here P m n by is = (suc m, omega arith, by, is)

since-over : (P : ℕ → Type 0) (m n : ℕ) → (P (suc m) → ⊥) → Since P (suc m) n ↔ Since P m n
since-over P m n none = (λ x. (x.0, omega (arith, x.1), x.2, x.3), back)
  where
    back : Since P m n → Since P (suc m) n
    back (k, after, by, is) = elim (cases_lt (suc m) k) [
      | inl later ↦ (k, later, by, is)
      | inr now ↦ let e : k ≡ suc m = omega (arith, now, after) in absurd (none (subst P e is))
    ]

-- one after the other
joined : {A B C : Type 0} → A ↔ B → B ↔ C → A ↔ C
joined x y = (λ a. y.0 (x.0 a), λ c. x.1 (y.1 c))

-- what a list has once a key is added
abbrev pub IsAdded : ℕ → List ℕ → List ℕ → Type 0
IsAdded k old new = (q : ℕ) → list_any (nat_eq q) new ≡ (if nat_eq k q then true else list_any (nat_eq q) old)

added-own : (k : ℕ) (old new : List ℕ) → IsAdded k old new → HasKey new k
added-own k old new added = let e : nat_eq k k ≡ true = eq-eqb k k refl in added k ∙ rw e refl

added-other : (k q : ℕ) (old new : List ℕ) → IsAdded k old new → k ≢ q → HasKey new q ↔ HasKey old q
added-other k q old new added other =
    let e : nat_eq k q ≡ false = ne_eqb k q other in
    let same : list_any (nat_eq q) new ≡ list_any (nat_eq q) old = added q ∙ rw e refl in
    (λ h. sym same ∙ h, λ h. same ∙ h)

-- a flag that is not set tells the contrary
tells-not : {X C : Type 0} (b : Bool) → (b ≡ true) ↔ X → (C → X → ⊥) → ((X → ⊥) → C) → (not b ≡ true) ↔ C
tells-not true iff out into = (λ e. absurd (true≢false (sym e)), λ c. absurd (out c (iff.0 refl)))
tells-not false iff out into = (λ e. into (λ x. true≢false (sym (iff.1 x))), λ c. refl)

-- nothing of the kind is told
tells-none : {C : Type 0} → (C → ⊥) → (false ≡ true) ↔ C
tells-none none = (λ e. absurd (true≢false (sym e)), λ c. absurd (none c))

module _ (T : Recording) (m n : ℕ) (a : Act) (is : IsAct T (suc m) a) where
  over-fences : (t : ℕ) → a ≢ Fences t → Since (λ k. IsAct T k (Fences t)) (suc m) n ↔ Since (λ k. IsAct T k (Fences t)) m n
  over-fences t other = since-over (λ k. IsAct T k (Fences t)) m n (λ f. other (act-unique T (suc m) a (Fences t) is f))

  over-complete : (l : ℕ) → ((t : ℕ) → a ≢ Flushes t l) → a ≢ Clflushes l → Since (λ k. IsCompleteBy T l k n) (suc m) n ↔ Since (λ k. IsCompleteBy T l k n) m n
  over-complete l no_flush no_clflush = since-over (λ k. IsCompleteBy T l k n) m n none
    where
      none : IsCompleteBy T l (suc m) n → ⊥
      none (ByFence t fence f at later by) = no_flush t (act-unique T (suc m) a (Flushes t l) is f)
      none (ByItself f by) = no_clflush (act-unique T (suc m) a (Clflushes l) is f)

  over-open : (t l : ℕ) → a ≢ Flushes t l → Since (IsOpenAt T t l n) (suc m) n ↔ Since (IsOpenAt T t l n) m n
  over-open t l other = since-over (IsOpenAt T t l n) m n (λ o. other (act-unique T (suc m) a (Flushes t l) is o.is_flush))

  -- an event that is no store and no flush is not carried
  not-carried : ((l : ℕ) (w : Written) → a ≢ Stores l w) → ((t l : ℕ) → a ≢ Flushes t l) → IsCarried T n (suc m) → ⊥
  not-carried no_store no_flush (inl x) = no_store x.line x.what (act-unique T (suc m) a (Stores x.line x.what) is x.is_store)
  not-carried no_store no_flush (inr x) = no_flush x.thread x.line (act-unique T (suc m) a (Flushes x.thread x.line) is x.is_flush)

  -- over an event that flushes nothing and is no fence
  pub later-over : (s : Later) → ((t l : ℕ) → a ≢ Flushes t l) → ((l : ℕ) → a ≢ Clflushes l) → ((t : ℕ) → a ≢ Fences t) → IsLater T (suc m) n s → IsLater T m n s
  later-over s no_flush no_clflush no_fence old = record {
    threads = old.threads;
    fences = λ t small. joined (old.fences t small) (over-fences t (no_fence t));
    complete = λ l. joined (old.complete l) (over-complete l (λ t. no_flush t l) (no_clflush l));
    waiting = λ t l small. joined (old.waiting t l small) (over-open t l (no_flush t l));
  }

  -- over an event that completes a flush of the line, and opens none
  pub later-completes : (line : ℕ) (s r : Later) → suc m ≤ n → IsCompleteBy T line (suc m) n → ((l t : ℕ) → line ≢ l → a ≢ Flushes t l) → ((l : ℕ) → line ≢ l → a ≢ Clflushes l) → ((t : ℕ) → a ≢ Fences t) →
      ((t l : ℕ) → IsOpenAt T t l n (suc m) → ⊥) → r.fences ≡ s.fences → IsAdded line s.complete.keys r.complete.keys → r.waiting.keys ≡ s.waiting.keys → IsLater T (suc m) n s → IsLater T m n r
  later-completes line s r by done no_flush no_clflush no_fence none_open fences added waiting old = record {
    threads = ap (λ xs. length xs) fences ∙ old.threads;
    fences = λ t small. subst (λ xs. (get_or xs t false ≡ true) ↔ Since (λ k. IsAct T k (Fences t)) m n) (sym fences) (joined (old.fences t small) (over-fences t (no_fence t)));
    complete = λ l. complete l (cases_eq line l);
    waiting = λ t l small. subst (λ xs. HasKey xs (flush_key t l) ↔ Since (IsOpenAt T t l n) m n) (sym waiting) (joined (old.waiting t l small) (since-over (IsOpenAt T t l n) m n (none_open t l)));
  }
    where
      complete : (l : ℕ) → (line ≡ l) ⊎ (line ≢ l) → HasKey r.complete.keys l ↔ Since (λ k. IsCompleteBy T l k n) m n
      complete l (inl e) =
          subst (λ k. HasKey r.complete.keys k ↔ Since (λ i. IsCompleteBy T k i n) m n) e
          (λ h. since-here (λ i. IsCompleteBy T line i n) m n by done, λ x. added-own line s.complete.keys r.complete.keys added)
      complete l (inr other) =
          joined (added-other line l s.complete.keys r.complete.keys added other) (joined (old.complete l) (over-complete l (λ t. no_flush l t other) (no_clflush l other)))

-- ---- The kinds of events

-- before any event is met
pub later-none : (T : Recording) (n : ℕ) (s : Later) → s.fences ≡ replicate 256 false → s.complete.keys ≡ [] → s.waiting.keys ≡ [] → IsLater T n n s
later-none T n s fences complete waiting = record {
  threads = ap (λ xs. length xs) fences ∙ length-replicate 256 false;
  fences = λ t small.
      let value : get_or s.fences t false ≡ false = ap (λ xs. get_or xs t false) fences ∙ get_or-replicate 256 t false false small in
      (λ e. absurd (true≢false (sym e ∙ value)), λ x. absurd (omega (arith, x.1, x.2)));
  complete = λ l. none complete l (λ k. IsCompleteBy T l k n);
  waiting = λ t l small. none waiting (flush_key t l) (IsOpenAt T t l n);
}
  where
    none : {keys : List ℕ} → keys ≡ [] → (k : ℕ) (P : ℕ → Type 0) → HasKey keys k ↔ Since P n n
    none empty k P = (λ h. absurd (true≢false (sym h ∙ ap (λ xs. list_any (nat_eq k) xs) empty)), λ x. absurd (omega (arith, x.1, x.2)))

-- over a fence
pub later-fence : (T : Recording) (m n t : ℕ) (s r : Later) → IsAct T (suc m) (Fences t) → suc m ≤ n → t < 256 → r.fences ≡ set s.fences t true → r.complete ≡ s.complete → r.waiting ≡ s.waiting →
    IsLater T (suc m) n s → IsLater T m n r × TellsCarried T n (suc m) false
later-fence T m n t s r is by small fences complete waiting old = (
  record {
    threads = ap (λ xs. length xs) fences ∙ length-set s.fences t true ∙ old.threads;
    fences = λ u below. subst (λ xs. (get_or xs u false ≡ true) ↔ Since (λ k. IsAct T k (Fences u)) m n) (sym fences) (thread u below (cases_eq u t));
    complete = λ l. subst (λ x. HasKey x.keys l ↔ Since (λ k. IsCompleteBy T l k n) m n) (sym complete) (joined (old.complete l) (over-complete T m n (Fences t) is l (λ u e. cc) (λ e. cc)));
    waiting = λ u l below. subst (λ x. HasKey x.keys (flush_key u l) ↔ Since (IsOpenAt T u l n) m n) (sym waiting) (joined (old.waiting u l below) (over-open T m n (Fences t) is u l (λ e. cc)));
  },
  tells-none (not-carried T m n (Fences t) is (λ l w e. cc) (λ u l e. cc)),
)
  where
    thread : (u : ℕ) → u < 256 → (u ≡ t) ⊎ (u ≢ t) → (get_or (set s.fences t true) u false ≡ true) ↔ Since (λ k. IsAct T k (Fences u)) m n
    thread u below (inl e) =
        let value : get_or (set s.fences t true) u false ≡ true = ap (λ k. get_or (set s.fences t true) k false) e ∙ get_or-set_same s.fences t true false (omega (arith, small, old.threads)) in
        (λ h. since-here (λ k. IsAct T k (Fences u)) m n by (subst (λ v. IsAct T (suc m) (Fences v)) (sym e) is), λ x. value)
    thread u below (inr apart) =
        subst (λ b. (b ≡ true) ↔ Since (λ k. IsAct T k (Fences u)) m n) (sym (get_or-set_other s.fences t u true false apart))
        (joined (old.fences u below) (over-fences T m n (Fences t) is u (λ e. apart cc)))

-- over a clflush
pub later-clflush : (T : Recording) (m n line : ℕ) (s r : Later) → IsAct T (suc m) (Clflushes line) → suc m ≤ n → r.fences ≡ s.fences → IsAdded line s.complete.keys r.complete.keys → r.waiting ≡ s.waiting →
    IsLater T (suc m) n s → IsLater T m n r × TellsCarried T n (suc m) false
later-clflush T m n line s r is by fences added waiting old = (
  later-completes T m n (Clflushes line) is line s r by (ByItself is by) (λ l t other e. cc) (λ l other e. other cc) (λ t e. cc)
      (λ t l o. let e = act-unique T (suc m) (Clflushes line) (Flushes t l) is o.is_flush in cc) fences added (ap (λ x. x.keys) waiting) old,
  tells-none (not-carried T m n (Clflushes line) is (λ l w e. cc) (λ u l e. cc)),
)

-- over a flush whose thread fences after it
pub later-fenced : (T : Recording) (m n t line : ℕ) (s r : Later) → IsAct T (suc m) (Flushes t line) → suc m ≤ n → t < 256 → get_or s.fences t false ≡ true → r.fences ≡ s.fences → IsAdded line s.complete.keys r.complete.keys → r.waiting ≡ s.waiting →
    IsLater T (suc m) n s → IsLater T m n r × TellsCarried T n (suc m) false
later-fenced T m n t line s r is by small fenced fences added waiting old = (
  later-completes T m n (Flushes t line) is line s r by (ByFence t f.0 is f.3 f.1 f.2) (λ l u other e. other cc) (λ l other e. cc) (λ u e. cc) none_open fences added (ap (λ x. x.keys) waiting) old,
  tells-none none,
)
  where
    f : Since (λ k. IsAct T k (Fences t)) (suc m) n
    f = (old.fences t small).0 fenced

    none_open : (u l : ℕ) → IsOpenAt T u l n (suc m) → ⊥
    none_open u l o =
        let e = act-unique T (suc m) (Flushes t line) (Flushes u l) is o.is_flush in
        let thread : t ≡ u = cc in
        o.unfenced f.0 f.1 f.2 (subst (λ v. IsAct T f.0 (Fences v)) thread f.3)

    none : IsCarried T n (suc m) → ⊥
    none (inl x) = let e = act-unique T (suc m) (Flushes t line) (Stores x.line x.what) is x.is_store in cc
    none (inr x) =
        let e = act-unique T (suc m) (Flushes t line) (Flushes x.thread x.line) is x.is_flush in
        let thread : t ≡ x.thread = cc in
        x.unfenced f.0 f.1 f.2 (subst (λ v. IsAct T f.0 (Fences v)) thread f.3)

-- two flushes with one key are of one line and thread
key-apart : (t l u k : ℕ) → t < 256 → u < 256 → flush_key t l ≡ flush_key u k → (t ≡ u) × (l ≡ k)
key-apart t l u k small below e = let line : l ≡ k = omega (arith, e, small, below) in (omega (arith, e, line), line)

-- over a flush whose thread does not fence after it
pub later-open : (T : Recording) (m n t line : ℕ) (s r : Later) (told : Bool) → IsAct T (suc m) (Flushes t line) → suc m ≤ n → t < 256 → get_or s.fences t false ≡ false → r.fences ≡ s.fences → r.complete ≡ s.complete →
    IsAdded (flush_key t line) s.waiting.keys r.waiting.keys → told ≡ not (list_any (nat_eq (flush_key t line)) s.waiting.keys) → IsLater T (suc m) n s → IsLater T m n r × TellsCarried T n (suc m) told
later-open T m n t line s r told is by small unfenced fences complete added told_is old = (
  record {
    threads = ap (λ xs. length xs) fences ∙ old.threads;
    fences = λ u below. subst (λ xs. (get_or xs u false ≡ true) ↔ Since (λ k. IsAct T k (Fences u)) m n) (sym fences) (joined (old.fences u below) (over-fences T m n (Flushes t line) is u (λ e. cc)));
    complete = λ l. subst (λ x. HasKey x.keys l ↔ Since (λ k. IsCompleteBy T l k n) m n) (sym complete) (joined (old.complete l) (since-over (λ k. IsCompleteBy T l k n) m n (incomplete l)));
    waiting = λ u l below. opens u l below (cases_eq (flush_key t line) (flush_key u l));
  },
  subst (λ b. (b ≡ true) ↔ IsCarried T n (suc m)) (sym told_is) (tells-not (list_any (nat_eq (flush_key t line)) s.waiting.keys) (old.waiting t line small) out into),
)
  where
    no_fence : (k : ℕ) → suc m < k → k ≤ n → IsAct T k (Fences t) → ⊥
    no_fence k after within fence = true≢false (sym ((old.fences t small).1 (k, after, within, fence)) ∙ unfenced)

    incomplete : (l : ℕ) → IsCompleteBy T l (suc m) n → ⊥
    incomplete l (ByFence u fence f at later within) =
        let e = act-unique T (suc m) (Flushes t line) (Flushes u l) is f in
        let thread : u ≡ t = cc in
        no_fence fence later within (subst (λ v. IsAct T fence (Fences v)) thread at)
    incomplete l (ByItself f within) = let e = act-unique T (suc m) (Flushes t line) (Clflushes l) is f in cc

    here : IsOpenAt T t line n (suc m)
    here = record { is_flush = is; unfenced = no_fence }

    opens : (u l : ℕ) → u < 256 → (flush_key t line ≡ flush_key u l) ⊎ (flush_key t line ≢ flush_key u l) → HasKey r.waiting.keys (flush_key u l) ↔ Since (IsOpenAt T u l n) m n
    opens u l below (inl e) =
        let same = key-apart t line u l small below e in (
          λ h. since-here (IsOpenAt T u l n) m n by (subst (λ v. IsOpenAt T v l n (suc m)) same.0 (subst (λ k. IsOpenAt T t k n (suc m)) same.1 here)),
          λ x. subst (HasKey r.waiting.keys) e (added-own (flush_key t line) s.waiting.keys r.waiting.keys added),
        )
    opens u l below (inr other) =
        joined (added-other (flush_key t line) (flush_key u l) s.waiting.keys r.waiting.keys added other)
        (joined (old.waiting u l below) (over-open T m n (Flushes t line) is u l (λ e. let thread : t ≡ u = cc in let own : line ≡ l = cc in other cc)))

    out : IsCarried T n (suc m) → Since (IsOpenAt T t line n) (suc m) n → ⊥
    out (inl x) waiting = let e = act-unique T (suc m) (Flushes t line) (Stores x.line x.what) is x.is_store in cc
    out (inr x) (k, after, within, o) =
        let e = act-unique T (suc m) (Flushes t line) (Flushes x.thread x.line) is x.is_flush in
        let thread : t ≡ x.thread = cc in
        let own : line ≡ x.line = cc in
        x.last k after within (subst (λ v. IsAct T k (Flushes v x.line)) thread (subst (λ i. IsAct T k (Flushes t i)) own o.is_flush))

    into : (Since (IsOpenAt T t line n) (suc m) n → ⊥) → IsCarried T n (suc m)
    into none = inr (record {
      thread = t;
      line = line;
      is_flush = is;
      by_now = by;
      last = λ j after within flush. none (j, after, within, record { is_flush = flush; unfenced = λ i later until fence. no_fence i (omega (arith, after, later)) until fence });
      unfenced = no_fence;
    })

-- over a store
pub later-store : (T : Recording) (m n line : ℕ) (w : Written) (s : Later) → IsAct T (suc m) (Stores line w) → suc m ≤ n → IsLater T (suc m) n s →
    IsLater T m n s × TellsCarried T n (suc m) (not (list_any (nat_eq line) s.complete.keys))
later-store T m n line w s is by old = (
  later-over T m n (Stores line w) is s (λ t l e. cc) (λ l e. cc) (λ t e. cc) old,
  tells-not (list_any (nat_eq line) s.complete.keys) (old.complete line) out into,
)
  where
    safe : IsCompletedAfter T line (suc m) n ↔ (suc m ≤ safe_store_at T line n)
    safe = completed-safe T line (suc m) n w is

    below : (front_at T line n < count_at T line (suc m)) ↔ (safe_store_at T line n < suc m)
    below = front-below T line n (suc m) w is

    out : IsCarried T n (suc m) → Since (λ k. IsCompleteBy T line k n) (suc m) n → ⊥
    out (inl x) (k, after, within, done) =
        let e = act-unique T (suc m) (Stores line w) (Stores x.line x.what) is x.is_store in
        let own : x.line ≡ line = cc in
        let above = subst (λ l. front_at T l n < count_at T l (suc m)) own x.above in
        omega (arith, below.0 above, safe.0 (k, after, done))
    out (inr x) done = let e = act-unique T (suc m) (Stores line w) (Flushes x.thread x.line) is x.is_flush in cc

    within : (k : ℕ) → IsCompleteBy T line k n → k ≤ n
    within k (ByFence t fence f at later until) = omega (arith, later, until)
    within k (ByItself f until) = until

    into : (Since (λ k. IsCompleteBy T line k n) (suc m) n → ⊥) → IsCarried T n (suc m)
    into none = inl (record {
      line = line;
      what = w;
      is_store = is;
      by_now = by;
      above = elim (cases_lt (safe_store_at T line n) (suc m)) [
        | inl later ↦ below.1 later
        | inr saved ↦ absurd (let x = safe.1 saved in none (x.0, x.1, within x.0 x.2, x.2))
      ];
    })

-- over an assertion
pub later-assert : (T : Recording) (m n : ℕ) (s : Later) → IsAct T (suc m) Asserts → IsLater T (suc m) n s → IsLater T m n s × TellsCarried T n (suc m) false
later-assert T m n s is old = (
  later-over T m n Asserts is s (λ t l e. cc) (λ l e. cc) (λ t e. cc) old,
  tells-none (not-carried T m n Asserts is (λ l w e. cc) (λ t l e. cc)),
)
