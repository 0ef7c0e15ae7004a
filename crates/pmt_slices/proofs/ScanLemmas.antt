-- What comes after a place of all lines of a range, going back event by event.
use Rattle.pmt_slices.proofs.Prelude.{◌≡◌, ◌≢◌, ℕ, zero, suc, ◌+◌, ◌*◌, ◌^◌, ◌<◌, ◌≤◌, ◌⊎◌, inl, inr, List, [], ◌∷◌, length, Some, get_or, set, get_or-set_same, get_or-set_other, refl, sym, ap, subst, ◌∙◌, arith, slice_get, replicate, cases_eq, length-set, get_or-replicate, length-replicate, none-some, same_Some, slice_get-get_or, get_or_from_slice_get, slice_get_within, Span, Layout, Written, line_of, Op, Store, Act, Stores, Flushes, Clflushes, Fences, Recording, IsAct, act_of, InSpan, act-unique, IsSpanned, LinesAreMet, IsFirst, IsFenceAfter, first-here, first-over, Coming, Scan, IsAnyFenceAfter, IsComing, IsScan, IsSize, Bytes32, Bytes64, Bytes128, Bytes256, size-of_format}
use Rattle.pmt_tables.specs.declared.spanned.Spanned.{Spanned}
use Rattle.pmt_slices.proofs.ComingLemmas.{coming-none, coming-over, coming-flush, coming-clflush}

-- fences after an event that is none
fences-over : (T : Recording) (t m past first : ℕ) → ((u : ℕ) → ¬ IsAct T (suc m) (Fences u)) → IsFirst (IsFenceAfter T t (suc m)) past first → IsFirst (IsFenceAfter T t m) past first
fences-over T t m past first none x = first-over (λ k. IsAct T k (Fences t)) past m first (none t) x

any-over : (T : Recording) (m past first : ℕ) → ((u : ℕ) → ¬ IsAct T (suc m) (Fences u)) → IsFirst (IsAnyFenceAfter T (suc m)) past first → IsFirst (IsAnyFenceAfter T m) past first
any-over T m past first none x = first-over (λ k. (t : ℕ) × IsAct T k (Fences t)) past m first (λ f. none f.0 f.1) x

-- over an event that flushes nothing and is no fence
pub scan-over : (T : Recording) (A : Span) (m past : ℕ) (s : Scan) (a : Act) → IsAct T (suc m) a → ((t l : ℕ) → a ≢ Flushes t l) → ((l : ℕ) → a ≢ Clflushes l) → ((t : ℕ) → a ≢ Fences t) → IsScan T A (suc m) past s → IsScan T A m past s
scan-over T A m past s a is no_flush no_clflush no_fence old = record {
  meets = old.meets;
  lines = λ k c at. coming-over T (s.first + k) m past c a is (λ t. no_flush t (s.first + k)) (no_clflush (s.first + k)) (old.lines k c at);
  threads = old.threads;
  fences = λ t small. fences-over T t m past _ none (old.fences t small);
  fence = any-over T m past s.fence none old.fence;
}
  where
    none : (u : ℕ) → ¬ IsAct T (suc m) (Fences u)
    none u fence = no_fence u (act-unique T (suc m) a (Fences u) is fence)

-- over a store
pub scan-store : (T : Recording) (A : Span) (m past : ℕ) (s : Scan) (f : Layout) (t : ℕ) (op : Op) (w : Written) → op ≡ Store w → IsAct T (suc m) (act_of f t op) → IsScan T A (suc m) past s → IsScan T A m past s
scan-store T A m past s f t op w e is old =
    scan-over T A m past s (Stores (line_of f w.addr) w) (subst (λ o. IsAct T (suc m) (act_of f t o)) e is) (λ u l x. cc) (λ l x. cc) (λ u x. cc) old

-- one line is changed, and no fence
one-line : (T : Recording) (A : Span) (m past place : ℕ) (s : Scan) (new : Coming) → ((u : ℕ) → ¬ IsAct T (suc m) (Fences u)) → place < length s.lines.items →
    IsComing T (s.first + place) m past new → ((k : ℕ) (c : Coming) → k ≢ place → IsComing T (s.first + k) (suc m) past c → IsComing T (s.first + k) m past c) → IsScan T A (suc m) past s →
    (lines : List Coming) → lines ≡ set s.lines.items place new → (r : Scan) → r.first ≡ s.first → r.lines.items ≡ lines → r.fences ≡ s.fences → r.fence ≡ s.fence → IsScan T A m past r
one-line T A m past place s new none within own others old lines put r first at fences fence = record {
  meets = λ b inside. let x = old.meets b inside in (omega (arith, x.0, first), omega (arith, x.1, first, long));
  lines = λ k c is. line k c (subst (λ xs. slice_get xs k ≡ Some c) (at ∙ put) is) (cases_eq k place);
  threads = ap (λ xs. length xs) fences ∙ old.threads;
  fences = λ t small. subst (λ xs. IsFirst (IsFenceAfter T t m) past (get_or xs t 0)) (sym fences) (fences-over T t m past _ none (old.fences t small));
  fence = subst (IsFirst (IsAnyFenceAfter T m) past) (sym fence) (any-over T m past s.fence none old.fence);
}
  where
    long : length r.lines.items ≡ length s.lines.items
    long = ap (λ xs. length xs) (at ∙ put) ∙ length-set s.lines.items place new

    line : (k : ℕ) (c : Coming) → slice_get (set s.lines.items place new) k ≡ Some c → (k ≡ place) ⊎ (k ≢ place) → IsComing T (r.first + k) m past c
    line k c is (inl e) =
        let found : new ≡ c = sym (get_or-set_same s.lines.items place new new within) ∙ ap (λ i. get_or (set s.lines.items place new) i new) (sym e) ∙ get_or_from_slice_get (set s.lines.items place new) k c new is in
        let at_line : s.first + place ≡ r.first + k = omega (arith, first, e) in
        subst (λ i. IsComing T i m past c) at_line (subst (IsComing T (s.first + place) m past) found own)
    line k c is (inr apart) =
        let inside : k < length s.lines.items = omega (arith, slice_get_within (set s.lines.items place new) k c is, length-set s.lines.items place new) in
        let value : get_or s.lines.items k new ≡ c = sym (get_or-set_other s.lines.items place k new new apart) ∙ get_or_from_slice_get (set s.lines.items place new) k c new is in
        let there : slice_get s.lines.items k ≡ Some c = slice_get-get_or s.lines.items k new inside ∙ ap Some value in
        let at_line : s.first + k ≡ r.first + k = omega (arith, first) in
        subst (λ i. IsComing T i m past c) at_line (others k c apart (old.lines k c there))

-- The line is not one of those in the table.
abbrev pub IsOff : Scan → ℕ → Type 0
IsOff s line = (line < s.first) ⊎ (s.first + length s.lines.items ≤ line)

apart-off : (s : Scan) (line k : ℕ) (c : Coming) → IsOff s line → slice_get s.lines.items k ≡ Some c → line ≢ s.first + k
apart-off s line k c (inl below) at e = omega arith
apart-off s line k c (inr above) at e = omega (arith, slice_get_within s.lines.items k c at)

-- over a flush of a line
pub scan-flush : (T : Recording) (A : Span) (m past t line place by : ℕ) (s r : Scan) (c new : Coming) → IsAct T (suc m) (Flushes t line) → suc m < past → t < 256 → s.first + place ≡ line → place < length s.lines.items →
    by ≡ get_or s.fences t 0 → slice_get s.lines.items place ≡ Some c → new.flush ≡ suc m → new.fence ≡ s.fence → (by ≤ c.safe → (new.safe ≡ by) × (new.cover ≡ suc m)) → (c.safe < by → (new.safe ≡ c.safe) × (new.cover ≡ c.cover)) →
    r.first ≡ s.first → r.lines.items ≡ set s.lines.items place new → r.fences ≡ s.fences → r.fence ≡ s.fence → IsScan T A (suc m) past s → IsScan T A m past r
scan-flush T A m past t line place by s r c new is early small own within next at flush fence sooner later first put fences same old =
    one-line T A m past place s new (λ u f. let e = act-unique T (suc m) (Flushes t line) (Fences u) is f in cc) within
    (coming-flush T t (s.first + place) m past s.fence by c new (subst (λ l. IsAct T (suc m) (Flushes t l)) (sym own) is) early old.fence (subst (IsFirst (IsFenceAfter T t (suc m)) past) (sym next) (old.fences t small)) flush fence sooner later (old.lines place c at))
    (λ k d apart x. coming-over T (s.first + k) m past d (Flushes t line) is (λ u e. let l : line ≡ s.first + k = cc in apart (omega (arith, l, own))) (λ e. cc) x) old (set s.lines.items place new) refl r first put fences same

pub scan-flush-off : (T : Recording) (A : Span) (m past t line : ℕ) (s : Scan) → IsAct T (suc m) (Flushes t line) → IsOff s line → IsScan T A (suc m) past s → IsScan T A m past s
scan-flush-off T A m past t line s is off old = record {
  meets = old.meets;
  lines = λ k c at. coming-over T (s.first + k) m past c (Flushes t line) is (λ u e. let l : line ≡ s.first + k = cc in apart-off s line k c off at l) (λ e. cc) (old.lines k c at);
  threads = old.threads;
  fences = λ u small. fences-over T u m past _ none (old.fences u small);
  fence = any-over T m past s.fence none old.fence;
}
  where
    none : (u : ℕ) → ¬ IsAct T (suc m) (Fences u)
    none u f = let e = act-unique T (suc m) (Flushes t line) (Fences u) is f in cc

-- over a clflush of a line
pub scan-clflush : (T : Recording) (A : Span) (m past line place : ℕ) (s r : Scan) (new : Coming) → IsAct T (suc m) (Clflushes line) → suc m < past → s.first + place ≡ line → place < length s.lines.items →
    new.flush ≡ suc m → new.fence ≡ s.fence → new.safe ≡ suc m → new.cover ≡ suc m →
    r.first ≡ s.first → r.lines.items ≡ set s.lines.items place new → r.fences ≡ s.fences → r.fence ≡ s.fence → IsScan T A (suc m) past s → IsScan T A m past r
scan-clflush T A m past line place s r new is early own within flush fence safe cover first put fences same old =
    one-line T A m past place s new (λ u f. let e = act-unique T (suc m) (Clflushes line) (Fences u) is f in cc) within
    (coming-clflush T (s.first + place) m past s.fence new (subst (λ l. IsAct T (suc m) (Clflushes l)) (sym own) is) early old.fence flush fence safe cover)
    (λ k d apart x. coming-over T (s.first + k) m past d (Clflushes line) is (λ u e. cc) (λ e. let l : line ≡ s.first + k = cc in apart (omega (arith, l, own))) x) old (set s.lines.items place new) refl r first put fences same

pub scan-clflush-off : (T : Recording) (A : Span) (m past line : ℕ) (s : Scan) → IsAct T (suc m) (Clflushes line) → IsOff s line → IsScan T A (suc m) past s → IsScan T A m past s
scan-clflush-off T A m past line s is off old = record {
  meets = old.meets;
  lines = λ k c at. coming-over T (s.first + k) m past c (Clflushes line) is (λ u e. cc) (λ e. let l : line ≡ s.first + k = cc in apart-off s line k c off at l) (old.lines k c at);
  threads = old.threads;
  fences = λ u small. fences-over T u m past _ none (old.fences u small);
  fence = any-over T m past s.fence none old.fence;
}
  where
    none : (u : ℕ) → ¬ IsAct T (suc m) (Fences u)
    none u f = let e = act-unique T (suc m) (Clflushes line) (Fences u) is f in cc

-- over a fence
pub scan-fence : (T : Recording) (A : Span) (m past t number : ℕ) (s r : Scan) → IsAct T (suc m) (Fences t) → number ≡ suc m → suc m < past → t < 256 →
    r.first ≡ s.first → r.lines.items ≡ s.lines.items → r.fences ≡ set s.fences t number → r.fence ≡ number → IsScan T A (suc m) past s → IsScan T A m past r
scan-fence T A m past t number s r is same early small first lines fences fence old = record {
  meets = λ b inside. let x = old.meets b inside in (omega (arith, x.0, first), omega (arith, x.1, first, ap (λ xs. length xs) lines));
  lines = λ k c at.
      let e : s.first + k ≡ r.first + k = omega (arith, first) in
      subst (λ l. IsComing T l m past c) e (coming-over T (s.first + k) m past c (Fences t) is (λ u f. cc) (λ f. cc) (old.lines k c (subst (λ xs. slice_get xs k ≡ Some c) lines at)));
  threads = ap (λ xs. length xs) fences ∙ length-set s.fences t number ∙ old.threads;
  fences = λ u below. subst (λ xs. IsFirst (IsFenceAfter T u m) past (get_or xs u 0)) (sym fences) (thread u below (cases_eq u t));
  fence = subst (IsFirst (IsAnyFenceAfter T m) past) (sym (fence ∙ same)) (first-here (λ k. (u : ℕ) × IsAct T k (Fences u)) past m (omega arith) (t, is));
}
  where
    thread : (u : ℕ) → u < 256 → (u ≡ t) ⊎ (u ≢ t) → IsFirst (IsFenceAfter T u m) past (get_or (set s.fences t number) u 0)
    thread u below (inl e) =
        let value : get_or (set s.fences t number) u 0 ≡ suc m = ap (λ k. get_or (set s.fences t number) k 0) e ∙ get_or-set_same s.fences t number 0 (omega (arith, old.threads)) ∙ same in
        subst (IsFirst (IsFenceAfter T u m) past) (sym value) (first-here (λ k. IsAct T k (Fences u)) past m (omega arith) (subst (λ v. IsAct T (suc m) (Fences v)) (sym e) is))
    thread u below (inr apart) =
        subst (IsFirst (IsFenceAfter T u m) past) (sym (get_or-set_other s.fences t u number 0 apart))
        (first-over (λ k. IsAct T k (Fences u)) past m _ (λ f. let e = act-unique T (suc m) (Fences t) (Fences u) is f in apart (cc)) (old.fences u below))

-- before any event is met, of lines that the range meets
pub scan-start : (T : Recording) (A : Span) (n past : ℕ) (s : Scan) → past ≡ suc n → ((b : ℕ) → InSpan A b → (s.first ≤ line_of T.format b) × (line_of T.format b < s.first + length s.lines.items)) →
    ((k : ℕ) (c : Coming) → slice_get s.lines.items k ≡ Some c → (c.flush ≡ past) × (c.fence ≡ past) × (c.safe ≡ past)) → s.fences ≡ replicate 256 past → s.fence ≡ past → IsScan T A n past s
scan-start T A n past s same meets each fences fence = record {
  meets = meets;
  lines = λ k c at.
      let x = each k c at in
      subst (λ p. IsComing T (s.first + k) n p c) (sym same) (coming-none T (s.first + k) n c (x.0 ∙ same) (x.1 ∙ same) (x.2 ∙ same));
  threads = ap (λ xs. length xs) fences ∙ length-replicate 256 past;
  fences = λ t small.
      let value : get_or s.fences t 0 ≡ past = ap (λ xs. get_or xs t 0) fences ∙ get_or-replicate 256 t past 0 small in
      record { within = omega (arith, value); has = λ h. absurd (omega (arith, value, h)); none_before = λ k below x. omega (arith, value, below, x.0, same) };
  fence = record { within = omega (arith, fence); has = λ h. absurd (omega (arith, fence, h)); none_before = λ k below x. omega (arith, fence, below, x.0, same) };
}

pub scan-new : LinesAreMet → (T : Recording) (A : Span) (n past : ℕ) (spanned : Spanned) (s : Scan) → IsSpanned T.format A spanned → past ≡ suc n → s.first ≡ spanned.first → spanned.first + length s.lines.items ≡ suc spanned.last →
    ((k : ℕ) (c : Coming) → slice_get s.lines.items k ≡ Some c → (c.flush ≡ past) × (c.fence ≡ past) × (c.safe ≡ past)) → s.fences ≡ replicate 256 past → s.fence ≡ past → IsScan T A n past s
scan-new lines-met T A n past spanned s is same first size each fences fence =
    scan-start T A n past s same (λ b inside. let x = lines-met T.format A spanned b is inside in (omega (arith, x.0, first), omega (arith, x.1, first, size))) each fences fence

-- of one line
pub scan-line : (T : Recording) (A : Span) (n past line : ℕ) (c : Coming) (s : Scan) → past ≡ suc n → ((b : ℕ) → InSpan A b → line_of T.format b ≡ line) → s.first ≡ line → s.lines.items ≡ c ∷ [] → c.flush ≡ past → c.fence ≡ past → c.safe ≡ past →
    s.fences ≡ replicate 256 past → s.fence ≡ past → IsScan T A n past s
scan-line T A n past line c s same inside first items flush fence safe fences fence' =
    scan-start T A n past s same (λ b own. let e = inside b own in (omega (arith, e, first), omega (arith, e, first, ap (λ xs. length xs) items))) (λ k d at. each k d (subst (λ xs. slice_get xs k ≡ Some d) items at)) fences fence'
  where
    each : (k : ℕ) (d : Coming) → slice_get (c ∷ []) k ≡ Some d → (d.flush ≡ past) × (d.fence ≡ past) × (d.safe ≡ past)
    each zero d at = let e : c ≡ d = same_Some c d at in subst (λ x. (x.flush ≡ past) × (x.fence ≡ past) × (x.safe ≡ past)) e (flush, fence, safe)
    each (suc k) d at = absurd (none-some d at)

-- the first line is no later than the last one, and there are not too many
pub spanned-few : LinesAreMet → (f : Layout) (A : Span) (s : Spanned) → IsSpanned f A s → (s.first ≤ s.last) × (s.last < 2 ^ 48)
spanned-few lines-met f A s is =
    let met = lines-met f A s A.addr is (omega (arith, is.range.some), omega (arith, is.range.some)) in
    (omega (arith, met.0, met.1), small (size-of_format f is.format))
  where
    small : IsSize f.line_size → s.last < 2 ^ 48
    small (Bytes32 e) = let high : s.last * 32 + s.high ≡ A.addr + A.len = subst (λ size. s.last * size + s.high ≡ A.addr + A.len) e is.high in omega (arith, high, is.range.within, is.range.some)
    small (Bytes64 e) = let high : s.last * 64 + s.high ≡ A.addr + A.len = subst (λ size. s.last * size + s.high ≡ A.addr + A.len) e is.high in omega (arith, high, is.range.within, is.range.some)
    small (Bytes128 e) = let high : s.last * 128 + s.high ≡ A.addr + A.len = subst (λ size. s.last * size + s.high ≡ A.addr + A.len) e is.high in omega (arith, high, is.range.within, is.range.some)
    small (Bytes256 e) = let high : s.last * 256 + s.high ≡ A.addr + A.len = subst (λ size. s.last * size + s.high ≡ A.addr + A.len) e is.high in omega (arith, high, is.range.within, is.range.some)

-- the byte at an address, as a range
abbrev pub byte-span : ℕ → Span
byte-span addr = record { addr = addr; len = 1 }

pub byte-inside : (addr : ℕ) → InSpan (byte-span addr) addr
byte-inside addr = (omega arith, omega arith)

pub byte-of : (f : Layout) (addr line : ℕ) → line ≡ line_of f addr → (b : ℕ) → InSpan (byte-span addr) b → line_of f b ≡ line
byte-of f addr line is b own =
    let e : b ≡ addr = omega (arith, own.0, own.1) in
    ap (line_of f) e ∙ sym is
