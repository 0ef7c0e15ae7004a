-- Which events name bytes, and which stores they name, one event after another from the last one back.
use Rattle.std.proofs.Common.{◌≡◌, ℕ, zero, suc, ◌+◌, ◌<◌, ◌≤◌, ◌⊎◌, inl, inr, Bool, true, false, List, [], ◌∷◌, ◌++◌, length, take, get_or, Option, None, Some, refl, sym, ap, subst, ◌∙◌, arith}
use Rattle.std.specs.Prelude.{◌↔◌, if◌then◌else◌, replicate, slice_get, unwrap_or}
use Rattle.std.proofs.lemmas.Bool.{cases_eq, cases_lt, false≢true}
use Rattle.std.proofs.lemmas.List.{length-replicate, take_more}
use Rattle.std.proofs.lemmas.Option.{none-some, same_Some, slice_get-get_or, slice_get_within}
use Rattle.pmt_laws.specs.Prelude.{Event, Op, Store, Clwb, ClflushOpt, Clflush, Sfence, Mfence, IsPersist, IsOrderedBefore, Verdict, Layout, Span, Written, line_of, Stores, writes, Recording, act, act_of, event, history, InSpan, PersistPasses, HasVerdict, IsVerdictOf, IsVerdicts, OfOrdered, OfPersist, last_store_number}
use Rattle.pmt_laws.proofs.OverwrittenLemmas.{LastWriter, last_store_number-is, last_store_number-tells}
use Rattle.pmt_tables.specs.Flags.{is_kept_at}
use Rattle.pmt_tables.specs.Lasts.{last_number}
use Rattle.pmt_explain.specs.LastStores.{written_by}
use Rattle.pmt_hints.specs.declared.named.Role.{Role}
use Rattle.pmt_hints.specs.declared.named.Role.TheVariants.{Claimed, First, Second}
use Rattle.pmt_hints.specs.declared.named_bytes.NamedBytes.{NamedBytes}
use Rattle.pmt_hints.specs.Hints.{ByOrdered, ByPersist, ClaimsRange, IsNamed, Names, PassesOrdered}
use Rattle.pmt_hints.specs.NamedBytes.{Adds, HasByte}
use Rattle.pmt_hints.specs.Claiming.{AreNaming, GoesBack, IsNamedIn, IsNaming, IsNamingBy, Marks, event_range, op_range, verdict_range}
use Rattle.pmt_hints.proofs.NamedByteLemmas.{adds-same}

-- ---- Marks, one after another

pub marks-then : (P Q R : ℕ → Type 0) (a b c : List Bool) → ((i : ℕ) → 1 ≤ i → (P i ⊎ Q i) ↔ R i) → Marks P a b → Marks Q b c → Marks R a c
marks-then P Q R a b c both x y = record {
  size = y.size ∙ x.size;
  each = λ i from to.
      let within : i ≤ length b = omega (arith, x.size) in (
        λ on. elim ((y.each i from within).0 on) [
          | inl mid ↦ elim ((x.each i from to).0 mid) [ inl was ↦ inl was | inr p ↦ inr ((both i from).0 (inl p)) ]
          | inr q ↦ inr ((both i from).0 (inr q))
        ],
        λ h. (y.each i from within).1 (elim h [
          | inl was ↦ inl ((x.each i from to).1 (inl was))
          | inr r ↦ elim ((both i from).1 r) [ inl p ↦ inl ((x.each i from to).1 (inr p)) | inr q ↦ inr q ]
        ]),
      );
}

-- ---- The verdicts

-- one verdict more
pub has-more : (vs : List Verdict) (w v : Verdict) → HasVerdict (vs ++ w ∷ []) v ↔ (HasVerdict vs v ⊎ (w ≡ v))
has-more [] w v = (λ h. elim h [ inl e ↦ inr e | inr none ↦ absurd none ], λ h. elim h [ inl none ↦ absurd none | inr e ↦ inl e ])
has-more (u ∷ vs) w v = (
  λ h. elim h [ inl e ↦ inl (inl e) | inr more ↦ elim ((has-more vs w v).0 more) [ inl x ↦ inl (inr x) | inr e ↦ inr e ] ],
  λ h. elim h [ inl first ↦ elim first [ inl e ↦ inl e | inr x ↦ inr ((has-more vs w v).1 (inl x)) ] | inr e ↦ inr ((has-more vs w v).1 (inr e)) ],
)

-- event i passes, and has a range of this role, by one of these verdicts
abbrev pub IsNamingAmong : Recording → Role → List Verdict → ℕ → Type 0
IsNamingAmong T role vs i = (v : Verdict) × HasVerdict vs v × IsNamingBy T role v i

module _ (T : Recording) (role : Role) (vs : List Verdict) (k : ℕ) (d : Verdict) (within : k < length vs) where
  next-verdict : take (k + 1) vs ≡ take k vs ++ get_or vs k d ∷ []
  next-verdict = take_more vs k d within

  among-there : (i : ℕ) → IsNamingAmong T role (take k vs) i ⊎ IsNamingBy T role (get_or vs k d) i → IsNamingAmong T role (take (k + 1) vs) i
  among-there i (inl h) = (h.0, subst (λ us. HasVerdict us h.0) (sym next-verdict) ((has-more (take k vs) (get_or vs k d) h.0).1 (inl h.1)), h.2)
  among-there i (inr h) = (get_or vs k d, subst (λ us. HasVerdict us (get_or vs k d)) (sym next-verdict) ((has-more (take k vs) (get_or vs k d) (get_or vs k d)).1 (inr refl)), h)

  among-back : (i : ℕ) → IsNamingAmong T role (take (k + 1) vs) i → IsNamingAmong T role (take k vs) i ⊎ IsNamingBy T role (get_or vs k d) i
  among-back i h = elim ((has-more (take k vs) (get_or vs k d) h.0).0 (subst (λ us. HasVerdict us h.0) next-verdict h.1)) [
    | inl early ↦ inl (h.0, early, h.2)
    | inr here ↦ inr (subst (λ v. IsNamingBy T role v i) (sym here) h.2)
  ]

  pub among-more : (a b c : List Bool) → Marks (IsNamingAmong T role (take k vs)) a b → Marks (IsNamingBy T role (get_or vs k d)) b c → Marks (IsNamingAmong T role (take (k + 1) vs)) a c
  among-more a b c x y = marks-then (IsNamingAmong T role (take k vs)) (IsNamingBy T role (get_or vs k d)) (IsNamingAmong T role (take (k + 1) vs)) a b c (λ i some. (among-there i, among-back i)) x y

  pub among-last : (old new : ℕ) → ((i : ℕ) → IsNamingAmong T role (take k vs) i → i ≤ old) → ((i : ℕ) → IsNamingBy T role (get_or vs k d) i → i ≤ new) → old ≤ new → (i : ℕ) → IsNamingAmong T role (take (k + 1) vs) i → i ≤ new
  among-last old new before here higher i h = elim (among-back i h) [ inl early ↦ omega (arith, before i early, higher) | inr late ↦ here i late ]

-- ---- What all verdicts name

last-told : (T : Recording) (n b i : ℕ) → 1 ≤ i → (last_number T n b ≡ i) ↔ (last_store_number b (history T n) ≡ Some i)
last-told T n b i some = (by_number (last_store_number b (history T n)), λ is. ap (λ (o : Option ℕ). unwrap_or o 0) is)
  where
    by_number : (o : Option ℕ) → unwrap_or o 0 ≡ i → o ≡ Some i
    by_number None is = absurd (omega (arith, some, is))
    by_number (Some j) is = ap Some is

passed : (T : Recording) (role : Role) (v : Verdict) (A : Span) → verdict_range T role v ≡ Some A → (v.pass ≡ true) × (event_range role (event T v.event) ≡ Some A)
passed T role v A is = go v.pass refl is
  where
    go : (b : Bool) → v.pass ≡ b → (if b then event_range role (event T v.event) else None) ≡ Some A → (v.pass ≡ true) × (event_range role (event T v.event) ≡ Some A)
    go true on is = (on, is)
    go false off is = absurd (none-some A is)

-- a passing assertion has its ranges
names-there : (T : Recording) (role : Role) (v : Verdict) (A : Span) → IsVerdictOf T v → verdict_range T role v ≡ Some A → Names T role A v.event
names-there T role v A (OfPersist e at r op ordered passes) is =
    let it = passed T role v A is in
    let range : op_range role (IsPersist r) ≡ Some A = sym (ap (event_range role) at ∙ ap (op_range role) op) ∙ it.1 in
    go role range (passes.0 it.0)
  where
    go : (role : Role) → op_range role (IsPersist r) ≡ Some A → PersistPasses (history T v.event) r → Names T role A v.event
    go Claimed range pass = subst (λ B. ClaimsRange T B v.event) (same_Some r A range) (ByPersist e at op pass)
    go First range pass = absurd (none-some A range)
    go Second range pass = absurd (none-some A range)
names-there T role v A (OfOrdered e at r q op ordered passes) is =
    let it = passed T role v A is in
    let range : op_range role (IsOrderedBefore r q) ≡ Some A = sym (ap (event_range role) at ∙ ap (op_range role) op) ∙ it.1 in
    go role range (record { assertion = e; is = at; op = op; passes = passes.0 it.0 })
  where
    go : (role : Role) → op_range role (IsOrderedBefore r q) ≡ Some A → PassesOrdered T r q v.event → Names T role A v.event
    go Claimed range pass = subst (λ B. ClaimsRange T B v.event) (same_Some r A range) (ByOrdered q pass)
    go First range pass = subst (λ B. (C : Span) × PassesOrdered T B C v.event) (same_Some r A range) (q, pass)
    go Second range pass = subst (λ B. (C : Span) × PassesOrdered T C B v.event) (same_Some q A range) (r, pass)

abbrev persist-verdict : ℕ → Verdict
persist-verdict j = record { event = j; ordered = false; pass = true }

abbrev ordered-verdict : ℕ → Verdict
ordered-verdict j = record { event = j; ordered = true; pass = true }

names-ordered : (T : Recording) (role : Role) (A r q : Span) (j : ℕ) → PassesOrdered T r q j → op_range role (IsOrderedBefore r q) ≡ Some A → (v : Verdict) × IsVerdictOf T v × (v.event ≡ j) × (verdict_range T role v ≡ Some A)
names-ordered T role A r q j it range =
    (ordered-verdict j, OfOrdered it.assertion it.is r q it.op refl (λ _. it.passes, λ _. refl), refl, ap (event_range role) it.is ∙ ap (op_range role) it.op ∙ range)

names-back : (T : Recording) (role : Role) (A : Span) (j : ℕ) → Names T role A j → (v : Verdict) × IsVerdictOf T v × (v.event ≡ j) × (verdict_range T role v ≡ Some A)
names-back T Claimed A j (ByPersist e at op passes) =
    (persist-verdict j, OfPersist e at A op refl (λ _. passes, λ _. refl), refl, ap (event_range Claimed) at ∙ ap (op_range Claimed) op)
names-back T Claimed A j (ByOrdered B it) = names-ordered T Claimed A A B j it refl
names-back T First A j (B, it) = names-ordered T First A A B j it refl
names-back T Second A j (B, it) = names-ordered T Second A B A j it refl

naming-told : (T : Recording) (role : Role) (vs : List Verdict) (i : ℕ) → IsVerdicts T vs → IsNamingAmong T role vs i ↔ IsNaming T role i
naming-told T role vs i judged = (there, back)
  where
    there : IsNamingAmong T role vs i → IsNaming T role i
    there h = let at = h.2 in (at.0, subst (λ j. Names T role at.0 j) at.2 (names-there T role h.0 at.0 ((judged.just h.0).0 h.1) at.1))

    back : IsNaming T role i → IsNamingAmong T role vs i
    back h = let found = names-back T role h.0 i h.1 in (found.0, (judged.just found.0).1 found.1, (h.0, found.3, found.2))

none-marked : (n i : ℕ) → is_kept_at (replicate n false) i ≡ false
none-marked n zero = refl
none-marked zero (suc k) = refl
none-marked (suc n) (suc zero) = refl
none-marked (suc n) (suc (suc k)) = none-marked n (suc k)

-- the flags, of which none was set before
pub naming-flags : (T : Recording) (role : Role) (vs : List Verdict) (old new : List Bool) (end : ℕ) → IsVerdicts T vs → old ≡ replicate (length T.events) false → Marks (IsNamingAmong T role vs) old new → end ≤ length T.events →
    ((i : ℕ) → IsNamingAmong T role vs i → i ≤ end) → AreNaming T role new end
naming-flags T role vs old new end judged start x within last = record {
  flags = record { size = x.size ∙ ap (λ bs. length bs) start ∙ length-replicate (length T.events) false; each = λ k b at. each k b at };
  within = within;
  last = λ i h. last i ((naming-told T role vs i judged).1 h);
}
  where
    none : (i : ℕ) → is_kept_at old i ≡ false
    none i = ap (λ bs. is_kept_at bs i) start ∙ none-marked (length T.events) i

    each : (k : ℕ) (b : Bool) → slice_get new k ≡ Some b → (b ≡ true) ↔ IsNaming T role (suc k)
    each k b at =
        let within : k < length new = slice_get_within new k b at in
        let is : is_kept_at new (suc k) ≡ b = same_Some (get_or new k false) b (sym (slice_get-get_or new k false within) ∙ at) in
        let told = x.each (suc k) (omega arith) (omega (arith, within, x.size)) in
        let naming = naming-told T role vs (suc k) judged in (
          λ on. elim (told.0 (is ∙ on)) [ inl was ↦ absurd (false≢true (sym (none (suc k)) ∙ was)) | inr h ↦ naming.0 h ],
          λ h. sym is ∙ told.1 (inr (naming.1 h)),
        )

-- ---- The last stores to a byte

act-writes : (f : Layout) (t : ℕ) (o : Op) (l : ℕ) (w : Written) (b : ℕ) → act_of f t o ≡ Stores l w → written_by o b ≡ writes w b
act-writes f t (Store v) l w b is = let same : v ≡ w = cc in ap (λ (x : Written). writes x b) same
act-writes f t (Clwb a) l w b is = absurd (cc)
act-writes f t (ClflushOpt a) l w b is = absurd (cc)
act-writes f t (Clflush a) l w b is = absurd (cc)
act-writes f t Sfence l w b is = absurd (cc)
act-writes f t Mfence l w b is = absurd (cc)
act-writes f t (IsPersist r) l w b is = absurd (cc)
act-writes f t (IsOrderedBefore r q) l w b is = absurd (cc)

writes-act : (f : Layout) (t : ℕ) (o : Op) (b : ℕ) → written_by o b ≡ true → (l : ℕ) × (w : Written) × (act_of f t o ≡ Stores l w) × (writes w b ≡ true)
writes-act f t (Store w) b on = (line_of f w.addr, w, refl, on)
writes-act f t (Clwb a) b on = absurd (false≢true on)
writes-act f t (ClflushOpt a) b on = absurd (false≢true on)
writes-act f t (Clflush a) b on = absurd (false≢true on)
writes-act f t Sfence b on = absurd (false≢true on)
writes-act f t Mfence b on = absurd (false≢true on)
writes-act f t (IsPersist r) b on = absurd (false≢true on)
writes-act f t (IsOrderedBefore r q) b on = absurd (false≢true on)

-- an event that is the last store to a byte stores to it
last-stores : (T : Recording) (n b i : ℕ) (e : Event) → event T (suc i) ≡ Some e → last_number T n b ≡ suc i → (written_by e.op b ≡ true) × (suc i ≤ n)
last-stores T n b i e at is =
    let it = last_store_number-is T b n (suc i) ((last-told T n b (suc i) (omega arith)).0 is) in
    let store = it.is_store in
    let same : store.0 ≡ e = same_Some store.0 e (sym store.1 ∙ at) in
    (ap (λ (d : Event). written_by d.op b) (sym same) ∙ act-writes T.format (store.0).thread (store.0).op it.line it.what b store.2 ∙ it.writes_it, it.by_now)

-- the last store to a byte does not come before one that stores to it
stores-last : (T : Recording) (n b i : ℕ) (e : Event) → event T i ≡ Some e → written_by e.op b ≡ true → i ≤ n → i ≤ last_number T n b
stores-last T n b i e at on upto = go (last_store_number b (history T n)) (last_store_number-tells T b n)
  where
    store : (l : ℕ) × (w : Written) × (act T.format e ≡ Stores l w) × (writes w b ≡ true)
    store = writes-act T.format e.thread e.op b on

    go : (o : Option ℕ) → LastWriter T b n o → i ≤ unwrap_or o 0
    go None none = absurd (none i store.0 store.1 upto (e, at, store.2) store.3)
    go (Some j) it = elim (cases_lt j i) [ inl before ↦ absurd (it.last i store.0 store.1 before upto (e, at, store.2) store.3) | inr from ↦ from ]

-- nor does it come later
last-within : (T : Recording) (n b : ℕ) → last_number T n b ≤ n
last-within T n b = go (last_store_number b (history T n)) (last_store_number-tells T b n)
  where
    go : (o : Option ℕ) → LastWriter T b n o → unwrap_or o 0 ≤ n
    go None none = omega arith
    go (Some j) it = it.by_now

-- ---- Back over an op

names-no_store : (role : Role) (o : Op) (A : Span) (b : ℕ) → op_range role o ≡ Some A → written_by o b ≡ false
names-no_store role (Store w) A b is = absurd (none-some A is)
names-no_store role (Clwb a) A b is = refl
names-no_store role (ClflushOpt a) A b is = refl
names-no_store role (Clflush a) A b is = refl
names-no_store role Sfence A b is = refl
names-no_store role Mfence A b is = refl
names-no_store role (IsPersist r) A b is = refl
names-no_store role (IsOrderedBefore r q) A b is = refl

pub back-other : (role : Role) (is_naming : Bool) (o : Op) (old new : NamedBytes) → ((b : ℕ) → written_by o b ≡ false) → Adds (IsNamedIn role is_naming o) old new → GoesBack role is_naming o old false new
back-other role is_naming o old new not x = record {
  are = x.are;
  named = (λ e. absurd (false≢true e), λ h. absurd (false≢true (sym (not h.0) ∙ h.1)));
  told = λ b. (
    λ h. elim ((x.told b).0 h) [ inl has ↦ inl (has, not b) | inr named ↦ inr named ],
    λ h. (x.told b).1 (elim h [ inl has ↦ inl has.0 | inr named ↦ inr named ]),
  );
}

pub named-some : (role : Role) (o : Op) (A : Span) (old new : NamedBytes) → op_range role o ≡ Some A → Adds (InSpan A) old new → Adds (IsNamedIn role true o) old new
named-some role o A old new is x = adds-same (InSpan A) (IsNamedIn role true o) old new (λ b. (λ h. (refl, A, is, h), λ h. subst (λ B. InSpan B b) (same_Some h.1 A (sym h.2 ∙ is)) h.3)) x

-- ---- Back over an event

-- the range of an assertion that passes is that of its op
names-op : (T : Recording) (role : Role) (A : Span) (i : ℕ) (e : Event) → event T i ≡ Some e → Names T role A i → op_range role e.op ≡ Some A
names-op T Claimed A i e at (ByPersist d is op passes) = ap (λ (x : Event). op_range Claimed x.op) (same_Some e d (sym at ∙ is)) ∙ ap (op_range Claimed) op
names-op T Claimed A i e at (ByOrdered B it) = ap (λ (x : Event). op_range Claimed x.op) (same_Some e it.assertion (sym at ∙ it.is)) ∙ ap (op_range Claimed) it.op
names-op T First A i e at (B, it) = ap (λ (x : Event). op_range First x.op) (same_Some e it.assertion (sym at ∙ it.is)) ∙ ap (op_range First) it.op
names-op T Second A i e at (B, it) = ap (λ (x : Event). op_range Second x.op) (same_Some e it.assertion (sym at ∙ it.is)) ∙ ap (op_range Second) it.op

-- an assertion after place n names the byte, and no store between has written it
abbrev pub IsWanted : Recording → Role → ℕ → ℕ → Type 0
IsWanted T role n b = (a : ℕ) × (A : Span) × (n < a) × Names T role A a × InSpan A b × (last_number T a b ≤ n)

-- after the last assertion that names bytes
pub wanted-none : (T : Recording) (role : Role) (end b : ℕ) → ((i : ℕ) → IsNaming T role i → i ≤ end) → IsWanted T role end b → ⊥
wanted-none T role end b last h = omega (arith, last h.0 (h.1, h.3), h.2)

pub named-before : (T : Recording) (role : Role) (end i : ℕ) → ((i : ℕ) → IsNaming T role i → i ≤ end) → IsNamed T role i → i ≤ end
named-before T role end i last h =
    let it = last_store_number-is T h.byte h.assertion i h.last in
    omega (arith, it.by_now, last h.assertion (h.range, h.names))

-- the flags of the events after it
pub flags-start : (T : Recording) (role : Role) (end n k : ℕ) (f : Bool) (flags : List Bool) → ((i : ℕ) → IsNaming T role i → i ≤ end) → flags ≡ replicate n false → end ≤ k → slice_get flags k ≡ Some f → (f ≡ true) ↔ IsNamed T role (suc k)
flags-start T role end n k f flags last start from at = (λ on. absurd (false≢true (sym off ∙ on)), λ h. absurd (omega (arith, named-before T role end (suc k) last h, from)))
  where
    off : f ≡ false
    off =
        let within = slice_get_within flags k f at in
        same_Some f (get_or flags k false) (sym at ∙ slice_get-get_or flags k false within) ∙ ap (λ bs. is_kept_at bs (suc k)) start ∙ none-marked n (suc k)

module _ (T : Recording) (role : Role) (i : ℕ) (e : Event) (is_naming is_named : Bool) (old new : NamedBytes) (at : event T (suc i) ≡ Some e) (tells : (is_naming ≡ true) ↔ IsNaming T role (suc i))
    (back : GoesBack role is_naming e.op old is_named new) (before : (b : ℕ) → HasByte old b ↔ IsWanted T role (suc i) b) where
  no-store : (A : Span) (b : ℕ) → Names T role A (suc i) → written_by e.op b ≡ true → ⊥
  no-store A b names on = false≢true (sym (names-no_store role e.op A b (names-op T role A (suc i) e at names)) ∙ on)

  pub step-named : (is_named ≡ true) ↔ IsNamed T role (suc i)
  step-named = (there, from)
    where
      there : is_named ≡ true → IsNamed T role (suc i)
      there on =
          let h = back.named.0 on in
          let w = (before h.0).0 h.2 in
          let least = stores-last T w.0 h.0 (suc i) e at h.1 (omega (arith, w.2)) in
          record { range = w.1; assertion = w.0; byte = h.0; names = w.3; inside = w.4; last = (last-told T w.0 h.0 (suc i) (omega arith)).0 (omega (arith, least, w.5)) }

      from : IsNamed T role (suc i) → is_named ≡ true
      from h =
          let is = (last-told T h.assertion h.byte (suc i) (omega arith)).1 h.last in
          let it = last-stores T h.assertion h.byte i e at is in
          let apart : h.assertion ≡ suc i → ⊥ = λ same. no-store h.range h.byte (subst (λ a. Names T role h.range a) same h.names) it.0 in
          back.named.1 (h.byte, it.0, (before h.byte).1 (h.assertion, h.range, omega (arith, it.1, apart), h.names, h.inside, omega (arith, is)))

  pub step-bytes : (b : ℕ) → HasByte new b ↔ IsWanted T role i b
  step-bytes b = (λ h. there ((back.told b).0 h), from)
    where
      there : (HasByte old b × (written_by e.op b ≡ false)) ⊎ IsNamedIn role is_naming e.op b → IsWanted T role i b
      there (inl h) =
          let w = (before b).0 h.0 in
          let apart : last_number T w.0 b ≡ suc i → ⊥ = λ is. false≢true (sym h.1 ∙ (last-stores T w.0 b i e at is).0) in
          (w.0, w.1, omega (arith, w.2), w.3, w.4, omega (arith, w.5, apart))
      there (inr h) =
          let it = tells.0 h.0 in
          let same : it.0 ≡ h.1 = same_Some it.0 h.1 (sym (names-op T role it.0 (suc i) e at it.1) ∙ h.2) in
          let names : Names T role h.1 (suc i) = subst (λ A. Names T role A (suc i)) same it.1 in
          let apart : last_number T (suc i) b ≡ suc i → ⊥ = λ is. no-store h.1 b names (last-stores T (suc i) b i e at is).0 in
          (suc i, h.1, omega arith, names, h.3, omega (arith, last-within T (suc i) b, apart))

      from : IsWanted T role i b → HasByte new b
      from w = (back.told b).1 (elim (cases_eq w.0 (suc i)) [
        | inl here ↦
            let names : Names T role w.1 (suc i) = subst (λ a. Names T role w.1 a) here w.3 in
            inr (tells.1 (w.1, names), w.1, names-op T role w.1 (suc i) e at names, w.4)
        | inr apart ↦ inl ((before b).1 (w.0, w.1, omega (arith, w.2, apart), w.3, w.4, omega (arith, w.5)), not-stored apart)
      ])
        where
          not-stored : (w.0 ≡ suc i → ⊥) → written_by e.op b ≡ false
          not-stored apart = go (written_by e.op b) refl
            where
              go : (v : Bool) → written_by e.op b ≡ v → v ≡ false
              go true on = absurd (omega (arith, w.2, w.5, stores-last T w.0 b (suc i) e at on (omega (arith, w.2))))
              go false off = refl
