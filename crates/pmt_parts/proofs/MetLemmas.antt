-- One more event is met.
use Rattle.pmt_parts.proofs.Prelude.{◌≡◌, ℕ, zero, suc, ◌<◌, ◌≤◌, inl, inr, true, List, [], ◌∷◌, ◌++◌, length, get_or, Some, refl, sym, ap, subst, ◌∙◌, arith, ◌⊎◌, ◌↔◌, slice_get, cases_lt, slice_get-get_or, slice_get_within, Event, Op, Written, Span, Layout, line_of, Stores, writes, Recording, IsAct, act_of, Has, InSpan, act-unique, IsUnwritten, IsOrderedWith, IsOlderOrdered, HasByte, HasOp, IsWritten, IsMet, has-both}
use Rattle.pmt_model.specs.declared.event.Op.TheVariants as ops
use Rattle.pmt_parts.specs.declared.aside.Met.{Met}

-- event k stores to the byte at b
abbrev pub WritesAt : Recording → ℕ → ℕ → Type 0
WritesAt T k b = (l : ℕ) × (w : Written) × IsAct T k (Stores l w) × (writes w b ≡ true)

pub met-step : (T : Recording) (m before n : ℕ) (s r : Met) → m ≤ n → ((b : ℕ) → HasByte r.written.keys b ↔ (HasByte s.written.keys b ⊎ WritesAt T (suc n) b)) →
    ((i : ℕ) → Has r.aside.items i ↔ (Has s.aside.items i ⊎ ((suc n ≡ i) × IsOlderOrdered T m before (suc n)))) → IsMet T m before n s → IsMet T m before (suc n) r
met-step T m before n s r from bytes aside old = record { bytes = λ b. (byte-there b, byte-back b); aside = λ i. (aside-there i, aside-back i) }
  where
    byte-there : (b : ℕ) → HasByte r.written.keys b → IsWritten T m (suc n) b
    byte-there b has = elim ((bytes b).0 has) [
      | inl earlier ↦
          let x = (old.bytes b).0 earlier in
          record { number = x.number; after = x.after; by_now = omega (arith, x.by_now); line = x.line; what = x.what; is_store = x.is_store; writes_it = x.writes_it }
      | inr now ↦ record { number = suc n; after = omega (arith, from); by_now = omega arith; line = now.0; what = now.1; is_store = now.2; writes_it = now.3 }
    ]

    byte-back : (b : ℕ) → IsWritten T m (suc n) b → HasByte r.written.keys b
    byte-back b x = elim (cases_lt n x.number) [
      | inl now ↦
          let e : x.number ≡ suc n = omega (arith, now, x.by_now) in
          (bytes b).1 (inr (x.line, x.what, subst (λ k. IsAct T k (Stores x.line x.what)) e x.is_store, x.writes_it))
      | inr earlier ↦
          (bytes b).1 (inl ((old.bytes b).1 (record { number = x.number; after = x.after; by_now = earlier; line = x.line; what = x.what; is_store = x.is_store; writes_it = x.writes_it })))
    ]

    aside-there : (i : ℕ) → Has r.aside.items i → IsOlderOrdered T m before i × (i ≤ suc n)
    aside-there i has = elim ((aside i).0 has) [
      | inl earlier ↦ let x = (old.aside i).0 earlier in (x.0, omega (arith, x.1))
      | inr now ↦ (subst (IsOlderOrdered T m before) now.0 now.1, omega (arith, now.0))
    ]

    aside-back : (i : ℕ) → IsOlderOrdered T m before i × (i ≤ suc n) → Has r.aside.items i
    aside-back i x = elim (cases_lt n i) [
      | inl now ↦ let e : suc n ≡ i = omega (arith, now, x.1) in (aside i).1 (inr (e, subst (IsOlderOrdered T m before) (sym e) x.0))
      | inr earlier ↦ (aside i).1 (inl ((old.aside i).1 (x.0, earlier)))
    ]

-- ---- What an event is

act-with : (T : Recording) (k : ℕ) (op : Op) → HasOp T k op → (t : ℕ) × IsAct T k (act_of T.format t op)
act-with T k op (e, is, same) = (e.thread, (e, is, ap (act_of T.format e.thread) same))

-- an event with another op stores nothing
pub writes-not : (T : Recording) (k : ℕ) (op : Op) → HasOp T k op → ((t l : ℕ) (w : Written) → act_of T.format t op ≡ Stores l w → ⊥) → (b : ℕ) → WritesAt T k b → ⊥
writes-not T k op has none b (l, w, is, it) = let a = act-with T k op has in none a.0 l w (act-unique T k (act_of T.format a.0 op) (Stores l w) a.1 is)

-- and is no isOrderedBefore
pub ordered-not : (T : Recording) (m before k : ℕ) (op : Op) → HasOp T k op → ((A B : Span) → op ≡ ops.IsOrderedBefore A B → ⊥) → IsOlderOrdered T m before k → ⊥
ordered-not T m before k op (e, is, same) none x =
    let both : Some e ≡ Some x.ordered.0 = sym is ∙ x.ordered.1 in
    let one : e ≡ x.ordered.0 = cc in
    none x.ordered.2 x.range (sym same ∙ (ap (λ (d : Event). d.op) one ∙ x.ordered.3))

-- nothing changes at an event that neither stores nor is one
pub met-other : (T : Recording) (m before n : ℕ) (s : Met) (op : Op) → m ≤ n → HasOp T (suc n) op → ((t l : ℕ) (w : Written) → act_of T.format t op ≡ Stores l w → ⊥) → ((A B : Span) → op ≡ ops.IsOrderedBefore A B → ⊥) →
    IsMet T m before n s → IsMet T m before (suc n) s
met-other T m before n s op from has no_store no_claim old = met-step T m before n s s from
    (λ b. (λ h. inl h, λ x. elim x [ inl h ↦ h | inr now ↦ absurd (writes-not T (suc n) op has no_store b now) ]))
    (λ i. (λ h. inl h, λ x. elim x [ inl h ↦ h | inr now ↦ absurd (ordered-not T m before (suc n) op has no_claim now.1) ])) old

-- a store
pub met-store : (T : Recording) (m before n : ℕ) (s r : Met) (w : Written) → m ≤ n → HasOp T (suc n) (ops.Store w) → ((b : ℕ) → HasByte r.written.keys b ↔ (HasByte s.written.keys b ⊎ (writes w b ≡ true))) → r.aside ≡ s.aside →
    IsMet T m before n s → IsMet T m before (suc n) r
met-store T m before n s r w from has bytes aside old = met-step T m before n s r from (λ b. (there b, back b))
    (λ i. subst (λ v. Has v.items i ↔ (Has s.aside.items i ⊎ ((suc n ≡ i) × IsOlderOrdered T m before (suc n)))) (sym aside)
    (λ h. inl h, λ x. elim x [ inl h ↦ h | inr now ↦ absurd (ordered-not T m before (suc n) (ops.Store w) has (λ A B e. cc) now.1) ])) old
  where
    there : (b : ℕ) → HasByte r.written.keys b → HasByte s.written.keys b ⊎ WritesAt T (suc n) b
    there b h = elim ((bytes b).0 h) [ inl earlier ↦ inl earlier | inr now ↦ let a = act-with T (suc n) (ops.Store w) has in inr (line_of T.format w.addr, w, a.1, now) ]

    back : (b : ℕ) → HasByte s.written.keys b ⊎ WritesAt T (suc n) b → HasByte r.written.keys b
    back b (inl earlier) = (bytes b).1 (inl earlier)
    back b (inr (l, v, is, it)) =
        let a = act-with T (suc n) (ops.Store w) has in
        let both = act-unique T (suc n) (Stores (line_of T.format w.addr) w) (Stores l v) a.1 is in
        let same : v ≡ w = cc in
        (bytes b).1 (inr (subst (λ x. writes x b ≡ true) same it))

-- an isOrderedBefore
module _ (T : Recording) (m before n : ℕ) (B : Span) (from : m ≤ n) (has : IsOrderedWith T (suc n) B) where
  op-of : HasOp T (suc n) (ops.IsOrderedBefore has.2 B)
  op-of = (has.0, has.1, has.3)

  no-store : (b : ℕ) → WritesAt T (suc n) b → ⊥
  no-store b = writes-not T (suc n) (ops.IsOrderedBefore has.2 B) op-of (λ t l w e. cc) b

  same-range : (x : IsOlderOrdered T m before (suc n)) → x.range ≡ B
  same-range x =
      let both : Some has.0 ≡ Some x.ordered.0 = sym has.1 ∙ x.ordered.1 in
      let one : has.0 ≡ x.ordered.0 = cc in
      let ops_same = sym has.3 ∙ (ap (λ (d : Event). d.op) one ∙ x.ordered.3) in
      cc

  -- that is not set aside
  pub met-known : (s : Met) → (suc n ≤ before) ⊎ ((b : ℕ) → InSpan B b → HasByte s.written.keys b) → IsMet T m before n s → IsMet T m before (suc n) s
  met-known s known old = met-step T m before n s s from
      (λ b. (λ h. inl h, λ x. elim x [ inl h ↦ h | inr now ↦ absurd (no-store b now) ]))
      (λ i. (λ h. inl h, λ x. elim x [ inl h ↦ h | inr now ↦ absurd (go known now.1) ])) old
    where
      go : (suc n ≤ before) ⊎ ((b : ℕ) → InSpan B b → HasByte s.written.keys b) → IsOlderOrdered T m before (suc n) → ⊥
      go (inl early) x = omega (arith, early, x.answered)
      go (inr all) x =
          let b = x.older.0 in
          let w = (old.bytes b).0 (all b (subst (λ R. InSpan R b) (same-range x) x.older.1)) in
          x.older.2 w.number w.line w.what w.after (omega (arith, w.by_now)) w.is_store w.writes_it

  -- that is set aside
  pub met-aside : (s r : Met) → before < suc n → (b : ℕ) × InSpan B b × ¬ HasByte s.written.keys b → r.written ≡ s.written → r.aside.items ≡ s.aside.items ++ suc n ∷ [] → IsMet T m before n s → IsMet T m before (suc n) r
  met-aside s r answered (b, inside, none) written aside old = met-step T m before n s r from
      (λ c. subst (λ v. HasByte v.keys c ↔ (HasByte s.written.keys c ⊎ WritesAt T (suc n) c)) (sym written) (λ h. inl h, λ x. elim x [ inl h ↦ h | inr now ↦ absurd (no-store c now) ]))
      (λ i. subst (λ xs. Has xs i ↔ (Has s.aside.items i ⊎ ((suc n ≡ i) × IsOlderOrdered T m before (suc n)))) (sym aside) (there i, back i)) old
    where
      unwritten : IsUnwritten T m (suc n) b
      unwritten k l w after by is it = elim (cases_lt n k) [
        | inl now ↦ let e : k ≡ suc n = omega (arith, now, by) in no-store b (l, w, subst (λ j. IsAct T j (Stores l w)) e is, it)
        | inr earlier ↦ none ((old.bytes b).1 (record { number = k; after = after; by_now = earlier; line = l; what = w; is_store = is; writes_it = it }))
      ]

      here : IsOlderOrdered T m before (suc n)
      here = record { after = omega (arith, from); answered = answered; range = B; ordered = has; older = (b, inside, unwritten) }

      there : (i : ℕ) → Has (s.aside.items ++ suc n ∷ []) i → Has s.aside.items i ⊎ ((suc n ≡ i) × IsOlderOrdered T m before (suc n))
      there i h = elim ((has-both s.aside.items (suc n ∷ []) i).0 h) [ inl earlier ↦ inl earlier | inr now ↦ elim now [ inl e ↦ inr (e, here) | inr not_there ↦ absurd not_there ] ]

      back : (i : ℕ) → Has s.aside.items i ⊎ ((suc n ≡ i) × IsOlderOrdered T m before (suc n)) → Has (s.aside.items ++ suc n ∷ []) i
      back i (inl earlier) = (has-both s.aside.items (suc n ∷ []) i).1 (inl earlier)
      back i (inr (e, x)) = (has-both s.aside.items (suc n ∷ []) i).1 (inr (inl e))

-- ---- What an op is not

store-op : (f : Layout) (t l : ℕ) (w : Written) (op : Op) → act_of f t op ≡ Stores l w → op ≡ ops.Store w
store-op f t l w (ops.Store v) e = cc
store-op f t l w op e = absurd (cc)

pub met-neither : (T : Recording) (m before n : ℕ) (s : Met) (op : Op) → m ≤ n → HasOp T (suc n) op → ((w : Written) → op ≡ ops.Store w → ⊥) → ((A B : Span) → op ≡ ops.IsOrderedBefore A B → ⊥) →
    IsMet T m before n s → IsMet T m before (suc n) s
met-neither T m before n s op from has no_store no_claim old = met-other T m before n s op from has (λ t l w e. no_store w (store-op T.format t l w op e)) no_claim old

-- one that is set aside is an event
pub ordered-within : (T : Recording) (m before i : ℕ) → IsOlderOrdered T m before i → i ≤ length T.events
ordered-within T m before zero x = omega arith
ordered-within T m before (suc i) x = slice_get_within T.events i x.ordered.0 x.ordered.1

pub op-at : (T : Recording) (es : List Event) (i : ℕ) (e : Event) → es ≡ T.events → i < length es → e ≡ get_or es i e → HasOp T (suc i) e.op
op-at T es i e events within is = (e, ap (λ xs. slice_get xs i) (sym events) ∙ slice_get-get_or es i e within ∙ ap Some (sym is), refl)
