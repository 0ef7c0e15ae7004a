-- The events that are marked are the carry.
use Rattle.pmt_parts.proofs.Prelude.{◌≡◌, ℕ, zero, suc, ◌<◌, ◌≤◌, inl, inr, Bool, true, false, List, [], ◌∷◌, length, min, get_or, set, get_or-set_same, get_or-set_other, map, reverse, sym, ap, subst, ◌∙◌, true≢false, arith, ◌↔◌, cases_lt, cases_eq, take_all, length-set, Stores, Flushes, Fences, Recording, act, history, front, front_at, IsRising, Has, act-within, is_kept_at, IsCarried, IsCarry, TellsCarried, AreCarried}

pub length-set-same : (marked : List Bool) (m : ℕ) (told : Bool) → length (set marked m told) ≡ length marked
length-set-same marked m told = length-set marked m told

-- one more event is marked or not
pub marks-more : (T : Recording) (m n : ℕ) (marked : List Bool) (told : Bool) → length marked ≡ n → m < n → TellsCarried T n (suc m) told → AreCarried T (suc m) n marked → AreCarried T m n (set marked m told)
marks-more T m n marked told size within tells old zero after by = absurd (omega (arith, after))
marks-more T m n marked told size within tells old (suc i) after by = elim (cases_eq i m) [
  | inl e ↦
      let value : get_or (set marked m told) i false ≡ told = ap (λ k. get_or (set marked m told) k false) e ∙ get_or-set_same marked m told false (omega (arith, size, within)) in
      let here : TellsCarried T n (suc i) told = subst (λ k. TellsCarried T n (suc k) told) (sym e) tells in
      subst (λ b. TellsCarried T n (suc i) b) (sym value) here
  | inr apart ↦ subst (λ b. TellsCarried T n (suc i) b) (sym (get_or-set_other marked m i told false apart)) (old (suc i) (omega (arith, after, apart)) by)
]

-- past the last event the history stays
history-end : (T : Recording) (n : ℕ) → length T.events ≤ n → history T n ≡ history T (length T.events)
history-end T n past = ap (λ xs. reverse (map (act T.format) xs)) (take_all n T.events past ∙ sym (take_all (length T.events) T.events (omega arith)))

-- so what is carried is that of the end
carried-end : (T : Recording) (n k : ℕ) → length T.events ≤ n → IsCarried T n k ↔ IsCarried T (length T.events) k
carried-end T n k past = (there, back)
  where
    same : (l : ℕ) → front_at T l n ≡ front_at T l (length T.events)
    same l = ap (front l) (history-end T n past)

    there : IsCarried T n k → IsCarried T (length T.events) k
    there (inl x) = inl (record { line = x.line; what = x.what; is_store = x.is_store; by_now = (act-within T k (Stores x.line x.what) x.is_store).1; above = omega (arith, x.above, same x.line) })
    there (inr x) = inr (record {
      thread = x.thread;
      line = x.line;
      is_flush = x.is_flush;
      by_now = (act-within T k (Flushes x.thread x.line) x.is_flush).1;
      last = λ j after by is. x.last j after (omega (arith, by, past)) is;
      unfenced = λ j after by is. x.unfenced j after (omega (arith, by, past)) is;
    })

    back : IsCarried T (length T.events) k → IsCarried T n k
    back (inl x) = inl (record { line = x.line; what = x.what; is_store = x.is_store; by_now = omega (arith, x.by_now, past); above = omega (arith, x.above, same x.line) })
    back (inr x) = inr (record {
      thread = x.thread;
      line = x.line;
      is_flush = x.is_flush;
      by_now = omega (arith, x.by_now, past);
      last = λ j after by is. x.last j after (act-within T j (Flushes x.thread x.line) is).1 is;
      unfenced = λ j after by is. x.unfenced j after (act-within T j (Fences x.thread) is).1 is;
    })

carried-min : (T : Recording) (n last k : ℕ) → last ≡ min n (length T.events) → IsCarried T n k ↔ IsCarried T last k
carried-min T n last k is = elim (cases_lt n (length T.events)) [
  | inl before ↦ let e : n ≡ last = omega (arith, is, before) in (λ x. subst (λ p. IsCarried T p k) e x, λ x. subst (λ p. IsCarried T p k) (sym e) x)
  | inr past ↦
      let e : length T.events ≡ last = omega (arith, is, past) in
      let end = carried-end T n k past in
      (λ x. subst (λ p. IsCarried T p k) e (end.0 x), λ x. end.1 (subst (λ p. IsCarried T p k) (sym e) x))
]

-- a mark is that of an event
mark-some : (marked : List Bool) (i : ℕ) → get_or marked i false ≡ true → i < length marked
mark-some [] i e = absurd (true≢false (sym e))
mark-some (b ∷ marked) zero e = omega arith
mark-some (b ∷ marked) (suc i) e = omega (arith, mark-some marked i e)

marked-within : (marked : List Bool) (k : ℕ) → is_kept_at marked k ≡ true → (0 < k) × (k ≤ length marked)
marked-within marked zero e = absurd (true≢false (sym e))
marked-within marked (suc i) e = (omega arith, omega (arith, mark-some marked i e))

-- what is carried is an event
carried-some : (T : Recording) (n k : ℕ) → IsCarried T n k → (0 < k) × (k ≤ n)
carried-some T n k (inl x) = (omega (arith, (act-within T k (Stores x.line x.what) x.is_store).0), x.by_now)
carried-some T n k (inr x) = (omega (arith, (act-within T k (Flushes x.thread x.line) x.is_flush).0), x.by_now)

pub carry-marked : (T : Recording) (n last : ℕ) (marked : List Bool) (numbers : List ℕ) → last ≡ min n (length T.events) → length marked ≡ last → AreCarried T 0 last marked → IsRising 0 numbers →
    ((k : ℕ) → Has numbers k ↔ (is_kept_at marked k ≡ true)) → IsCarry T n numbers
carry-marked T n last marked numbers is size carried rising just = record { rising = rising; just = λ k. (there k, back k) }
  where
    there : (k : ℕ) → Has numbers k → IsCarried T n k
    there k has =
        let mark = (just k).0 has in
        let within = marked-within marked k mark in
        (carried-min T n last k is).1 ((carried k within.0 (omega (arith, within.1, size))).0 mark)

    back : (k : ℕ) → IsCarried T n k → Has numbers k
    back k x =
        let here = (carried-min T n last k is).0 x in
        let within = carried-some T last k here in
        (just k).1 ((carried k within.0 within.1).1 here)
