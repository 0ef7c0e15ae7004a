-- Fences without flush, in a trace and in the trace cut to a part.
use Rattle.pmt_part_laws.proofs.Prelude.{◌≡◌, ℕ, zero, suc, ◌<◌, ◌≤◌, inl, inr, List, length, subst, arith, ◌⊎◌, cases_lt, cases_eq, Act, Flushes, Fences, Recording, IsAct, history, IsEmptyFence, Has, cut, matching_place, act-unique, act-within, history-step, IsSubsequence, kept-act, act-origin, placed-later, later-origin, IsPart, PartEmptyFence}
use Rattle.pmt_part_laws.proofs.StepLemmas.{part-subsequence, has-stretch}
use Rattle.pmt_part_laws.proofs.OriginLemmas.{act-back, fence-kept}
use Rattle.std.proofs.lemmas.Bool.Decides.{nat_tests}

-- an act is a flush of the line by the thread, or not
pub flush-dec : (t l : ℕ) (a : Act) → (a ≡ Flushes t l) ⊎ (a ≡ Flushes t l → ⊥)
flush-dec t l a = grind (arith, nat_tests, cases_eq)

-- or a fence by the thread
pub fence-dec : (t : ℕ) (a : Act) → (a ≡ Fences t) ⊎ (a ≡ Fences t → ⊥)
fence-dec t a = grind (arith, nat_tests, cases_eq)

-- No event after event j up to event n is this act.
abbrev pub NoneSince : Recording → Act → ℕ → ℕ → Type 0
NoneSince T b j n = (k : ℕ) → j < k → k ≤ n → ¬ IsAct T k b

-- Event k is the last one of them that is.
pub record IsLastSince (T : Recording) (b : Act) (j n k : ℕ) : Type 0 where
  pub is_act : IsAct T k b
  pub after : j < k
  pub by_now : k ≤ n
  pub none_later : NoneSince T b k n

-- one more event that is another
one_more : (T : Recording) (b : Act) (j n : ℕ) → ¬ IsAct T (suc n) b → ((k : ℕ) × IsLastSince T b j n k) ⊎ NoneSince T b j n → ((k : ℕ) × IsLastSince T b j (suc n) k) ⊎ NoneSince T b j (suc n)
one_more T b j n other found = elim found [
  | inl x ↦ inl (x.0, record { is_act = x.1.is_act; after = x.1.after; by_now = omega (arith, x.1.by_now); none_later = longer x.0 x.1.none_later })
  | inr none ↦ inr (longer j none)
]
  where
    longer : (i : ℕ) → NoneSince T b i n → NoneSince T b i (suc n)
    longer i none k later by is = elim (cases_lt n k) [
      | inl now ↦ let e : k ≡ suc n = omega arith in other (subst (λ m. IsAct T m b) e is)
      | inr early ↦ none k later early is
    ]

-- there is a last one, or none
pub last-since : (T : Recording) (b : Act) (j n : ℕ) → ((a : Act) → (a ≡ b) ⊎ (a ≡ b → ⊥)) → ((k : ℕ) × IsLastSince T b j n k) ⊎ NoneSince T b j n
last-since T b j zero dec = inr (λ k later by is. omega (arith, later, by))
last-since T b j (suc n) dec = elim (cases_lt n j) [ inl past ↦ inr (λ k later by is. omega (arith, past, later, by)) | inr within ↦ go within (history-step T n) (last-since T b j n dec) ]
  where
    go : j ≤ n → ((a : Act) × IsAct T (suc n) a) ⊎ ((length T.events ≤ n) × (history T (suc n) ≡ history T n)) → ((k : ℕ) × IsLastSince T b j n k) ⊎ NoneSince T b j n → ((k : ℕ) × IsLastSince T b j (suc n) k) ⊎ NoneSince T b j (suc n)
    go within (inr x) found = one_more T b j n (λ is. omega (arith, (act-within T (suc n) b is).1, x.0)) found
    go within (inl (a, is)) found = elim (dec a) [
      | inl e ↦ inl (suc n, record { is_act = subst (IsAct T (suc n)) e is; after = omega (arith, within); by_now = omega arith; none_later = λ k later by at. omega (arith, later, by) })
      | inr other ↦ one_more T b j n (λ at. other (act-unique T (suc n) a b is at)) found
    ]

-- of a thread that has not fenced since a flush, a flush of that line by it, no earlier, is in the part
pub open-kept : (T : Recording) (q r : ℕ) (K : List ℕ) (t l j n : ℕ) → IsPart T q r K → q ≤ n → n ≤ r → j ≤ n → IsAct T j (Flushes t l) → NoneSince T (Fences t) j n →
    (k : ℕ) × (j ≤ k) × (k ≤ n) × Has K k × IsAct T k (Flushes t l)
open-kept T q r K t l j n part after within by flush unfenced = elim (cases_lt q j) [
  | inl late ↦ (j, omega arith, by, has-stretch T q r K j part late (omega (arith, by, within)), flush)
  | inr early ↦ elim (last-since T (Flushes t l) j q (flush-dec t l)) [
    | inl x ↦ (x.0, omega (arith, x.1.after), omega (arith, x.1.by_now, after), carried x.0 (omega (arith, x.1.after)) x.1.by_now x.1.is_act x.1.none_later, x.1.is_act)
    | inr none ↦ (j, omega arith, by, carried j (omega arith) early flush none, flush)
  ]
]
  where
    carried : (k : ℕ) → j ≤ k → k ≤ q → IsAct T k (Flushes t l) → NoneSince T (Flushes t l) k q → Has K k
    carried k since early is last = (part.just k).1 (inl (inr (record {
      thread = t;
      line = l;
      is_flush = is;
      by_now = early;
      last = last;
      unfenced = λ m later before fence. unfenced m (omega (arith, since, later)) (omega (arith, before, after)) fence;
    })))

pub part_empty_fence : PartEmptyFence
part_empty_fence T q r K zero part after within = absurd (omega (arith, after))
part_empty_fence T q r K (suc n) part after within = (there, back)
  where
    s : IsSubsequence T K
    s = part-subsequence T q r K part

    has : Has K (suc n)
    has = has-stretch T q r K (suc n) part after within

    there : IsEmptyFence T (suc n) → IsEmptyFence (cut T K) (matching_place K (suc n))
    there it = record {
      thread = it.thread;
      is_fence = kept-act T K (suc n) (Fences it.thread) s has it.is_fence;
      nothing = λ j l before flush.
          let o = act-origin T K j (Flushes it.thread l) s flush in
          let f = it.nothing o.number l (later-origin K o.number (suc n) (omega (arith, before, o.place))) o.is_act in
          let chosen = (fence-kept T q r K it.thread l o.number f.0 part o.chosen o.is_act f.1 (omega (arith, f.2, within)) f.3).1 in
          (matching_place K f.0, omega (arith, placed-later T K o.number f.0 s chosen f.1, o.place), placed-later T K f.0 (suc n) s has f.2, kept-act T K f.0 (Fences it.thread) s chosen f.3);
    }

    back : IsEmptyFence (cut T K) (matching_place K (suc n)) → IsEmptyFence T (suc n)
    back it = record {
      thread = it.thread;
      is_fence = act-back T q r K (suc n) (Fences it.thread) part has it.is_fence;
      nothing = λ j l before flush. elim (last-since T (Fences it.thread) j n (fence-dec it.thread)) [
        | inl x ↦ (x.0, x.1.after, omega (arith, x.1.by_now), x.1.is_act)
        | inr none ↦ absurd (go j l (omega (arith, before)) flush none)
      ];
    }
      where
        go : (j l : ℕ) → j ≤ n → IsAct T j (Flushes it.thread l) → NoneSince T (Fences it.thread) j n → ⊥
        go j l by flush none =
            let k = open-kept T q r K it.thread l j n part (omega (arith, after)) (omega (arith, within)) by flush none in
            let f = it.nothing (matching_place K k.0) l (placed-later T K k.0 (suc n) s has (omega (arith, k.2))) (kept-act T K k.0 (Flushes it.thread l) s k.3 k.4) in
            let o = act-origin T K f.0 (Fences it.thread) s f.3 in
            let later : k.0 < o.number = later-origin K k.0 o.number (omega (arith, f.1, o.place)) in
            let early : o.number < suc n = later-origin K o.number (suc n) (omega (arith, f.2, o.place)) in
            none o.number (omega (arith, k.1, later)) (omega (arith, early)) o.is_act
