-- What a crash in a stretch leaves in memory, by its part.
use Rattle.pmt_part_laws.proofs.Prelude.{◌≡◌, ℕ, zero, suc, ◌+◌, ◌-◌, ◌<◌, ◌≤◌, inl, inr, Bool, true, false, List, [], ◌∷◌, length, Some, None, refl, sym, ap, subst, ◌∙◌, arith, ◌↔◌, nat_lt, nat_le, slice_get, if◌then◌else◌, cases_lt, and_parts, ltb-true, lt-ltb, false_from_ne_true, Written, line_of, Act, Stores, Image, count, writes, image_of, Recording, IsAct, history, count_at, CrashAt, front_at, Has, cut, matching_place, history-act, history-step, count-mono, front-le-count, count-at_store, act-origin, IsWellFormed, IsPart, upon, safe_image, PartImages}
use Rattle.pmt_laws.proofs.SameFronts.{fronts-are-vectors}
use Rattle.pmt_part_laws.proofs.ByteLemmas.{byte-line}
use Rattle.pmt_part_laws.proofs.StepLemmas.{part_history, part-subsequence, along, store-kept, kept-store}
use Rattle.pmt_part_laws.proofs.FrontLemmas.{count-part}
use Rattle.pmt_part_laws.proofs.BoxLemmas.{least-vector, same-vectors}

-- a store has each byte that it writes
written : (w : Written) (a : ℕ) → writes w a ≡ true → (x : ℕ) × (slice_get w.bytes (a - w.addr) ≡ Some x)
written w a hit = go w.bytes (a - w.addr) (ltb-true (a - w.addr) (length w.bytes) (and_parts (nat_le w.addr a) (nat_lt (a - w.addr) (length w.bytes)) hit).1)
  where
    go : (xs : List ℕ) (i : ℕ) → i < length xs → (x : ℕ) × (slice_get xs i ≡ Some x)
    go [] i h = absurd (omega (arith, h))
    go (x ∷ xs) zero h = (x, refl)
    go (x ∷ xs) (suc i) h = go xs i (omega (arith, h))

not-less : (m n : ℕ) → n ≤ m → nat_lt m n ≡ false
not-less m n more = false_from_ne_true (nat_lt m n) (λ e. omega (arith, ltb-true m n e, more))

-- equal counts leave equal images
by_counts : (v u : ℕ → ℕ) (h g : List Act) → h ≡ g → ((l : ℕ) → v l ≡ u l) → (a : ℕ) → image_of v h a ≡ image_of u g a
by_counts v u h g same counts a = ap (λ x. image_of v x a) same ∙ go g
  where
    step : (l : ℕ) (w : Written) (h : List Act) → image_of v h a ≡ image_of u h a → image_of v (Stores l w ∷ h) a ≡ image_of u (Stores l w ∷ h) a
    step l w h old = let e = counts l in rw e (at (nat_lt (count l h) (u l)) (writes w a))
      where
        at : (d c : Bool) → (if d then (if c then slice_get w.bytes (a - w.addr) else image_of v h a) else image_of v h a) ≡ (if d then (if c then slice_get w.bytes (a - w.addr) else image_of u h a) else image_of u h a)
        at true true = refl
        at true false = old
        at false c = old

    go : (h : List Act) → image_of v h a ≡ image_of u h a
    go [] = refl
    go (Stores l w ∷ h) = step l w h (go h)
    go (a ∷ h) = go h

-- the stores that are persisted write nothing to a byte where its line has none
module _ (U : Recording) (v : ℕ → ℕ) (a line : ℕ) (own : (i l : ℕ) (w : Written) → IsAct U i (Stores l w) → writes w a ≡ true → l ≡ line) where
  none-written : (m : ℕ) → count_at U line m ≡ 0 → image_of v (history U m) a ≡ None
  none-written zero none = refl
  none-written (suc m) none = elim (history-step U m) [
    | inl x ↦ ap (λ h. image_of v h a) (history-act U m x.0 x.1) ∙ go x.0 x.1 (none-written m (omega (arith, none, count-mono U line m (suc m) (omega arith))))
    | inr x ↦ ap (λ h. image_of v h a) x.1 ∙ none-written m (omega (arith, none, count-mono U line m (suc m) (omega arith)))
  ]
    where
      go : (b : Act) → IsAct U (suc m) b → image_of v (history U m) a ≡ None → image_of v (b ∷ history U m) a ≡ None
      go (Stores l w) is old = at (writes w a) (nat_lt (count l (history U m)) (v l)) refl
        where
          at : (c d : Bool) → writes w a ≡ c → (if d then (if c then slice_get w.bytes (a - w.addr) else image_of v (history U m) a) else image_of v (history U m) a) ≡ None
          at true d hit =
              let here : IsAct U (suc m) (Stores line w) = subst (λ k. IsAct U (suc m) (Stores k w)) (own (suc m) l w is hit) is in
              absurd (omega (arith, none, count-at_store U line m w here))
          at false true free = old
          at false false free = old
      go b is old = old

module _ (T : Recording) (q r : ℕ) (K : List ℕ) (formed : IsWellFormed T) (part : IsPart T q r K) where
  abbrev F : ℕ → ℕ
  F l = front_at T l q

  -- the stores of the part to a byte are to its line
  own-line : (a i l : ℕ) (w : Written) → IsAct (cut T K) i (Stores l w) → writes w a ≡ true → l ≡ line_of T.format a
  own-line a i l w is hit =
      let o = act-origin T K i (Stores l w) (part-subsequence T q r K part) is in
      sym (byte-line T o.number l w a formed o.is_act hit)

  -- an image is that of the part over what is safe at place q
  image-split : (v u : ℕ → ℕ) (a : ℕ) → ((l : ℕ) → v l ≡ u l + F l) → (n : ℕ) → n ≤ r → image_of v (history T n) a ≡ upon (image_of u (part_history T K n) a) (image_of F (history T n) a)
  image-split v u a sums n within = along T q r K (λ h g. image_of v h a ≡ upon (image_of u g a) (image_of F h a)) part refl keeps drops n within
    where
      keeps : (n : ℕ) (b : Act) → suc n ≤ r → IsAct T (suc n) b → Has K (suc n) → image_of v (history T n) a ≡ upon (image_of u (part_history T K n) a) (image_of F (history T n) a) →
          image_of v (b ∷ history T n) a ≡ upon (image_of u (b ∷ part_history T K n) a) (image_of F (b ∷ history T n) a)
      keeps n (Stores l w) by is has old = rw (same, unsafe) (at (nat_lt (count_at T l n) (v l)) (writes w a) refl)
        where
          above : F l ≤ count_at T l n
          above = omega (arith, kept-store T q r K l (suc n) w part has is, count-at_store T l n w is)

          unsafe : nat_lt (count l (history T n)) (F l) ≡ false
          unsafe = not-less (count_at T l n) (F l) above

          same : nat_lt (count l (part_history T K n)) (u l) ≡ nat_lt (count l (history T n)) (v l)
          same =
              let counts = count-part T q r K l n part (omega arith) in
              elim (cases_lt (count_at T l n) (v l)) [
                | inl less ↦ lt-ltb (count l (part_history T K n)) (u l) (omega (arith, less, counts, above, sums l)) ∙ sym (lt-ltb (count_at T l n) (v l) less)
                | inr more ↦ not-less (count l (part_history T K n)) (u l) (omega (arith, more, counts, above, sums l)) ∙ sym (not-less (count_at T l n) (v l) more)
              ]

          at : (d c : Bool) → writes w a ≡ c → (if d then (if c then slice_get w.bytes (a - w.addr) else image_of v (history T n) a) else image_of v (history T n) a)
              ≡ upon (if d then (if c then slice_get w.bytes (a - w.addr) else image_of u (part_history T K n) a) else image_of u (part_history T K n) a) (image_of F (history T n) a)
          at true true hit = let x = written w a hit in rw x.1 refl
          at true false free = old
          at false c hit = old
      keeps n b by is has old = old

      drops : (n : ℕ) (b : Act) → suc n ≤ r → IsAct T (suc n) b → ¬ Has K (suc n) → image_of v (history T n) a ≡ upon (image_of u (part_history T K n) a) (image_of F (history T n) a) →
          image_of v (b ∷ history T n) a ≡ upon (image_of u (part_history T K n) a) (image_of F (b ∷ history T n) a)
      drops n (Stores l w) by is dropped old = rw (persisted, safe) (at (writes w a) refl)
        where
          below : count_at T l n < F l
          below = elim (cases_lt (F l) (count_at T l (suc n))) [
            | inl above ↦ absurd (dropped (store-kept T q r K l (suc n) w part by is above))
            | inr less ↦ omega (arith, less, count-at_store T l n w is)
          ]

          safe : nat_lt (count l (history T n)) (F l) ≡ true
          safe = lt-ltb (count_at T l n) (F l) below

          persisted : nat_lt (count l (history T n)) (v l) ≡ true
          persisted = lt-ltb (count_at T l n) (v l) (omega (arith, below, sums l))

          none : writes w a ≡ true → image_of u (part_history T K n) a ≡ None
          none hit =
              let line : line_of T.format a ≡ l = byte-line T (suc n) l w a formed is hit in
              let counts = count-part T q r K l n part (omega arith) in
              let zero_here : count_at (cut T K) l (matching_place K n) ≡ 0 = omega (arith, counts, below) in
              none-written (cut T K) u a l (λ i k x at hits. own-line a i k x at hits ∙ line) (matching_place K n) zero_here

          at : (c : Bool) → writes w a ≡ c → (if c then slice_get w.bytes (a - w.addr) else image_of v (history T n) a)
              ≡ upon (image_of u (part_history T K n) a) (if c then slice_get w.bytes (a - w.addr) else image_of F (history T n) a)
          at true hit = let e = none hit in rw e refl
          at false free = old
      drops n b by is dropped old = old

  -- what is safe at place q is written by then
  safe-stays : (a n : ℕ) → q ≤ n → image_of F (history T n) a ≡ image_of F (history T q) a
  safe-stays a zero after = let e : q ≡ zero = omega (arith, after) in ap (λ m. image_of F (history T m) a) (sym e)
  safe-stays a (suc n) after = elim (cases_lt n q) [
    | inl now ↦ let e : q ≡ suc n = omega (arith, now, after) in ap (λ m. image_of F (history T m) a) (sym e)
    | inr later ↦ elim (history-step T n) [
      | inl x ↦ ap (λ h. image_of F h a) (history-act T n x.0 x.1) ∙ go later x.0 ∙ safe-stays a n later
      | inr x ↦ ap (λ h. image_of F h a) x.1 ∙ safe-stays a n later
    ]
  ]
    where
      go : q ≤ n → (b : Act) → image_of F (b ∷ history T n) a ≡ image_of F (history T n) a
      go later (Stores l w) =
          let unsafe : nat_lt (count l (history T n)) (F l) ≡ false = not-less (count_at T l n) (F l) (omega (arith, front-le-count l (history T q), count-mono T l q n later)) in
          rw unsafe refl
      go later b = refl

  images : (n : ℕ) (image : Image) → q ≤ n → n ≤ r → CrashAt T n image ↔ ((own : Image) × CrashAt (cut T K) (matching_place K n) own × ((a : ℕ) → image a ≡ upon (own a) (safe_image T q a)))
  images n image after within = (there, back)
    where
      split : (v u : ℕ → ℕ) (h g : List Act) → h ≡ history T n → g ≡ part_history T K n → ((l : ℕ) → v l ≡ u l + F l) → (a : ℕ) → image_of v h a ≡ upon (image_of u g a) (safe_image T q a)
      split v u h g whole own sums a =
          ap (λ x. image_of v x a) whole ∙ image-split v u a sums n within ∙ ap (upon (image_of u (part_history T K n) a)) (safe-stays a n after) ∙ ap (λ x. upon (image_of u x a) (safe_image T q a)) (sym own)

      there : CrashAt T n image → (own : Image) × CrashAt (cut T K) (matching_place K n) own × ((a : ℕ) → image a ≡ upon (own a) (safe_image T q a))
      there (s, ends, is) =
          let least : (l : ℕ) → F l ≤ s.persisted l = λ l. least-vector T q n l s.persisted after (s, ends, λ k. refl) in
          let x = (same-vectors T q r K n (λ l. s.persisted l - F l) part after within).1 (s, ends, λ l. omega (arith, least l)) in
          let t = x.0 in (
            image_of t.persisted t.history,
            (t, x.1, λ a. refl),
            λ a. sym (is a) ∙ split s.persisted t.persisted s.history t.history ends.1 x.1.1 (λ l. omega (arith, least l, x.2 l)) a,
          )

      back : ((own : Image) × CrashAt (cut T K) (matching_place K n) own × ((a : ℕ) → image a ≡ upon (own a) (safe_image T q a))) → CrashAt T n image
      back (own, (t, ends, is), same) =
          let x = (same-vectors T q r K n t.persisted part after within).0 (t, ends, λ l. refl) in
          let s = x.0 in
          (s, x.1, λ a. split s.persisted t.persisted s.history t.history x.1.1 ends.1 x.2 a ∙ ap (λ b. upon b (safe_image T q a)) (is a) ∙ sym (same a))

pub part_images : PartImages
part_images = record {
  pool = λ T q. let x = fronts-are-vectors (history T q) in (x.0, x.1, λ a. by_counts (x.0).persisted (λ l. front_at T l q) (x.0).history (history T q) x.1.1 x.2 a);
  same = λ T q r K n image formed part after within. images T q r K formed part n image after within;
}
