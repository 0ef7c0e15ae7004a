-- Each kept event has a partner in a selection with the same counts of persisted stores, and no two have the same.
use Rattle.std.proofs.Common.{◌≡◌, ◌≢◌, ℕ, zero, suc, ◌-◌, ◌<◌, ◌≤◌, List, length, true, refl, sym, ap, subst, ◌∙◌, arith, true≢false, subst₂, le_antisymm, max, lt_of_not-le, le_of_suc-le-suc}
use Rattle.pmt_laws.specs.Prelude.{Act, Flushes, Clflushes, Fences, Recording, IsAct, history, count_at, front, mark, front_at, Has, IsSelection, always_stays, cut, matching_place, IsKept, HasSameVectors}
use Rattle.pmt_model.specs.Keeping.IsKept.{Stays, ByFence, ByFlush, ByClflush}
use Rattle.pmt_laws.proofs.Histories.{act-unique, act-within, history-act, front-mono}
use Rattle.pmt_laws.proofs.CutLemmas.{place-kept, cut-act}
use Rattle.pmt_laws.proofs.CutActs.{act-origin, earlier-origin, count-origin}
use Rattle.pmt_laws.proofs.KeepLemmas.{front-at_fence, needed-flush}
use Rattle.pmt_laws.proofs.SameFronts.{fronts-selected, raising-selected}

-- The flush by thread t of line l at i, whose next fence stands at j.
pub record IsFlushFor (T : Recording) (t l j i : ℕ) : Type 0 where
  pub is_flush : IsAct T i (Flushes t l)
  pub is_fence : IsAct T j (Fences t)
  pub later : i < j
  pub next_fence : (k : ℕ) → i < k → k < j → ¬ IsAct T k (Fences t)

-- An event is its own partner, or a last flush before a fence has a flush for the same fence.
pub data IsPartner (T : Recording) (k s : ℕ) : Type 0 where
  Itself : ((t l : ℕ) → ¬ IsAct T k (Flushes t l)) → k ≡ s → IsPartner T k s
  Flush : (t l j : ℕ) → IsFlushFor T t l j k → ((m : ℕ) → k < m → m < j → ¬ IsAct T m (Flushes t l)) → IsFlushFor T t l j s → IsPartner T k s

-- of two numbers the one that isn't later is at most the other
pub not_later : (m n : ℕ) → ¬ (m < n) → n ≤ m
not_later m n none = le_of_suc-le-suc (lt_of_not-le none)

-- a flush has one next fence
one-fence : (T : Recording) (t l u m i j s : ℕ) → IsFlushFor T t l j s → IsFlushFor T u m i s → t ≡ u → i ≤ j
one-fence T t l u m i j s f g e = not_later _ _ (λ less. g.next_fence j f.later less (subst (λ v. IsAct T j (Fences v)) e f.is_fence))

-- of two last flushes before one fence neither is the later
one-last : (T : Recording) (t l u m i j k n : ℕ) → IsFlushFor T t l j k → ((p : ℕ) → k < p → p < j → ¬ IsAct T p (Flushes t l)) → IsFlushFor T u m i n →
    t ≡ u → l ≡ m → j ≡ i → n ≤ k
one-last T t l u m i j k n f last g e d c =
    let before : n < j = omega (arith, g.later) in
    let flush : IsAct T n (Flushes t l) = subst₂ (λ v p. IsAct T n (Flushes v p)) (sym e) (sym d) g.is_flush in
    not_later _ _ (λ less. last n less before flush)

-- no two events have the same partner
pub partners-differ : (T : Recording) (k n s : ℕ) → IsPartner T k s → IsPartner T n s → k ≡ n
partners-differ T k n s (Itself none e) (Itself other d) = e ∙ sym d
partners-differ T k n s (Itself none e) (Flush t l j f last g) = absurd (none t l (subst (λ p. IsAct T p (Flushes t l)) (sym e) g.is_flush))
partners-differ T k n s (Flush t l j f last g) (Itself none e) = absurd (none t l (subst (λ p. IsAct T p (Flushes t l)) (sym e) g.is_flush))
partners-differ T k n s (Flush t l j f last g) (Flush u m i d final c) =
    let act : Flushes t l ≡ Flushes u m = act-unique T s (Flushes t l) (Flushes u m) g.is_flush c.is_flush in
    let thread : t ≡ u = cc in
    let line : l ≡ m = cc in
    let fence : j ≡ i = le_antisymm (one-fence T u m t l j i s c g (sym thread)) (one-fence T t l u m i j s g c thread) in
    le_antisymm (one-last T u m t l j i n k d final f (sym thread) (sym line) (sym fence)) (one-last T t l u m i j k n f last d thread line fence)

-- a fence that raises a front has a flush to do it in a selection with the same counts
raising-partner : (T : Recording) (S : List ℕ) (t l m : ℕ) → IsSelection T S → HasSameVectors T S → IsAct T (suc m) (Fences t) → front_at T l m < front_at T l (suc m) →
    (s : ℕ) × Has S s × IsFlushFor T t l (suc m) s
raising-partner T S t l m selection same fence raises =
    let within : suc m ≤ length T.events = (act-within T (suc m) (Fences t) fence).1 in
    let before : suc m - 1 ≡ m = omega arith in
    let raised : front_at T l (suc m) ≢ front_at T l (suc m - 1) = rw before (λ e. absurd (omega arith)) in
    let has : Has S (suc m) = raising-selected T S l (suc m) (Fences t) same fence raised in
    let place : ℕ = matching_place S m in
    let front_before : front_at T l m ≡ front_at (cut T S) l place = fronts-selected T S l m same (omega arith) in
    let front_after : front_at T l (suc m) ≡ front_at (cut T S) l (suc place) =
    fronts-selected T S l (suc m) same within ∙ ap (front_at (cut T S) l) (place-kept S m selection.rising has) in
    let cut_fence : IsAct (cut T S) (suc place) (Fences t) = cut-act T S m (Fences t) selection has fence in
    let at_fence : front_at (cut T S) l (suc place) ≡ max (front_at (cut T S) l place) (mark t l (history (cut T S) place)) =
    ap (front l) (history-act (cut T S) place (Fences t) cut_fence) in
    let raiser = needed-flush (cut T S) t l place cut_fence (omega arith) in
    let origin = act-origin T S raiser.0 (Flushes t l) selection raiser.2.is_flush in
    let earlier : origin.before < m = earlier-origin S origin.before m (omega (arith, origin.place, raiser.2.by_now)) in
    let same_count : count_at T l (suc origin.before) ≡ count_at (cut T S) l raiser.0 = count-origin T S l raiser.0 (Flushes t l) selection origin in
    let marked : count_at T l (suc origin.before) ≡ front_at T l (suc m) = omega (arith, raiser.2.stores) in (
      suc origin.before,
      origin.has,
      record {
        is_flush = origin.is_act;
        is_fence = fence;
        later = omega (arith, earlier);
        next_fence = λ k after by other. absurd (omega (arith, front-at_fence T t l (suc origin.before) k origin.is_act other after, front-mono T l k m (le_of_suc-le-suc by)));
      },
    )

-- a useful flush has a partner
flush-partner : (T : Recording) (S : List ℕ) (t l i j : ℕ) → IsSelection T S → HasSameVectors T S → IsFlushFor T t l j i →
    ((k : ℕ) → i < k → k < j → ¬ IsAct T k (Flushes t l)) → front_at T l (j - 1) < count_at T l i → (s : ℕ) × Has S s × IsPartner T i s
flush-partner T S t l i zero selection same flush last needed = absurd (omega (arith, flush.later))
flush-partner T S t l i (suc m) selection same flush last needed =
    let before : suc m - 1 ≡ m = omega arith in
    let needs : front_at T l m < count_at T l i = rw before at needed in
    let raises : front_at T l m < front_at T l (suc m) = omega (arith, front-at_fence T t l i (suc m) flush.is_flush flush.is_fence flush.later) in
    let partner = raising-partner T S t l m selection same flush.is_fence raises in
    (partner.0, partner.1, Flush t l (suc m) flush last partner.2)

-- an event that is no flush is its own partner
own-partner : (T : Recording) (S : List ℕ) (i : ℕ) (a : Act) → IsAct T i a → ((t l : ℕ) → a ≢ Flushes t l) → Has S i → (s : ℕ) × Has S s × IsPartner T i s
own-partner T S i a x none has = (i, has, Itself (λ t l y. none t l (act-unique T i a (Flushes t l) x y)) refl)

-- a store or an assertion is no flush
stays-no_flush : (a : Act) → always_stays a ≡ true → (t l : ℕ) → a ≢ Flushes t l
stays-no_flush a stays t l e = absurd (true≢false (sym stays ∙ ap always_stays e))

-- each kept event has a partner in a selection with the same counts
pub kept-partner : (T : Recording) (S : List ℕ) (i : ℕ) → IsSelection T S → HasSameVectors T S → IsKept T i → (s : ℕ) × Has S s × IsPartner T i s
kept-partner T S i selection same (Stays a x stays) = own-partner T S i a x (stays-no_flush a stays) (selection.whole i a x stays)
kept-partner T S i selection same (ByFence u) =
    own-partner T S i (Fences u.thread) u.is_fence (λ t l e. cc) (raising-selected T S u.line i (Fences u.thread) same u.is_fence u.raises)
kept-partner T S i selection same (ByFlush u) =
    let flush : IsFlushFor T u.thread u.line u.fence i = record { is_flush = u.is_flush; is_fence = u.is_fence; later = u.later; next_fence = u.next_fence } in
    flush-partner T S u.thread u.line i u.fence selection same flush u.last_flush u.needed
kept-partner T S i selection same (ByClflush u) =
    own-partner T S i (Clflushes u.line) u.is_clflush (λ t l e. cc) (raising-selected T S u.line i (Clflushes u.line) same u.is_clflush u.raises)
