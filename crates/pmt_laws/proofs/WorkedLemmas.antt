-- What the definitions say of the worked traces.
use Rattle.std.proofs.Common.{◌≡◌, ℕ, zero, suc, ◌-◌, ◌<◌, ◌≤◌, ◌⊎◌, ◌↔◌, Bool, true, false, List, [], ◌∷◌, Option, None, inl, inr, refl, sym, ◌∙◌, ap, subst, lit<, lit≤, arith, max, unwrap_or}
use Rattle.std.specs.Prelude.{nat_lt, if◌then◌else◌}
use Rattle.std.proofs.lemmas.Bool.{false≢true, cases_eq, ne_eqb, lt-ltb}
use Rattle.pmt_laws.specs.Prelude.{RedundantFlush, Overwritten, Written, Act, Stores, Flushes, Clflushes, State, Ends, Image, write, image_of, Crash, count, IsAct, history, CrashAt, VectorsAt, Recording, count_at, front, front_at, open_mark, InBox, cut, ByFlush, IsFlushedAfter, IsFlushOf, IsEmptyFence, IsCovered, IsRedundantClflush, IsFinding}
use Rattle.pmt_laws.specs.Worked.{nothing, byte_alone, IsSame, store, clwb, clflush, sfence, fence_of_another_thread, FenceOfAnotherThread, flushed_by_two_threads, FlushedByTwoThreads, two_rounds, TwoRounds, store_after_flush, StoreAfterFlush, ordered_by_fence, OrderedByFence, ordered_fence_too_late, OrderedFenceTooLate, same_byte_twice, SameByteTwice, clflush_beats_clwb, ClflushBeatsClwb}
use Rattle.pmt_laws.proofs.Histories.{act-within, act-unique, front-le-count}
use Rattle.pmt_laws.proofs.BoxLemmas.{box-ends, vectors_are_a_box}
use Rattle.pmt_laws.proofs.FaithfulLemmas.{fronts_decide}
use Rattle.pmt_laws.proofs.AssertLemmas.{front-le-persisted, least_end}
use Rattle.pmt_laws.proofs.NeverLemmas.{never_persisted_by_fronts}
use Rattle.pmt_laws.proofs.RedundantLemmas.{redundant_flush_by_fronts, redundant_clflush_by_fronts}
use Rattle.pmt_laws.proofs.ByteAssertions.{keeps, covered-passes, passes-covered, no_later-passes, passes-no_later}
use Rattle.pmt_laws.proofs.SelectionTest.{selection-is_selection}
use Rattle.std.proofs.lemmas.Bool.Decides.{nat_tests}

-- A flush for which there are more stores than the front and the open mark count is not redundant.
pub unredundant_flush : (T : Recording) (t l i : ℕ) → IsAct T i (Flushes t l) →
    ¬ (count_at T l i ≤ max (front_at T l (i - 1)) (unwrap_or (open_mark t l (history T (i - 1))) 0)) → ¬ IsFinding T (RedundantFlush i)
unredundant_flush T t l i is more h = grind (arith, nat_tests, act-unique, redundant_flush_by_fronts)

-- Nor is a clflush for which there are more than the front counts.
pub unredundant_clflush : (T : Recording) (l i : ℕ) → IsAct T i (Clflushes l) → ¬ (count_at T l i ≤ front_at T l (i - 1)) → ¬ IsFinding T (RedundantFlush i)
unredundant_clflush T l i is more (inl (u, k, redundant)) = let same = act-unique T i (Flushes u k) (Clflushes l) redundant.is_flush is in cc
unredundant_clflush T l i is more (inr (k, redundant)) =
    let same : Clflushes k ≡ Clflushes l = act-unique T i (Clflushes k) (Clflushes l) redundant.is_clflush is in
    let line : k ≡ l = cc in
    more ((redundant_clflush_by_fronts T l i is).0 (subst (λ m. IsRedundantClflush T m i) line redundant))

-- The fence of thread 1 has no flush of thread 1 before it.
no_flush_of_thread_1 : IsEmptyFence fence_of_another_thread 3
no_flush_of_thread_1 = record {
  thread = 1;
  is_fence = (sfence 1, refl, refl);
  nothing = λ j l before is. absurd (go j l before is);
}
  where
    go : (j l : ℕ) → j < 3 → IsAct fence_of_another_thread j (Flushes 1 l) → ⊥
    go zero l before is = let within : 1 ≤ 0 = (act-within fence_of_another_thread 0 (Flushes 1 l) is).0 in omega arith
    go (suc zero) l before is =
        let e : Flushes 1 l ≡ Stores 64 (record { addr = 0x1000; bytes = 1 ∷ [] }) =
        act-unique fence_of_another_thread 1 (Flushes 1 l) (Stores 64 (record { addr = 0x1000; bytes = 1 ∷ [] })) is (store 0 0x1000 1, refl, refl) in
        cc
    go (suc (suc zero)) l before is =
        let e : Flushes 1 l ≡ Flushes 0 64 = act-unique fence_of_another_thread 2 (Flushes 1 l) (Flushes 0 64) is (clwb 0 0x1000, refl, refl) in cc
    go (suc (suc (suc j))) l before is = omega arith

-- A store of one byte to memory in which nothing was written.
store_alone : (a byte b : ℕ) → write (record { addr = a; bytes = byte ∷ [] }) nothing b ≡ byte_alone a byte b
store_alone a byte b = grind (arith, nat_tests)

-- After the fence of the other thread the store is persisted or not.
one_or_none : (persisted : ℕ → ℕ) (a : ℕ) →
    image_of persisted (history fence_of_another_thread 3) a ≡ (if nat_lt 0 (persisted 64) then byte_alone 0x1000 1 a else None)
one_or_none persisted a =
    ap (λ (o : Option ℕ). if nat_lt 0 (persisted 64) then o else None) (store_alone 0x1000 1 a)

-- What a crash after the fence of the other thread leaves.
leaves_byte_or_nothing : (image : Image) → CrashAt fence_of_another_thread 3 image ↔ IsSame nothing image ⊎ IsSame (byte_alone 0x1000 1) image
leaves_byte_or_nothing image = (there, back)
  where
    by_test : (t : Bool) → ((a : ℕ) → (if t then byte_alone 0x1000 1 a else None) ≡ image a) → IsSame nothing image ⊎ IsSame (byte_alone 0x1000 1) image
    by_test true same = inr same
    by_test false same = inl same

    there : CrashAt fence_of_another_thread 3 image → IsSame nothing image ⊎ IsSame (byte_alone 0x1000 1) image
    there (s, ends, left) =
        by_test (nat_lt 0 (s.persisted 64))
        (λ a. sym (one_or_none s.persisted a) ∙ sym (ap (λ (h : List Act). image_of s.persisted h a) ends.1) ∙ left a)

    from_counts : (v : ℕ → ℕ) → InBox (history fence_of_another_thread 3) v → ((a : ℕ) → (if nat_lt 0 (v 64) then byte_alone 0x1000 1 a else None) ≡ image a) →
        CrashAt fence_of_another_thread 3 image
    from_counts v within same =
        let e = box-ends (history fence_of_another_thread 3) v within in (
          e.0,
          e.1,
          λ a. ap (λ (h : List Act). image_of e.0.persisted h a) e.1.1 ∙ one_or_none e.0.persisted a
              ∙ ap (λ (n : ℕ). if nat_lt 0 n then byte_alone 0x1000 1 a else None) (e.2 64) ∙ same a,
        )

    back : IsSame nothing image ⊎ IsSame (byte_alone 0x1000 1) image → CrashAt fence_of_another_thread 3 image
    back (inl same) = from_counts (λ l. 0) (λ l. (lit≤ tt, omega arith)) same
    back (inr same) =
        from_counts (λ l. count l (history fence_of_another_thread 3)) (λ l. (front-le-count l (history fence_of_another_thread 3), omega arith)) same

-- The fence of thread 1 leaves the store of thread 0 pending.
pub fence_of_another_thread_says : FenceOfAnotherThread
fence_of_another_thread_says = record {
  fenced = (refl, refl);
  leaves = leaves_byte_or_nothing;
  last = refl;
  fails = λ passes. let above : 1 ≤ 0 = passes-covered (history fence_of_another_thread 4) 0x1000 passes in omega arith;
  pending = (
    64,
    (never_persisted_by_fronts fence_of_another_thread 64 1 (record { addr = 0x1000; bytes = 1 ∷ [] }) (store 0 0x1000 1, refl, refl)).1 (lit< tt),
    (λ _. (2, lit< tt, ByFlush 0 (clwb 0 0x1000, refl, refl)), λ _. refl),
  );
  empty = no_flush_of_thread_1;
  kept = keeps fence_of_another_thread (1 ∷ 4 ∷ []) refl;
}

-- The only flush between the store and the flush of thread 1 is that of thread 0.
not_covered_by_other : IsCovered flushed_by_two_threads 1 64 1 3 → ⊥
not_covered_by_other covered =
    let number : covered.flush ≡ 2 = omega (arith, covered.after, covered.before) in
    let P : ℕ → Type 0 = λ k. IsAct flushed_by_two_threads k (Flushes 1 64) in
    let e : Flushes 1 64 ≡ Flushes 0 64 = act-unique flushed_by_two_threads 2 (Flushes 1 64) (Flushes 0 64) (subst P number covered.is_flush) (clwb 0 0x1000, refl, refl) in
    cc

-- The fence of thread 1 persists the store, and thread 0 adds nothing.
pub flushed_by_two_threads_says : FlushedByTwoThreads
flushed_by_two_threads_says = record {
  flushed = (refl, refl);
  fenced = (refl, refl);
  fenced_again = (refl, refl);
  not_covered = not_covered_by_other;
  not_redundant = unredundant_flush flushed_by_two_threads 1 64 3 (clwb 1 0x1000, refl, refl) (λ above. omega arith);
  kept = keeps flushed_by_two_threads (1 ∷ 3 ∷ 4 ∷ []) refl;
}

-- Two rounds without the first one's flush and fence.
abbrev second_round : List ℕ
second_round = 1 ∷ 4 ∷ 5 ∷ 6 ∷ []

-- In the end the first round's flush and fence have raised no front by themselves.
same_fronts : (l : ℕ) → front_at two_rounds l 6 ≡ front_at (cut two_rounds second_round) l 4
same_fronts l = go (cases_eq 64 l)
  where
    go : (64 ≡ l) ⊎ (64 ≡ l → ⊥) → front_at two_rounds l 6 ≡ front_at (cut two_rounds second_round) l 4
    go (inl same) = let P : ℕ → Type 0 = λ k. front_at two_rounds k 6 ≡ front_at (cut two_rounds second_round) k 4 in subst P same refl
    go (inr apart) = rw (ne_eqb 64 l apart) refl

-- Without them nothing need be persisted after event 3.
first_round_lost : ((v : ℕ → ℕ) → VectorsAt two_rounds 3 v ↔ VectorsAt (cut two_rounds second_round) 1 v) → ⊥
first_round_lost same =
    let nothing : ℕ → ℕ = λ l. 0 in
    let after = (vectors_are_a_box (history (cut two_rounds second_round) 1) nothing).1 (λ l. (omega arith, omega arith)) in
    let least : 1 ≤ 0 = ((vectors_are_a_box (history two_rounds 3) nothing).0 ((same nothing).1 after) 64).0 in
    omega arith

-- Both rounds are kept.
pub two_rounds_says : TwoRounds
two_rounds_says = record {
  first_round = (refl, refl);
  second_store = (refl, refl);
  second_round = (refl, refl);
  kept = keeps two_rounds (1 ∷ 2 ∷ 3 ∷ 4 ∷ 5 ∷ 6 ∷ []) refl;
  shorter = selection-is_selection two_rounds second_round refl;
  same_at_the_end = fronts_decide vectors_are_a_box two_rounds second_round 6 (selection-is_selection two_rounds second_round refl) same_fronts;
  not_between = λ faithful. first_round_lost faithful.vectors;
}

-- After the second store comes a fence alone.
fence_alone : (l : ℕ) → IsFlushedAfter store_after_flush l 3 → ⊥
fence_alone l is = grind (arith, nat_tests, act-within, act-unique)

-- The line is flushed between its two stores.
flushed_between : IsFinding store_after_flush (Overwritten 1 3) → ⊥
flushed_between o =
    let first : Written = record { addr = 0x1000; bytes = 1 ∷ [] } in
    let e : Stores o.line o.earlier ≡ Stores 64 first = act-unique store_after_flush 1 (Stores o.line o.earlier) (Stores 64 first) o.is_earlier (store 0 0x1000 1, refl, refl) in
    let line : o.line ≡ 64 = cc in
    let P : ℕ → Type 0 = λ l. (k : ℕ) → 1 < k → k < 3 → IsFlushOf store_after_flush l k → ⊥ in
    subst P line o.unflushed 2 (lit< tt) (lit< tt) (ByFlush 0 (clwb 0 0x1000, refl, refl))

-- The store after the flush stays pending.
pub store_after_flush_says : StoreAfterFlush
store_after_flush_says = record {
  fenced = (refl, refl);
  last = refl;
  pending = (
    64,
    (never_persisted_by_fronts store_after_flush 64 3 (record { addr = 0x1000; bytes = 2 ∷ [] }) (store 0 0x1000 2, refl, refl)).1 (lit< tt),
    (λ none. absurd (false≢true none), λ flushed. absurd (fence_alone 64 flushed)),
  );
  not_overwritten = flushed_between;
  kept = keeps store_after_flush (1 ∷ 2 ∷ 3 ∷ 4 ∷ []) refl;
}

-- The first store is covered by the front when the second one comes.
pub ordered_by_fence_says : OrderedByFence
ordered_by_fence_says = record {
  fenced = (refl, refl);
  last_of_first = refl;
  last_of_second = refl;
  passes = no_later-passes (history ordered_by_fence 5) 0x1000 0x1040 (inr (lit≤ tt));
  kept = keeps ordered_by_fence (1 ∷ 2 ∷ 3 ∷ 4 ∷ 5 ∷ []) refl;
}

-- Before the fence nothing orders the stores to the two lines.
pub ordered_fence_too_late_says : OrderedFenceTooLate
ordered_fence_too_late_says = record {
  second_store = (refl, refl);
  fenced = (refl, refl);
  fails = λ passes. go (passes-no_later (history ordered_fence_too_late 5) 0x1000 0x1040 passes);
  kept = keeps ordered_fence_too_late (1 ∷ 2 ∷ 3 ∷ 4 ∷ 5 ∷ []) refl;
}
  where
    go : (◌≡◌ {A = ℕ} 64 65 × (1 ≤ 1)) ⊎ (1 ≤ 0) → ⊥
    go (inl same) = omega (arith, same.0)
    go (inr above) = omega arith

-- The same byte twice without the second flush and fence.
abbrev first_fence_alone : List ℕ
first_fence_alone = 1 ∷ 2 ∷ 3 ∷ 4 ∷ 7 ∷ []

-- Memory in which the byte was written.
abbrev byte_written : Image
byte_written = write (record { addr = 0x1000; bytes = 7 ∷ [] }) (λ a. None)

-- A choice between two stores of the byte and one, where there is one.
once_or_twice : (two one here : Bool) (byte : Option ℕ) → one ≡ true →
    (if two then (if here then byte else (if one then (if here then byte else None) else None)) else (if one then (if here then byte else None) else None))
    ≡ (if here then byte else None)
once_or_twice two false here byte e = cc
once_or_twice true true true byte e = refl
once_or_twice true true false byte e = refl
once_or_twice false true here byte e = refl

-- With a store of the byte persisted memory holds the byte.
holds_byte : (persisted : ℕ → ℕ) (a : ℕ) → 1 ≤ persisted 64 →
    (image_of persisted (history same_byte_twice 7) a ≡ byte_written a) × (image_of persisted (history (cut same_byte_twice first_fence_alone) 5) a ≡ byte_written a)
holds_byte persisted a le = grind (arith, nat_tests, once_or_twice, lt-ltb)

-- Where each run ends with one of these stores persisted, memory holds the byte.
leaves_byte : (h : List Act) (image : Image) → 1 ≤ front 64 h → ((persisted : ℕ → ℕ) (a : ℕ) → 1 ≤ persisted 64 → image_of persisted h a ≡ byte_written a) →
    Crash h image ↔ ((a : ℕ) → byte_written a ≡ image a)
leaves_byte h image le holds = (there, back)
  where
    held : (s : State) → Ends h s → (a : ℕ) → image_of s.persisted s.history a ≡ byte_written a
    held s ends a =
        let some = front-le-persisted h s ends 64 in
        ap (λ (g : List Act). image_of s.persisted g a) ends.1 ∙ holds s.persisted a (omega (arith, some))

    there : Crash h image → (a : ℕ) → byte_written a ≡ image a
    there (s, ends, left) a = sym (held s ends a) ∙ left a

    back : ((a : ℕ) → byte_written a ≡ image a) → Crash h image
    back same = let e = least_end h in (e.0, e.1, λ a. held e.0 e.1 a ∙ same a)

-- The two leave the same images.
leave_same : (image : Image) → CrashAt same_byte_twice 7 image ↔ CrashAt (cut same_byte_twice first_fence_alone) 5 image
leave_same image =
    let whole = leaves_byte (history same_byte_twice 7) image (lit≤ tt) (λ persisted a le. (holds_byte persisted a le).0) in
    let short = leaves_byte (history (cut same_byte_twice first_fence_alone) 5) image (lit≤ tt) (λ persisted a le. (holds_byte persisted a le).1) in
    (λ crash. short.1 (whole.0 crash), λ crash. whole.1 (short.0 crash))

-- Without the second flush and fence the second store need not be persisted.
second_store_lost : ((v : ℕ → ℕ) → VectorsAt same_byte_twice 7 v ↔ VectorsAt (cut same_byte_twice first_fence_alone) 5 v) → ⊥
second_store_lost same =
    let h = history (cut same_byte_twice first_fence_alone) 5 in
    let fewest : ℕ → ℕ = λ l. front l h in
    let after = (vectors_are_a_box h fewest).1 (λ l. (omega arith, front-le-count l h)) in
    let least : 2 ≤ 1 = ((vectors_are_a_box (history same_byte_twice 7) fewest).0 ((same fewest).1 after) 64).0 in
    omega arith

-- Both stores of the same byte are persisted in turn.
pub same_byte_twice_says : SameByteTwice
same_byte_twice_says = record {
  first_fence = (refl, refl);
  second_fence = (refl, refl);
  last = refl;
  passes = covered-passes (history same_byte_twice 7) 0x1000 (lit≤ tt);
  kept = keeps same_byte_twice (1 ∷ 2 ∷ 3 ∷ 4 ∷ 5 ∷ 6 ∷ 7 ∷ []) refl;
  shorter = selection-is_selection same_byte_twice first_fence_alone refl;
  same_images = leave_same;
  other_counts = λ faithful. second_store_lost faithful.vectors;
}

-- The clflush alone raises the front.
pub clflush_beats_clwb_says : ClflushBeatsClwb
clflush_beats_clwb_says = record {
  flushed = (refl, refl);
  flushed_now = (refl, refl);
  fenced = (refl, refl);
  not_redundant = unredundant_clflush clflush_beats_clwb 64 3 (clflush 1 0x1000, refl, refl) (λ above. omega arith);
  kept = keeps clflush_beats_clwb (1 ∷ 3 ∷ []) refl;
}
