-- Tapes that are their parts of a book make it an interleaving.
use Rattle.std.proofs.Common.{◌≡◌, ℕ, zero, suc, ◌+◌, ◌<◌, ◌≤◌, ◌⊎◌, inl, inr, List, [], ◌∷◌, ◌++◌, length, Some, slice_get, take, drop, refl, sym, ap, subst, subst₂, ◌∙◌, arith}
use Rattle.std.specs.List.{AllByRecursion}
use Rattle.std.proofs.lemmas.List.{length-append, take_at}
use Rattle.pmt_model.specs.declared.event.Event.{Event}
use Rattle.pmt_model.specs.Values.{Layout}
use Rattle.pmt_model.specs.Traces.{Recording}
use Rattle.pmt_model.specs.Selections.{part}
use Rattle.pmt_recorder.specs.Strips.{Strip, IsOneOfEach, entries_of, by_thread, total_length, IsSealed, SealFails, IsHandedBack}
use Rattle.pmt_recorder.specs.Shelving.{IsShelved}
use Rattle.pmt_recorder.specs.declared.fault.SealKind.TheVariants.{Torn}

-- there are n of them
pub length-by_thread : (n : ℕ) (strips : List Strip) → length (by_thread n strips) ≡ n
length-by_thread zero strips = refl
length-by_thread (suc n) strips = omega (arith, length-append (by_thread n strips) (entries_of n strips ∷ []), length-by_thread n strips)

-- what stands before the end of a list
slice_get-before : {X : Type 0} (xs ys : List X) (k : ℕ) → k < length xs → slice_get (xs ++ ys) k ≡ slice_get xs k
slice_get-before [] ys k h = absurd (omega arith)
slice_get-before (x ∷ xs) ys zero h = refl
slice_get-before (x ∷ xs) ys (suc k) h = slice_get-before xs ys k (omega arith)

-- and what stands at its end
slice_get-last : {X : Type 0} (xs : List X) (x : X) (k : ℕ) → length xs ≡ k → slice_get (xs ++ x ∷ []) k ≡ Some x
slice_get-last [] x zero e = refl
slice_get-last [] x (suc k) e = absurd (omega arith)
slice_get-last (y ∷ xs) x zero e = absurd (omega arith)
slice_get-last (y ∷ xs) x (suc k) e = slice_get-last xs x k (omega arith)

-- a number below the next one is the last or before it
last_or_before : (t n : ℕ) → t < suc n → (t < n) ⊎ (n ≡ t)
last_or_before t n h = grind arith

-- tape t stands at place t
pub slice_get-by_thread : (n : ℕ) (strips : List Strip) (t : ℕ) → t < n → slice_get (by_thread n strips) t ≡ Some (entries_of t strips)
slice_get-by_thread zero strips t h = absurd (omega arith)
slice_get-by_thread (suc n) strips t h = go (last_or_before t n h) (slice_get-by_thread n strips t)
  where
    go :
        (t < n) ⊎ (n ≡ t) → (t < n → slice_get (by_thread n strips) t ≡ Some (entries_of t strips)) →
        slice_get (by_thread n strips ++ entries_of n strips ∷ []) t ≡ Some (entries_of t strips)
    go (inl less) before =
        let within : t < length (by_thread n strips) = omega (arith, length-by_thread n strips) in
        slice_get-before (by_thread n strips) (entries_of n strips ∷ []) t within ∙ before less
    go (inr same) before =
        slice_get-last (by_thread n strips) (entries_of n strips) t (length-by_thread n strips ∙ same) ∙ ap (λ (u : ℕ). Some (entries_of u strips)) same

-- a session whose tapes are all their parts is sealed
pub sealed :
    (n : ℕ) (f : Layout) (strips : List Strip) (T : Recording) → T.format ≡ f → IsOneOfEach n strips →
    AllByRecursion (λ (e : Event). e.thread < n) T.events → ((u : ℕ) → u < n → part u T.events ≡ entries_of u strips) → IsSealed n f strips T
sealed n f strips T e each whose parts = record {
  format = e;
  each = each;
  interleaving = record {
    whose = subst (λ (m : ℕ). AllByRecursion (λ (x : Event). x.thread < m) T.events) (sym (length-by_thread n strips)) whose;
    parts = λ t h.
        let within : t < n = omega (arith, length-by_thread n strips) in
        slice_get-by_thread n strips t within ∙ ap Some (sym (parts t within));
  };
}

-- the tapes are one of each number, when they come back too
pub each_after : (n m : ℕ) (strips before : List Strip) → m ≡ n → before ≡ strips → IsOneOfEach m before → IsOneOfEach n strips
each_after n m strips before e b each = subst₂ IsOneOfEach e b each

-- what was compared holds of the tapes as they were given
pub parts_after :
    (n : ℕ) (strips after : List Strip) (T : Recording) (es : List Event) → after ≡ strips → es ≡ T.events → length strips ≡ n →
    ((u : ℕ) → u < length after → part u es ≡ entries_of u after) → (u : ℕ) → u < n → part u T.events ≡ entries_of u strips
parts_after n strips after T es a e count parts u h =
    let within : u < length after = omega (arith, ap length a) in
    ap (part u) (sym e) ∙ parts u within ∙ ap (entries_of u) a

-- a list whose slice was written with what it had is the same
pub written_back : {X : Type 0} (xs ys ws : List X) (n : ℕ) → ws ≡ take n (ys ++ drop (length ys) xs) → ys ≡ xs → length xs ≡ n → ws ≡ xs
written_back xs ys ws n e same len =
    e ∙ take_at ys (drop (length ys) xs) n (ap length same ∙ len) ∙ same

-- the tape that was found is the lowest that is not its part
pub torn_at :
    (n : ℕ) (strips after : List Strip) (T : Recording) (es : List Event) (t : ℕ) → t < length after → IsOneOfEach n strips → after ≡ strips → es ≡ T.events →
    total_length strips ≡ length T.events → (part t es ≡ entries_of t after → ⊥) → ((u : ℕ) → u < t → part u es ≡ entries_of u after) →
    SealFails n strips (Torn t) T
torn_at n strips after T es t within each a e total torn lowest = (
  omega (arith, ap length a, within, each.count),
  each,
  total,
  λ is_part. torn (ap (part t) e ∙ is_part ∙ ap (entries_of t) (sym a)),
  λ u h. ap (part u) (sym e) ∙ lowest u h ∙ ap (entries_of u) a,
)

-- nor are they one of each number when they come back and were not
pub not_each : (n m : ℕ) (strips before : List Strip) → m ≡ n → before ≡ strips → (IsOneOfEach m before → ⊥) → IsOneOfEach n strips → ⊥
not_each n m strips before e b bad each = bad (subst₂ IsOneOfEach (sym e) (sym b) each)

-- the parts of the ledger are no fewer than the tapes
pub few_tapes : (parts n : ℕ) (strips after : List Strip) → after ≡ strips → length strips ≡ n → parts + n ≡ 256 → length after ≤ 256
few_tapes parts n strips after a count left =
    let len : length after ≡ n = ap length a ∙ count in
    omega (arith, len, left)

-- what the ledger tells of the tapes, it tells of the book
pub handed_back :
    (n total : ℕ) (f : Layout) (strips : List Strip) (book shown : Recording) → IsShelved n f total book → shown ≡ book → total_length strips ≤ total →
    (length strips ≡ n → total_length strips ≡ total) → IsHandedBack n f strips shown
handed_back n total f strips book shown shelved same most all = let P : Recording → Type 0 = λ (R : Recording). IsHandedBack n f strips R in subst P (sym same) (record {
  format = shelved.format;
  whose = shelved.whose;
  most = omega (arith, shelved.count, most);
  all = λ count. all count ∙ sym shelved.count;
})
