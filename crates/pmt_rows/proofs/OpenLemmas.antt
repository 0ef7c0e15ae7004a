-- The lists of open flushes: reading one and writing one.
use Rattle.std.proofs.Common.{◌≡◌, ◌≢◌, ℕ, suc, ◌<◌, ◌⊎◌, inl, inr, Bool, true, false, List, [], ◌∷◌, ◌++◌, ◌-◌, length, take, get_or, set, map, refl, sym, ap, subst, ◌∙◌, arith}
use Rattle.std.specs.Prelude.{◌==◌, if◌then◌else◌, All}
use Rattle.std.proofs.lemmas.Bool.{cases_eq, eq-eqb, ne_eqb}
use Rattle.std.proofs.lemmas.List.{get_or-map, get_or-set_same, get_or-set_other, get_or_append_left, length-append, length-map, map-append, map-set, take-map}
use Rattle.std.proofs.lemmas.List.Elements.{All-push, All-take}
use Rattle.std.proofs.Math.Seq.{take-append_seam}
use Rattle.pmt_laws.specs.Prelude.{Act, Stores, Flushes, Clflushes, Fences, Asserts, has_line}
use Rattle.pmt_rows.specs.declared.open.OpenFlush.{OpenFlush}
use Rattle.pmt_rows.specs.Waiting.{Waiting, waiting_by, list_at, waits, AreWaitingBy, LacksLast, WaitsOn}

-- a list that is written anew
pub set-own : {X Y : Type 0} (f : X → List Y) (xs : List X) (t : ℕ) (x : X) → t < length xs → get_or (map f (set xs t x)) t [] ≡ f x
set-own f xs t x h = ap (λ ys. get_or ys t []) (map-set f xs t x) ∙ get_or-set_same (map f xs) t (f x) [] (omega (arith, length-map xs f))

pub set-others : {X Y : Type 0} (f : X → List Y) (xs : List X) (t u : ℕ) (x : X) → u ≢ t → get_or (map f (set xs t x)) u [] ≡ get_or (map f xs) u []
set-others f xs t u x other = ap (λ ys. get_or ys u []) (map-set f xs t x) ∙ get_or-set_other (map f xs) t u (f x) [] other

-- a list that is read
pub read-own : {X Y : Type 0} (f : X → List Y) (xs : List X) (t : ℕ) (x : X) → t < length xs → x ≡ get_or xs t x → f x ≡ get_or (map f xs) t []
read-own f xs t x h read = ap f read ∙ sym (get_or-map f xs t x [] h)

-- one line more changes no flush
pub waits-more : (lines more : List ℕ) (flushes : List OpenFlush) → All (λ f. f.slot < length lines) flushes → map (waits (lines ++ more)) flushes ≡ map (waits lines) flushes
waits-more lines more [] within = refl
waits-more lines more (f ∷ flushes) within =
    let here : get_or (lines ++ more) f.slot 0 ≡ get_or lines f.slot 0 = get_or_append_left lines more 0 f.slot (within 0 f (omega arith)) in
    let rest = waits-more lines more flushes (λ k d h. within (suc k) d (omega arith)) in
    rw (here, rest) refl

pub within-more : (lines more : List ℕ) (flushes : List OpenFlush) → All (λ f. f.slot < length lines) flushes → All (λ f. f.slot < length (lines ++ more)) flushes
within-more lines more flushes within = λ k d h. omega (arith, within k d h, length-append lines more)

-- the lists of open flushes after a flush
pub lists-flush : (last : ℕ → List Act → ℕ) (lines : List ℕ) (t : ℕ) (l : ℕ) (h : List Act) (old new : List (List OpenFlush)) (f : OpenFlush) → get_or lines f.slot 0 ≡ l → f.number ≡ suc (length h) → f.store ≡ last l h →
    list_at t new ≡ list_at t old ++ f ∷ [] → ((u : ℕ) → u ≢ t → list_at u new ≡ list_at u old) → (u : ℕ) → map (waits lines) (list_at u old) ≡ waiting_by last u h →
    map (waits lines) (list_at u new) ≡ waiting_by last u (Flushes t l ∷ h)
lists-flush last lines t l h old new f line number stores own others u is = go (cases_eq t u)
  where
    one : Waiting
    one = record { number = suc (length h); line = l; store = last l h }

    go : (t ≡ u) ⊎ (t ≡ u → ⊥) → map (waits lines) (list_at u new) ≡ (if t == u then waiting_by last u h ++ one ∷ [] else waiting_by last u h)
    go (inl same) =
        let e = eq-eqb t u same in
        let here : list_at u new ≡ list_at u old ++ f ∷ [] = subst (λ v. list_at v new ≡ list_at v old ++ f ∷ []) same own in
        let newest : waits lines f ≡ one = cc (line, number, stores) in
        rw e (ap (map (waits lines)) here ∙ map-append (waits lines) (list_at u old) (f ∷ []) ∙ rw (is, newest) refl)
    go (inr other) = let e = ne_eqb t u other in rw e (ap (map (waits lines)) (others u (λ same. other (sym same))) ∙ is)

-- and after a fence
pub lists-fence : (last : ℕ → List Act → ℕ) (lines : List ℕ) (t : ℕ) (h : List Act) (old new : List (List OpenFlush)) → list_at t new ≡ [] → ((u : ℕ) → u ≢ t → list_at u new ≡ list_at u old) →
    (u : ℕ) → map (waits lines) (list_at u old) ≡ waiting_by last u h → map (waits lines) (list_at u new) ≡ waiting_by last u (Fences t ∷ h)
lists-fence last lines t h old new own others u is = go (cases_eq t u)
  where
    go : (t ≡ u) ⊎ (t ≡ u → ⊥) → map (waits lines) (list_at u new) ≡ (if t == u then [] else waiting_by last u h)
    go (inl same) = let e = eq-eqb t u same in rw e (ap (map (waits lines)) (subst (λ v. list_at v new ≡ []) same own))
    go (inr other) = let e = ne_eqb t u other in rw e (ap (map (waits lines)) (others u (λ same. other (sym same))) ∙ is)

-- what holds of each open flush holds after a flush
pub each-flush : (P : OpenFlush → Type 0) (t : ℕ) (old new : List (List OpenFlush)) (f : OpenFlush) → P f → list_at t new ≡ list_at t old ++ f ∷ [] →
    ((u : ℕ) → u ≢ t → list_at u new ≡ list_at u old) → (u : ℕ) → All P (list_at u old) → All P (list_at u new)
each-flush P t old new f here own others u each = go (cases_eq t u)
  where
    go : (t ≡ u) ⊎ (t ≡ u → ⊥) → All P (list_at u new)
    go (inl same) = subst (All P) (sym (subst (λ v. list_at v new ≡ list_at v old ++ f ∷ []) same own)) (All-push P (list_at u old) f each here)
    go (inr other) = subst (All P) (sym (others u (λ same. other (sym same)))) each

-- and after a fence
pub each-fence : (P : OpenFlush → Type 0) (t : ℕ) (old new : List (List OpenFlush)) → list_at t new ≡ [] → ((u : ℕ) → u ≢ t → list_at u new ≡ list_at u old) →
    (u : ℕ) → All P (list_at u old) → All P (list_at u new)
each-fence P t old new own others u each = go (cases_eq t u)
  where
    go : (t ≡ u) ⊎ (t ≡ u → ⊥) → All P (list_at u new)
    go (inl same) = subst (All P) (sym (subst (λ v. list_at v new ≡ []) same own)) (λ k d h. absurd (omega arith))
    go (inr other) = subst (All P) (sym (others u (λ same. other (sym same)))) each

-- and where the last flush is taken back
pub lists-back : (last : ℕ → List Act → ℕ) (lines : List ℕ) (t l : ℕ) (h : List Act) (old new : List (List OpenFlush)) → LacksLast t old new → (u : ℕ) → map (waits lines) (list_at u old) ≡ waiting_by last u (Flushes t l ∷ h) →
    map (waits lines) (list_at u new) ≡ waiting_by last u h
lists-back last lines t l h old new lacks u = go (cases_eq t u)
  where
    one : Waiting
    one = record { number = suc (length h); line = l; store = last l h }

    go : (t ≡ u) ⊎ (t ≡ u → ⊥) → map (waits lines) (list_at u old) ≡ (if t == u then waiting_by last u h ++ one ∷ [] else waiting_by last u h) → map (waits lines) (list_at u new) ≡ waiting_by last u h
    go (inl same) is =
        let here : list_at u new ≡ take (length (list_at u old) - 1) (list_at u old) = subst (λ v. list_at v new ≡ take (length (list_at v old) - 1) (list_at v old)) same lacks.own in
        let flushes : map (waits lines) (list_at u old) ≡ waiting_by last u h ++ one ∷ [] = rw (eq-eqb t u same) at is in
        let size : length (list_at u old) - 1 ≡ length (waiting_by last u h) = omega (arith, length-map (list_at u old) (waits lines), ap length flushes, length-append (waiting_by last u h) (one ∷ [])) in
        ap (map (waits lines)) here ∙ sym (take-map (waits lines) (length (list_at u old) - 1) (list_at u old)) ∙ ap (take (length (list_at u old) - 1)) flushes
        ∙ ap (λ n. take n (waiting_by last u h ++ one ∷ [])) size ∙ take-append_seam (waiting_by last u h) (one ∷ [])
    go (inr other) is = ap (map (waits lines)) (lacks.others u (λ same. other (sym same))) ∙ (rw (ne_eqb t u other) at is)

pub each-back : (P : OpenFlush → Type 0) (t : ℕ) (old new : List (List OpenFlush)) → LacksLast t old new → (u : ℕ) → All P (list_at u old) → All P (list_at u new)
each-back P t old new lacks u each = go (cases_eq t u)
  where
    go : (t ≡ u) ⊎ (t ≡ u → ⊥) → All P (list_at u new)
    go (inl same) =
        subst (All P) (sym (subst (λ v. list_at v new ≡ take (length (list_at v old) - 1) (list_at v old)) same lacks.own)) (All-take P (length (list_at u old) - 1) (list_at u old) each)
    go (inr other) = subst (All P) (sym (lacks.others u (λ same. other (sym same)))) each

-- a list that is written as it was
pub set-same_list : {X Y : Type 0} (f : X → List Y) (xs : List X) (t u : ℕ) (x y : X) → t < length xs → x ≡ get_or xs t x → f y ≡ f x → get_or (map f (set xs t y)) u [] ≡ get_or (map f xs) u []
set-same_list f xs t u x y within read same = elim (cases_eq u t) [
  | inl e ↦ subst (λ v. get_or (map f (set xs t y)) v [] ≡ get_or (map f xs) v []) (sym e) (set-own f xs t y within ∙ same ∙ read-own f xs t x within read)
  | inr other ↦ set-others f xs t u y other
]

line-more : (last : ℕ → List Act → ℕ) (l : ℕ) (lines : List ℕ) (h : List Act) (lists : List (List OpenFlush)) (b : Bool) → AreWaitingBy last lines h lists → AreWaitingBy last (if b then lines else lines ++ l ∷ []) h lists
line-more last l lines h lists true is = is
line-more last l lines h lists false is = record {
  each = λ t. waits-more lines (l ∷ []) (list_at t lists) (is.within t) ∙ is.each t;
  within = λ t. within-more lines (l ∷ []) (list_at t lists) (is.within t);
}

other-act : (last : ℕ → List Act → ℕ) (lines : List ℕ) (h : List Act) (lists : List (List OpenFlush)) (a : Act) → ((t l : ℕ) → a ≡ Flushes t l → ⊥) → ((t : ℕ) → a ≡ Fences t → ⊥) → AreWaitingBy last lines h lists → AreWaitingBy last lines (a ∷ h) lists
other-act last lines h lists (Stores l w) flush fence is = record { each = is.each; within = is.within }
other-act last lines h lists (Flushes t l) flush fence is = absurd (flush t l refl)
other-act last lines h lists (Clflushes l) flush fence is = record { each = is.each; within = is.within }
other-act last lines h lists (Fences t) flush fence is = absurd (fence t refl)
other-act last lines h lists Asserts flush fence is = record { each = is.each; within = is.within }

pub waits-on : (last : ℕ → List Act → ℕ) → WaitsOn last
waits-on last = record {
  none = λ lines. record { each = λ t. refl; within = λ t k d h. absurd (omega arith) };
  line = λ l lines h lists is. line-more last l lines h lists (has_line l lines) is;
  flush = λ lines t l h f old new slot line number store own others is. record {
    each = λ u. lists-flush last lines t l h old new f line number store own others u (is.each u);
    within = λ u. each-flush (λ (g : OpenFlush). g.slot < length lines) t old new f slot own others u (is.within u);
  };
  back = λ lines t l h old new lacks is. record {
    each = λ u. lists-back last lines t l h old new lacks u (is.each u);
    within = λ u. each-back (λ (g : OpenFlush). g.slot < length lines) t old new lacks u (is.within u);
  };
  fence = λ lines t h old new own others is. record {
    each = λ u. lists-fence last lines t h old new own others u (is.each u);
    within = λ u. each-fence (λ (g : OpenFlush). g.slot < length lines) t old new own others u (is.within u);
  };
  others = other-act last;
}
