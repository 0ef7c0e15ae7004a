-- The crashes near what is safe, and near all that was stored.
use Rattle.pmt_image.proofs.Prelude.{◌≡◌, ℕ, suc, ◌+◌, ◌-◌, ◌<◌, ◌≤◌, ◌⊎◌, ◌==◌, inl, inr, Bool, true, false, List, [], ◌∷◌, ◌++◌, length, map, get_or, take, drop, refl, sym, ap, subst, ◌∙◌, append_assoc, arith, ltb-true, true≢false, if◌then◌else◌, ◌||◌, nat_lt, cases_eq, eq-eqb, ne_eqb, eqb-true, ltb-false, length-map, drop_more, take_more, flat_map_more, map-append, map_push, Recording, history, count_at, has_line, with_line, front_at, InBox, Any, AllByRecursion, filter, flat_map, vectors_are_a_box, front-le-count, LineCount, LineStores, with_counts, IsOffBy, IsNear, AreSame, AllDiffer, AreNear, left_by, set_to, low_of, grown, chosen, fronts_off}
use Rattle.pmt_image.proofs.ChoiceLemmas.{all-append, Has, has-left, has-right, without, without-shorter, without-others, lines_in, or-first, or-second, IsChoice, AreApart, AllApart, Leaves, AreChoices, IsSpan, choices-none, choices-more, other-line}

-- ---- The lines with a store that a crash can lose

-- none of the lines was looked at, or stands there twice
abbrev pub AreNew : List ℕ → List LineCount → Type 0
AreNew done [] = Unit {0}
AreNew done (x ∷ xs) = (has_line x.line done ≡ false) × AreNew (x.line ∷ done) xs

abbrev pub AreNewLines : List ℕ → List ℕ → Type 0
AreNewLines done [] = Unit {0}
AreNewLines done (k ∷ ks) = (has_line k done ≡ false) × AreNewLines (k ∷ done) ks

-- what was looked at after them
abbrev pub done_after : List ℕ → List LineCount → List ℕ
done_after done [] = done
done_after done (x ∷ xs) = done_after (x.line ∷ done) xs

pub or-both : (b c : Bool) → b ≡ false → c ≡ false → b || c ≡ false
or-both true c first second = first
or-both false c first second = second

pub or-true : (b c : Bool) → c ≡ true → b || c ≡ true
or-true true c h = refl
or-true false c h = h

new-push : (l : ℕ) (ks done : List ℕ) → AreNewLines done ks → has_line l done ≡ false → has_line l ks ≡ false → AreNewLines done (ks ++ l ∷ [])
new-push l [] done new absent none = (absent, tt)
new-push l (k ∷ ks) done new absent none =
    (new.0, new-push l ks (k ∷ done) new.1 (or-both (k == l) (has_line l done) (or-first (k == l) (has_line l ks) none) absent) (or-second (k == l) (has_line l ks) none))

pub new-with_line : (l : ℕ) (ks : List ℕ) → AreNewLines [] ks → AreNewLines [] (with_line l ks)
new-with_line l ks new = go (has_line l ks) refl
  where
    go : (b : Bool) → has_line l ks ≡ b → AreNewLines [] (if b then ks else ks ++ l ∷ [])
    go true has = new
    go false none = new-push l ks [] new refl none

-- what was looked at stays so
pub done-kept : (l : ℕ) (xs : List LineCount) (done : List ℕ) → has_line l done ≡ true → has_line l (done_after done xs) ≡ true
done-kept l [] done has = has
done-kept l (x ∷ xs) done has = done-kept l xs (x.line ∷ done) (or-true (x.line == l) (has_line l done) has)

-- the numbers of an open line are those of the place
pub record IsBound (T : Recording) (n : ℕ) (x : LineCount) : Type 0 where
  pub least : x.persisted ≡ front_at T x.line n
  pub greatest : x.stores ≡ count_at T x.line n

-- these are the open lines of the place, and maybe more
pub record AreOpen (T : Recording) (n : ℕ) (xs : List LineCount) : Type 0 where
  pub new : AreNew [] xs
  pub bounds : AllByRecursion (IsBound T n) xs
  pub closed : (l : ℕ) → has_line l (done_after [] xs) ≡ false → front_at T l n ≡ count_at T l n

-- ---- All choices

-- the fronts, or the counts
abbrev pub base_of : Recording → ℕ → Bool → ℕ → ℕ
base_of T n all l = if all then count_at T l n else front_at T l n

base-inside : (T : Recording) (n : ℕ) (all : Bool) (l : ℕ) → (front_at T l n ≤ base_of T n all l) × (base_of T n all l ≤ count_at T l n)
base-inside T n true l = (front-le-count l (history T n), omega arith)
base-inside T n false l = (omega arith, front-le-count l (history T n))

span-of : (T : Recording) (n : ℕ) (all : Bool) (x : LineCount) → IsBound T n x → IsSpan (λ l. front_at T l n) (λ l. count_at T l n) (λ l. base_of T n all l) x.line (low_of all x) (x.stores - x.persisted)
span-of T n true x bound = record {
  inside = λ s from to. (let a = bound.least in omega arith, let a = bound.least in let b = bound.greatest in omega arith);
  off = λ from to. let a = bound.least in let b = bound.greatest in omega arith;
  all = λ s from to other. (let a = bound.least in omega arith, let a = bound.least in let b = bound.greatest in omega arith);
}
span-of T n false x bound = record {
  inside = λ s from to. (let a = bound.least in omega arith, let a = bound.least in let b = bound.greatest in omega arith);
  off = λ from to. let a = bound.least in omega arith;
  all = λ s from to other. (let a = bound.least in omega arith, let a = bound.least in let b = bound.greatest in omega arith);
}

-- the choices at a place for these lines
abbrev pub ChoicesAt : Recording → ℕ → Bool → ℕ → List ℕ → List (List LineStores) → Type 0
ChoicesAt T n all most done choices = AreChoices (λ l. front_at T l n) (λ l. count_at T l n) (λ l. base_of T n all l) most done choices

chosen-more : (T : Recording) (n : ℕ) (all : Bool) (most : ℕ) (xs : List LineCount) (done : List ℕ) (choices : List (List LineStores)) → AreNew done xs → AllByRecursion (IsBound T n) xs → ChoicesAt T n all most done choices →
    ChoicesAt T n all most (done_after done xs) (chosen all most xs choices)
chosen-more T n all most [] done choices new bounds x = x
chosen-more T n all most (y ∷ ys) done choices new bounds x =
    chosen-more T n all most ys (y.line ∷ done) (grown all most y choices) new.1 bounds.1
    (choices-more (λ l. front_at T l n) (λ l. count_at T l n) (λ l. base_of T n all l) most y.line (low_of all y) (y.stores - y.persisted) done choices new.0 (span-of T n all y bounds.0) (base-inside T n all) x)

pub chosen-all : (T : Recording) (n : ℕ) (xs : List LineCount) → AreOpen T n xs → (all : Bool) (most : ℕ) → ChoicesAt T n all most (done_after [] xs) (chosen all most xs ([] ∷ []))
chosen-all T n xs o all most = chosen-more T n all most xs [] ([] ∷ []) o.new o.bounds (choices-none (λ l. front_at T l n) (λ l. count_at T l n) (λ l. base_of T n all l) most (base-inside T n all))

-- ---- Choices off the counts that are choices off the fronts too

-- what a choice says of a line rests on the number of that line alone
pub counts-own : (choice : List LineStores) (v w : ℕ → ℕ) (l : ℕ) → v l ≡ w l → with_counts choice v l ≡ with_counts choice w l
counts-own [] v w l same = same
counts-own (x ∷ xs) v w l same = counts-own xs (λ k. if x.line == k then x.stores else v k) (λ k. if x.line == k then x.stores else w k) l (ap (λ (s : ℕ). if x.line == l then x.stores else s) same)

-- the number that the choice gives an open line
told : (T : Recording) (n : ℕ) (x : LineCount) (choice : List LineStores) → IsBound T n x → with_counts choice (λ _. x.stores) x.line ≡ with_counts choice (λ l. base_of T n true l) x.line
told T n x choice bound = counts-own choice (λ _. x.stores) (λ l. base_of T n true l) x.line bound.greatest

-- the lines that are off their fronts
abbrev pub off_lines : List LineCount → List LineStores → List ℕ
off_lines [] choice = []
off_lines (x ∷ xs) choice = if with_counts choice (λ _. x.stores) x.line == x.persisted then off_lines xs choice else x.line ∷ off_lines xs choice

off_lines-length : (xs : List LineCount) (choice : List LineStores) → length (off_lines xs choice) ≡ fronts_off xs choice
off_lines-length [] choice = refl
off_lines-length (x ∷ xs) choice = go (with_counts choice (λ _. x.stores) x.line == x.persisted) (off_lines-length xs choice)
  where
    go : (b : Bool) → length (off_lines xs choice) ≡ fronts_off xs choice → length (if b then off_lines xs choice else x.line ∷ off_lines xs choice) ≡ (if b then fronts_off xs choice else suc (fronts_off xs choice))
    go true rest = rest
    go false rest = ap (λ (m : ℕ). suc m) rest

-- the others of these are not
off_lines-others : (T : Recording) (n l : ℕ) (xs : List LineCount) (done : List ℕ) (choice : List LineStores) → AllByRecursion (IsBound T n) xs → has_line l (off_lines xs choice) ≡ false →
    has_line l done ≡ false → has_line l (done_after done xs) ≡ true → with_counts choice (λ k. base_of T n true k) l ≡ front_at T l n
off_lines-others T n l [] done choice bounds none out has = absurd (true≢false (sym has ∙ out))
off_lines-others T n l (x ∷ xs) done choice bounds none out has =
    go (with_counts choice (λ _. x.stores) x.line == x.persisted) refl none (cases_eq x.line l) (off_lines-others T n l xs (x.line ∷ done) choice bounds.1)
  where
    go : (b : Bool) → with_counts choice (λ _. x.stores) x.line == x.persisted ≡ b → has_line l (if b then off_lines xs choice else x.line ∷ off_lines xs choice) ≡ false → (x.line ≡ l) ⊎ (x.line ≡ l → ⊥) →
        (has_line l (off_lines xs choice) ≡ false → has_line l (x.line ∷ done) ≡ false → has_line l (done_after (x.line ∷ done) xs) ≡ true → with_counts choice (λ k. base_of T n true k) l ≡ front_at T l n) →
        with_counts choice (λ k. base_of T n true k) l ≡ front_at T l n
    go true is rest (inl same) later =
        let P : ℕ → Type 0 = λ k. with_counts choice (λ j. base_of T n true j) k ≡ front_at T k n in
        subst P same (sym (told T n x choice bounds.0) ∙ eqb-true (with_counts choice (λ _. x.stores) x.line) x.persisted is ∙ bounds.0.least)
    go false is rest (inl same) later = absurd (true≢false (sym (eq-eqb x.line l same) ∙ or-first (x.line == l) (has_line l (off_lines xs choice)) rest))
    go true is rest (inr other) later = later rest (or-both (x.line == l) (has_line l done) (ne_eqb x.line l other) out) has
    go false is rest (inr other) later = later (or-second (x.line == l) (has_line l (off_lines xs choice)) rest) (or-both (x.line == l) (has_line l done) (ne_eqb x.line l other) out) has

-- few of the lines are off
pub off-few : (T : Recording) (n : ℕ) (xs : List LineCount) → AreOpen T n xs → (most : ℕ) (choice : List LineStores) → IsChoice (λ l. front_at T l n) (λ l. count_at T l n) (λ l. base_of T n true l) most (done_after [] xs) choice →
    nat_lt most (fronts_off xs choice) ≡ false → IsOffBy most (λ l. front_at T l n) (λ l. with_counts choice (λ k. base_of T n true k) l)
off-few T n xs o most choice x few = record {
  lines = off_lines xs choice;
  few = let size = off_lines-length xs choice in let small = ltb-false most (fronts_off xs choice) few in omega arith;
  others = λ l none. go l none (has_line l (done_after [] xs)) refl;
}
  where
    go : (l : ℕ) → has_line l (off_lines xs choice) ≡ false → (b : Bool) → has_line l (done_after [] xs) ≡ b → with_counts choice (λ k. base_of T n true k) l ≡ front_at T l n
    go l none true has = off_lines-others T n l xs [] choice o.bounds none refl has
    go l none false out =
        let same : front_at T l n ≡ count_at T l n = o.closed l out in
        let low = (x.within l).0 in
        let high = (x.within l).1 in
        omega arith

-- lines that are off stand among those that are told
off-told : (T : Recording) (n : ℕ) (choice : List LineStores) (xs : List LineCount) (done lines : List ℕ) → AreNew done xs → AllByRecursion (IsBound T n) xs →
    ((l : ℕ) → has_line l done ≡ false → (with_counts choice (λ k. base_of T n true k) l ≡ front_at T l n → ⊥) → has_line l lines ≡ true) → fronts_off xs choice ≤ length lines
off-told T n choice [] done lines new bounds covers = omega arith
off-told T n choice (x ∷ xs) done lines new bounds covers =
    go (with_counts choice (λ _. x.stores) x.line == x.persisted) refl (λ those. off-told T n choice xs (x.line ∷ done) those new.1 bounds.1)
  where
    go : (b : Bool) → with_counts choice (λ _. x.stores) x.line == x.persisted ≡ b →
        ((those : List ℕ) → ((l : ℕ) → has_line l (x.line ∷ done) ≡ false → (with_counts choice (λ k. base_of T n true k) l ≡ front_at T l n → ⊥) → has_line l those ≡ true) → fronts_off xs choice ≤ length those) → (if b then fronts_off xs choice else suc (fronts_off xs choice)) ≤ length lines
    go true is later = later lines (λ l out off. covers l (or-second (x.line == l) (has_line l done) out) off)
    go false is later =
        let differs : with_counts choice (λ k. base_of T n true k) x.line ≡ front_at T x.line n → ⊥ = λ same.
        other-line (with_counts choice (λ _. x.stores) x.line) x.persisted is (told T n x choice bounds.0 ∙ same ∙ sym bounds.0.least) in
        let short = without-shorter x.line lines (covers x.line new.0 differs) in
        let rest = later (without x.line lines)
        (λ l out off. without-others x.line l lines (other-line x.line l (or-first (x.line == l) (has_line l done) out)) ∙ covers l (or-second (x.line == l) (has_line l done) out) off) in
        omega arith

pub off-more : (T : Recording) (n : ℕ) (xs : List LineCount) → AreOpen T n xs → (most : ℕ) (choice : List LineStores) → nat_lt most (fronts_off xs choice) ≡ true → IsOffBy most (λ l. front_at T l n) (λ l. with_counts choice (λ k. base_of T n true k) l) → ⊥
off-more T n xs o most choice more x =
    let few = x.few in
    let many = ltb-true most (fronts_off xs choice) more in
    let bound = off-told T n choice xs [] x.lines o.new o.bounds (λ l _ off. go l off (has_line l x.lines) refl) in
    omega arith
  where
    go : (l : ℕ) → (with_counts choice (λ k. base_of T n true k) l ≡ front_at T l n → ⊥) → (b : Bool) → has_line l x.lines ≡ b → has_line l x.lines ≡ true
    go l off true has = has
    go l off false none = absurd (off (x.others l none))

-- ---- The crashes of both

-- what a choice leaves
abbrev pub numbers : Recording → ℕ → Bool → List LineStores → ℕ → ℕ
numbers T n all choice l = with_counts choice (λ k. if all then count_at T k n else front_at T k n) l

near-choice : (T : Recording) (n : ℕ) (xs : List LineCount) → AreOpen T n xs → (most : ℕ) (all : Bool) (choice : List LineStores) → IsChoice (λ l. front_at T l n) (λ l. count_at T l n) (λ l. base_of T n all l) most (done_after [] xs) choice → IsNear T n most (numbers T n all choice)
near-choice T n xs o most true choice x = record {
  may = (vectors_are_a_box (history T n) (numbers T n true choice)).1 x.within;
  near = inr (record { lines = lines_in choice; few = let size = length-map choice (λ (y : LineStores). y.line) in let few = x.few in omega arith; others = x.off });
}
near-choice T n xs o most false choice x = record {
  may = (vectors_are_a_box (history T n) (numbers T n false choice)).1 x.within;
  near = inl (record { lines = lines_in choice; few = let size = length-map choice (λ (y : LineStores). y.line) in let few = x.few in omega arith; others = x.off });
}

all-near : (T : Recording) (n : ℕ) (xs : List LineCount) → AreOpen T n xs → (most : ℕ) (all : Bool) (choices : List (List LineStores)) → AllByRecursion (IsChoice (λ l. front_at T l n) (λ l. count_at T l n) (λ l. base_of T n all l) most (done_after [] xs)) choices →
    AllByRecursion (IsNear T n most) (left_by T n all choices)
all-near T n xs o most all [] each = tt
all-near T n xs o most all (c ∷ cs) each = (near-choice T n xs o most all c each.0, all-near T n xs o most all cs each.1)

-- those that pass a test
abbrev pub farther : List LineCount → ℕ → List LineStores → Bool
farther xs most choice = nat_lt most (fronts_off xs choice)

all-kept : {X : Type 0} (P : X → Type 0) (test : X → Bool) (xs : List X) → AllByRecursion P xs → AllByRecursion P (filter test xs)
all-kept P test [] all = tt
all-kept P test (x ∷ xs) all = go (test x) (all-kept P test xs all.1)
  where
    go : (b : Bool) → AllByRecursion P (filter test xs) → AllByRecursion P (if b then x ∷ filter test xs else filter test xs)
    go true rest = (all.0, rest)
    go false rest = rest

all-pass : {X : Type 0} (test : X → Bool) (xs : List X) → AllByRecursion (λ x. test x ≡ true) (filter test xs)
all-pass test [] = tt
all-pass test (x ∷ xs) = go (test x) refl (all-pass test xs)
  where
    go : (b : Bool) → test x ≡ b → AllByRecursion (λ y. test y ≡ true) (filter test xs) → AllByRecursion (λ y. test y ≡ true) (if b then x ∷ filter test xs else filter test xs)
    go true is rest = (is, rest)
    go false is rest = rest

apart-kept : (base : ℕ → ℕ) (test : List LineStores → Bool) (cs : List (List LineStores)) → AllApart base cs → AllApart base (filter test cs)
apart-kept base test [] once = tt
apart-kept base test (c ∷ cs) once = go (test c) (apart-kept base test cs once.1)
  where
    go : (b : Bool) → AllApart base (filter test cs) → AllApart base (if b then c ∷ filter test cs else filter test cs)
    go true rest = (all-kept (AreApart base c) test cs once.0, rest)
    go false rest = rest

-- a choice that is farther off, and one off the fronts
far-apart : (T : Recording) (n : ℕ) (xs : List LineCount) → AreOpen T n xs → (most : ℕ) (c d : List LineStores) → IsChoice (λ l. front_at T l n) (λ l. count_at T l n) (λ l. base_of T n false l) most (done_after [] xs) c → farther xs most d ≡ true →
    ¬ AreSame (numbers T n false c) (numbers T n true d)
far-apart T n xs o most c d x far same =
    off-more T n xs o most d far (record { lines = lines_in c; few = let size = length-map c (λ (y : LineStores). y.line) in let few = x.few in omega arith; others = λ l none. sym (same l) ∙ x.off l none })

differ-ones : (T : Recording) (n : ℕ) (all : Bool) (c : List LineStores) (ds : List (List LineStores)) → AllByRecursion (AreApart (λ l. base_of T n all l) c) ds → AllByRecursion (λ w. ¬ AreSame (numbers T n all c) w) (left_by T n all ds)
differ-ones T n all c [] apart = tt
differ-ones T n all c (d ∷ ds) apart = (apart.0, differ-ones T n all c ds apart.1)

differ-far : (T : Recording) (n : ℕ) (xs : List LineCount) → AreOpen T n xs → (most : ℕ) (c : List LineStores) (ds : List (List LineStores)) → IsChoice (λ l. front_at T l n) (λ l. count_at T l n) (λ l. base_of T n false l) most (done_after [] xs) c →
    AllByRecursion (λ d. farther xs most d ≡ true) ds → AllByRecursion (λ w. ¬ AreSame (numbers T n false c) w) (left_by T n true ds)
differ-far T n xs o most c [] x far = tt
differ-far T n xs o most c (d ∷ ds) x far = (far-apart T n xs o most c d x far.0, differ-far T n xs o most c ds x far.1)

differ-all : (T : Recording) (n : ℕ) (all : Bool) (cs : List (List LineStores)) → AllApart (λ l. base_of T n all l) cs → AllDiffer (left_by T n all cs)
differ-all T n all [] once = tt
differ-all T n all (c ∷ cs) once = (differ-ones T n all c cs once.0, differ-all T n all cs once.1)

differ-both : (T : Recording) (n : ℕ) (xs : List LineCount) → AreOpen T n xs → (most : ℕ) (cs ds : List (List LineStores)) → AllByRecursion (IsChoice (λ l. front_at T l n) (λ l. count_at T l n) (λ l. base_of T n false l) most (done_after [] xs)) cs → AllApart (λ l. base_of T n false l) cs →
    AllByRecursion (λ d. farther xs most d ≡ true) ds → AllApart (λ l. base_of T n true l) ds → AllDiffer (left_by T n false cs ++ left_by T n true ds)
differ-both T n xs o most [] ds each once far later = differ-all T n true ds later
differ-both T n xs o most (c ∷ cs) ds each once far later = (
  all-append (λ w. ¬ AreSame (numbers T n false c) w) (left_by T n false cs) (left_by T n true ds) (differ-ones T n false c cs once.0) (differ-far T n xs o most c ds each.0 far),
  differ-both T n xs o most cs ds each.1 once.1 far later,
)

-- one of them leaves the numbers
has-left_by : (T : Recording) (n : ℕ) (all : Bool) (j : ℕ) (v : ℕ → ℕ) (cs : List (List LineStores)) → Has (Leaves (λ l. base_of T n all l) j v) cs → Has (λ w. AreSame w v) (left_by T n all cs)
has-left_by T n all j v [] h = absurd h
has-left_by T n all j v (c ∷ cs) (inl here) = inl here.1
has-left_by T n all j v (c ∷ cs) (inr later) = inr (has-left_by T n all j v cs later)

any-has : (P : (ℕ → ℕ) → Type 0) (vs : List (ℕ → ℕ)) → Has P vs → Any P vs
any-has P [] h = absurd h
any-has P (v ∷ vs) (inl here) = (0, v, omega arith, refl, here)
any-has P (v ∷ vs) (inr later) =
    let x = any-has P vs later in
    let within = x.2 in
    (suc x.0, x.1, omega arith, x.3, x.4)

-- a choice off the counts was kept, or it is few lines off the fronts
kept-or-near : (T : Recording) (n : ℕ) (xs : List LineCount) → AreOpen T n xs → (most j : ℕ) (v : ℕ → ℕ) (ds : List (List LineStores)) → AllByRecursion (IsChoice (λ l. front_at T l n) (λ l. count_at T l n) (λ l. base_of T n true l) most (done_after [] xs)) ds →
    Has (Leaves (λ l. base_of T n true l) j v) ds → Has (Leaves (λ l. base_of T n true l) j v) (filter (farther xs most) ds) ⊎ IsOffBy most (λ l. front_at T l n) v
kept-or-near T n xs o most j v [] each h = absurd h
kept-or-near T n xs o most j v (d ∷ ds) each (inl here) = go (farther xs most d) refl
  where
    go : (b : Bool) → farther xs most d ≡ b → Has (Leaves (λ l. base_of T n true l) j v) (if b then d ∷ filter (farther xs most) ds else filter (farther xs most) ds) ⊎ IsOffBy most (λ l. front_at T l n) v
    go true is = inl (inl here)
    go false is = let x = off-few T n xs o most d each.0 is in inr (record { lines = x.lines; few = x.few; others = λ l none. sym (here.1 l) ∙ x.others l none })
kept-or-near T n xs o most j v (d ∷ ds) each (inr later) = go (farther xs most d) (kept-or-near T n xs o most j v ds each.1 later)
  where
    go : (b : Bool) → Has (Leaves (λ l. base_of T n true l) j v) (filter (farther xs most) ds) ⊎ IsOffBy most (λ l. front_at T l n) v → Has (Leaves (λ l. base_of T n true l) j v) (if b then d ∷ filter (farther xs most) ds else filter (farther xs most) ds) ⊎ IsOffBy most (λ l. front_at T l n) v
    go b (inr near) = inr near
    go true (inl has) = inl (inr has)
    go false (inl has) = inl has

-- numbers that a crash may leave are the base's at each line that is not open
at-base : (T : Recording) (n : ℕ) (xs : List LineCount) → AreOpen T n xs → (all : Bool) (v : ℕ → ℕ) → InBox (history T n) v → (l : ℕ) → has_line l (done_after [] xs) ≡ false → v l ≡ base_of T n all l
at-base T n xs o true v box l out =
    let same : front_at T l n ≡ count_at T l n = o.closed l out in
    let low = (box l).0 in
    let high = (box l).1 in
    omega arith
at-base T n xs o false v box l out =
    let same : front_at T l n ≡ count_at T l n = o.closed l out in
    let low = (box l).0 in
    let high = (box l).1 in
    omega arith

near-both : (T : Recording) (n : ℕ) (xs : List LineCount) → AreOpen T n xs → (most : ℕ) (cs ds : List (List LineStores)) → ChoicesAt T n false most (done_after [] xs) cs → ChoicesAt T n true most (done_after [] xs) ds →
    AreNear T n most (left_by T n false cs ++ left_by T n true (filter (farther xs most) ds))
near-both T n xs o most cs ds x z = record {
  each = all-append (IsNear T n most) (left_by T n false cs) (left_by T n true (filter (farther xs most) ds)) (all-near T n xs o most false cs x.each)
      (all-near T n xs o most true (filter (farther xs most) ds) (all-kept (IsChoice (λ l. front_at T l n) (λ l. count_at T l n) (λ l. base_of T n true l) most (done_after [] xs)) (farther xs most) ds z.each));
  whole = λ v near. any-has (λ w. AreSame w v) (left_by T n false cs ++ left_by T n true (filter (farther xs most) ds)) (go v ((vectors_are_a_box (history T n) v).0 near.may) near.near);
  once = differ-both T n xs o most cs (filter (farther xs most) ds) x.each x.once (all-pass (farther xs most) ds) (apart-kept (λ l. base_of T n true l) (farther xs most) ds z.once);
}
  where
    by-fronts : (v : ℕ → ℕ) → InBox (history T n) v → IsOffBy most (λ l. front_at T l n) v → Has (λ w. AreSame w v) (left_by T n false cs ++ left_by T n true (filter (farther xs most) ds))
    by-fronts v box off =
        has-left (λ w. AreSame w v) (left_by T n false cs) (left_by T n true (filter (farther xs most) ds))
        (has-left_by T n false most v cs (x.whole v most (omega arith) box (at-base T n xs o false v box) (record { lines = off.lines; few = off.few; others = off.others })))

    by-counts : (v : ℕ → ℕ) → InBox (history T n) v → Has (Leaves (λ l. base_of T n true l) most v) (filter (farther xs most) ds) ⊎ IsOffBy most (λ l. front_at T l n) v →
        Has (λ w. AreSame w v) (left_by T n false cs ++ left_by T n true (filter (farther xs most) ds))
    by-counts v box (inl has) = has-right (λ w. AreSame w v) (left_by T n false cs) (left_by T n true (filter (farther xs most) ds)) (has-left_by T n true most v (filter (farther xs most) ds) has)
    by-counts v box (inr off) = by-fronts v box off

    go : (v : ℕ → ℕ) → InBox (history T n) v → IsOffBy most (λ l. front_at T l n) v ⊎ IsOffBy most (λ l. count_at T l n) v → Has (λ w. AreSame w v) (left_by T n false cs ++ left_by T n true (filter (farther xs most) ds))
    go v box (inl off) = by-fronts v box off
    go v box (inr off) =
        by-counts v box (kept-or-near T n xs o most most v ds z.each (z.whole v most (omega arith) box (at-base T n xs o true v box) (record { lines = off.lines; few = off.few; others = off.others })))

pub near-all : (T : Recording) (n : ℕ) (xs : List LineCount) → AreOpen T n xs → (most : ℕ) (cs ds : List (List LineStores)) → cs ≡ chosen false most xs ([] ∷ []) → ds ≡ filter (farther xs most) (chosen true most xs ([] ∷ [])) →
    AreNear T n most (left_by T n false cs ++ left_by T n true ds)
near-all T n xs o most cs ds first later =
    subst (λ (ys : List (List LineStores)). AreNear T n most (left_by T n false ys ++ left_by T n true ds)) (sym first)
    (subst (λ (ys : List (List LineStores)). AreNear T n most (left_by T n false (chosen false most xs ([] ∷ [])) ++ left_by T n true ys)) (sym later)
    (near-both T n xs o most (chosen false most xs ([] ∷ [])) (chosen true most xs ([] ∷ [])) (chosen-all T n xs o false most) (chosen-all T n xs o true most)))

-- ---- Steps of loops

-- what passes, seen by another name
pub map-kept : {X Y : Type 0} (xs : List X) (f : X → Y) (test : Y → Bool) → map f (filter (λ x. test (f x)) xs) ≡ filter test (map f xs)
map-kept [] f test = refl
map-kept (x ∷ xs) f test = go (test (f x)) (map-kept xs f test)
  where
    go : (b : Bool) → map f (filter (λ y. test (f y)) xs) ≡ filter test (map f xs) → map f (if b then x ∷ filter (λ y. test (f y)) xs else filter (λ y. test (f y)) xs) ≡ (if b then f x ∷ filter test (map f xs) else filter test (map f xs))
    go true rest = ap (λ ys. f x ∷ ys) rest
    go false rest = rest

-- the longer ones stand after the others
pub grown-more : {X : Type 0} (old slice more new : List X) (f : X → List LineStores) (g : List LineStores → List (List LineStores)) → slice ≡ old → new ≡ old ++ more → map f more ≡ flat_map g (map f slice) → map f new ≡ map f old ++ flat_map g (map f old)
grown-more {X = X} old slice more new f g same is longer =
    ap (λ (ys : List X). map f ys) is ∙ map-append f old more ∙ ap (λ (ys : List (List LineStores)). map f old ++ ys) (longer ∙ ap (λ (ys : List X). flat_map g (map f ys)) same)

-- one more choice was looked at
pub flat-step : {X : Type 0} (xs : List X) (g : X → List LineStores) (f : List LineStores → List (List LineStores)) (i : ℕ) (x : X) (old new : List (List LineStores)) → i < length xs → x ≡ get_or xs i x → old ≡ flat_map f (map g (take i xs)) → new ≡ old ++ f (g x) →
    new ≡ flat_map f (map g (take (i + 1) xs))
flat-step {X = X} xs g f i x old new within is before after =
    let whole : take (i + 1) xs ≡ take i xs ++ x ∷ [] = take_more xs i x within ∙ ap (λ (y : X). take i xs ++ y ∷ []) (sym is) in
    after ∙ ap (λ (ys : List (List LineStores)). ys ++ f (g x)) before ∙ flat_map_more f [] (map g (take i xs)) (g x) ∙ ap (λ (ys : List (List LineStores)). flat_map f ys) (sym (map_push g (take i xs) x))
    ∙ ap (λ (ys : List X). flat_map f (map g ys)) (sym whole)

-- one more number was added
pub setting-step : {X : Type 0} (old new : List X) (x : X) (f : X → List LineStores) (first : List (List LineStores)) (choice : List LineStores) (line low step s : ℕ) → new ≡ old ++ x ∷ [] → f x ≡ choice ++ record { line = line; stores = s } ∷ [] → s ≡ low + step →
    map f old ≡ first ++ set_to choice line low step → map f new ≡ first ++ set_to choice line low (step + 1)
setting-step {X = X} old new x f first choice line low step s is value number before =
    let last : f x ≡ choice ++ record { line = line; stores = low + step } ∷ [] = value ∙ ap (λ (n : ℕ). choice ++ record { line = line; stores = n } ∷ []) number in
    let whole : map f new ≡ first ++ set_to choice line low (suc step) =
    ap (λ (ys : List X). map f ys) is ∙ map_push f old x ∙ ap (λ (ys : List (List LineStores)). ys ++ f x ∷ []) before
    ∙ ap (λ (y : List LineStores). (first ++ set_to choice line low step) ++ y ∷ []) last ∙ append_assoc first (set_to choice line low step) ((choice ++ record { line = line; stores = low + step } ∷ []) ∷ []) in
    let one : suc step ≡ step + 1 = omega arith in
    whole ∙ ap (λ (n : ℕ). first ++ set_to choice line low n) one

-- one more line is off its front, or is not
pub off-next : (xs : List LineCount) (i : ℕ) (d : LineCount) (choice : List LineStores) (s : ℕ) → i < length xs → s ≡ with_counts choice (λ _. (get_or xs i d).stores) (get_or xs i d).line → (s ≡ (get_or xs i d).persisted → ⊥) →
    fronts_off (drop i xs) choice ≡ suc (fronts_off (drop (i + 1) xs) choice)
off-next xs i d choice s within told other =
    let one : fronts_off (drop i xs) choice ≡ fronts_off (get_or xs i d ∷ drop (i + 1) xs) choice = ap (λ (ys : List LineCount). fronts_off ys choice) (drop_more xs i d within) in
    let differ : with_counts choice (λ _. (get_or xs i d).stores) (get_or xs i d).line ≡ (get_or xs i d).persisted → ⊥ = λ same. other (told ∙ same) in
    one ∙ go (with_counts choice (λ _. (get_or xs i d).stores) (get_or xs i d).line == (get_or xs i d).persisted) (ne_eqb (with_counts choice (λ _. (get_or xs i d).stores) (get_or xs i d).line) (get_or xs i d).persisted differ)
  where
    go : (b : Bool) → b ≡ false → (if b then fronts_off (drop (i + 1) xs) choice else suc (fronts_off (drop (i + 1) xs) choice)) ≡ suc (fronts_off (drop (i + 1) xs) choice)
    go true is = absurd (true≢false is)
    go false is = refl

pub off-same : (xs : List LineCount) (i : ℕ) (d : LineCount) (choice : List LineStores) (s : ℕ) → i < length xs → s ≡ with_counts choice (λ _. (get_or xs i d).stores) (get_or xs i d).line → s ≡ (get_or xs i d).persisted →
    fronts_off (drop i xs) choice ≡ fronts_off (drop (i + 1) xs) choice
off-same xs i d choice s within told same =
    let one : fronts_off (drop i xs) choice ≡ fronts_off (get_or xs i d ∷ drop (i + 1) xs) choice = ap (λ (ys : List LineCount). fronts_off ys choice) (drop_more xs i d within) in
    one ∙ go (with_counts choice (λ _. (get_or xs i d).stores) (get_or xs i d).line == (get_or xs i d).persisted) (eq-eqb (with_counts choice (λ _. (get_or xs i d).stores) (get_or xs i d).line) (get_or xs i d).persisted (sym told ∙ same))
  where
    go : (b : Bool) → b ≡ true → (if b then fronts_off (drop (i + 1) xs) choice else suc (fronts_off (drop (i + 1) xs) choice)) ≡ fronts_off (drop (i + 1) xs) choice
    go true is = refl
    go false is = absurd (true≢false (sym is))

-- one more number of the choice, of the line or of another one
pub told-next : (xs : List LineStores) (i : ℕ) (d : LineStores) (s l : ℕ) → i < length xs → (get_or xs i d).line ≡ l → with_counts (drop (i + 1) xs) (λ _. (get_or xs i d).stores) l ≡ with_counts (drop i xs) (λ _. s) l
told-next xs i d s l within same =
    let x = get_or xs i d in
    let own : x.stores ≡ (if x.line == l then x.stores else s) = sym (rw (eq-eqb x.line l same) refl) in
    counts-own (drop (i + 1) xs) (λ _. x.stores) (λ k. if x.line == k then x.stores else s) l own ∙ ap (λ (ys : List LineStores). with_counts ys (λ _. s) l) (sym (drop_more xs i d within))

pub told-same : (xs : List LineStores) (i : ℕ) (d : LineStores) (s l : ℕ) → i < length xs → ((get_or xs i d).line ≡ l → ⊥) → with_counts (drop (i + 1) xs) (λ _. s) l ≡ with_counts (drop i xs) (λ _. s) l
told-same xs i d s l within other =
    let x = get_or xs i d in
    let kept : s ≡ (if x.line == l then x.stores else s) = sym (rw (ne_eqb x.line l other) refl) in
    counts-own (drop (i + 1) xs) (λ _. s) (λ k. if x.line == k then x.stores else s) l kept ∙ ap (λ (ys : List LineStores). with_counts ys (λ _. s) l) (sym (drop_more xs i d within))
