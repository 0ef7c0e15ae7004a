-- Choices of numbers for a few lines.
use Rattle.pmt_image.proofs.Prelude.{◌≡◌, ℕ, zero, suc, ◌+◌, ◌-◌, ◌<◌, ◌≤◌, ◌⊎◌, ◌==◌, inl, inr, Bool, true, false, List, [], ◌∷◌, ◌++◌, length, map, refl, sym, ap, subst, ◌∙◌, arith, length-append, ltb-true, true≢false, if◌then◌else◌, ◌||◌, nat_lt, AllByRecursion, flat_map, has_line, cases_eq, eq-eqb, ne_eqb, lt-ltb, LineStores, with_counts, IsOffBy, set_to, settings}

-- ---- Lists

pub all-append : {X : Type 0} (P : X → Type 0) (xs ys : List X) → AllByRecursion P xs → AllByRecursion P ys → AllByRecursion P (xs ++ ys)
all-append P [] ys first later = later
all-append P (x ∷ xs) ys first later = (first.0, all-append P xs ys first.1 later)

pub all-weaker : {X : Type 0} (P Q : X → Type 0) → ((x : X) → P x → Q x) → (xs : List X) → AllByRecursion P xs → AllByRecursion Q xs
all-weaker P Q weaker [] all = tt
all-weaker P Q weaker (x ∷ xs) all = (weaker x all.0, all-weaker P Q weaker xs all.1)

pub all-flat : {X Y : Type 0} (P : X → Type 0) (Q : Y → Type 0) (f : X → List Y) → ((x : X) → P x → AllByRecursion Q (f x)) → (xs : List X) → AllByRecursion P xs → AllByRecursion Q (flat_map f xs)
all-flat P Q f gives [] all = tt
all-flat P Q f gives (x ∷ xs) all = all-append Q (f x) (flat_map f xs) (gives x all.0) (all-flat P Q f gives xs all.1)

-- some element has the property
abbrev pub Has : {X : Type 0} → (X → Type 0) → List X → Type 0
Has P [] = ⊥
Has P (x ∷ xs) = P x ⊎ Has P xs

pub has-left : {X : Type 0} (P : X → Type 0) (xs ys : List X) → Has P xs → Has P (xs ++ ys)
has-left P [] ys h = absurd h
has-left P (x ∷ xs) ys (inl here) = inl here
has-left P (x ∷ xs) ys (inr later) = inr (has-left P xs ys later)

pub has-right : {X : Type 0} (P : X → Type 0) (xs ys : List X) → Has P ys → Has P (xs ++ ys)
has-right P [] ys h = h
has-right P (x ∷ xs) ys h = inr (has-right P xs ys h)

pub has-flat : {X Y : Type 0} (P : X → Type 0) (Q : Y → Type 0) (f : X → List Y) → ((x : X) → P x → Has Q (f x)) → (xs : List X) → Has P xs → Has Q (flat_map f xs)
has-flat P Q f gives [] h = absurd h
has-flat P Q f gives (x ∷ xs) (inl here) = has-left Q (f x) (flat_map f xs) (gives x here)
has-flat P Q f gives (x ∷ xs) (inr later) = has-right Q (f x) (flat_map f xs) (has-flat P Q f gives xs later)

-- ---- Lines

-- the lines but this one
abbrev pub without : ℕ → List ℕ → List ℕ
without l [] = []
without l (x ∷ xs) = if x == l then without l xs else x ∷ without l xs

pub without-fewer : (l : ℕ) (xs : List ℕ) → length (without l xs) ≤ length xs
without-fewer l [] = omega arith
without-fewer l (x ∷ xs) = go (x == l) (without-fewer l xs)
  where
    go : (b : Bool) → length (without l xs) ≤ length xs → length (if b then without l xs else x ∷ without l xs) ≤ suc (length xs)
    go true rest = omega arith
    go false rest = omega arith

pub without-shorter : (l : ℕ) (xs : List ℕ) → has_line l xs ≡ true → length (without l xs) < length xs
without-shorter l [] has = absurd (true≢false (sym has))
without-shorter l (x ∷ xs) has = go (x == l) has (without-shorter l xs)
  where
    go : (b : Bool) → b || has_line l xs ≡ true → (has_line l xs ≡ true → length (without l xs) < length xs) → length (if b then without l xs else x ∷ without l xs) < suc (length xs)
    go true h rest = let fewer = without-fewer l xs in omega arith
    go false h rest = let shorter = rest h in omega arith

pub without-others : (l k : ℕ) (xs : List ℕ) → (l ≡ k → ⊥) → has_line k (without l xs) ≡ has_line k xs
without-others l k [] other = refl
without-others l k (x ∷ xs) other = go (cases_eq x l) (without-others l k xs other)
  where
    go : (x ≡ l) ⊎ (x ≡ l → ⊥) → has_line k (without l xs) ≡ has_line k xs → has_line k (if x == l then without l xs else x ∷ without l xs) ≡ (x == k) || has_line k xs
    go (inl same) rest = rw (eq-eqb x l same, ne_eqb x k (λ is. other (sym same ∙ is))) rest
    go (inr differ) rest = rw (ne_eqb x l differ) (ap (λ (b : Bool). (x == k) || b) rest)

-- the lines of a choice
abbrev pub lines_in : List LineStores → List ℕ
lines_in choice = map (λ x. x.line) choice

-- not among more, not among fewer
pub or-first : (b c : Bool) → b || c ≡ false → b ≡ false
or-first true c h = h
or-first false c h = refl

pub or-second : (b c : Bool) → b || c ≡ false → c ≡ false
or-second true c h = absurd (true≢false h)
or-second false c h = h

pub other-line : (x l : ℕ) → x == l ≡ false → x ≡ l → ⊥
other-line x l differ is = true≢false (sym (eq-eqb x l is) ∙ differ)

-- ---- One choice

-- one more line is set
pub counts-push : (xs : List LineStores) (x : LineStores) (v : ℕ → ℕ) (l : ℕ) → with_counts (xs ++ x ∷ []) v l ≡ (if x.line == l then x.stores else with_counts xs v l)
counts-push [] x v l = refl
counts-push (y ∷ ys) x v l = counts-push ys x (λ k. if y.line == k then y.stores else v k) l

pub counts-at : (l s : ℕ) (xs : List LineStores) (x : LineStores) (v : ℕ → ℕ) → x.line ≡ l → x.stores ≡ s → with_counts (xs ++ x ∷ []) v l ≡ s
counts-at l s xs x v line stores =
    let chosen : (if x.line == l then x.stores else with_counts xs v l) ≡ s = rw (eq-eqb x.line l line) stores in
    counts-push xs x v l ∙ chosen

pub counts-beside : (l : ℕ) (xs : List LineStores) (x : LineStores) (v : ℕ → ℕ) → (x.line ≡ l → ⊥) → with_counts (xs ++ x ∷ []) v l ≡ with_counts xs v l
counts-beside l xs x v other =
    let kept : (if x.line == l then x.stores else with_counts xs v l) ≡ with_counts xs v l = rw (ne_eqb x.line l other) refl in
    counts-push xs x v l ∙ kept

-- these numbers of stores, of which only those of lines that were looked at may be off the base
pub record IsChoice (least greatest base : ℕ → ℕ) (most : ℕ) (done : List ℕ) (choice : List LineStores) : Type 0 where
  pub few : length choice ≤ most
  pub within : (l : ℕ) → (least l ≤ with_counts choice base l) × (with_counts choice base l ≤ greatest l)
  pub undone : (l : ℕ) → has_line l done ≡ false → with_counts choice base l ≡ base l
  pub off : (l : ℕ) → has_line l (lines_in choice) ≡ false → with_counts choice base l ≡ base l

-- they don't leave the same numbers
abbrev pub AreApart : (ℕ → ℕ) → List LineStores → List LineStores → Type 0
AreApart base c d = ((l : ℕ) → with_counts c base l ≡ with_counts d base l) → ⊥

abbrev pub AllApart : (ℕ → ℕ) → List (List LineStores) → Type 0
AllApart base [] = Unit {0}
AllApart base (c ∷ cs) = AllByRecursion (AreApart base c) cs × AllApart base cs

pub apart-append : (base : ℕ → ℕ) (cs ds : List (List LineStores)) → AllApart base cs → AllApart base ds → AllByRecursion (λ c. AllByRecursion (AreApart base c) ds) cs → AllApart base (cs ++ ds)
apart-append base [] ds first later between = later
apart-append base (c ∷ cs) ds first later between =
    (all-append (AreApart base c) cs ds first.0 between.0, apart-append base cs ds first.1 later between.1)

-- the choice leaves these numbers, by few lines
abbrev pub Leaves : (ℕ → ℕ) → ℕ → (ℕ → ℕ) → List LineStores → Type 0
Leaves base j v choice = (length choice ≤ j) × ((l : ℕ) → with_counts choice base l ≡ v l)

-- all choices of numbers for the lines that were looked at
pub record AreChoices (least greatest base : ℕ → ℕ) (most : ℕ) (done : List ℕ) (choices : List (List LineStores)) : Type 0 where
  pub each : AllByRecursion (IsChoice least greatest base most done) choices
  pub once : AllApart base choices
  pub whole : (v : ℕ → ℕ) (j : ℕ) → j ≤ most → ((l : ℕ) → (least l ≤ v l) × (v l ≤ greatest l)) → ((l : ℕ) → has_line l done ≡ false → v l ≡ base l) → IsOffBy j base v → Has (Leaves base j v) choices

-- none was looked at
pub choices-none : (least greatest base : ℕ → ℕ) (most : ℕ) → ((l : ℕ) → (least l ≤ base l) × (base l ≤ greatest l)) → AreChoices least greatest base most [] ([] ∷ [])
choices-none least greatest base most within = record {
  each = (record { few = omega arith; within = within; undone = λ l none. refl; off = λ l none. refl }, tt);
  once = (tt, tt);
  whole = λ v j few box undone off. inl (omega arith, λ l. sym (undone l refl));
}

-- ---- One more line

-- the choice with a number of the line beside it
pub record IsSetTo (choice : List LineStores) (line low n : ℕ) (new : List LineStores) : Type 0 where
  pub stores : ℕ
  pub is : new ≡ choice ++ record { line = line; stores = stores } ∷ []
  pub from : low ≤ stores
  pub to : stores < low + n

set_to-more : (choice : List LineStores) (line low n : ℕ) (new : List LineStores) → IsSetTo choice line low n new → IsSetTo choice line low (suc n) new
set_to-more choice line low n new x = record { stores = x.stores; is = x.is; from = x.from; to = let few = x.to in omega arith }

pub all-set_to : (choice : List LineStores) (line low n : ℕ) → AllByRecursion (IsSetTo choice line low n) (set_to choice line low n)
all-set_to choice line low zero = tt
all-set_to choice line low (suc n) =
    all-append (IsSetTo choice line low (suc n)) (set_to choice line low n) ((choice ++ record { line = line; stores = low + n } ∷ []) ∷ [])
    (all-weaker (IsSetTo choice line low n) (IsSetTo choice line low (suc n)) (set_to-more choice line low n) (set_to choice line low n) (all-set_to choice line low n))
    (record { stores = low + n; is = refl; from = omega arith; to = omega arith }, tt)

pub has-set_to : (Q : List LineStores → Type 0) (choice : List LineStores) (line low n s : ℕ) → low ≤ s → s < low + n → Q (choice ++ record { line = line; stores = s } ∷ []) → Has Q (set_to choice line low n)
has-set_to Q choice line low zero s from to q = absurd (omega arith)
has-set_to Q choice line low (suc n) s from to q = go (cases_eq s (low + n)) (has-set_to Q choice line low n s from)
  where
    go : (s ≡ low + n) ⊎ (s ≡ low + n → ⊥) → (s < low + n → Q (choice ++ record { line = line; stores = s } ∷ []) → Has Q (set_to choice line low n)) → Has Q (set_to choice line low n ++ (choice ++ record { line = line; stores = low + n } ∷ []) ∷ [])
    go (inl same) before =
        has-right Q (set_to choice line low n) ((choice ++ record { line = line; stores = low + n } ∷ []) ∷ []) (inl (subst (λ (m : ℕ). Q (choice ++ record { line = line; stores = m } ∷ [])) same q))
    go (inr other) before =
        has-left Q (set_to choice line low n) ((choice ++ record { line = line; stores = low + n } ∷ []) ∷ []) (before (omega arith) q)

-- two numbers of one line
set_to-apart : (base : ℕ → ℕ) (choice new : List LineStores) (line low n : ℕ) → IsSetTo choice line low n new → AreApart base new (choice ++ record { line = line; stores = low + n } ∷ [])
set_to-apart base choice new line low n x same =
    let one : with_counts new base line ≡ x.stores = ap (λ (c : List LineStores). with_counts c base line) x.is ∙ counts-at line x.stores choice (record { line = line; stores = x.stores }) base refl refl in
    let other : with_counts (choice ++ record { line = line; stores = low + n } ∷ []) base line ≡ low + n = counts-at line (low + n) choice (record { line = line; stores = low + n }) base refl refl in
    let equal : x.stores ≡ low + n = sym one ∙ same line ∙ other in
    let few = x.to in
    omega arith

pub apart-set_to : (base : ℕ → ℕ) (choice : List LineStores) (line low n : ℕ) → AllApart base (set_to choice line low n)
apart-set_to base choice line low zero = tt
apart-set_to base choice line low (suc n) =
    let last : List LineStores = choice ++ record { line = line; stores = low + n } ∷ [] in
    apart-append base (set_to choice line low n) (last ∷ []) (apart-set_to base choice line low n) (tt, tt)
    (all-weaker (IsSetTo choice line low n) (λ new. AllByRecursion (AreApart base new) (last ∷ [])) (λ new x. (set_to-apart base choice new line low n x, tt)) (set_to choice line low n) (all-set_to choice line low n))

-- so of a choice that has room
pub record IsSetting (most : ℕ) (choice : List LineStores) (line low n : ℕ) (new : List LineStores) : Type 0 where
  pub room : length choice < most
  pub set : IsSetTo choice line low n new

pub all-settings : (most line low n : ℕ) (choice : List LineStores) → AllByRecursion (IsSetting most choice line low n) (settings most line low n choice)
all-settings most line low n choice = go (nat_lt (length choice) most) refl
  where
    go : (b : Bool) → nat_lt (length choice) most ≡ b → AllByRecursion (IsSetting most choice line low n) (if b then set_to choice line low n else [])
    go true has = all-weaker (IsSetTo choice line low n) (IsSetting most choice line low n) (λ new x. record { room = ltb-true (length choice) most has; set = x }) (set_to choice line low n) (all-set_to choice line low n)
    go false none = tt

pub apart-settings : (base : ℕ → ℕ) (most line low n : ℕ) (choice : List LineStores) → AllApart base (settings most line low n choice)
apart-settings base most line low n choice = go (nat_lt (length choice) most)
  where
    go : (b : Bool) → AllApart base (if b then set_to choice line low n else [])
    go true = apart-set_to base choice line low n
    go false = tt

pub has-settings : (Q : List LineStores → Type 0) (most line low n s : ℕ) (choice : List LineStores) → length choice < most → low ≤ s → s < low + n → Q (choice ++ record { line = line; stores = s } ∷ []) → Has Q (settings most line low n choice)
has-settings Q most line low n s choice room from to q = go (nat_lt (length choice) most) (lt-ltb (length choice) most room)
  where
    go : (b : Bool) → b ≡ true → Has Q (if b then set_to choice line low n else [])
    go true has = has-set_to Q choice line low n s from to q
    go false none = absurd (true≢false (sym none))

-- the numbers of the line that are not its base's
pub record IsSpan (least greatest base : ℕ → ℕ) (line low n : ℕ) : Type 0 where
  pub inside : (s : ℕ) → low ≤ s → s < low + n → (least line ≤ s) × (s ≤ greatest line)
  pub off : low ≤ base line → base line < low + n → ⊥
  pub all : (s : ℕ) → least line ≤ s → s ≤ greatest line → (s ≡ base line → ⊥) → (low ≤ s) × (s < low + n)

-- what a choice has of a line that it leaves alone
first-of : (b c : Bool) → b || (c || false) ≡ false → c ≡ false
first-of true true h = h
first-of true false h = refl
first-of false true h = h
first-of false false h = refl

lines-push : (l : ℕ) (choice : List LineStores) (x : LineStores) → has_line l (lines_in (choice ++ x ∷ [])) ≡ has_line l (lines_in choice) || ((x.line == l) || false)
lines-push l [] x = refl
lines-push l (y ∷ ys) x = go (y.line == l) (lines-push l ys x)
  where
    go : (b : Bool) → has_line l (lines_in (ys ++ x ∷ [])) ≡ has_line l (lines_in ys) || ((x.line == l) || false) → b || has_line l (lines_in (ys ++ x ∷ [])) ≡ (b || has_line l (lines_in ys)) || ((x.line == l) || false)
    go true rest = refl
    go false rest = rest

choice-kept : (least greatest base : ℕ → ℕ) (most line : ℕ) (done : List ℕ) (choice : List LineStores) → IsChoice least greatest base most done choice → IsChoice least greatest base most (line ∷ done) choice
choice-kept least greatest base most line done choice x = record { few = x.few; within = x.within; undone = λ l none. x.undone l (or-second (line == l) (has_line l done) none); off = x.off }

choice-set : (least greatest base : ℕ → ℕ) (most line low n : ℕ) (done : List ℕ) (choice new : List LineStores) → IsSpan least greatest base line low n → IsChoice least greatest base most done choice → IsSetting most choice line low n new →
    IsChoice least greatest base most (line ∷ done) new
choice-set least greatest base most line low n done choice new span x setting = record {
  few =
      let y : LineStores = record { line = line; stores = setting.set.stores } in
      let longer = length-append choice (y ∷ []) in
      let same = ap (λ (c : List LineStores). length c) setting.set.is in
      let room = setting.room in
      omega arith;
  within = λ l. go l (cases_eq line l);
  undone = λ l none. beside l (other-line line l (or-first (line == l) (has_line l done) none)) ∙ x.undone l (or-second (line == l) (has_line l done) none);
  off = λ l none.
      let parts : has_line l (lines_in choice) || ((line == l) || false) ≡ false =
      sym (ap (λ (c : List LineStores). has_line l (lines_in c)) setting.set.is ∙ lines-push l choice (record { line = line; stores = setting.set.stores })) ∙ none in
      beside l (other-line line l (first-of (has_line l (lines_in choice)) (line == l) parts)) ∙ x.off l (or-first (has_line l (lines_in choice)) ((line == l) || false) parts);
}
  where
    beside : (l : ℕ) → (line ≡ l → ⊥) → with_counts new base l ≡ with_counts choice base l
    beside l other = ap (λ (c : List LineStores). with_counts c base l) setting.set.is ∙ counts-beside l choice (record { line = line; stores = setting.set.stores }) base other

    there : with_counts new base line ≡ setting.set.stores
    there = ap (λ (c : List LineStores). with_counts c base line) setting.set.is ∙ counts-at line setting.set.stores choice (record { line = line; stores = setting.set.stores }) base refl refl

    go : (l : ℕ) → (line ≡ l) ⊎ (line ≡ l → ⊥) → (least l ≤ with_counts new base l) × (with_counts new base l ≤ greatest l)
    go l (inl same) =
        let P : ℕ → Type 0 = λ k. (least k ≤ with_counts new base k) × (with_counts new base k ≤ greatest k) in
        subst P same (rw there (span.inside setting.set.stores setting.set.from setting.set.to))
    go l (inr other) = rw (beside l other) (x.within l)

-- a choice before, and one with the line beside it
old-new : (least greatest base : ℕ → ℕ) (most line low n : ℕ) (done : List ℕ) (c d new : List LineStores) → has_line line done ≡ false → IsSpan least greatest base line low n → IsChoice least greatest base most done c → IsSetting most d line low n new →
    AreApart base c new
old-new least greatest base most line low n done c d new absent span x setting same =
    let there : with_counts new base line ≡ setting.set.stores = ap (λ (e : List LineStores). with_counts e base line) setting.set.is ∙ counts-at line setting.set.stores d (record { line = line; stores = setting.set.stores }) base refl refl in
    let is : base line ≡ setting.set.stores = sym (x.undone line absent) ∙ same line ∙ there in
    let above = setting.set.from in
    let below = setting.set.to in
    span.off (omega arith) (omega arith)

-- two choices, each with a number of the line beside it
new-new : (least greatest base : ℕ → ℕ) (most line low n : ℕ) (done : List ℕ) (c d first later : List LineStores) → has_line line done ≡ false → IsChoice least greatest base most done c → IsChoice least greatest base most done d → AreApart base c d →
    IsSetting most c line low n first → IsSetting most d line low n later → AreApart base first later
new-new least greatest base most line low n done c d first later absent x z apart f g same = apart (λ l. go l (cases_eq line l))
  where
    beside : (choice new : List LineStores) → IsSetting most choice line low n new → (l : ℕ) → (line ≡ l → ⊥) → with_counts new base l ≡ with_counts choice base l
    beside choice new setting l other = ap (λ (e : List LineStores). with_counts e base l) setting.set.is ∙ counts-beside l choice (record { line = line; stores = setting.set.stores }) base other

    go : (l : ℕ) → (line ≡ l) ⊎ (line ≡ l → ⊥) → with_counts c base l ≡ with_counts d base l
    go l (inl is) = let P : ℕ → Type 0 = λ k. with_counts c base k ≡ with_counts d base k in subst P is (x.undone line absent ∙ sym (z.undone line absent))
    go l (inr other) = sym (beside c first f l other) ∙ same l ∙ beside d later g l other

-- one with a number of the line beside it, and all others
new-others : (least greatest base : ℕ → ℕ) (most line low n : ℕ) (done : List ℕ) (c first : List LineStores) → has_line line done ≡ false → IsChoice least greatest base most done c → IsSetting most c line low n first →
    (ds : List (List LineStores)) → AllByRecursion (IsChoice least greatest base most done) ds → AllByRecursion (AreApart base c) ds → AllByRecursion (AreApart base first) (flat_map (settings most line low n) ds)
new-others least greatest base most line low n done c first absent x f [] all apart = tt
new-others least greatest base most line low n done c first absent x f (d ∷ ds) all apart =
    all-append (AreApart base first) (settings most line low n d) (flat_map (settings most line low n) ds)
    (all-weaker (IsSetting most d line low n) (AreApart base first) (λ later g. new-new least greatest base most line low n done c d first later absent x all.0 apart.0 f g) (settings most line low n d) (all-settings most line low n d))
    (new-others least greatest base most line low n done c first absent x f ds all.1 apart.1)

-- all with a number of the line beside them
apart-flat : (least greatest base : ℕ → ℕ) (most line low n : ℕ) (done : List ℕ) (cs : List (List LineStores)) → has_line line done ≡ false → AllByRecursion (IsChoice least greatest base most done) cs → AllApart base cs →
    AllApart base (flat_map (settings most line low n) cs)
apart-flat least greatest base most line low n done [] absent each once = tt
apart-flat least greatest base most line low n done (c ∷ cs) absent each once =
    apart-append base (settings most line low n c) (flat_map (settings most line low n) cs) (apart-settings base most line low n c) (apart-flat least greatest base most line low n done cs absent each.1 once.1)
    (all-weaker (IsSetting most c line low n) (λ first. AllByRecursion (AreApart base first) (flat_map (settings most line low n) cs))
    (λ first f. new-others least greatest base most line low n done c first absent each.0 f cs each.1 once.0) (settings most line low n c) (all-settings most line low n c))

-- the numbers but for those of the line, which are the base's
back-off : (line j : ℕ) (base v : ℕ → ℕ) → (v line ≡ base line → ⊥) → IsOffBy j base v → (0 < j) × IsOffBy (j - 1) base (λ l. if line == l then base l else v l)
back-off line j base v other off = (let few = off.few in let short = shorter in omega arith, record { lines = without line off.lines; few = let few = off.few in let short = shorter in omega arith; others = λ l none. go l none (cases_eq line l) })
  where
    has : (b : Bool) → has_line line off.lines ≡ b → has_line line off.lines ≡ true
    has true is = is
    has false is = absurd (other (off.others line is))

    shorter : length (without line off.lines) < length off.lines
    shorter = without-shorter line off.lines (has (has_line line off.lines) refl)

    go : (l : ℕ) → has_line l (without line off.lines) ≡ false → (line ≡ l) ⊎ (line ≡ l → ⊥) → (if line == l then base l else v l) ≡ base l
    go l none (inl same) = rw (eq-eqb line l same) refl
    go l none (inr differ) = rw (ne_eqb line l differ) (off.others l (sym (without-others line l off.lines differ) ∙ none))

-- what the choices leave with one more line, and no more
whole-more : (least greatest base : ℕ → ℕ) (most line low n : ℕ) (done : List ℕ) (cs : List (List LineStores)) → IsSpan least greatest base line low n → ((l : ℕ) → (least l ≤ base l) × (base l ≤ greatest l)) → AreChoices least greatest base most done cs →
    (v : ℕ → ℕ) (j : ℕ) → j ≤ most → ((l : ℕ) → (least l ≤ v l) × (v l ≤ greatest l)) → ((l : ℕ) → has_line l (line ∷ done) ≡ false → v l ≡ base l) → IsOffBy j base v →
    Has (Leaves base j v) (cs ++ flat_map (settings most line low n) cs)
whole-more least greatest base most line low n done cs span inside x v j few box undone off = go (cases_eq (v line) (base line))
  where
    old-undone : v line ≡ base line → (l : ℕ) → has_line l done ≡ false → v l ≡ base l
    old-undone is l none = split (cases_eq line l)
      where
        split : (line ≡ l) ⊎ (line ≡ l → ⊥) → v l ≡ base l
        split (inl same) = let P : ℕ → Type 0 = λ k. v k ≡ base k in subst P same is
        split (inr other) = undone l (rw (ne_eqb line l other) none)

    new-undone : (l : ℕ) → has_line l done ≡ false → (if line == l then base l else v l) ≡ base l
    new-undone l none = split (cases_eq line l)
      where
        split : (line ≡ l) ⊎ (line ≡ l → ⊥) → (if line == l then base l else v l) ≡ base l
        split (inl same) = rw (eq-eqb line l same) refl
        split (inr other) = rw (ne_eqb line l other) (undone l (rw (ne_eqb line l other) none))

    new-box : (l : ℕ) → (least l ≤ (if line == l then base l else v l)) × ((if line == l then base l else v l) ≤ greatest l)
    new-box l = split (line == l)
      where
        split : (b : Bool) → (least l ≤ (if b then base l else v l)) × ((if b then base l else v l) ≤ greatest l)
        split true = inside l
        split false = box l

    longer : (low ≤ v line) × (v line < low + n) → 0 < j → (choice : List LineStores) → Leaves base (j - 1) (λ l. if line == l then base l else v l) choice → Has (Leaves base j v) (settings most line low n choice)
    longer fits some choice leaves =
        has-settings (Leaves base j v) most line low n (v line) choice (let short = leaves.0 in omega arith) fits.0 fits.1
        (let short = leaves.0 in let more = length-append choice (record { line = line; stores = v line } ∷ []) in omega arith, λ l. split l (cases_eq line l))
      where
        split : (l : ℕ) → (line ≡ l) ⊎ (line ≡ l → ⊥) → with_counts (choice ++ record { line = line; stores = v line } ∷ []) base l ≡ v l
        split l (inl same) = counts-at l (v line) choice (record { line = line; stores = v line }) base same refl ∙ ap v same
        split l (inr other) =
            let own : (if line == l then base l else v l) ≡ v l = rw (ne_eqb line l other) refl in
            counts-beside l choice (record { line = line; stores = v line }) base other ∙ leaves.1 l ∙ own

    go : (v line ≡ base line) ⊎ (v line ≡ base line → ⊥) → Has (Leaves base j v) (cs ++ flat_map (settings most line low n) cs)
    go (inl is) = has-left (Leaves base j v) cs (flat_map (settings most line low n) cs) (x.whole v j few box (old-undone is) off)
    go (inr other) =
        let back = back-off line j base v other off in
        has-right (Leaves base j v) cs (flat_map (settings most line low n) cs)
        (has-flat (Leaves base (j - 1) (λ l. if line == l then base l else v l)) (Leaves base j v) (settings most line low n) (longer (span.all (v line) (box line).0 (box line).1 other) back.0) cs
        (x.whole (λ l. if line == l then base l else v l) (j - 1) (omega arith) new-box new-undone back.1))

pub choices-more : (least greatest base : ℕ → ℕ) (most line low n : ℕ) (done : List ℕ) (cs : List (List LineStores)) → has_line line done ≡ false → IsSpan least greatest base line low n → ((l : ℕ) → (least l ≤ base l) × (base l ≤ greatest l)) →
    AreChoices least greatest base most done cs → AreChoices least greatest base most (line ∷ done) (cs ++ flat_map (settings most line low n) cs)
choices-more least greatest base most line low n done cs absent span inside x = record {
  each = all-append (IsChoice least greatest base most (line ∷ done)) cs (flat_map (settings most line low n) cs)
      (all-weaker (IsChoice least greatest base most done) (IsChoice least greatest base most (line ∷ done)) (choice-kept least greatest base most line done) cs x.each)
      (all-flat (IsChoice least greatest base most done) (IsChoice least greatest base most (line ∷ done)) (settings most line low n) set cs x.each);
  once = apart-append base cs (flat_map (settings most line low n) cs) x.once (apart-flat least greatest base most line low n done cs absent x.each x.once)
      (all-weaker (IsChoice least greatest base most done) (λ c. AllByRecursion (AreApart base c) (flat_map (settings most line low n) cs)) between cs x.each);
  whole = whole-more least greatest base most line low n done cs span inside x;
}
  where
    set : (c : List LineStores) → IsChoice least greatest base most done c → AllByRecursion (IsChoice least greatest base most (line ∷ done)) (settings most line low n c)
    set c old = all-weaker (IsSetting most c line low n) (IsChoice least greatest base most (line ∷ done)) (λ new s. choice-set least greatest base most line low n done c new span old s) (settings most line low n c) (all-settings most line low n c)

    between : (c : List LineStores) → IsChoice least greatest base most done c → AllByRecursion (AreApart base c) (flat_map (settings most line low n) cs)
    between c old = all-flat (IsChoice least greatest base most done) (AreApart base c) (settings most line low n)
        (λ d _. all-weaker (IsSetting most d line low n) (AreApart base c) (λ new s. old-new least greatest base most line low n done c d new absent span old s) (settings most line low n d) (all-settings most line low n d)) cs x.each
