-- Lists of the numbers that have a property, each once: how long they are.
use Rattle.std.proofs.Common.{◌≡◌, ℕ, ◌+◌, ◌<◌, ◌≤◌, ◌⊎◌, inl, inr, Bool, true, false, List, [], ◌∷◌, ◌++◌, length, refl, sym, ap, ◌∙◌, subst, arith, length-append, eqb-true}
use Rattle.std.proofs.lemmas.Bool.{true≢false, eqb-false}
use Rattle.std.specs.Prelude.{◌==◌, ◌||◌, if◌then◌else◌}
use Rattle.pmt_laws.specs.Prelude.{IsRising, Has, without, has_line, with_line, lines_of, Act, Stores, Flushes, Clflushes, Fences, Asserts, filter}
use Rattle.pmt_laws.proofs.CutLemmas.{has-above}
use Rattle.pmt_laws.proofs.Pigeonhole.{has-without, length-without_member}

-- no number stands twice
abbrev pub Distinct : List ℕ → Type 0
Distinct [] = Unit {0}
Distinct (x ∷ xs) = (Has xs x → ⊥) × Distinct xs

pub rising-distinct : (low : ℕ) (K : List ℕ) → IsRising low K → Distinct K
rising-distinct low [] r = tt
rising-distinct low (k ∷ ks) r = ((λ has. let above : k < k = has-above k ks k r.1 has in absurd (omega arith)), rising-distinct k ks r.1)

-- such a list is no longer than one that has all of it
distinct-le : (xs ys : List ℕ) → Distinct xs → ((k : ℕ) → Has xs k → Has ys k) → length xs ≤ length ys
distinct-le [] ys d within = omega arith
distinct-le (x ∷ xs) ys d within =
    let there : Has ys x = within x (inl refl) in
    let rest : (k : ℕ) → Has xs k → Has (without ys x) k = λ k has. has-without ys x k (λ e. d.0 (subst (Has xs) e has)) (within k (inr has)) in
    omega (arith, length-without_member ys x there, distinct-le xs (without ys x) d.1 rest)

-- ---- Two lists in one

pub has-append : (xs ys : List ℕ) (k : ℕ) → Has (xs ++ ys) k → Has xs k ⊎ Has ys k
has-append [] ys k has = inr has
has-append (x ∷ xs) ys k (inl e) = inl (inl e)
has-append (x ∷ xs) ys k (inr has) = go (has-append xs ys k has)
  where
    go : Has xs k ⊎ Has ys k → Has (x ∷ xs) k ⊎ Has ys k
    go (inl h) = inl (inr h)
    go (inr h) = inr h

has-first : (xs ys : List ℕ) (k : ℕ) → Has xs k → Has (xs ++ ys) k
has-first [] ys k has = absurd has
has-first (x ∷ xs) ys k (inl e) = inl e
has-first (x ∷ xs) ys k (inr has) = inr (has-first xs ys k has)

has-second : (xs ys : List ℕ) (k : ℕ) → Has ys k → Has (xs ++ ys) k
has-second [] ys k has = has
has-second (x ∷ xs) ys k has = inr (has-second xs ys k has)

distinct-append : (xs ys : List ℕ) → Distinct xs → Distinct ys → ((k : ℕ) → Has xs k → Has ys k → ⊥) → Distinct (xs ++ ys)
distinct-append [] ys dx dy apart = dy
distinct-append (x ∷ xs) ys dx dy apart = ((λ has. go (has-append xs ys x has)), distinct-append xs ys dx.1 dy (λ k has. apart k (inr has)))
  where
    go : Has xs x ⊎ Has ys x → ⊥
    go (inl h) = dx.0 h
    go (inr h) = apart x (inl refl) h

-- ---- The lines of a trace

pub has-from_line : (l : ℕ) (lines : List ℕ) → has_line l lines ≡ true → Has lines l
has-from_line l [] is = absurd (true≢false (sym is))
has-from_line l (k ∷ lines) is = go (k == l) refl (has-from_line l lines) is
  where
    go : (b : Bool) → (k == l) ≡ b → (has_line l lines ≡ true → Has lines l) → (b || has_line l lines) ≡ true → Has (k ∷ lines) l
    go true e rest x = inl (eqb-true k l e)
    go false e rest x = inr (rest x)

no-line : (l : ℕ) (lines : List ℕ) → has_line l lines ≡ false → Has lines l → ⊥
no-line l [] is has = has
no-line l (k ∷ lines) is has = go (k == l) refl (no-line l lines) is has
  where
    go : (b : Bool) → (k == l) ≡ b → (has_line l lines ≡ false → Has lines l → ⊥) → (b || has_line l lines) ≡ false → Has (k ∷ lines) l → ⊥
    go true e rest x h = true≢false x
    go false e rest x (inl same) = eqb-false k l e same
    go false e rest x (inr h) = rest x h

with-distinct : (l : ℕ) (lines : List ℕ) → Distinct lines → Distinct (with_line l lines)
with-distinct l lines d = go (has_line l lines) refl
  where
    apart : has_line l lines ≡ false → (k : ℕ) → Has lines k → Has (l ∷ []) k → ⊥
    apart e k has (inl same) = no-line l lines e (subst (Has lines) (sym same) has)
    apart e k has (inr never) = never

    go : (b : Bool) → has_line l lines ≡ b → Distinct (if b then lines else lines ++ l ∷ [])
    go true e = d
    go false e = distinct-append lines (l ∷ []) d ((λ has. has), tt) (apart e)

pub lines-distinct : (h : List Act) → Distinct (lines_of h)
lines-distinct [] = tt
lines-distinct (Stores l w ∷ h) = with-distinct l (lines_of h) (lines-distinct h)
lines-distinct (Flushes t l ∷ h) = with-distinct l (lines_of h) (lines-distinct h)
lines-distinct (Clflushes l ∷ h) = with-distinct l (lines_of h) (lines-distinct h)
lines-distinct (Fences t ∷ h) = lines-distinct h
lines-distinct (Asserts ∷ h) = lines-distinct h

-- ---- What a test leaves

pub filter-keeps : (p : ℕ → Bool) (xs : List ℕ) (k : ℕ) → Has xs k → p k ≡ true → Has (filter p xs) k
filter-keeps p [] k has is = absurd has
filter-keeps p (x ∷ xs) k (inl e) is = let kept : p x ≡ true = ap p e ∙ is in rw kept (inl e)
filter-keeps p (x ∷ xs) k (inr has) is = go (p x) (filter-keeps p xs k has is)
  where
    go : (b : Bool) → Has (filter p xs) k → Has (if b then x ∷ filter p xs else filter p xs) k
    go true h = inr h
    go false h = h

pub filter-has : (p : ℕ → Bool) (xs : List ℕ) (k : ℕ) → Has (filter p xs) k → Has xs k × (p k ≡ true)
filter-has p [] k has = absurd has
filter-has p (x ∷ xs) k has = go (p x) refl (filter-has p xs k) has
  where
    go : (b : Bool) → p x ≡ b → (Has (filter p xs) k → Has xs k × (p k ≡ true)) → Has (if b then x ∷ filter p xs else filter p xs) k → Has (x ∷ xs) k × (p k ≡ true)
    go true e rest (inl same) = (inl same, ap p (sym same) ∙ e)
    go true e rest (inr h) = (inr (rest h).0, (rest h).1)
    go false e rest h = (inr (rest h).0, (rest h).1)

pub distinct-filter : (p : ℕ → Bool) (xs : List ℕ) → Distinct xs → Distinct (filter p xs)
distinct-filter p [] d = tt
distinct-filter p (x ∷ xs) d = go (p x) (distinct-filter p xs d.1)
  where
    go : (b : Bool) → Distinct (filter p xs) → Distinct (if b then x ∷ filter p xs else filter p xs)
    go true rest = ((λ has. d.0 (filter-has p xs x has).0), rest)
    go false rest = rest

-- ---- Lists by property

-- So many numbers have the property.
pub record Listing (P : ℕ → Type 0) (size : ℕ) : Type 0 where
  pub members : List ℕ
  pub many : length members ≡ size
  pub distinct : Distinct members
  pub each : (k : ℕ) → Has members k → P k
  pub all : (k : ℕ) → P k → Has members k

pub same-size : (P : ℕ → Type 0) (m n : ℕ) → Listing P m → Listing P n → m ≡ n
same-size P m n xs ys =
    let up : length xs.members ≤ length ys.members = distinct-le xs.members ys.members xs.distinct (λ k has. ys.all k (xs.each k has)) in
    let down : length ys.members ≤ length xs.members = distinct-le ys.members xs.members ys.distinct (λ k has. xs.all k (ys.each k has)) in
    omega (arith, xs.many, ys.many, up, down)

pub none-listed : (P : ℕ → Type 0) → ((k : ℕ) → P k → ⊥) → Listing P 0
none-listed P none = record { members = []; many = refl; distinct = tt; each = λ k has. absurd has; all = λ k is. absurd (none k is) }

pub one-listed : (P : ℕ → Type 0) (i : ℕ) → P i → ((k : ℕ) → P k → i ≡ k) → Listing P 1
one-listed P i is only = record { members = i ∷ []; many = refl; distinct = ((λ has. has), tt); each = one; all = λ k other. inl (only k other) }
  where
    one : (k : ℕ) → Has (i ∷ []) k → P k
    one k (inl e) = subst P e is
    one k (inr never) = absurd never

pub both-listed : (P Q R : ℕ → Type 0) (m n : ℕ) → Listing P m → Listing Q n → ((k : ℕ) → P k → Q k → ⊥) → ((k : ℕ) → P k → R k) → ((k : ℕ) → Q k → R k) →
    ((k : ℕ) → R k → P k ⊎ Q k) → Listing R (m + n)
both-listed P Q R m n xs ys apart left right split = record {
  members = xs.members ++ ys.members;
  many = omega (arith, length-append xs.members ys.members, xs.many, ys.many);
  distinct = distinct-append xs.members ys.members xs.distinct ys.distinct (λ k one other. apart k (xs.each k one) (ys.each k other));
  each = λ k has. from k (has-append xs.members ys.members k has);
  all = λ k is. into k (split k is);
}
  where
    from : (k : ℕ) → Has xs.members k ⊎ Has ys.members k → R k
    from k (inl h) = left k (xs.each k h)
    from k (inr h) = right k (ys.each k h)

    into : (k : ℕ) → P k ⊎ Q k → Has (xs.members ++ ys.members) k
    into k (inl is) = has-first xs.members ys.members k (xs.all k is)
    into k (inr is) = has-second xs.members ys.members k (ys.all k is)

pub listed-as : (P R : ℕ → Type 0) (m : ℕ) → Listing P m → ((k : ℕ) → P k → R k) → ((k : ℕ) → R k → P k) → Listing R m
listed-as P R m xs there back = record {
  members = xs.members;
  many = xs.many;
  distinct = xs.distinct;
  each = λ k has. there k (xs.each k has);
  all = λ k is. xs.all k (back k is);
}
