-- Texts and values that are pushed piece by piece.
use Rattle.std.proofs.Common.{◌≡◌, ℕ, ◌+◌, ◌<◌, ◌≤◌, List, [], ◌∷◌, ◌++◌, length, get_or, take, drop, map, drop-cons, sym, ap, add-one, ◌∙◌, append_assoc, append-nil}
use Rattle.std.proofs.lemmas.List.{drop_all, map-append, map_more}
use Rattle.std.specs.List.{flat_map}
use Rattle.serde_json.specs.Data.{Data}
use Rattle.serde_json.specs.View.{view}
use Rattle.serde_json.specs.declared.value.Value.{Value}

pub push-on : (s s1 s2 a b : List ℕ) → s1 ≡ s ++ a → s2 ≡ s1 ++ b → s2 ≡ s ++ (a ++ b)
push-on s s1 s2 a b e f = f ∙ ap (λ (t : List ℕ). t ++ b) e ∙ append_assoc s a b

pub pushed-3 : (s s1 s2 s3 a b c : List ℕ) → s1 ≡ s ++ a → s2 ≡ s1 ++ b → s3 ≡ s2 ++ c → s3 ≡ s ++ (a ++ b ++ c)
pushed-3 s s1 s2 s3 a b c e f g = push-on s s2 s3 (a ++ b) c (push-on s s1 s2 a b e f) g

pub pushed-4 : (s s1 s2 s3 s4 a b c d : List ℕ) → s1 ≡ s ++ a → s2 ≡ s1 ++ b → s3 ≡ s2 ++ c → s4 ≡ s3 ++ d → s4 ≡ s ++ (a ++ b ++ c ++ d)
pushed-4 s s1 s2 s3 s4 a b c d e f g h = push-on s s3 s4 (a ++ b ++ c) d (pushed-3 s s1 s2 s3 a b c e f g) h

pub pushed-5 : (s s1 s2 s3 s4 s5 a b c d e : List ℕ) → s1 ≡ s ++ a → s2 ≡ s1 ++ b → s3 ≡ s2 ++ c → s4 ≡ s3 ++ d → s5 ≡ s4 ++ e → s5 ≡ s ++ (a ++ b ++ c ++ d ++ e)
pushed-5 s s1 s2 s3 s4 s5 a b c d e f g h i j = push-on s s4 s5 (a ++ b ++ c ++ d) e (pushed-4 s s1 s2 s3 s4 a b c d f g h i) j

pub pushed-9 : (s s1 s2 s3 s4 s5 s6 s7 s8 s9 a b c d k m n o p : List ℕ) →
    s1 ≡ s ++ a → s2 ≡ s1 ++ b → s3 ≡ s2 ++ c → s4 ≡ s3 ++ d → s5 ≡ s4 ++ k → s6 ≡ s5 ++ m → s7 ≡ s6 ++ n → s8 ≡ s7 ++ o → s9 ≡ s8 ++ p →
    s9 ≡ s ++ (a ++ b ++ c ++ d ++ k ++ m ++ n ++ o ++ p)
pushed-9 s s1 s2 s3 s4 s5 s6 s7 s8 s9 a b c d k m n o p e f g h i j l q r =
    push-on s s8 s9 (a ++ b ++ c ++ d ++ k ++ m ++ n ++ o) p
    (push-on s s7 s8 (a ++ b ++ c ++ d ++ k ++ m ++ n) o
    (push-on s s6 s7 (a ++ b ++ c ++ d ++ k ++ m) n
    (push-on s s5 s6 (a ++ b ++ c ++ d ++ k) m (pushed-5 s s1 s2 s3 s4 s5 a b c d k e f g h i) j) l) q) r

-- The values of the first items, with one more pushed.
pub value-pushed : {A : Type 0} → (f : A → Data) (xs : List A) (i : ℕ) (d : A) (old new : List Value) (v : Value) →
    i < length xs → map view old ≡ map f (take i xs) → view v ≡ f (get_or xs i d) → new ≡ old ++ v ∷ [] →
    map view new ≡ map f (take (i + 1) xs)
value-pushed f xs i d old new v within so-far same pushed =
    ap (map view) pushed
    ∙ map-append view old (v ∷ [])
    ∙ ap (λ (ds : List Data). ds ++ view v ∷ []) so-far
    ∙ ap (λ (e : Data). map f (take i xs) ++ e ∷ []) same
    ∙ sym (map_more f xs i d within)

-- The lines of the items that are left, with one of them pushed.
pub lines-pushed : {A : Type 0} → (f : A → List ℕ) (xs : List A) (i : ℕ) (d : A) (old new all : List ℕ) →
    i < length xs → old ++ flat_map f (drop i xs) ≡ all → new ≡ old ++ f (get_or xs i d) →
    new ++ flat_map f (drop (i + 1) xs) ≡ all
lines-pushed f xs i d old new all within so-far pushed =
    let rest = flat_map f (drop (i + 1) xs) in
    let e : drop i xs ≡ get_or xs i d ∷ drop (i + 1) xs = rw (add-one) (drop-cons xs i d within) in
    ap (λ (t : List ℕ). t ++ rest) pushed
    ∙ append_assoc old (f (get_or xs i d)) rest
    ∙ ap (λ (ys : List _). old ++ flat_map f ys) (sym e)
    ∙ so-far

-- The lines of all items, once none is left.
pub all-pushed : {A : Type 0} → (f : A → List ℕ) (xs : List A) (i : ℕ) (old all : List ℕ) →
    old ++ flat_map f (drop i xs) ≡ all → length xs ≤ i → old ≡ all
all-pushed f xs i old all so-far end =
    sym (append-nil old) ∙ ap (λ (ys : List _). old ++ flat_map f ys) (sym (drop_all i xs end)) ∙ so-far
