-- Texts that end with a byte that they do not have: how a longer one is taken apart.
use Rattle.pmt_page.proofs.Prelude.{◌≡◌, ℕ, List, [], ◌∷◌, ◌++◌, refl, sym, ap, ap₂, append_assoc, ◌∙◌, AllByRecursion, flat_map}

-- The byte is not in the text.
abbrev pub Lacks : ℕ → List ℕ → Type 0
Lacks c text = AllByRecursion (λ b. ¬ (b ≡ c)) text

pub lacks-append : (c : ℕ) (xs ys : List ℕ) → Lacks c xs → Lacks c ys → Lacks c (xs ++ ys)
lacks-append c [] ys one two = two
lacks-append c (x ∷ xs) ys one two = (one.0, lacks-append c xs ys one.1 two)

pub lacks-flat_map : {A : Type 0} (c : ℕ) (spell : A → List ℕ) → ((x : A) → Lacks c (spell x)) → (xs : List A) → Lacks c (flat_map spell xs)
lacks-flat_map c spell each [] = tt
lacks-flat_map c spell each (x ∷ xs) = lacks-append c (spell x) (flat_map spell xs) (each x) (lacks-flat_map c spell each xs)

-- up to the first such byte the texts are the same, and behind it
pub split : (c : ℕ) (xs ys r s : List ℕ) → Lacks c xs → Lacks c ys → xs ++ (c ∷ r) ≡ ys ++ (c ∷ s) → (xs ≡ ys) × (r ≡ s)
split c [] [] r s one two e = (refl, cc)
split c [] (y ∷ ys) r s one two e = let same : c ≡ y = cc in absurd (two.0 (sym same))
split c (x ∷ xs) [] r s one two e = let same : x ≡ c = cc in absurd (one.0 same)
split c (x ∷ xs) (y ∷ ys) r s one two e =
    let first : x ≡ y = cc in
    let others : xs ++ (c ∷ r) ≡ ys ++ (c ∷ s) = cc in
    let rest = split c xs ys r s one.1 two.1 others in
    (ap₂ (λ (z : ℕ) (zs : List ℕ). z ∷ zs) first rest.0, rest.1)

pub strip : (front xs ys : List ℕ) → front ++ xs ≡ front ++ ys → xs ≡ ys
strip [] xs ys e = e
strip (c ∷ front) xs ys e = let others : front ++ xs ≡ front ++ ys = cc in strip front xs ys others

-- up to the quote, and behind what stands there in both
pub next : (key xs ys r s : List ℕ) → Lacks 34 xs → Lacks 34 ys → xs ++ (34 ∷ (key ++ r)) ≡ ys ++ (34 ∷ (key ++ s)) → (xs ≡ ys) × (r ≡ s)
next key xs ys r s one two e =
    let parts = split 34 xs ys (key ++ r) (key ++ s) one two e in
    (parts.0, strip key r s parts.1)

-- ---- The parts one after the other

three : (a b c r : List ℕ) → ((a ++ b) ++ c) ++ r ≡ a ++ (b ++ (c ++ r))
three a b c r = append_assoc (a ++ b) c r ∙ append_assoc a b (c ++ r)

four : (a b c d r : List ℕ) → (((a ++ b) ++ c) ++ d) ++ r ≡ a ++ (b ++ (c ++ (d ++ r)))
four a b c d r = append_assoc ((a ++ b) ++ c) d r ∙ three a b c (d ++ r)

five : (a b c d e r : List ℕ) → ((((a ++ b) ++ c) ++ d) ++ e) ++ r ≡ a ++ (b ++ (c ++ (d ++ (e ++ r))))
five a b c d e r = append_assoc (((a ++ b) ++ c) ++ d) e r ∙ four a b c d (e ++ r)

six : (a b c d e f r : List ℕ) → (((((a ++ b) ++ c) ++ d) ++ e) ++ f) ++ r ≡ a ++ (b ++ (c ++ (d ++ (e ++ (f ++ r)))))
six a b c d e f r = append_assoc ((((a ++ b) ++ c) ++ d) ++ e) f r ∙ five a b c d e (f ++ r)

seven : (a b c d e f g r : List ℕ) → ((((((a ++ b) ++ c) ++ d) ++ e) ++ f) ++ g) ++ r ≡ a ++ (b ++ (c ++ (d ++ (e ++ (f ++ (g ++ r))))))
seven a b c d e f g r = append_assoc (((((a ++ b) ++ c) ++ d) ++ e) ++ f) g r ∙ six a b c d e f (g ++ r)

eight : (a b c d e f g h r : List ℕ) → (((((((a ++ b) ++ c) ++ d) ++ e) ++ f) ++ g) ++ h) ++ r ≡ a ++ (b ++ (c ++ (d ++ (e ++ (f ++ (g ++ (h ++ r)))))))
eight a b c d e f g h r = append_assoc ((((((a ++ b) ++ c) ++ d) ++ e) ++ f) ++ g) h r ∙ seven a b c d e f g (h ++ r)

-- what stands before the last text is two texts, of five parts and of eight
pub parts-append : (a b c d e f g h i j k l m v w : List ℕ) →
    (((((a ++ b) ++ c) ++ d) ++ (((((((e ++ f) ++ g) ++ h) ++ i) ++ j) ++ k) ++ l)) ++ m ++ v) ++ w ≡
    a ++ (b ++ (c ++ (d ++ (e ++ (f ++ (g ++ (h ++ (i ++ (j ++ (k ++ (l ++ (m ++ (v ++ w)))))))))))))
parts-append a b c d e f g h i j k l m v w =
    let ranges : List ℕ = ((((((e ++ f) ++ g) ++ h) ++ i) ++ j) ++ k) ++ l in
    three ((((a ++ b) ++ c) ++ d) ++ ranges) m v w
    ∙ five a b c d ranges (m ++ (v ++ w))
    ∙ ap (λ (rest : List ℕ). a ++ (b ++ (c ++ (d ++ rest)))) (eight e f g h i j k l (m ++ (v ++ w)))
