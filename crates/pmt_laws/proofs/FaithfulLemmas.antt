-- A selection with the fronts of the trace at a place is faithful there.
use Rattle.std.proofs.Common.{◌≡◌, ℕ, zero, suc, ◌≤◌, nat_lt, ◌-◌, false, if◌then◌else◌, List, ◌∷◌, slice_get, refl, sym, ◌∙◌, ap, subst, arith}
use Rattle.std.proofs.lemmas.Bool.{true≢false}
use Rattle.std.proofs.lemmas.Bool.Decides.{nat_tests}
use Rattle.pmt_laws.specs.Prelude.{Act, Stores, Asserts, count, writes, image_of, Image, Crash, Vectors, Recording, history, front, InBox, always_stays, IsSelection, cut, matching_place}
use Rattle.pmt_laws.specs.ModelLaws.{VectorsAreABox, FrontsDecide}
use Rattle.pmt_laws.proofs.CutLemmas.{next-step, history-zero, count-cut}

-- One more act brings equal bytes to equal bytes, where the counts of stores are equal.
image-same : (persisted : ℕ → ℕ) (b : ℕ) (a : Act) (g h : List Act) → ((l : ℕ) → count l g ≡ count l h) → image_of persisted g b ≡ image_of persisted h b →
    image_of persisted (a ∷ g) b ≡ image_of persisted (a ∷ h) b
image-same persisted b (Stores l w) g h counts e =
    ap (λ n. if nat_lt n (persisted l) then (if writes w b then slice_get w.bytes (b - w.addr) else image_of persisted g b) else image_of persisted g b) (counts l)
    ∙ ap (λ byte. if nat_lt (count l h) (persisted l) then (if writes w b then slice_get w.bytes (b - w.addr) else byte) else byte) e
image-same persisted b a g h counts e = e

-- An act that need not stay writes nothing.
image-dropped : (persisted : ℕ → ℕ) (b : ℕ) (a : Act) (h : List Act) → always_stays a ≡ false → image_of persisted (a ∷ h) b ≡ image_of persisted h b
image-dropped persisted b (Stores l w) h e = absurd (true≢false e)
image-dropped persisted b Asserts h e = absurd (true≢false e)
image-dropped persisted b a h e = refl

-- With the same stores persisted, the cut leaves the same bytes at matching places.
pub image-cut : (T : Recording) (K : List ℕ) (persisted : ℕ → ℕ) (b n : ℕ) → IsSelection T K →
    image_of persisted (history (cut T K) (matching_place K n)) b ≡ image_of persisted (history T n) b
image-cut T K persisted b zero s = ap (λ h. image_of persisted h b) (history-zero T K s)
image-cut T K persisted b (suc nn) s = grind (arith, nat_tests, history-zero, next-step, image-same, count-cut, image-dropped, image-cut T K persisted b nn s)

-- The image names of the persisted stores only how many they are.
pub image-persisted : (p q : ℕ → ℕ) (h : List Act) (b : ℕ) → ((l : ℕ) → p l ≡ q l) → image_of p h b ≡ image_of q h b
image-persisted p q h b e = λ i. image_of (λ l. e l i) h b

-- Histories with equal fronts and equal counts of stores have equal boxes.
box-same : (g h : List Act) → ((l : ℕ) → front l g ≡ front l h) → ((l : ℕ) → count l g ≡ count l h) → (v : ℕ → ℕ) → InBox g v → InBox h v
box-same g h fronts counts v inside =
    λ l. (let P : ℕ → Type 0 = λ f. f ≤ v l in subst P (fronts l) (inside l).0, let Q : ℕ → Type 0 = λ c. v l ≤ c in subst Q (counts l) (inside l).1)

-- They leave the same counts of persisted stores.
pub vectors-same : VectorsAreABox → (g h : List Act) → ((l : ℕ) → front l g ≡ front l h) → ((l : ℕ) → count l g ≡ count l h) → (v : ℕ → ℕ) → Vectors g v → Vectors h v
vectors-same box g h fronts counts v leaves = (box h v).1 (box-same g h fronts counts v ((box g v).0 leaves))

-- They leave the same images, if they write the same.
pub images-same : VectorsAreABox → (g h : List Act) → ((l : ℕ) → front l g ≡ front l h) → ((l : ℕ) → count l g ≡ count l h) →
    ((persisted : ℕ → ℕ) (b : ℕ) → image_of persisted g b ≡ image_of persisted h b) → (image : Image) → Crash g image → Crash h image
images-same box g h fronts counts writes_same image leaves =
    let s = leaves.0 in
    let ends = leaves.1 in
    let same = vectors-same box g h fronts counts s.persisted (s, ends, λ l. refl) in
    let t = same.0 in
    (t, same.1, λ b. ap (λ k. image_of t.persisted k b) same.1.1 ∙ image-persisted t.persisted s.persisted h b same.2 ∙ sym (writes_same s.persisted b) ∙ ap (λ k. image_of s.persisted k b) (sym ends.1) ∙ leaves.2 b)

-- A selection with the fronts of the trace is faithful.
pub fronts_decide : VectorsAreABox → FrontsDecide
fronts_decide box T K n s fronts =
    let whole = history T n in
    let part = history (cut T K) (matching_place K n) in
    let back : (l : ℕ) → front l part ≡ front l whole = λ l. sym (fronts l) in
    let counts : (l : ℕ) → count l part ≡ count l whole = λ l. count-cut T K l n s in
    let forth : (l : ℕ) → count l whole ≡ count l part = λ l. sym (counts l) in
    let bytes : (p : ℕ → ℕ) (b : ℕ) → image_of p part b ≡ image_of p whole b = λ p b. image-cut T K p b n s in
    record {
      images = λ image. (images-same box whole part fronts forth (λ p b. sym (bytes p b)) image, images-same box part whole back counts bytes image);
      vectors = λ v. (vectors-same box whole part fronts forth v, vectors-same box part whole back counts v);
    }
