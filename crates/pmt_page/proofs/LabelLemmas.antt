-- Texts that are found again among the keys of a set of texts.
use Rattle.pmt_page.proofs.Prelude.{◌≡◌, ℕ, zero, suc, ◌<◌, Bool, true, false, List, [], ◌∷◌, ◌++◌, map, length, get_or, Some, slice_get, refl, sym, ap, ◌∙◌, subst, arith, true≢false, if◌then◌else◌, Bor, IsDistinct, map-append, length-map, get_or-map}
use Rattle.std.specs.Option.{option_map}
use Rattle.std.specs.Str.{bytes_eq}
use Rattle.std.proofs.lemmas.Map.Keys.{apart_from_distinct}
use Rattle.std.proofs.lemmas.Option.{slice_get-map, slice_get_within, get_or_from_slice_get}
use Rattle.std.proofs.lemmas.Slice.Eq.{bytes_eq-Decides}

abbrev pub texts_of : List (Bor (List ℕ)) → List (List ℕ)
texts_of keys = map (λ (s : Bor (List ℕ)). s.now) keys

abbrev pub same_text : Bor (List ℕ) → Bor (List ℕ) → Bool
same_text x y = bytes_eq x.now y.now

-- A longer list has the same item at a place.
get_further : {X : Type 0} (xs more : List X) (i : ℕ) (x : X) → slice_get xs i ≡ Some x → slice_get (xs ++ more) i ≡ Some x
get_further [] more i x e = cc
get_further (y ∷ ys) more zero x e = e
get_further (y ∷ ys) more (suc i) x e = get_further ys more i x e

module _ {X L : Type 0} (f : L → X) where
  -- What is found in a list is found in a longer one.
  found_further : (xs more : List X) (places : List ℕ) (labels : List L) → map (slice_get xs) places ≡ map (λ l. Some (f l)) labels
      → map (slice_get (xs ++ more)) places ≡ map (λ l. Some (f l)) labels
  found_further xs more [] [] e = refl
  found_further xs more [] (l ∷ ls) e = e
  found_further xs more (p ∷ ps) [] e = cc
  found_further xs more (p ∷ ps) (l ∷ ls) e =
      let first : slice_get xs p ≡ Some (f l) = cc in
      let later : map (slice_get xs) ps ≡ map (λ m. Some (f m)) ls = cc in
      (λ j. get_further xs more p (f l) first j ∷ found_further xs more ps ls later j)

  -- One more label, whose text is found.
  pub found_next : (xs : List X) (places : List ℕ) (labels : List L) (p : ℕ) (l : L) → map (slice_get xs) places ≡ map (λ m. Some (f m)) labels
      → slice_get xs p ≡ Some (f l) → map (slice_get xs) (places ++ p ∷ []) ≡ map (λ m. Some (f m)) (labels ++ l ∷ [])
  found_next xs places labels p l e here =
      map-append (slice_get xs) places (p ∷ []) ∙ (λ j. e j ++ here j ∷ []) ∙ sym (map-append (λ m. Some (f m)) labels (l ∷ []))

-- Inserting a key keeps what was found.
pub found_still : {L : Type 0} (f : L → List ℕ) (known : Bool) (keys new : List (Bor (List ℕ))) (key : Bor (List ℕ)) (places : List ℕ) (labels : List L)
    → new ≡ (if known then keys else keys ++ key ∷ []) → map (slice_get (texts_of keys)) places ≡ map (λ l. Some (f l)) labels
    → map (slice_get (texts_of new)) places ≡ map (λ l. Some (f l)) labels
found_still f true keys new key places labels is e = subst (λ ks. map (slice_get (texts_of ks)) places ≡ map (λ l. Some (f l)) labels) (sym is) e
found_still f false keys new key places labels is e =
    let more : texts_of new ≡ texts_of keys ++ key.now ∷ [] = ap texts_of is ∙ map-append (λ (s : Bor (List ℕ)). s.now) keys (key ∷ []) in
    subst (λ ts. map (slice_get ts) places ≡ map (λ l. Some (f l)) labels) (sym more) (found_further f (texts_of keys) (key.now ∷ []) places labels e)

-- The key at a place has the text that it was found by.
pub found_at : (keys : List (Bor (List ℕ))) (place : ℕ) (text : List ℕ) (key : Bor (List ℕ)) → slice_get keys place ≡ Some key → bytes_eq text key.now ≡ true
    → slice_get (texts_of keys) place ≡ Some text
found_at keys place text key at same =
    slice_get-map (λ (s : Bor (List ℕ)). s.now) keys place ∙ ap (option_map (λ (s : Bor (List ℕ)). s.now)) at ∙ ap Some (sym ((bytes_eq-Decides text key.now).0 same))

-- No two places have one text.
not_before : (keys : List (Bor (List ℕ))) → IsDistinct same_text keys → (i j : ℕ) (text : List ℕ) → slice_get (texts_of keys) i ≡ Some text → slice_get (texts_of keys) j ≡ Some text → i < j → ⊥
not_before keys distinct i j text at_i at_j before =
    let within : j < length keys = subst (λ n. j < n) (length-map keys (λ (s : Bor (List ℕ)). s.now)) (slice_get_within (texts_of keys) j text at_j) in
    let none : Bor (List ℕ) = record { ref_ptr = (0, 0); now = [] } in
    let text_at = λ (k : ℕ) (at : slice_get (texts_of keys) k ≡ Some text) (inside : k < length keys). sym (get_or-map (λ (s : Bor (List ℕ)). s.now) keys k none [] inside) ∙ get_or_from_slice_get (texts_of keys) k text [] at in
    let same : (get_or keys i none).now ≡ (get_or keys j none).now = text_at i at_i (omega arith) ∙ sym (text_at j at_j within) in
    true≢false (sym ((bytes_eq-Decides (get_or keys i none).now (get_or keys j none).now).1 same) ∙ apart_from_distinct same_text keys i j none distinct before within)

-- Distinct keys have distinct texts.
pub texts-distinct : (keys : List (Bor (List ℕ))) → IsDistinct same_text keys → (i j : ℕ) (text : List ℕ) → slice_get (texts_of keys) i ≡ Some text → slice_get (texts_of keys) j ≡ Some text → i ≡ j
texts-distinct keys distinct i j text at_i at_j =
    let one_way : i < j → ⊥ = not_before keys distinct i j text at_i at_j in
    let other_way : j < i → ⊥ = not_before keys distinct j i text at_j at_i in
    omega arith
