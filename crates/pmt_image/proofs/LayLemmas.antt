-- Stores laid over bytes.
use Rattle.pmt_image.proofs.Prelude.{◌≡◌, ℕ, ◌+◌, ◌-◌, ◌<◌, ◌≤◌, ◌⊎◌, inl, inr, Bool, true, false, List, [], ◌∷◌, length, get_or, take, set, reverse, max, min, Option, refl, sym, ap, ◌∙◌, arith, length-set, get_or-set_same, get_or-set_other, leb-true, ltb-true, if◌then◌else◌, nat_le, nat_lt, slice_get, unwrap_or, cases_lt, cases_eq, le-leb, lt-ltb, and_parts, and_from, take_more, reverse-append, slice_get-get_or, Written, Image, writes, write, written_by, over}
use Rattle.pmt_image.proofs.OverLemmas.{over-from_each}

-- ---- One store, byte by byte

-- the bytes of the store from low to below address are laid, and nothing else is changed
pub record IsLaid (at : ℕ) (w : Written) (low address : ℕ) (old new : List ℕ) : Type 0 where
  pub size : length new ≡ length old
  pub laid : (k : ℕ) → k < length old → low ≤ at + k → at + k < address → get_or new k 0 ≡ get_or w.bytes (at + k - w.addr) 0
  pub others : (k : ℕ) → k < length old → (at + k < low) ⊎ (address ≤ at + k) → get_or new k 0 ≡ get_or old k 0

pub laid-none : (at : ℕ) (w : Written) (low : ℕ) (old : List ℕ) → IsLaid at w low low old old
laid-none at w low old = record { size = refl; laid = λ k within above below. absurd (omega arith); others = λ k within apart. refl }

-- one more byte
pub laid-next : (at : ℕ) (w : Written) (low address : ℕ) (old new : List ℕ) (b : ℕ) → low ≤ address → at ≤ address → address - at < length old → b ≡ get_or w.bytes (address - w.addr) 0 →
    IsLaid at w low address old new → IsLaid at w low (address + 1) old (set new (address - at) b)
laid-next at w low address old new b from inside within is x = record {
  size = length-set new (address - at) b ∙ x.size;
  laid = λ k fits above below. elim (cases_eq k (address - at)) [
    | inl same ↦ let e : address ≡ at + k = omega arith in
        ap (λ j. get_or (set new (address - at) b) j 0) same ∙ get_or-set_same new (address - at) b 0 (omega (arith, x.size)) ∙ is ∙ ap (λ a. get_or w.bytes (a - w.addr) 0) e
    | inr apart ↦ get_or-set_other new (address - at) k b 0 apart ∙ x.laid k fits above (omega arith)
  ];
  others = λ k fits apart. get_or-set_other new (address - at) k b 0 (elim apart [ inl below ↦ λ e. absurd (omega arith) | inr above ↦ λ e. absurd (omega arith) ]) ∙ x.others k fits (elim apart [ inl below ↦ inl below | inr above ↦ inr (omega arith) ]);
}

-- all bytes of a store
abbrev laid_at : ℕ → Written → List ℕ → ℕ → ℕ
laid_at at w old k = if writes w (at + k) then get_or w.bytes (at + k - w.addr) 0 else get_or old k 0

pub laid-all : (at low high address : ℕ) (w : Written) (old new : List ℕ) → low ≡ max w.addr at → high ≡ min (w.addr + length w.bytes) (at + length old) →
    IsLaid at w low address old new → low ≤ address → high ≤ address → (address ≡ low) ⊎ (address ≤ high) → (k : ℕ) → k < length old → get_or new k 0 ≡ laid_at at w old k
laid-all at low high address w old new lowest highest x from upto end k fits = go (writes w (at + k)) refl
  where
    go : (t : Bool) → writes w (at + k) ≡ t → get_or new k 0 ≡ (if t then get_or w.bytes (at + k - w.addr) 0 else get_or old k 0)
    go true is =
        let both = and_parts (nat_le w.addr (at + k)) (nat_lt (at + k - w.addr) (length w.bytes)) is in
        let above = leb-true w.addr (at + k) both.0 in
        let below = ltb-true (at + k - w.addr) (length w.bytes) both.1 in
        x.laid k fits (omega arith) (omega arith)
    go false is = elim (cases_lt (at + k) w.addr) [
      | inl before ↦ x.others k fits (inl (omega arith))
      | inr from_start ↦ elim (cases_lt (at + k) (w.addr + length w.bytes)) [
        | inl inside ↦
            let yes_both = and_from (nat_le w.addr (at + k)) (nat_lt (at + k - w.addr) (length w.bytes)) (le-leb w.addr (at + k) from_start) (lt-ltb (at + k - w.addr) (length w.bytes) (omega arith)) in
            cc
        | inr past ↦ elim end [
          | inl none ↦ elim (cases_lt (at + k) low) [ inl less ↦ x.others k fits (inl less) | inr more ↦ x.others k fits (inr (omega arith)) ]
          | inr some ↦ x.others k fits (inr (omega arith))
        ]
      ]
    ]

-- ---- Stores one after another

-- the first n stores are laid
pub record AreLaid (at : ℕ) (stores : List Written) (n : ℕ) (old new : List ℕ) : Type 0 where
  pub size : length new ≡ length old
  pub each : (k : ℕ) → k < length old → get_or new k 0 ≡ unwrap_or (written_by (reverse (take n stores)) (at + k)) (get_or old k 0)

pub are_laid-none : (at : ℕ) (stores : List Written) (old : List ℕ) → AreLaid at stores 0 old old
are_laid-none at [] old = record { size = refl; each = λ k within. refl }
are_laid-none at (w ∷ ws) old = record { size = refl; each = λ k within. refl }

-- what is laid of a store that writes the byte
laid-written : (w : Written) (image : Image) (a x b : ℕ) → x ≡ unwrap_or (image a) b → (if writes w a then get_or w.bytes (a - w.addr) 0 else x) ≡ unwrap_or (write w image a) b
laid-written w image a x b is = go (writes w a) refl
  where
    go : (t : Bool) → writes w a ≡ t → (if t then get_or w.bytes (a - w.addr) 0 else x) ≡ unwrap_or (if t then slice_get w.bytes (a - w.addr) else image a) b
    go true yes_it =
        let both = and_parts (nat_le w.addr a) (nat_lt (a - w.addr) (length w.bytes)) yes_it in
        let below = ltb-true (a - w.addr) (length w.bytes) both.1 in
        ap (λ (o : Option ℕ). unwrap_or o b) (sym (slice_get-get_or w.bytes (a - w.addr) 0 below))
    go false no_it = is

-- the stores, the last one first, with one more
one-more : (stores : List Written) (n : ℕ) (w : Written) → n < length stores → get_or stores n w ≡ w → reverse (take (n + 1) stores) ≡ w ∷ reverse (take n stores)
one-more stores n w within is =
    ap reverse (take_more stores n w within) ∙ reverse-append (take n stores) (get_or stores n w ∷ []) ∙ ap (λ x. x ∷ reverse (take n stores)) is

pub are_laid-next : (at : ℕ) (stores : List Written) (n : ℕ) (w : Written) (old mid new : List ℕ) → n < length stores → get_or stores n w ≡ w → length new ≡ length mid →
    ((k : ℕ) → k < length mid → get_or new k 0 ≡ laid_at at w mid k) → AreLaid at stores n old mid → AreLaid at stores (n + 1) old new
are_laid-next at stores n w old mid new within is size each x = record {
  size = size ∙ x.size;
  each = λ k fits.
      each k (omega (arith, x.size)) ∙ laid-written w (written_by (reverse (take n stores))) (at + k) (get_or mid k 0) (get_or old k 0) (x.each k fits)
      ∙ ap (λ (ws : List Written). unwrap_or (written_by ws (at + k)) (get_or old k 0)) (sym (one-more stores n w within is));
}

pub are_laid-all : (at : ℕ) (stores : List Written) (n : ℕ) (old new : List ℕ) → take n stores ≡ stores → AreLaid at stores n old new → new ≡ over (written_by (reverse stores)) at old
are_laid-all at stores n old new all x =
    over-from_each (written_by (reverse stores)) at new old x.size (λ k fits. x.each k fits ∙ ap (λ (ws : List Written). unwrap_or (written_by (reverse ws) (at + k)) (get_or old k 0)) all)
