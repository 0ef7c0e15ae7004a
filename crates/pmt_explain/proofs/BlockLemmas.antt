-- The last stores to bytes by blocks: one block more, and a store that is noted.
use Rattle.std.proofs.Common.{◌≡◌, ◌≢◌, ℕ, ◌⊎◌, ◌+◌, ◌*◌, ◌/◌, ◌%◌, ◌-◌, ◌<◌, ◌≤◌, inl, inr, ◌==◌, Bool, true, false, not, List, [], ◌∷◌, ◌++◌, length, get_or, set, Some, refl, sym, ap, subst, ◌∙◌, eqb-true, arith}
use Rattle.std.specs.Prelude.{◌&&◌, if◌then◌else◌, nat_eq, nat_le, nat_lt, slice_get}
use Rattle.std.proofs.lemmas.Bool.{and_from, and_parts, cases_eq, eq-eqb, leb-true, le-leb, lt-ltb, ltb-true}
use Rattle.std.proofs.lemmas.List.{get_or_append_left, get_or_default, get_or_push, get_or-set_other, get_or-set_same, length-append, length-set}
use Rattle.std.proofs.lemmas.Option.{slice_get_within, same_Some}
use Rattle.pmt_laws.specs.Prelude.{Written, IsStore, writes, list_any, IsDistinct}
use Rattle.pmt_tables.specs.Slots.{IsSlotOf, insert_line}
use Rattle.pmt_tables.proofs.ListLemmas.{one-slot, push-cases, get-left, among}
use Rattle.pmt_tables.specs.Lasts.{last_at, is_in, with_store}
use Rattle.pmt_tables.proofs.LineLemmas.{byte-from_writes}
use Rattle.pmt_explain.specs.declared.blocks.Blocks.{Blocks}
use Rattle.pmt_explain.specs.declared.blocks.Stores.{Stores}
use Rattle.pmt_explain.specs.LastStores.{AreBlocks, byte_at, IsAdded, IsKept, Notes, Opens, stores_at, Tells}

-- where a block stands, its byte is told
pub told-at : (t : Blocks) (b x p : ℕ) → AreBlocks t → Tells t b x → IsSlotOf (b / 64) p t.places → byte_at t.words p b ≡ x
told-at t b x p are (inl at) here = let e = one-slot t.places (b / 64) p at.0 are.once here at.1 in ap (λ q. byte_at t.words q b) e ∙ at.2
told-at t b x p are (inr none) here = absurd (none.0 p here)

pub told-none : (t : Blocks) (b x : ℕ) → Tells t b x → ((p : ℕ) → IsSlotOf (b / 64) p t.places → ⊥) → x ≡ 0
told-none t b x (inl at) none = absurd (none at.0 at.1)
told-none t b x (inr out) none = out.1

-- the words of a block that has a place
pub word-within : (t : Blocks) (k p i : ℕ) → AreBlocks t → IsSlotOf k p t.places → i < 8 → p * 8 + i < length t.words
word-within t k p i are at few = omega (arith, few, are.words, slice_get_within t.places p k at)

-- ---- One block more

pub absent : (k : ℕ) (ks : List ℕ) → true ≡ not (list_any (nat_eq k) ks) → (p : ℕ) → IsSlotOf k p ks → ⊥
absent k ks new p at = let e : true ≡ false = subst (λ b. true ≡ not b) (among ks k p at) new in absurd (cc)

pub insert-new : (k : ℕ) (ks : List ℕ) → true ≡ not (list_any (nat_eq k) ks) → insert_line ks k ≡ ks ++ k ∷ []
insert-new k ks new = go (list_any (nat_eq k) ks) new
  where
    go : (b : Bool) → true ≡ not b → (if b then ks else ks ++ k ∷ []) ≡ ks ++ k ∷ []
    go true e = absurd (cc)
    go false e = refl

module _ (k m p : ℕ) (old new : Blocks) (are : AreBlocks old) (once : IsDistinct nat_eq new.places) (here : IsSlotOf k p new.places) (small : p < 4294967296) where
  -- one that is new
  pub opens-new : new.places ≡ old.places ++ k ∷ [] → new.stores.items ≡ old.stores.items ++ record { first = m; last = m } ∷ [] → length new.words ≡ length old.words + 8 →
      ((i j : ℕ) → length old.words ≤ i → i < length new.words → j < 8 → last_at new.words i j ≡ 0) → ((i j : ℕ) → i < length old.words → j < 8 → last_at new.words i j ≡ last_at old.words i j) →
      ((q : ℕ) → IsSlotOf k q old.places → ⊥) → Opens k m p old new
  opens-new places added many none others fresh = record {
    are = record {
      once = once;
      stores = ap length added ∙ length-append old.stores.items (record { first = m; last = m } ∷ []) ∙ ap (λ n. n + 1) are.stores ∙ sym (length-append old.places (k ∷ [])) ∙ ap length (sym places);
      words = many ∙ omega (arith, are.words, ap length places, length-append old.places (k ∷ []));
    };
    here = here;
    small = small;
    told = told;
    stores = stores;
  }
    where
      parts : (j q : ℕ) → IsSlotOf j q new.places → IsSlotOf j q old.places ⊎ ((q ≡ length old.places) × (k ≡ j))
      parts j q at = push-cases old.places k j q (ap (λ ps. slice_get ps q) (sym places) ∙ at)

      told : (b x : ℕ) → Tells old b x → Tells new b x
      told b x (inl at) =
          inl (at.0, ap (λ ps. slice_get ps at.0) places ∙ get-left old.places (k ∷ []) at.0 (b / 64) at.1, others (at.0 * 8 + b / 8 % 8) (b % 8) (word-within old (b / 64) at.0 (b / 8 % 8) are at.1 (omega arith)) (omega arith) ∙ at.2)
      told b x (inr out) = elim (cases_eq (b / 64) k) [
        | inl same ↦
            let from : p ≡ length old.places = elim (parts k p here) [ inl before ↦ absurd (fresh p before) | inr last ↦ last.0 ] in
            inl (p, here ∙ ap Some (sym same), none (p * 8 + b / 8 % 8) (b % 8) (omega (arith, from, are.words)) (omega (arith, from, are.words, many)) (omega arith) ∙ sym out.1)
        | inr other ↦ inr ((λ q at. elim (parts (b / 64) q at) [ inl before ↦ out.0 q before | inr last ↦ other (sym last.1) ]), out.1)
      ]

      stores : (j q : ℕ) → IsSlotOf j q new.places → (IsKept j q old new × ((stores_at new q).last ≡ (stores_at old q).last)) ⊎ ((j ≡ k) × IsAdded j q m old new)
      stores j q at = elim (parts j q at) [
        | inl before ↦
            let within : q < length old.stores.items = omega (arith, slice_get_within old.places q j before, are.stores) in
            let same : stores_at new q ≡ stores_at old q = ap (λ xs. get_or xs q (record { first = 0; last = 0 })) added ∙ get_or_append_left old.stores.items (record { first = m; last = m } ∷ []) (record { first = 0; last = 0 }) q within in
            inl (record { before = before; first = ap (λ (s : Stores). s.first) same }, ap (λ (s : Stores). s.last) same)
        | inr last ↦
            let end : q ≡ length old.stores.items = omega (arith, last.0, are.stores) in
            let same : stores_at new q ≡ record { first = m; last = m } = ap (λ xs. get_or xs q (record { first = 0; last = 0 })) added ∙ get_or_push old.stores.items (record { first = m; last = m }) (record { first = 0; last = 0 }) q (sym end) in
            inr (sym last.1, record { none = subst (λ i. (r : ℕ) → IsSlotOf i r old.places → ⊥) last.1 fresh; first = ap (λ (s : Stores). s.first) same })
      ]

-- ---- A store that is noted

-- which byte of which word the store writes
is-written : (w : Written) (at p b : ℕ) → IsStore w → ((b / 64 ≡ w.addr / 64 → p ≡ at) × (p ≡ at → b / 64 ≡ w.addr / 64)) →
    (((p * 8 + b / 8 % 8) == (at * 8 + w.addr / 8 % 8)) && is_in (w.addr % 8) (w.addr % 8 + length w.bytes) (b % 8)) ≡ writes w b
is-written w at p b store same = go (writes w b) refl
  where
    go : (v : Bool) → writes w b ≡ v → (((p * 8 + b / 8 % 8) == (at * 8 + w.addr / 8 % 8)) && is_in (w.addr % 8) (w.addr % 8 + length w.bytes) (b % 8)) ≡ v
    go true is =
        let in_store = byte-from_writes w b is in
        let block : p ≡ at = same.0 (omega (arith, in_store.0, in_store.1, store.inside)) in
        let word : p * 8 + b / 8 % 8 ≡ at * 8 + w.addr / 8 % 8 = omega (arith, in_store.0, in_store.1, store.inside, block) in
        let low = le-leb (w.addr % 8) (b % 8) (omega (arith, in_store.0, in_store.1, store.inside)) in
        let high = lt-ltb (b % 8) (w.addr % 8 + length w.bytes) (omega (arith, in_store.0, in_store.1, store.inside)) in
        and_from _ _ (eq-eqb _ _ word) (and_from _ _ low high)
    go false is = out (((p * 8 + b / 8 % 8) == (at * 8 + w.addr / 8 % 8)) && is_in (w.addr % 8) (w.addr % 8 + length w.bytes) (b % 8)) refl
      where
        out : (v : Bool) → (((p * 8 + b / 8 % 8) == (at * 8 + w.addr / 8 % 8)) && is_in (w.addr % 8) (w.addr % 8 + length w.bytes) (b % 8)) ≡ v → v ≡ false
        out false e = refl
        out true e =
            let parts = and_parts ((p * 8 + b / 8 % 8) == (at * 8 + w.addr / 8 % 8)) (is_in (w.addr % 8) (w.addr % 8 + length w.bytes) (b % 8)) e in
            let word = eqb-true (p * 8 + b / 8 % 8) (at * 8 + w.addr / 8 % 8) parts.0 in
            let inside = and_parts (nat_le (w.addr % 8) (b % 8)) (nat_lt (b % 8) (w.addr % 8 + length w.bytes)) parts.1 in
            let low = leb-true (w.addr % 8) (b % 8) inside.0 in
            let high = ltb-true (b % 8) (w.addr % 8 + length w.bytes) inside.1 in
            let block : p ≡ at = omega (arith, word) in
            let line = same.1 block in
            let from : w.addr ≤ b = omega (arith, word, block, line, low) in
            let to : b - w.addr < length w.bytes = omega (arith, word, block, line, low, high) in
            sym (and_from (nat_le w.addr b) (nat_lt (b - w.addr) (length w.bytes)) (le-leb w.addr b from) (lt-ltb (b - w.addr) (length w.bytes) to)) ∙ is

module _ (w : Written) (m place a size : ℕ) (old mid new : Blocks) (x : Stores) (store : IsStore w) (addr : a ≡ w.addr) (bytes : size ≡ length w.bytes) (opens : Opens (a / 64) m place old mid)
    (places : new.places ≡ mid.places) (read : x ≡ get_or mid.stores.items place x) (set_last : new.stores.items ≡ set mid.stores.items place (record { first = x.first; last = m })) (many : length new.words ≡ length mid.words)
    (stored : (i k : ℕ) → i < length mid.words → k < 8 → last_at new.words i k ≡ with_store (place * 8 + a / 8 % 8) (a % 8) (a % 8 + size) m (last_at mid.words) i k) where
  abbrev Stored : ℕ → ℕ → Type 0
  Stored b n = (i k : ℕ) → i < length mid.words → k < 8 → last_at new.words i k ≡ with_store (place * 8 + b / 8 % 8) (b % 8) (b % 8 + n) m (last_at mid.words) i k

  here : IsSlotOf (w.addr / 64) place mid.places
  here = subst (λ b. IsSlotOf (b / 64) place mid.places) addr opens.here

  changed : Stored w.addr (length w.bytes)
  changed = subst (λ n. Stored w.addr n) bytes (subst (λ b. Stored b size) addr stored)

  told : (b y : ℕ) → Tells mid b y → Tells new b (if writes w b then m else y)
  told b y (inl (p, at, is)) =
      let one : b / 64 ≡ w.addr / 64 → p ≡ place = λ e. one-slot mid.places (w.addr / 64) p place opens.are.once (at ∙ ap Some e) here in
      let back : p ≡ place → b / 64 ≡ w.addr / 64 = λ e. same_Some (b / 64) (w.addr / 64) (sym at ∙ ap (slice_get mid.places) e ∙ here) in
      inl (
        p,
        ap (λ ps. slice_get ps p) places ∙ at,
        changed (p * 8 + b / 8 % 8) (b % 8) (word-within mid (b / 64) p (b / 8 % 8) opens.are at (omega arith)) (omega arith)
            ∙ ap (λ v. if v then m else byte_at mid.words p b) (is-written w place p b store (one, back)) ∙ ap (λ z. if writes w b then m else z) is,
      )
  told b y (inr out) = inr ((λ p at. out.0 p (ap (λ ps. slice_get ps p) (sym places) ∙ at)), go (writes w b) refl)
    where
      go : (v : Bool) → writes w b ≡ v → (if v then m else y) ≡ 0
      go false e = out.1
      go true e =
          let in_store = byte-from_writes w b e in
          absurd (out.0 place (here ∙ ap Some (omega (arith, in_store.0, in_store.1, store.inside))))

  within : place < length mid.stores.items
  within = omega (arith, slice_get_within mid.places place (w.addr / 64) here, opens.are.stores)

  before : (k p : ℕ) → IsSlotOf k p new.places → IsSlotOf k p mid.places
  before k p at = ap (λ ps. slice_get ps p) (sym places) ∙ at

  own-stores : stores_at new place ≡ record { first = x.first; last = m }
  own-stores = ap (λ xs. get_or xs place (record { first = 0; last = 0 })) set_last ∙ get_or-set_same mid.stores.items place (record { first = x.first; last = m }) (record { first = 0; last = 0 }) within

  own-first : (stores_at new place).first ≡ (stores_at mid place).first
  own-first = ap (λ (s : Stores). s.first) own-stores ∙ ap (λ (s : Stores). s.first) (read ∙ get_or_default mid.stores.items place x (record { first = 0; last = 0 }) within)

  other-stores : (p : ℕ) → (p ≡ place → ⊥) → stores_at new p ≡ stores_at mid p
  other-stores p apart = ap (λ xs. get_or xs p (record { first = 0; last = 0 })) set_last ∙ get_or-set_other mid.stores.items place p (record { first = x.first; last = m }) (record { first = 0; last = 0 }) apart

  own : (p : ℕ) → IsSlotOf (w.addr / 64) p new.places → ((stores_at new p).last ≡ m) × (IsKept (w.addr / 64) p old new ⊎ IsAdded (w.addr / 64) p m old new)
  own p at =
      let e : p ≡ place = one-slot mid.places (w.addr / 64) p place opens.are.once (before (w.addr / 64) p at) here in
      let first : (stores_at new p).first ≡ (stores_at mid p).first = subst (λ q. (stores_at new q).first ≡ (stores_at mid q).first) (sym e) own-first in (
        subst (λ q. (stores_at new q).last ≡ m) (sym e) (ap (λ (s : Stores). s.last) own-stores),
        elim (opens.stores (w.addr / 64) p (before (w.addr / 64) p at)) [
          | inl kept ↦ inl (record { before = kept.0.before; first = first ∙ kept.0.first })
          | inr added ↦ inr (record { none = added.1.none; first = first ∙ added.1.first })
        ],
      )

  others : (k p : ℕ) → k ≢ w.addr / 64 → IsSlotOf k p new.places → IsKept k p old new × ((stores_at new p).last ≡ (stores_at old p).last)
  others k p apart at =
      let same : stores_at new p ≡ stores_at mid p = other-stores p (λ e. apart (same_Some k (w.addr / 64) (sym (before k p at) ∙ ap (slice_get mid.places) e ∙ here))) in
      elim (opens.stores k p (before k p at)) [
        | inl kept ↦ (record { before = kept.0.before; first = ap (λ (s : Stores). s.first) same ∙ kept.0.first }, ap (λ (s : Stores). s.last) same ∙ kept.1)
        | inr added ↦ absurd (apart (added.0 ∙ ap (λ b. b / 64) addr))
      ]

  pub notes : Notes w m old new
  notes = record {
    is_store = store;
    are = record {
      once = subst (IsDistinct nat_eq) (sym places) opens.are.once;
      stores = ap length set_last ∙ length-set mid.stores.items place (record { first = x.first; last = m }) ∙ opens.are.stores ∙ ap length (sym places);
      words = many ∙ opens.are.words ∙ ap (λ ps. length ps * 8) (sym places);
    };
    told = λ b y tells. told b y (opens.told b y tells);
    own = own;
    others = others;
  }
