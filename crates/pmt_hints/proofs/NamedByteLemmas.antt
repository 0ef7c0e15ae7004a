-- Bytes that assertions name: those of one block more, those that are added and those that a store takes out.
use Rattle.std.proofs.Common.{◌≡◌, ◌≢◌, ℕ, zero, suc, ◌+◌, ◌-◌, ◌*◌, ◌/◌, ◌%◌, ◌^◌, ◌<◌, ◌≤◌, ◌⊎◌, inl, inr, Bool, true, false, List, [], ◌∷◌, ◌++◌, drop, length, get_or, set, take, Some, refl, sym, ap, subst, ◌∙◌, arith}
use Rattle.std.specs.Prelude.{◌↔◌, ◌||◌, nat_eq, nat_le, nat_lt, replicate, slice_get}
use Rattle.pmt_laws.specs.Prelude.{IsDistinct, Written, IsStore, writes}
use Rattle.std.proofs.lemmas.Bool.{and_from, cases_eq, cases_lt, false≢true, le-leb, lt-ltb, or_left, or_right}
use Rattle.std.proofs.lemmas.List.{append-nil, drop_all, get_or_append_left, get_or_default, get_or-append_right, get_or_past, get_or-set_other, get_or-set_same, length-append, length-replicate, length-set, take_all}
use Rattle.std.proofs.lemmas.Option.{same_Some, slice_get_within}
use Rattle.pmt_tables.specs.Slots.{IsSlotOf}
use Rattle.pmt_tables.proofs.LineLemmas.{byte-from_writes}
use Rattle.pmt_tables.proofs.ListLemmas.{get-left, one-slot, push-cases}
use Rattle.pmt_hints.specs.declared.named_bytes.NamedBytes.{NamedBytes}
use Rattle.pmt_hints.specs.NamedBytes.{Adds, AreNamedBytes, HasByte, IsFilled, Opens, Takes}

-- ---- Flags that get a value

abbrev pub IsAnyIn : ℕ → ℕ → List Bool → Type 0
IsAnyIn low high flags = (k : ℕ) × (low ≤ k) × (k < high) × (get_or flags k false ≡ true)

pub filled-none : (value : Bool) (low : ℕ) (flags : List Bool) → IsFilled value low low flags flags
filled-none value low flags = record { size = refl; inside = λ k more less. absurd (omega arith); outside = λ k out. refl }

pub filled-more : (value : Bool) (low i : ℕ) (old now : List Bool) → low ≤ i → i < length now → IsFilled value low i old now → IsFilled value low (i + 1) old (set now i value)
filled-more value low i old now from within x = record {
  size = length-set now i value ∙ x.size;
  inside = λ k more less. elim (cases_eq k i) [
    | inl here ↦ ap (λ j. get_or (set now i value) j false) here ∙ get_or-set_same now i value false within
    | inr apart ↦ get_or-set_other now i k value false apart ∙ x.inside k more (omega (arith, less, apart))
  ];
  outside = λ k out. elim out [
    | inl before ↦ get_or-set_other now i k value false (λ here. absurd (omega (arith, before, here, from))) ∙ x.outside k (inl before)
    | inr past ↦ get_or-set_other now i k value false (λ here. absurd (omega (arith, past, here))) ∙ x.outside k (inr (omega (arith, past)))
  ];
}

pub any-none : (low : ℕ) (flags : List Bool) → (false ≡ true) ↔ IsAnyIn low low flags
any-none low flags = (λ e. absurd (false≢true e), λ h. absurd (omega (arith, h.1, h.2)))

pub any-more : (value : Bool) (low i : ℕ) (old now : List Bool) (a : Bool) → low ≤ i → IsFilled value low i old now → (a ≡ true) ↔ IsAnyIn low i old → ((a || get_or now i false) ≡ true) ↔ IsAnyIn low (i + 1) old
any-more value low i old now a from x tells = (there a refl (get_or now i false) refl, back)
  where
    same : get_or now i false ≡ get_or old i false
    same = x.outside i (inr (omega arith))

    there : (b : Bool) → a ≡ b → (c : Bool) → get_or now i false ≡ c → (b || c) ≡ true → IsAnyIn low (i + 1) old
    there true on c is e = let h = tells.0 on in (h.0, h.1, omega (arith, h.2), h.3)
    there false off true is e = (i, from, omega arith, sym same ∙ is)
    there false off false is e = absurd (false≢true e)

    back : IsAnyIn low (i + 1) old → (a || get_or now i false) ≡ true
    back h = elim (cases_eq h.0 i) [
      | inl here ↦ or_right a (get_or now i false) (same ∙ ap (λ j. get_or old j false) (sym here) ∙ h.3)
      | inr apart ↦ or_left a (get_or now i false) (tells.1 (h.0, h.1, omega (arith, h.2, apart), h.3))
    ]

-- flags that were lent come back as they are then
pub flags-back : (len : ℕ) (xs items : List Bool) → length xs ≡ len → length items ≡ len → take len (xs ++ drop (length xs) items) ≡ xs
flags-back len xs items long whole = ap (λ ys. take len (xs ++ ys)) (drop_all (length xs) items (omega arith)) ∙ ap (take len) (append-nil xs) ∙ take_all len xs (omega arith)

-- flags that are filled up with some that are not set
pub flags-more : (xs now : List Bool) (n len : ℕ) → now ≡ take n xs ++ replicate (n - len) false → n ≡ length xs + 64 → len ≡ length xs → now ≡ xs ++ replicate 64 false
flags-more xs now n len is size whole =
    let more : n - len ≡ 64 = omega (arith, size, whole) in
    is ∙ ap (λ ys. ys ++ replicate (n - len) false) (take_all n xs (omega (arith, size))) ∙ ap (λ m. xs ++ replicate m false) more

-- ---- Blocks

pub opens-known : (t : NamedBytes) (block place : ℕ) → AreNamedBytes t → IsSlotOf block place t.blocks → place < 2 ^ 32 → Opens block place t t
opens-known t block place are here small = record { are = are; here = here; small = small; told = λ b. (λ h. h, λ h. h) }

-- flags of which none is set change none
get-false : (n i : ℕ) → get_or (replicate n false) i false ≡ false
get-false zero i = refl
get-false (suc n) zero = refl
get-false (suc n) (suc i) = get-false n i

get-more : (xs : List Bool) (n i : ℕ) → get_or (xs ++ replicate n false) i false ≡ get_or xs i false
get-more xs n i = elim (cases_lt i (length xs)) [
  | inl within ↦ get_or_append_left xs (replicate n false) false i within
  | inr past ↦ get_or-append_right xs (replicate n false) (length xs) i false refl past ∙ get-false n (i - length xs) ∙ sym (get_or_past xs i false past)
]

-- one block more
pub opens-new : (t u : NamedBytes) (block place : ℕ) → AreNamedBytes t → IsDistinct nat_eq u.blocks → IsSlotOf block place u.blocks → place < 2 ^ 32 → u.blocks ≡ t.blocks ++ block ∷ [] →
    u.flags.items ≡ t.flags.items ++ replicate 64 false → u.whole.items ≡ t.whole.items ++ replicate 1 false → Opens block place t u
opens-new t u block place are once here small blocks flags whole = record {
  are = record {
    once = once;
    flags = omega (arith, ap (λ bs. length bs) flags, length-append t.flags.items (replicate 64 false), length-replicate 64 false, are.flags, ap (λ ks. length ks) blocks, length-append t.blocks (block ∷ []));
    whole = omega (arith, ap (λ bs. length bs) whole, length-append t.whole.items (replicate 1 false), length-replicate 1 false, are.whole, ap (λ ks. length ks) blocks, length-append t.blocks (block ∷ []));
    full = λ p k few on. flag (p * 64 + k) ∙ are.full p k few (sym (ap (λ bs. get_or bs p false) whole ∙ get-more t.whole.items 1 p) ∙ on);
  };
  here = here;
  small = small;
  told = λ b. (there b, λ h. (h.0, ap (λ ks. slice_get ks h.0) blocks ∙ get-left t.blocks (block ∷ []) h.0 (b / 64) h.1, flag (h.0 * 64 + b % 64) ∙ h.2));
}
  where
    flag : (i : ℕ) → get_or u.flags.items i false ≡ get_or t.flags.items i false
    flag i = ap (λ bs. get_or bs i false) flags ∙ get-more t.flags.items 64 i

    there : (b : ℕ) → HasByte u b → HasByte t b
    there b h =
        let on : get_or t.flags.items (h.0 * 64 + b % 64) false ≡ true = sym (flag (h.0 * 64 + b % 64)) ∙ h.2 in
        elim (push-cases t.blocks block (b / 64) h.0 (ap (λ ks. slice_get ks h.0) (sym blocks) ∙ h.1)) [
          | inl before ↦ (h.0, before, on)
          | inr last ↦ absurd (false≢true (sym (get_or_past t.flags.items (h.0 * 64 + b % 64) false (omega (arith, are.flags, last.0))) ∙ on))
        ]

-- ---- Bytes that are added

pub adds-same : (P Q : ℕ → Type 0) (old new : NamedBytes) → ((b : ℕ) → P b ↔ Q b) → Adds P old new → Adds Q old new
adds-same P Q old new same x = record {
  are = x.are;
  told = λ b. (
    λ h. elim ((x.told b).0 h) [ inl has ↦ inl has | inr p ↦ inr ((same b).0 p) ],
    λ h. (x.told b).1 (elim h [ inl has ↦ inl has | inr q ↦ inr ((same b).1 q) ]),
  );
}

pub adds-then : (P Q R : ℕ → Type 0) (a b c : NamedBytes) → ((k : ℕ) → (P k ⊎ Q k) ↔ R k) → Adds P a b → Adds Q b c → Adds R a c
adds-then P Q R a b c both x y = record {
  are = y.are;
  told = λ k. (
    λ h. elim ((y.told k).0 h) [
      | inl mid ↦ elim ((x.told k).0 mid) [ inl has ↦ inl has | inr p ↦ inr ((both k).0 (inl p)) ]
      | inr q ↦ inr ((both k).0 (inr q))
    ],
    λ h. (y.told k).1 (elim h [
      | inl has ↦ inl ((x.told k).1 (inl has))
      | inr r ↦ elim ((both k).1 r) [ inl p ↦ inl ((x.told k).1 (inr p)) | inr q ↦ inr q ]
    ]),
  );
}

-- the bytes of a range that are of the first blocks
abbrev pub IsBelow : ℕ → ℕ → ℕ → ℕ → Type 0
IsBelow low high bound b = (low ≤ b) × (b < high) × (b < bound)

pub below-more : (low high block start end : ℕ) (a b c : NamedBytes) → low ≤ start → block * 64 ≤ start → end ≤ high → end ≤ block * 64 + 64 → ((x : ℕ) → low ≤ x → block * 64 ≤ x → start ≤ x) → ((x : ℕ) → x < high → x < block * 64 + 64 → x < end) →
    Adds (IsBelow low high (block * 64)) a b → Adds (λ k. (start ≤ k) × (k < end)) b c → Adds (IsBelow low high ((block + 1) * 64)) a c
below-more low high block start end a b c from own to within after before x y =
    adds-then (IsBelow low high (block * 64)) (λ k. (start ≤ k) × (k < end)) (IsBelow low high ((block + 1) * 64)) a b c (λ k. (there k, back k)) x y
  where
    there : (k : ℕ) → IsBelow low high (block * 64) k ⊎ ((start ≤ k) × (k < end)) → IsBelow low high ((block + 1) * 64) k
    there k (inl h) = (h.0, h.1, omega (arith, h.2))
    there k (inr h) = (omega (arith, from, h.0), omega (arith, to, h.1), omega (arith, within, h.1))

    back : (k : ℕ) → IsBelow low high ((block + 1) * 64) k → IsBelow low high (block * 64) k ⊎ ((start ≤ k) × (k < end))
    back k h = elim (cases_lt k (block * 64)) [
      | inl below ↦ inl (h.0, h.1, below)
      | inr past ↦ inr (after k h.0 past, before k h.1 (omega (arith, h.2)))
    ]

pub below-all : (low high bound : ℕ) (old new : NamedBytes) → high ≤ bound → Adds (IsBelow low high bound) old new → Adds (λ b. (low ≤ b) × (b < high)) old new
below-all low high bound old new past x = adds-same (IsBelow low high bound) (λ b. (low ≤ b) × (b < high)) old new (λ b. (λ h. (h.0, h.1), λ h. (h.0, h.1, omega (arith, past, h.1)))) x

-- in the block that stands at this place
module _ (block place low high : ℕ) (old mid : NamedBytes) (opens : Opens block place old mid) (from : block * 64 ≤ low) (to : high ≤ block * 64 + 64) where
  -- a byte of the block
  own : (b : ℕ) → low ≤ b → b < high → IsSlotOf (b / 64) place mid.blocks
  own b more less = let same : b / 64 ≡ block = omega (arith, from, to, more, less) in subst (λ k. IsSlotOf k place mid.blocks) (sym same) opens.here

  pub within : place < length mid.whole.items
  within = omega (arith, slice_get_within mid.blocks place block opens.here, opens.are.whole)

  -- that is whole
  pub adds-whole : (x : Bool) → x ≡ get_or mid.whole.items place x → x ≡ true → Adds (λ b. (low ≤ b) × (b < high)) old mid
  adds-whole x read on = record {
    are = opens.are;
    told = λ b. (
      λ h. inl ((opens.told b).0 h),
      λ h. elim h [
        | inl has ↦ (opens.told b).1 has
        | inr new ↦ (place, own b new.0 new.1, opens.are.full place (b % 64) (omega arith) (sym (read ∙ get_or_default mid.whole.items place x false within) ∙ on))
      ],
    );
  }

  module _ (new : NamedBytes) (whole : Bool) (some : low ≤ high) (blocks : new.blocks ≡ mid.blocks) (set_whole : new.whole.items ≡ set mid.whole.items place whole) (is_whole : whole ≡ true → high - low ≡ 64)
      (lent now : List Bool) (was : lent ≡ mid.flags.items) (is : new.flags.items ≡ now) (put : IsFilled true (place * 64 + (low - block * 64)) (place * 64 + (high - block * 64)) lent now) where
    abbrev first : ℕ
    first = place * 64 + (low - block * 64)

    abbrev past : ℕ
    past = place * 64 + (high - block * 64)

    filled : IsFilled true (place * 64 + (low - block * 64)) (place * 64 + (high - block * 64)) mid.flags.items new.flags.items
    filled = subst (λ xs. IsFilled true first past xs new.flags.items) was (subst (λ ys. IsFilled true first past lent ys) (sym is) put)

    kept : (i : ℕ) → get_or mid.flags.items i false ≡ true → get_or new.flags.items i false ≡ true
    kept i on = elim (cases_lt i first) [
      | inl before ↦ filled.outside i (inl before) ∙ on
      | inr more ↦ elim (cases_lt i past) [ inl less ↦ filled.inside i more less | inr after ↦ filled.outside i (inr after) ∙ on ]
    ]

    full : (p k : ℕ) → k < 64 → get_or new.whole.items p false ≡ true → get_or new.flags.items (p * 64 + k) false ≡ true
    full p k few on = elim (cases_eq p place) [
      | inl here ↦
          let value : get_or new.whole.items p false ≡ whole = ap (λ bs. get_or bs p false) set_whole ∙ ap (λ q. get_or (set mid.whole.items place whole) q false) here ∙ get_or-set_same mid.whole.items place whole false within in
          let all = is_whole (sym value ∙ on) in
          filled.inside (p * 64 + k) (omega (arith, here, all, from, to, few)) (omega (arith, here, all, from, to, few))
      | inr apart ↦ kept (p * 64 + k) (opens.are.full p k few (sym (get_or-set_other mid.whole.items place p whole false apart) ∙ ap (λ bs. get_or bs p false) (sym set_whole) ∙ on))
    ]

    there : (b : ℕ) → HasByte new b → HasByte mid b ⊎ ((low ≤ b) × (b < high))
    there b h =
        let at : IsSlotOf (b / 64) h.0 mid.blocks = ap (λ ks. slice_get ks h.0) (sym blocks) ∙ h.1 in
        let i : ℕ = h.0 * 64 + b % 64 in
        elim (cases_lt i first) [
          | inl before ↦ inl (h.0, at, sym (filled.outside i (inl before)) ∙ h.2)
          | inr more ↦ elim (cases_lt i past) [
            | inl less ↦
                let here : h.0 ≡ place = omega (arith, more, less, from, to) in
                let same : b / 64 ≡ block = same_Some (b / 64) block (sym at ∙ ap (λ q. slice_get mid.blocks q) here ∙ opens.here) in
                inr (omega (arith, more, here, same, from), omega (arith, less, here, same, from))
            | inr after ↦ inl (h.0, at, sym (filled.outside i (inr after)) ∙ h.2)
          ]
        ]

    back : (b : ℕ) → HasByte mid b ⊎ ((low ≤ b) × (b < high)) → HasByte new b
    back b (inl h) = (h.0, ap (λ ks. slice_get ks h.0) blocks ∙ h.1, kept (h.0 * 64 + b % 64) h.2)
    back b (inr h) = (
      place,
      ap (λ ks. slice_get ks place) blocks ∙ own b h.0 h.1,
      filled.inside (place * 64 + b % 64) (omega (arith, h.0, h.1, from, to)) (omega (arith, h.0, h.1, from, to)),
    )

    -- the others get flags
    pub adds-part : Adds (λ b. (low ≤ b) × (b < high)) old new
    adds-part = record {
      are = record {
        once = subst (IsDistinct nat_eq) (sym blocks) opens.are.once;
        flags = filled.size ∙ opens.are.flags ∙ ap (λ ks. length ks * 64) (sym blocks);
        whole = ap (λ bs. length bs) set_whole ∙ length-set mid.whole.items place whole ∙ opens.are.whole ∙ ap (λ ks. length ks) (sym blocks);
        full = full;
      };
      told = λ b. (
        λ h. elim (there b h) [ inl has ↦ inl ((opens.told b).0 has) | inr own ↦ inr own ],
        λ h. back b (elim h [ inl has ↦ inl ((opens.told b).1 has) | inr own ↦ inr own ]),
      );
    }

-- ---- Bytes that a store takes out

byte-writes : (w : Written) (b : ℕ) → w.addr ≤ b → b < w.addr + length w.bytes → writes w b ≡ true
byte-writes w b from to = and_from (nat_le w.addr b) (nat_lt (b - w.addr) (length w.bytes)) (le-leb w.addr b from) (lt-ltb (b - w.addr) (length w.bytes) (omega (arith, from, to)))

not-written : (w : Written) (b : ℕ) → (writes w b ≡ true → ⊥) → writes w b ≡ false
not-written w b not = go (writes w b) refl
  where
    go : (v : Bool) → writes w b ≡ v → v ≡ false
    go true is = absurd (not is)
    go false is = refl

module _ (w : Written) (t : NamedBytes) (store : IsStore w) (are : AreNamedBytes t) where
  block-of : (b : ℕ) → writes w b ≡ true → b / 64 ≡ w.addr / 64
  block-of b on = let at = byte-from_writes w b on in omega (arith, at.0, at.1, store.inside)

  -- its block has no place
  pub takes-none : ((p : ℕ) → IsSlotOf (w.addr / 64) p t.blocks → ⊥) → Takes w t false t
  takes-none none = record {
    are = are;
    any = (λ e. absurd (false≢true e), λ h. absurd (out h.0 h.1 h.2));
    told = λ b. (λ h. (h, not-written w b (λ on. out b on h)), λ h. h.0);
  }
    where
      out : (b : ℕ) → writes w b ≡ true → HasByte t b → ⊥
      out b on h = none h.0 (subst (λ k. IsSlotOf k h.0 t.blocks) (block-of b on) h.1)

  -- its block stands at this place
  module _ (u : NamedBytes) (place : ℕ) (is_any : Bool) (here : IsSlotOf (w.addr / 64) place t.blocks) (blocks : u.blocks ≡ t.blocks) (set_whole : u.whole.items ≡ set t.whole.items place false)
      (any : (is_any ≡ true) ↔ IsAnyIn (place * 64 + w.addr % 64) (place * 64 + w.addr % 64 + length w.bytes) t.flags.items)
      (filled : IsFilled false (place * 64 + w.addr % 64) (place * 64 + w.addr % 64 + length w.bytes) t.flags.items u.flags.items) where
    abbrev start : ℕ
    start = place * 64 + w.addr % 64

    abbrev end : ℕ
    end = place * 64 + w.addr % 64 + length w.bytes

    at-place : (b p : ℕ) → writes w b ≡ true → IsSlotOf (b / 64) p t.blocks → p ≡ place
    at-place b p on at = one-slot t.blocks (w.addr / 64) p place are.once (subst (λ k. IsSlotOf k p t.blocks) (block-of b on) at) here

    -- its flags are those of its bytes
    into : (b p : ℕ) → writes w b ≡ true → p ≡ place → (start ≤ p * 64 + b % 64) × (p * 64 + b % 64 < end)
    into b p on same = let at = byte-from_writes w b on in (omega (arith, at.0, at.1, store.inside, same), omega (arith, at.0, at.1, store.inside, same))

    from : (b p : ℕ) → IsSlotOf (b / 64) p t.blocks → start ≤ p * 64 + b % 64 → p * 64 + b % 64 < end → writes w b ≡ true
    from b p at more less =
        let same : p ≡ place = omega (arith, more, less, store.inside) in
        let block : b / 64 ≡ w.addr / 64 = same_Some (b / 64) (w.addr / 64) (sym at ∙ ap (λ q. slice_get t.blocks q) same ∙ here) in
        byte-writes w b (omega (arith, more, same, block)) (omega (arith, less, same, block))

    all-left : (p k : ℕ) → k < 64 → get_or u.whole.items p false ≡ true → get_or u.flags.items (p * 64 + k) false ≡ true
    all-left p k few on = elim (cases_eq p place) [
      | inl same ↦
          let within : place < length t.whole.items = omega (arith, slice_get_within t.blocks place (w.addr / 64) here, are.whole) in
          let is : get_or u.whole.items p false ≡ false = ap (λ bs. get_or bs p false) set_whole ∙ ap (λ q. get_or (set t.whole.items place false) q false) same ∙ get_or-set_same t.whole.items place false false within in
          absurd (false≢true (sym is ∙ on))
      | inr apart ↦
          let was : get_or t.flags.items (p * 64 + k) false ≡ true = are.full p k few (sym (get_or-set_other t.whole.items place p false false apart) ∙ ap (λ bs. get_or bs p false) (sym set_whole) ∙ on) in
          filled.outside (p * 64 + k) (elim (cases_lt p place) [ inl before ↦ inl (omega (arith, before, few)) | inr after ↦ inr (omega (arith, after, apart, few, store.inside)) ]) ∙ was
    ]

    left : (b : ℕ) → HasByte u b → HasByte t b × (writes w b ≡ false)
    left b h = (
      (h.0, at, sym (filled.outside i out) ∙ h.2),
      not-written w b (λ on. let own = into b h.0 on (at-place b h.0 on at) in elim out [ inl before ↦ omega (arith, before, own.0) | inr after ↦ omega (arith, after, own.1) ]),
    )
      where
        at : IsSlotOf (b / 64) h.0 t.blocks
        at = ap (λ ks. slice_get ks h.0) (sym blocks) ∙ h.1

        i : ℕ
        i = h.0 * 64 + b % 64

        out : (i < start) ⊎ (end ≤ i)
        out = elim (cases_lt i start) [
          | inl before ↦ inl before
          | inr more ↦ elim (cases_lt i end) [ inl less ↦ absurd (false≢true (sym (filled.inside i more less) ∙ h.2)) | inr after ↦ inr after ]
        ]

    leaves : (b : ℕ) → HasByte t b → writes w b ≡ false → HasByte u b
    leaves b h not = (h.0, ap (λ ks. slice_get ks h.0) blocks ∙ h.1, filled.outside (h.0 * 64 + b % 64) out ∙ h.2)
      where
        out : (h.0 * 64 + b % 64 < start) ⊎ (end ≤ h.0 * 64 + b % 64)
        out = elim (cases_lt (h.0 * 64 + b % 64) start) [
          | inl before ↦ inl before
          | inr more ↦ elim (cases_lt (h.0 * 64 + b % 64) end) [ inl less ↦ absurd (false≢true (sym not ∙ from b h.0 h.1 more less)) | inr after ↦ inr after ]
        ]

    found : IsAnyIn start end t.flags.items → (b : ℕ) × (writes w b ≡ true) × HasByte t b
    found h =
        let b : ℕ = w.addr + (h.0 - start) in
        let block : (w.addr + (h.0 - start)) / 64 ≡ w.addr / 64 = omega (arith, h.1, h.2, store.inside) in
        let byte : h.0 ≡ place * 64 + (w.addr + (h.0 - start)) % 64 = omega (arith, h.1, h.2, store.inside) in
        (b, byte-writes w b (omega (arith, h.1)) (omega (arith, h.1, h.2)), (place, here ∙ ap Some (sym block), ap (λ i. get_or t.flags.items i false) (sym byte) ∙ h.3))

    pub takes-some : Takes w t is_any u
    takes-some = record {
      are = record {
        once = subst (IsDistinct nat_eq) (sym blocks) are.once;
        flags = filled.size ∙ are.flags ∙ ap (λ ks. length ks * 64) (sym blocks);
        whole = ap (λ bs. length bs) set_whole ∙ length-set t.whole.items place false ∙ are.whole ∙ ap (λ ks. length ks) (sym blocks);
        full = all-left;
      };
      any = (λ on. found (any.0 on), λ h. let on = h.1 in let has = h.2 in let own = into h.0 has.0 on (at-place h.0 has.0 on has.1) in any.1 (has.0 * 64 + h.0 % 64, own.0, own.1, has.2));
      told = λ b. (left b, λ h. leaves b h.0 h.1);
    }

-- the same, as it is called
pub takes-called : (w : Written) (t u : NamedBytes) (place a size : ℕ) (is_any : Bool) (lent now : List Bool) → IsStore w → AreNamedBytes t → a ≡ w.addr → size ≡ length w.bytes → lent ≡ t.flags.items → u.flags.items ≡ now → IsSlotOf (a / 64) place t.blocks →
    u.blocks ≡ t.blocks → u.whole.items ≡ set t.whole.items place false → ((is_any ≡ true) ↔ IsAnyIn (place * 64 + a % 64) (place * 64 + a % 64 + size) lent) →
    IsFilled false (place * 64 + a % 64) (place * 64 + a % 64 + size) lent now → Takes w t is_any u
takes-called w t u place a size is_any lent now store are addr bytes old new here blocks set_whole any filled =
    let told = subst (λ b. (is_any ≡ true) ↔ IsAnyIn (place * 64 + b % 64) (place * 64 + b % 64 + length w.bytes) t.flags.items) addr
    (subst (λ n. (is_any ≡ true) ↔ IsAnyIn (place * 64 + a % 64) (place * 64 + a % 64 + n) t.flags.items) bytes (subst (λ xs. (is_any ≡ true) ↔ IsAnyIn (place * 64 + a % 64) (place * 64 + a % 64 + size) xs) old any)) in
    let put = subst (λ b. IsFilled false (place * 64 + b % 64) (place * 64 + b % 64 + length w.bytes) t.flags.items u.flags.items) addr
    (subst (λ n. IsFilled false (place * 64 + a % 64) (place * 64 + a % 64 + n) t.flags.items u.flags.items) bytes
    (subst (λ xs. IsFilled false (place * 64 + a % 64) (place * 64 + a % 64 + size) xs u.flags.items) old (subst (λ ys. IsFilled false (place * 64 + a % 64) (place * 64 + a % 64 + size) lent ys) (sym new) filled))) in
    takes-some w t store are u place is_any (subst (λ b. IsSlotOf (b / 64) place t.blocks) addr here) blocks set_whole told put
