-- The first one of the last stores to bytes of a range that is wanted, byte by byte.
use Rattle.std.proofs.Common.{◌≡◌, ◌≢◌, ℕ, ◌+◌, ◌*◌, ◌-◌, ◌/◌, ◌%◌, ◌<◌, ◌≤◌, ◌⊎◌, inl, inr, ◌==◌, true, false, List, Option, None, Some, refl, sym, ap, subst, ◌∙◌, arith}
use Rattle.std.specs.Prelude.{IsTrue, nat_lt, ◌||◌, unwrap_or}
use Rattle.std.proofs.lemmas.Bool.{cases_lt, cases_eq, lt-ltb, le-ltb, ltb-true, eq-eqb, ne_eqb, eqb-true, or_cases, false≢true}
use Rattle.std.proofs.lemmas.Option.{same_Some}
use Rattle.pmt_explain.specs.Prelude.{Span, Written, Layout, line_of, IsFormat, Stores, Recording, IsTrace, IsAct, history, count_at, last_store_number, ByteStore, IsLastIn, IsNoLater, persisted_at}
use Rattle.pmt_laws.proofs.Histories.{act-unique, act-within, count-mono}
use Rattle.pmt_laws.proofs.OverwrittenLemmas.{last_store_number-is}
use Rattle.pmt_tables.specs.Lasts.{last_at, IsLeastAbove, IsNewest, last_number}
use Rattle.pmt_tables.proofs.LineLemmas.{IsSize, size-of_format, store-of_trace, writes-line}
use Rattle.pmt_tables.proofs.LineLemmas.IsSize.{Bytes32, Bytes64, Bytes128, Bytes256}
use Rattle.pmt_tables.specs.Slots.{IsSlotOf}
use Rattle.pmt_explain.specs.declared.last_writers.LastWriters.{LastWriters}
use Rattle.pmt_explain.specs.declared.blocks.Stores.{Stores as BlockStores}
use Rattle.pmt_explain.specs.LastStores.{stores_at}
use Rattle.pmt_explain.specs.Writers.{AreStores, Knows}
use Rattle.pmt_explain.proofs.BlockLemmas.{told-at, told-none}
use Rattle.pmt_explain.specs.declared.first_in.Search.{Search}
use Rattle.pmt_explain.specs.declared.wanted.Wanted.{Wanted}
use Rattle.pmt_explain.specs.declared.wanted.Wanted.TheVariants.{Lost, Off}
use Rattle.pmt_explain.specs.Crashes.{IsSearch, range_of, IsFirstBelow, GoesOn, IsWordIn, IsBlockIn, comes_before, store_bound, Picks, IsFirstIn, Anywhere, Wants}

-- ---- Which byte of a store comes first

before-no_later : (x y : ByteStore) → IsTrue (comes_before x (Some y)) → IsNoLater x y
before-no_later x y h = elim (cases_lt x.store y.store) [
  | inl less ↦ inl less
  | inr more ↦ go (cases_eq x.store y.store) (cases_lt x.byte y.byte) (le-ltb x.store y.store more)
]
  where
    go : (x.store ≡ y.store) ⊎ (x.store ≡ y.store → ⊥) → (x.byte < y.byte) ⊎ (y.byte ≤ x.byte) → nat_lt x.store y.store ≡ false → IsNoLater x y
    go (inl same) (inl less) e = inr (same, omega arith)
    go (inl same) (inr more) e = let f = le-ltb x.byte y.byte more in let g = eq-eqb x.store y.store same in let never : false ≡ true = rw (e, g, f) at h in absurd (false≢true never)
    go (inr other) byte e = let g = ne_eqb x.store y.store other in let never : false ≡ true = rw (e, g) at h in absurd (false≢true never)

no_later-before : (x y : ByteStore) → (IsTrue (comes_before x (Some y)) → ⊥) → IsNoLater y x
no_later-before x y none = elim (cases_lt x.store y.store) [
  | inl less ↦ let e = lt-ltb x.store y.store less in absurd (none (rw e refl))
  | inr more ↦ elim (cases_lt y.store x.store) [
    | inl strictly ↦ inl strictly
    | inr equal ↦ let same : x.store ≡ y.store = omega arith in elim (cases_lt x.byte y.byte) [
      | inl less ↦ let e = le-ltb x.store y.store more in let g = eq-eqb x.store y.store same in let f = lt-ltb x.byte y.byte less in absurd (none (rw (e, g, f) refl))
      | inr above ↦ inr (sym same, above)
    ]
  ]
]

no_later-joined : (x y z : ByteStore) → IsNoLater x y → IsNoLater y z → IsNoLater x z
no_later-joined x y z (inl a) (inl b) = inl (omega arith)
no_later-joined x y z (inl a) (inr b) = inl (omega (arith, b.0))
no_later-joined x y z (inr a) (inl b) = inl (omega (arith, a.0))
no_later-joined x y z (inr a) (inr b) = inr (omega (arith, a.0, b.0), omega (arith, a.1, b.1))

-- ---- More bytes are covered

pub first-covered : (T : Recording) (i : ℕ) (A : Span) (P C D : ℕ → Type 0) (o : Option ByteStore) → ((z : ByteStore) → IsLastIn T i A z → D z.byte → C z.byte) → IsFirstIn T i A P C o → IsFirstIn T i A P D o
first-covered T i A P C D None fewer none = λ z is d. none z is (fewer z is d)
first-covered T i A P C D (Some x) fewer first = record { is_last = first.is_last; has = first.has; first = λ z is d. first.first z is (fewer z is d) }

-- the bytes of one store
first-picked : (T : Recording) (i : ℕ) (A : Span) (P C D : ℕ → Type 0) (first result : Option ByteStore) (found : ByteStore) → IsLastIn T i A found →
    ((z : ByteStore) → IsLastIn T i A z → D z.byte → (z.store ≡ found.store) × (found.byte ≤ z.byte)) → Picks (P found.store) first found result → IsFirstIn T i A P C first →
    IsFirstIn T i A P (λ b. C b ⊎ D b) result
first-picked T i A P C D first result found last least (inl taken) old = subst (IsFirstIn T i A P (λ b. C b ⊎ D b)) (sym taken.2) (record {
  is_last = last;
  has = taken.1;
  first = λ z is covered holds. elim covered [ inl c ↦ later first taken.0 old z is c holds | inr d ↦ let e = least z is d in inr (sym e.0, e.1) ];
})
  where
    later : (o : Option ByteStore) → IsTrue (comes_before found o) → IsFirstIn T i A P C o → (z : ByteStore) → IsLastIn T i A z → C z.byte → P z.store → IsNoLater found z
    later None before none z is c holds = absurd (none z is c holds)
    later (Some x) before some z is c holds = no_later-joined found x z (before-no_later found x before) (some.first z is c holds)
first-picked T i A P C D first result found last least (inr left) old = subst (IsFirstIn T i A P (λ b. C b ⊎ D b)) (sym left.1) (go first left.0 old)
  where
    go : (o : Option ByteStore) → (IsTrue (comes_before found o) → P found.store → ⊥) → IsFirstIn T i A P C o → IsFirstIn T i A P (λ b. C b ⊎ D b) o
    go None not none = λ z is covered holds. elim covered [ inl c ↦ none z is c holds | inr d ↦ not refl (subst P (least z is d).0 holds) ]
    go (Some x) not some = record {
      is_last = some.is_last;
      has = some.has;
      first = λ z is covered holds. elim covered [
        | inl c ↦ some.first z is c holds
        | inr d ↦ let e = least z is d in no_later-joined x found z (no_later-before found x (λ before. not before (subst P e.0 holds))) (inr (sym e.0, e.1))
      ];
    }

-- ---- The last store to a byte

-- it has a number above 0
last-above : (T : Recording) (i b j : ℕ) → last_store_number b (history T i) ≡ Some j → 0 < j
last-above T i b j is = let x = last_store_number-is T b i j is in let h = act-within T j (Stores x.line x.what) x.is_store in omega (arith, h.0)

last-some : (o : Option ℕ) (j : ℕ) → 0 < j → unwrap_or o 0 ≡ j → o ≡ Some j
last-some None j some e = absurd (omega (arith, some, e))
last-some (Some i) j some e = ap Some e

-- of one byte the newest is the last
newest-one : (k x : ℕ) (f : ℕ → ℕ) → IsNewest k (k + 1) f x → x ≡ f k
newest-one k x f it = elim it.reached [
  | inl none ↦ omega (arith, none, it.greatest k (omega arith) (omega arith))
  | inr last ↦ let e : last.0 ≡ k = omega (arith, last.1, last.2) in sym last.3 ∙ ap f e
]

-- ---- Stores to one line

-- a later store to a line is wanted where an earlier one is
wants-later : (T : Recording) (W : Wanted) (j k l : ℕ) (v w : Written) → IsAct T j (Stores l v) → IsAct T k (Stores l w) → j ≤ k → Wants T W j → Wants T W k
wants-later T (Lost place full) j k l v w is_j is_k order lost =
    let same = act-unique T j (Stores l v) (Stores lost.line lost.what) is_j lost.is_store in
    let line : l ≡ lost.line = cc in
    record { line = l; what = w; is_store = is_k; missing = omega (arith, subst (λ m. persisted_at T place full m < count_at T m j) (sym line) lost.missing, count-mono T l j k order) }
wants-later T (Off line) j k l v w is_j is_k order off =
    let same = act-unique T j (Stores l v) (Stores off.line off.what) is_j off.is_store in
    let own : l ≡ off.line = cc in
    record { line = l; what = w; is_store = is_k; other = subst (λ m. Some m ≢ line) (sym own) off.other }

-- addresses of one block are of one line that is no shorter
block-line : (f : Layout) (a b : ℕ) → IsFormat f → 64 ≤ f.line_size → a / 64 ≡ b / 64 → line_of f a ≡ line_of f b
block-line f a b format whole same = go f.line_size (size-of_format f format) whole
  where
    go : (size : ℕ) → IsSize size → 64 ≤ size → a / size ≡ b / size
    go size (Bytes32 e) least = absurd (omega (arith, e, least))
    go size (Bytes64 e) least = rw e (omega (arith, same))
    go size (Bytes128 e) least = rw e (omega (arith, same))
    go size (Bytes256 e) least = rw e (omega (arith, same))

-- where the last store to a block in one line is not wanted, none is
wants-last : (T : Recording) (W : Wanted) (n low high k b j : ℕ) (s : BlockStores) → IsTrace T → 64 ≤ T.format.line_size → AreStores T n low high k s → ¬ Wants T W s.last → b / 64 ≡ k → low ≤ b → b < high → last_store_number b (history T n) ≡ Some j →
    ¬ Wants T W j
wants-last T W n low high k b j s trace whole are none near from to last wants =
    let x = last_store_number-is T b n j last in
    let own : line_of T.format b ≡ x.line = writes-line T j x.line x.what b trace x.is_store x.writes_it in
    let other : line_of T.format are.is_last.what.addr ≡ are.is_last.line = (store-of_trace T s.last are.is_last.line are.is_last.what trace are.is_last.is_store).line in
    let same : are.is_last.line ≡ x.line = sym other ∙ block-line T.format are.is_last.what.addr b trace.format whole (are.is_last.near ∙ sym near) ∙ own in
    let is : IsAct T s.last (Stores x.line are.is_last.what) = subst (λ l. IsAct T s.last (Stores l are.is_last.what)) same are.is_last.is_store in
    let number : last_number T n b ≡ j = ap (λ (o : Option ℕ). unwrap_or o 0) last in
    let above = last-above T n b j last in
    let order : j ≤ s.last = elim (are.each b near from to) [ inl zero_now ↦ absurd (omega (arith, zero_now, number, above)) | inr both ↦ omega (arith, both.1, number) ] in
    none (wants-later T W j s.last x.line x.what are.is_last.what x.is_store is order wants)

-- ---- Bytes are met

-- The first one so far does not come after z.
abbrev pub IsReached : Option ByteStore → ByteStore → Type 0
IsReached None z = ⊥
IsReached (Some x) z = IsNoLater x z

-- it does not, where an earlier store than that of z comes after it
reached-after : (store : ℕ) (first : Option ByteStore) (z : ByteStore) → ((store == 0) || nat_lt (store_bound first) store) ≡ true → store < 4294967296 → 0 < store → store ≤ z.store → IsReached first z
reached-after store first z after small some earlier = elim (or_cases (store == 0) (nat_lt (store_bound first) store) after) [
  | inl none ↦ absurd (omega (arith, eqb-true store 0 none, some))
  | inr later ↦ go first (ltb-true (store_bound first) store later)
]
  where
    go : (o : Option ByteStore) → store_bound o < store → IsReached o z
    go None never = absurd (omega (arith, never, small))
    go (Some x) later = inl (omega (arith, later, earlier))

module _ (S : Search) (is : IsSearch S) (i : ℕ) where
  -- bytes none of which has a wanted store that comes before
  pub goes-past : (from to : ℕ) (first : Option ByteStore) →
      ((z : ByteStore) → IsLastIn S.trace.now i (range_of S) z → from ≤ z.byte → z.byte < to → Wants S.trace.now S.wanted z.store → IsReached first z) → GoesOn S i from to first first
  goes-past from to None none old = λ z last below wants. elim (cases_lt z.byte from) [ inl before ↦ old z last before wants | inr here ↦ none z last here below wants ]
  goes-past from to (Some x) none old = record {
    is_last = old.is_last;
    has = old.has;
    first = λ z last below wants. elim (cases_lt z.byte from) [ inl before ↦ old.first z last before wants | inr here ↦ none z last here below wants ];
  }

  -- the same first one, of fewer bytes
  pub goes-back : (from to : ℕ) (first : Option ByteStore) → ((b : ℕ) → S.low ≤ b → b < S.high → b < to → b < from) → GoesOn S i from to first first
  goes-back from to first fewer =
      first-covered S.trace.now i (range_of S) (Wants S.trace.now S.wanted) (λ b. b < from) (λ b. b < to) first (λ z last below. fewer z.byte last.inside.0 (omega (arith, last.inside.1, is.some)) below)

  -- one byte
  module _ (words : List (List ℕ)) (index byte store at : ℕ) (from : S.low ≤ byte) (below : byte < S.high) (here : at ≡ byte % 8) (newest : IsNewest at (at + 1) (last_at words index) store)
      (known : last_at words index (byte % 8) ≡ last_number S.trace.now i byte) where
    number : store ≡ last_number S.trace.now i byte
    number = newest-one at store (last_at words index) newest ∙ ap (last_at words index) here ∙ known

    pub byte-none : (first : Option ByteStore) → store ≡ 0 → GoesOn S i byte (byte + 1) first first
    byte-none first none = goes-past byte (byte + 1) first (λ z last more less wants.
        let e : z.byte ≡ byte = omega (arith, more, less) in
        let told = ap (λ (o : Option ℕ). unwrap_or o 0) (ap (λ b. last_store_number b (history S.trace.now i)) (sym e) ∙ last.last) in
        absurd (omega (arith, last-above S.trace.now i z.byte z.store last.last, number, none, told)))

    pub byte-some : (first result : Option ByteStore) → 0 < store → Picks (Wants S.trace.now S.wanted store) first (record { store = store; byte = byte }) result → GoesOn S i byte (byte + 1) first result
    byte-some first result some picks old =
        let last : last_store_number byte (history S.trace.now i) ≡ Some store = last-some (last_store_number byte (history S.trace.now i)) store some (sym number) in
        first-covered S.trace.now i (range_of S) (Wants S.trace.now S.wanted) (λ b. (b < byte) ⊎ (b ≡ byte)) (λ b. b < byte + 1) result
        (λ z is_last less. elim (cases_lt z.byte byte) [ inl before ↦ inl before | inr more ↦ inr (omega (arith, more, less)) ])
        (first-picked S.trace.now i (range_of S) (Wants S.trace.now S.wanted) (λ b. b < byte) (λ b. b ≡ byte) first result (record { store = store; byte = byte })
        (record { inside = (from, omega (arith, below, from)); last = last })
        (λ z is_last e. (same_Some z.store store (sym is_last.last ∙ ap (λ b. last_store_number b (history S.trace.now i)) e ∙ last), omega (arith, e))) picks old)

  -- ---- One word

  module _ (words : List (List ℕ)) (index word : ℕ) (known : IsWordIn S i words index word) where
    -- the last store to a byte of it
    word-byte : (z : ByteStore) → IsLastIn S.trace.now i (range_of S) z → word * 8 ≤ z.byte → z.byte < word * 8 + 8 → (last_at words index (z.byte - word * 8) ≡ z.store) × (0 < z.store)
    word-byte z last more less =
        let sum : word * 8 + (z.byte - word * 8) ≡ z.byte = omega (arith, more) in
        let at = known (z.byte - word * 8) (omega (arith, more, less)) (omega (arith, sum, last.inside.0)) (omega (arith, sum, last.inside.1, is.some)) in
        (at ∙ ap (last_number S.trace.now i) sum ∙ ap (λ (o : Option ℕ). unwrap_or o 0) last.last, last-above S.trace.now i z.byte z.store last.last)

    -- all its stores come after the first one so far
    pub word-after : (oldest : ℕ) (first : Option ByteStore) → IsLeastAbove 0 0 8 (last_at words index) oldest → ((oldest == 0) || nat_lt (store_bound first) oldest) ≡ true → oldest < 4294967296 → GoesOn S i (word * 8) (word * 8 + 8) first first
    word-after oldest first least after small = goes-past (word * 8) (word * 8 + 8) first (λ z last more less wants.
        let it = word-byte z last more less in
        let above = least.least (z.byte - word * 8) (omega arith) (omega (arith, more, less)) (omega (arith, it.0, it.1)) in
        reached-after oldest first z after small above.0 (omega (arith, above.1, it.0)))

    -- none of its stores to bytes of the range is wanted
    pub word-none : (from many start end : ℕ) (first : Option ByteStore) → ((b : ℕ) → S.low ≤ b → word * 8 ≤ b → start ≤ b) → ((b : ℕ) → b < S.high → b < word * 8 + 8 → b < end) → word * 8 ≤ start → end ≤ word * 8 + 8 → from ≡ start % 8 →
        many ≡ end - start → ((k : ℕ) → from ≤ k → k < from + many → 0 < last_at words index k → ¬ Wants S.trace.now S.wanted (last_at words index k)) → GoesOn S i (word * 8) (word * 8 + 8) first first
    word-none from many start end first low high above below at size none = goes-past (word * 8) (word * 8 + 8) first (λ z last more less wants.
        let it = word-byte z last more less in
        let later : start ≤ z.byte = low z.byte last.inside.0 more in
        let before : z.byte < end = high z.byte (omega (arith, last.inside.1, is.some)) less in
        absurd (none (z.byte - word * 8) (omega (arith, at, later, above, more, before, below)) (omega (arith, at, size, later, above, more, before, below)) (omega (arith, it.0, it.1))
        (subst (Wants S.trace.now S.wanted) (sym it.0) wants)))

    pub word-known : (b : ℕ) → S.low ≤ b → b < S.high → word * 8 ≤ b → b < word * 8 + 8 → last_at words index (b % 8) ≡ last_number S.trace.now i b
    word-known b low high from to =
        let sum : word * 8 + b % 8 ≡ b = omega (arith, from, to) in
        known (b % 8) (omega arith) (omega (arith, sum, low)) (omega (arith, sum, high)) ∙ ap (last_number S.trace.now i) sum

-- ---- Blocks and the whole range

module _ (S : Search) (is : IsSearch S) (i : ℕ) (w : LastWriters) (block : ℕ) (knows : Knows S.trace.now i (range_of S) w) where
  told : (b : ℕ) → S.low ≤ b → b < S.high → last_number S.trace.now w.place b ≡ last_number S.trace.now i b
  told b from to = ap (λ n. last_number S.trace.now n b) knows.place

  -- the words at its place
  pub block-known : (place : ℕ) → IsSlotOf block place w.blocks.places → IsBlockIn S i w.blocks.words place block
  block-known place at word near k few from to =
      let byte = word * 8 + k in
      let here : byte / 8 ≡ word = omega (arith, few) in
      let rest : byte % 8 ≡ k = omega (arith, few) in
      let own : byte / 64 ≡ block = omega (arith, few, near) in
      let tells = knows.writers.written.each byte (omega (arith, from, knows.low)) (omega (arith, to, knows.high, is.some)) in
      let found = told-at w.blocks byte (last_number S.trace.now w.place byte) place knows.writers.written.are tells (subst (λ m. IsSlotOf m place w.blocks.places) (sym own) at) in
      ap (λ m. last_at w.blocks.words (place * 8 + m % 8) k) (sym here) ∙ ap (λ m. last_at w.blocks.words (place * 8 + byte / 8 % 8) m) (sym rest) ∙ found ∙ told byte from to

  -- no store came to it
  pub block-none : ((place : ℕ) → IsSlotOf block place w.blocks.places → ⊥) → (first : Option ByteStore) → GoesOn S i (block * 64) (block * 64 + 64) first first
  block-none none first = goes-past S is i (block * 64) (block * 64 + 64) first (λ z last more less wants.
      let from = last.inside.0 in
      let to : z.byte < S.high = omega (arith, last.inside.1, is.some) in
      let own : z.byte / 64 ≡ block = omega (arith, more, less) in
      let tells = knows.writers.written.each z.byte (omega (arith, from, knows.low)) (omega (arith, to, knows.high, is.some)) in
      let never = told-none w.blocks z.byte (last_number S.trace.now w.place z.byte) tells (λ p at. none p (subst (λ m. IsSlotOf m p w.blocks.places) own at)) in
      absurd (omega (arith, last-above S.trace.now i z.byte z.store last.last, never, told z.byte from to, ap (λ (o : Option ℕ). unwrap_or o 0) last.last)))

  -- what is told of a byte of the block
  block-byte : (place : ℕ) → IsSlotOf block place w.blocks.places → (z : ByteStore) → IsLastIn S.trace.now i (range_of S) z → block * 64 ≤ z.byte → z.byte < block * 64 + 64 →
      (z.byte / 64 ≡ block) × (w.low ≤ z.byte) × (z.byte < w.high) × (last_store_number z.byte (history S.trace.now w.place) ≡ Some z.store) × AreStores S.trace.now w.place w.low w.high block (stores_at w.blocks place)
  block-byte place at z last more less = (
    omega (arith, more, less),
    omega (arith, last.inside.0, knows.low),
    omega (arith, last.inside.1, knows.high),
    subst (λ n. last_store_number z.byte (history S.trace.now n) ≡ Some z.store) (sym knows.place) last.last,
    knows.writers.written.stores block place at,
  )

  -- its first store comes after the first one so far
  pub block-after : (place : ℕ) → IsSlotOf block place w.blocks.places → (store : ℕ) (first : Option ByteStore) → store ≡ (stores_at w.blocks place).first → ((store == 0) || nat_lt (store_bound first) store) ≡ true → store < 4294967296 →
      GoesOn S i (block * 64) (block * 64 + 64) first first
  block-after place at store first is_first after small = goes-past S is i (block * 64) (block * 64 + 64) first (λ z last more less wants.
      let it = block-byte place at z last more less in
      let number : last_number S.trace.now w.place z.byte ≡ z.store = ap (λ (o : Option ℕ). unwrap_or o 0) it.3 in
      let above = last-above S.trace.now w.place z.byte z.store it.3 in
      let order : store ≤ z.store = elim (it.4.each z.byte it.0 it.1 it.2) [ inl none ↦ absurd (omega (arith, none, number, above)) | inr both ↦ omega (arith, both.0, number, is_first) ] in
      reached-after store first z after small (omega (arith, is_first, it.4.some)) order)

  -- its last store is not wanted
  pub block-past : (place : ℕ) → IsSlotOf block place w.blocks.places → (store : ℕ) (first : Option ByteStore) → store ≡ (stores_at w.blocks place).last → (S.whole ≡ true) × ¬ Wants S.trace.now S.wanted store → GoesOn S i (block * 64) (block * 64 + 64) first first
  block-past place at store first is_last none = goes-past S is i (block * 64) (block * 64 + 64) first (λ z last more less wants.
      let it = block-byte place at z last more less in
      absurd (wants-last S.trace.now S.wanted w.place w.low w.high block z.byte z.store (stores_at w.blocks place) is.is_trace (is.whole none.0) it.4 (subst (λ j. ¬ Wants S.trace.now S.wanted j) is_last none.1) it.0 it.1 it.2 it.3 wants))

-- the whole range
pub range-is : (A : Span) (low high : ℕ) → low ≡ A.addr → high ≡ A.addr + A.len → record { addr = low; len = high - low } ≡ A
range-is A low high start end =
    let size : high - low ≡ A.len = omega (arith, start, end) in
    ap (λ a. record { addr = a; len = high - low }) start ∙ ap (λ n. record { addr = A.addr; len = n }) size

pub in-all : (S : Search) → S.low < S.high → (i block : ℕ) (A : Span) (first : Option ByteStore) → range_of S ≡ A → S.high ≤ block * 64 → IsFirstBelow S i (block * 64) first → IsFirstIn S.trace.now i A (Wants S.trace.now S.wanted) Anywhere first
in-all S some i block A first same all found =
    subst (λ B. IsFirstIn S.trace.now i B (Wants S.trace.now S.wanted) Anywhere first) same
    (first-covered S.trace.now i (range_of S) (Wants S.trace.now S.wanted) (λ b. b < block * 64) Anywhere first (λ z last anywhere. omega (arith, last.inside.1, some, all)) found)

pub next-block : (S : Search) (i block : ℕ) (o : Option ByteStore) → IsFirstBelow S i (block * 64 + 64) o → IsFirstBelow S i ((block + 1) * 64) o
next-block S i block o first = let next : block * 64 + 64 ≡ (block + 1) * 64 = omega arith in subst (λ n. IsFirstBelow S i n o) next first
