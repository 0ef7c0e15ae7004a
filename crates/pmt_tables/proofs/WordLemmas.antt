-- The words of all lines: one that is written whole, one that gets a table, and a table that is written.
use Rattle.std.proofs.Common.{◌≡◌, ℕ, zero, suc, ◌+◌, ◌-◌, ◌<◌, ◌≤◌, inl, inr, ◌==◌, Bool, true, false, List, [], ◌∷◌, ◌++◌, length, get_or, refl, sym, ap, subst, ◌∙◌, arith, eq-eqb}
use Rattle.std.specs.Prelude.{if◌then◌else◌, replicate, slice_index, slice_set}
use Rattle.std.proofs.lemmas.Bool.{cases_lt, cases_eq, ne_eqb, lt-ltb, le-ltb}
use Rattle.std.proofs.lemmas.List.{get_or-map, get_or-set_same, get_or-set_other, get_or-append_right, get_or-replicate, get_or_append_left, get_or_push, length-append, length-replicate, length-set, length_push}
use Rattle.std.proofs.lemmas.List.Elements.{All-push, All-set}
use Rattle.pmt_tables.specs.declared.table.Table.{Table}
use Rattle.pmt_tables.specs.Lasts.{is_in, last_at, number_of, low_of, high_of, last_by, first_table, no_table, last_of, last_in, bytes_of, all_bytes, IsWhole, AreWords}

-- a word below the first table has none, and one from there on has
pub last-whole : (tables : List Table) (w k : ℕ) → w < first_table → last_of tables w k ≡ last_by w k
last-whole tables w k less = rw (lt-ltb w first_table less) refl

pub last-table : (tables : List Table) (w k : ℕ) → first_table ≤ w → last_of tables w k ≡ slice_index (get_or tables (w - first_table) no_table).numbers k
last-table tables w k more = rw (le-ltb w first_table more) refl

-- what is seen of a byte is what its word tells
pub seen : (words : List ℕ) (tables : List Table) (i k : ℕ) → i < length words → k < 8 → last_at (all_bytes words tables) i k ≡ last_in words tables i k
seen words tables i k within small = ap (λ bs. slice_index bs k) (get_or-map (bytes_of tables) words i 0 [] within) ∙ byte (last_of tables (slice_index words i)) k small
  where
    byte : (f : ℕ → ℕ) (k : ℕ) → k < 8 → slice_index (f 0 ∷ f 1 ∷ f 2 ∷ f 3 ∷ f 4 ∷ f 5 ∷ f 6 ∷ f 7 ∷ []) k ≡ f k
    byte f zero small = refl
    byte f (suc zero) small = refl
    byte f (suc (suc zero)) small = refl
    byte f (suc (suc (suc zero))) small = refl
    byte f (suc (suc (suc (suc zero)))) small = refl
    byte f (suc (suc (suc (suc (suc zero))))) small = refl
    byte f (suc (suc (suc (suc (suc (suc zero)))))) small = refl
    byte f (suc (suc (suc (suc (suc (suc (suc zero))))))) small = refl
    byte f (suc (suc (suc (suc (suc (suc (suc (suc k)))))))) small = absurd (omega (arith, small))

module _ (words : List ℕ) (tables : List Table) (are : AreWords words tables) where
  -- ---- New words without a table

  module _ (many w : ℕ) (less : w < first_table) (whole : IsWhole w) where
    added-old : (i : ℕ) → i < length words → slice_index (words ++ replicate many w) i ≡ slice_index words i
    added-old i within = get_or_append_left words (replicate many w) 0 i within

    added-new : (i : ℕ) → length words ≤ i → i < length (words ++ replicate many w) → slice_index (words ++ replicate many w) i ≡ w
    added-new i last within =
        let slot : i - length words < many = omega (arith, last, within, length-append words (replicate many w), length-replicate many w) in
        get_or-append_right words (replicate many w) (length words) i 0 refl last ∙ get_or-replicate many (i - length words) w 0 slot

    pub added-are : AreWords (words ++ replicate many w) tables
    added-are = record {
      eight = are.eight;
      inside = λ i within more. old-or-new i within (λ v. first_table ≤ v → v - first_table < length tables) (λ before. are.inside i before) (λ table. absurd (omega (arith, table, less))) more;
      apart = λ i j within to more same. elim (cases_lt i (length words)) [
        | inr last ↦ absurd (omega (arith, more, less, added-new i last within))
        | inl first ↦ elim (cases_lt j (length words)) [
          | inl second ↦ are.apart i j first second (subst (λ v. first_table ≤ v) (added-old i first) more) (sym (added-old i first) ∙ same ∙ added-old j second)
          | inr last ↦ absurd (omega (arith, more, less, same, added-new j last to))
        ]
      ];
      whole = λ i within no_table_. old-or-new i within (λ v. v < first_table → IsWhole v) (λ before. are.whole i before) (λ _. whole) no_table_;
    }
      where
        old-or-new : (i : ℕ) → i < length (words ++ replicate many w) → (P : ℕ → Type 0) → (i < length words → P (slice_index words i)) → P w → P (slice_index (words ++ replicate many w) i)
        old-or-new i within P before last = elim (cases_lt i (length words)) [
          | inl first ↦ subst P (sym (added-old i first)) (before first)
          | inr end ↦ subst P (sym (added-new i end within)) last
        ]

    pub added-none : number_of w ≡ 0 → (i k : ℕ) → length words ≤ i → i < length (words ++ replicate many w) → k < 8 → last_at (all_bytes (words ++ replicate many w) tables) i k ≡ 0
    added-none none i k from to small =
        seen (words ++ replicate many w) tables i k to small ∙ ap (λ v. last_of tables v k) (added-new i from to) ∙ last-whole tables w k less ∙ byte (is_in (low_of w) (high_of w) k)
      where
        byte : (b : Bool) → (if b then number_of w else 0) ≡ 0
        byte true = none
        byte false = refl

    pub added-others : (i k : ℕ) → i < length words → k < 8 → last_at (all_bytes (words ++ replicate many w) tables) i k ≡ last_at (all_bytes words tables) i k
    added-others i k within small =
        let to : i < length (words ++ replicate many w) = omega (arith, within, length-append words (replicate many w)) in
        seen (words ++ replicate many w) tables i k to small ∙ ap (λ v. last_of tables v k) (added-old i within) ∙ sym (seen words tables i k within small)

  -- ---- A word that one store writes whole

  module _ (word v : ℕ) (here : word < length words) (less : v < first_table) (whole : IsWhole v) where
    own : slice_index (slice_set words word v) word ≡ v
    own = get_or-set_same words word v 0 here

    other : (i : ℕ) → (i ≡ word → ⊥) → slice_index (slice_set words word v) i ≡ slice_index words i
    other i apart_ = get_or-set_other words word i v 0 apart_

    either : (i : ℕ) → (P : ℕ → Type 0) → ((i ≡ word → ⊥) → P (slice_index words i)) → P v → P (slice_index (slice_set words word v) i)
    either i P before last = elim (cases_eq i word) [
      | inl same ↦ subst (λ j. P (slice_index (slice_set words word v) j)) (sym same) (subst P (sym own) last)
      | inr apart_ ↦ subst P (sym (other i apart_)) (before apart_)
    ]

    pub whole-are : AreWords (slice_set words word v) tables
    whole-are = record {
      eight = are.eight;
      inside = λ i within. either i (λ x. first_table ≤ x → x - first_table < length tables) (λ _. are.inside i (in-words i within)) (λ table. absurd (omega (arith, table, less)));
      apart = λ i j within to more same. elim (cases_eq i word) [
        | inl e ↦ absurd (omega (arith, more, less, ap (slice_index (slice_set words word v)) e, own))
        | inr first ↦ elim (cases_eq j word) [
          | inl e ↦ absurd (omega (arith, more, less, same, ap (slice_index (slice_set words word v)) e, own))
          | inr second ↦ are.apart i j (in-words i within) (in-words j to) (omega (arith, more, other i first)) (sym (other i first) ∙ same ∙ other j second)
        ]
      ];
      whole = λ i within. either i (λ x. x < first_table → IsWhole x) (λ _. are.whole i (in-words i within)) (λ _. whole);
    }
      where
        in-words : (i : ℕ) → i < length (slice_set words word v) → i < length words
        in-words i within = omega (arith, within, length-set words word v)

    pub whole-last : (i k : ℕ) → last_in (slice_set words word v) tables i k ≡ (if i == word then last_by v k else last_in words tables i k)
    whole-last i k = elim (cases_eq i word) [
      | inl same ↦
          let e = eq-eqb i word same in
          let at : slice_index (slice_set words word v) i ≡ v = ap (slice_index (slice_set words word v)) same ∙ own in
          ap (λ x. last_of tables x k) at ∙ last-whole tables v k less ∙ ap (λ b. if b then last_by v k else last_in words tables i k) (sym e)
      | inr apart_ ↦
          let e = ne_eqb i word apart_ in
          ap (λ x. last_of tables x k) (other i apart_) ∙ ap (λ b. if b then last_by v k else last_in words tables i k) (sym e)
    ]

  -- ---- A word that gets a table

  module _ (word : ℕ) (table : Table) (here : word < length words) (none : slice_index words word < first_table) (eight : length table.numbers ≡ 8)
      (each : (k : ℕ) → k < 8 → slice_index table.numbers k ≡ last_by (slice_index words word) k) where
    abbrev new-word : ℕ
    new-word = first_table + length tables

    split-own : slice_index (slice_set words word (first_table + length tables)) word ≡ first_table + length tables
    split-own = get_or-set_same words word (first_table + length tables) 0 here

    split-other : (i : ℕ) → (i ≡ word → ⊥) → slice_index (slice_set words word (first_table + length tables)) i ≡ slice_index words i
    split-other i apart_ = get_or-set_other words word i (first_table + length tables) 0 apart_

    split-within : (i : ℕ) → i < length (slice_set words word (first_table + length tables)) → i < length words
    split-within i within = omega (arith, within, length-set words word (first_table + length tables))

    split-at : (i : ℕ) → i ≡ word → slice_index (slice_set words word (first_table + length tables)) i ≡ first_table + length tables
    split-at i same = ap (slice_index (slice_set words word (first_table + length tables))) same ∙ split-own

    pub split-are : AreWords (slice_set words word (first_table + length tables)) (tables ++ table ∷ [])
    split-are = record {
      eight = All-push (λ (t : Table). length t.numbers ≡ 8) tables table are.eight eight;
      inside = λ i within more. elim (cases_eq i word) [
        | inl same ↦ omega (arith, split-at i same, length_push tables table)
        | inr apart_ ↦
            let before : slice_index words i - first_table < length tables = are.inside i (split-within i within) (omega (arith, more, split-other i apart_)) in
            omega (arith, before, split-other i apart_, length_push tables table)
      ];
      apart = λ i j within to more same. elim (cases_eq i word) [
        | inl e ↦ elim (cases_eq j word) [
          | inl d ↦ omega (arith, e, d)
          | inr second ↦ absurd (old-new j second to (sym same ∙ split-at i e))
        ]
        | inr first ↦ elim (cases_eq j word) [
          | inl d ↦ absurd (old-new i first within (same ∙ split-at j d))
          | inr second ↦ are.apart i j (split-within i within) (split-within j to) (omega (arith, more, split-other i first)) (sym (split-other i first) ∙ same ∙ split-other j second)
        ]
      ];
      whole = λ i within less. elim (cases_eq i word) [
        | inl same ↦ absurd (omega (arith, less, split-at i same))
        | inr apart_ ↦ subst IsWhole (sym (split-other i apart_)) (are.whole i (split-within i within) (omega (arith, less, split-other i apart_)))
      ];
    }
      where
        old-new : (j : ℕ) → (j ≡ word → ⊥) → j < length (slice_set words word (first_table + length tables)) → slice_index (slice_set words word (first_table + length tables)) j ≡ first_table + length tables → ⊥
        old-new j apart_ within same =
            let e : slice_index words j ≡ first_table + length tables = sym (split-other j apart_) ∙ same in
            omega (arith, e, are.inside j (split-within j within) (omega (arith, e)))

    pub split-last : (i k : ℕ) → i < length words → k < 8 → last_in (slice_set words word (first_table + length tables)) (tables ++ table ∷ []) i k ≡ last_in words tables i k
    split-last i k within small = elim (cases_eq i word) [
      | inl same ↦
          let slot : first_table + length tables - first_table ≡ length tables = omega arith in
          let at : get_or (tables ++ table ∷ []) (first_table + length tables - first_table) no_table ≡ table = get_or_push tables table no_table (first_table + length tables - first_table) (sym slot) in
          let old : last_in words tables i k ≡ last_by (slice_index words word) k = ap (λ j. last_of tables (slice_index words j) k) same ∙ last-whole tables (slice_index words word) k none in
          ap (λ x. last_of (tables ++ table ∷ []) x k) (split-at i same) ∙ last-table (tables ++ table ∷ []) (first_table + length tables) k (omega arith)
          ∙ ap (λ (t : Table). slice_index t.numbers k) at ∙ each k small ∙ sym old
      | inr apart_ ↦ ap (λ x. last_of (tables ++ table ∷ []) x k) (split-other i apart_) ∙ same-table (slice_index words i) (are.inside i within)
    ]
      where
        same-table : (w : ℕ) → (first_table ≤ w → w - first_table < length tables) → last_of (tables ++ table ∷ []) w k ≡ last_of tables w k
        same-table w inside = elim (cases_lt w first_table) [
          | inl less ↦ last-whole (tables ++ table ∷ []) w k less ∙ sym (last-whole tables w k less)
          | inr more ↦ last-table (tables ++ table ∷ []) w k more ∙ ap (λ (t : Table). slice_index t.numbers k) (get_or_append_left tables (table ∷ []) no_table (w - first_table) (inside more)) ∙ sym (last-table tables w k more)
        ]

  -- ---- A table that is written

  module _ (word at : ℕ) (table : Table) (here : word < length words) (is : slice_index words word ≡ first_table + at) (eight : length table.numbers ≡ 8) where
    table-within : at < length tables
    table-within = omega (arith, is, are.inside word here (omega (arith, is)))

    pub write-are : AreWords words (slice_set tables at table)
    write-are = record {
      eight = All-set (λ (t : Table). length t.numbers ≡ 8) tables at table eight are.eight;
      inside = λ i within more. omega (arith, are.inside i within more, length-set tables at table);
      apart = are.apart;
      whole = are.whole;
    }

    pub write-last : (i k : ℕ) → i < length words → last_in words (slice_set tables at table) i k ≡ (if i == word then slice_index table.numbers k else last_in words tables i k)
    write-last i k within = elim (cases_eq i word) [
      | inl same ↦
          let e = eq-eqb i word same in
          let slot : first_table + at - first_table ≡ at = omega arith in
          let read : get_or (slice_set tables at table) (first_table + at - first_table) no_table ≡ table = ap (λ p. get_or (slice_set tables at table) p no_table) slot ∙ get_or-set_same tables at table no_table table-within in
          ap (λ j. last_of (slice_set tables at table) (slice_index words j) k) same ∙ ap (λ x. last_of (slice_set tables at table) x k) is ∙ last-table (slice_set tables at table) (first_table + at) k (omega arith)
          ∙ ap (λ (t : Table). slice_index t.numbers k) read ∙ ap (λ b. if b then slice_index table.numbers k else last_in words tables i k) (sym e)
      | inr apart_ ↦ rest (slice_index words i) (λ more same. apart_ (are.apart i word within here more (same ∙ sym is))) ∙ ap (λ b. if b then slice_index table.numbers k else last_in words tables i k) (sym (ne_eqb i word apart_))
    ]
      where
        rest : (w : ℕ) → (first_table ≤ w → w ≡ first_table + at → ⊥) → last_of (slice_set tables at table) w k ≡ last_of tables w k
        rest w differs = elim (cases_lt w first_table) [
          | inl less ↦ last-whole (slice_set tables at table) w k less ∙ sym (last-whole tables w k less)
          | inr more ↦
              let elsewhere : w - first_table ≡ at → ⊥ = λ e. differs more (omega (arith, e, more)) in
              last-table (slice_set tables at table) w k more ∙ ap (λ (t : Table). slice_index t.numbers k) (get_or-set_other tables at (w - first_table) table no_table elsewhere) ∙ sym (last-table tables w k more)
        ]

    -- the table is the word's
    pub table-last : (x : Table) → x ≡ get_or tables at x → (k : ℕ) → slice_index x.numbers k ≡ last_in words tables word k
    table-last x read k =
        let slot : first_table + at - first_table ≡ at = omega arith in
        let same : x ≡ get_or tables (first_table + at - first_table) no_table = read ∙ default tables at x no_table table-within ∙ ap (λ p. get_or tables p no_table) (sym slot) in
        ap (λ (t : Table). slice_index t.numbers k) same ∙ sym (last-table tables (first_table + at) k (omega arith)) ∙ ap (λ w. last_of tables w k) (sym is)
      where
        default : (xs : List Table) (i : ℕ) (a b : Table) → i < length xs → get_or xs i a ≡ get_or xs i b
        default [] i a b inside = absurd (omega (arith, inside))
        default (y ∷ ys) zero a b inside = refl
        default (y ∷ ys) (suc i) a b inside = default ys i a b (omega (arith, inside))
