-- What is seen of words after a store, and what is read of them.
use Rattle.std.proofs.Common.{◌≡◌, ℕ, ◌+◌, ◌-◌, ◌<◌, ◌≤◌, ◌⊎◌, inl, inr, Bool, true, false, ◌==◌, ◌&&◌, List, length, get_or, refl, sym, ap, subst, ◌∙◌, arith, eq-eqb}
use Rattle.std.specs.Prelude.{if◌then◌else◌, nat_le, nat_lt, slice_index, slice_set}
use Rattle.std.proofs.lemmas.Bool.{cases_eq, ne_eqb, and_parts, ltb-true, leb-true}
use Rattle.std.proofs.lemmas.Bool.Decides.{nat_tests}
use Rattle.std.proofs.lemmas.Grind.{get_or_default_zero}
use Rattle.std.proofs.lemmas.List.{length-map, length-set}
use Rattle.pmt_tables.specs.declared.table.Table.{Table}
use Rattle.pmt_tables.specs.Lasts.{is_in, last_at, with_store, number_of, low_of, high_of, last_by, first_table, last_in, bytes_of, all_bytes, is_covered, IsWhole, AreWords}
use Rattle.pmt_tables.proofs.WordLemmas.{seen, last-whole, whole-last, write-last, table-last}

module _ (value : List (List ℕ)) (words : List ℕ) (tables : List Table) (view : all_bytes words tables ≡ value) (are : AreWords words tables) where
  within-words : (i : ℕ) → i < length value → i < length words
  within-words i within = omega (arith, within, ap length view, length-map words (bytes_of tables))

  seen-now : (i k : ℕ) → i < length value → k < 8 → last_at value i k ≡ last_in words tables i k
  seen-now i k within small = ap (λ v. last_at v i k) (sym view) ∙ seen words tables i k (within-words i within) small

  module _ (word known : ℕ) (here : word < length value) (read : known ≡ get_or words word known) where
    pub word-is : slice_index words word ≡ known
    word-is = sym (read ∙ get_or_default_zero words word known (within-words word here))

    -- a word without a table
    pub read-is : known < first_table → IsWhole known
    read-is less = subst IsWhole word-is (are.whole word (within-words word here) (omega (arith, less, word-is)))

    pub read-whole : known < first_table → (k : ℕ) → k < 8 → last_by known k ≡ last_at value word k
    read-whole less k small = sym (seen-now word k here small ∙ last-whole tables (slice_index words word) k (omega (arith, less, word-is)) ∙ ap (λ w. last_by w k) word-is)

    -- and one with a table
    pub read-table : (x : Table) → first_table ≤ known → x ≡ get_or tables (known - first_table) x → (k : ℕ) → k < 8 → slice_index x.numbers k ≡ last_at value word k
    read-table x more at k small =
        table-last words tables are word (known - first_table) x (within-words word here) (omega (arith, word-is, more)) (eight-of x at) x at k ∙ sym (seen-now word k here small)
      where
        eight-of : (x : Table) → x ≡ get_or tables (known - first_table) x → length x.numbers ≡ 8
        eight-of x at =
            let inside = are.inside word (within-words word here) (omega (arith, word-is, more)) in
            ap (λ (t : Table). length t.numbers) at ∙ are.eight (known - first_table) x (omega (arith, inside, word-is))

    -- a store to all that is known of a word
    pub stored-whole : (new low high number : ℕ) → is_covered known low high ≡ true → number_of new ≡ number → low_of new ≡ low → high_of new ≡ high → new < first_table → IsWhole new →
        (i k : ℕ) → i < length value → k < 8 → last_at (all_bytes (slice_set words word new) tables) i k ≡ with_store word low high number (last_at value) i k
    stored-whole new low high number covered store first last less whole i k within small =
        seen (slice_set words word new) tables i k (omega (arith, within-words i within, length-set words word new)) small ∙ whole-last words tables are word new (within-words word here) less whole i k ∙ go (cases_eq i word)
      where
        parts : (known < first_table) × (low ≤ low_of known) × (high_of known ≤ high)
        parts =
            let x = and_parts (nat_lt known first_table) (nat_le low (low_of known) && nat_le (high_of known) high) covered in
            let y = and_parts (nat_le low (low_of known)) (nat_le (high_of known) high) x.1 in
            (ltb-true known first_table x.0, leb-true low (low_of known) y.0, leb-true (high_of known) high y.1)

        none : is_in low high k ≡ false → last_by known k ≡ 0
        none out = ap (λ b. if b then number_of known else 0) (outside (low_of known) (high_of known) parts.1 parts.2 out)
          where
            outside : (a b : ℕ) → low ≤ a → b ≤ high → is_in low high k ≡ false → is_in a b k ≡ false
            outside a b from to out = grind (arith, nat_tests, from, to, out)

        byte : (b : Bool) → is_in low high k ≡ b → (if b then number else 0) ≡ (if b then number else last_at value word k)
        byte true e = refl
        byte false e = sym (sym (read-whole parts.0 k small) ∙ none e)

        go : (i ≡ word) ⊎ (i ≡ word → ⊥) → (if i == word then last_by new k else last_in words tables i k) ≡ with_store word low high number (last_at value) i k
        go (inl same) =
            let new_is : last_by new k ≡ (if is_in low high k then number else 0) = ap (λ a. if is_in a (high_of new) k then number_of new else 0) first ∙ ap (λ b. if is_in low b k then number_of new else 0) last ∙ ap (λ n. if is_in low high k then n else 0) store in
            let there : (if is_in low high k then number else last_at value word k) ≡ (if is_in low high k then number else last_at value i k) = ap (λ j. if is_in low high k then number else last_at value j k) (sym same) in
            rw (eq-eqb i word same) (new_is ∙ byte (is_in low high k) refl ∙ there)
        go (inr apart_) = rw (ne_eqb i word apart_) (sym (seen-now i k within small))

-- a store to a word that has a table now
module _ (value : List (List ℕ)) (words split : List ℕ) (tables made : List Table) (view : all_bytes words tables ≡ value) (old : AreWords words tables) (are : AreWords split made) (many : length split ≡ length words)
    (same : (i k : ℕ) → i < length words → k < 8 → last_in split made i k ≡ last_in words tables i k) (word at : ℕ) (here : word < length value) (is : slice_index split word ≡ first_table + at) where
  in-split : (i : ℕ) → i < length value → i < length split
  in-split i within = omega (arith, many, within-words value words tables view old i within)

  now : (i k : ℕ) → i < length value → k < 8 → last_in split made i k ≡ last_at value i k
  now i k within small = same i k (within-words value words tables view old i within) small ∙ sym (seen-now value words tables view old i k within small)

  eight-at : (x : Table) → x ≡ get_or made at x → length x.numbers ≡ 8
  eight-at x read =
      let inside = are.inside word (in-split word here) (omega (arith, is)) in
      ap (λ (t : Table). length t.numbers) read ∙ are.eight at x (omega (arith, inside, is))

  pub made-last : (x : Table) → x ≡ get_or made at x → (k : ℕ) → k < 8 → slice_index x.numbers k ≡ last_at value word k
  made-last x read k small = table-last split made are word at x (in-split word here) is (eight-at x read) x read k ∙ now word k here small

  pub stored-table : (low high number : ℕ) (x table : Table) → x ≡ get_or made at x → length table.numbers ≡ 8 → ((k : ℕ) → k < 8 → slice_index table.numbers k ≡ (if is_in low high k then number else slice_index x.numbers k)) →
      (i k : ℕ) → i < length value → k < 8 → last_at (all_bytes split (slice_set made at table)) i k ≡ with_store word low high number (last_at value) i k
  stored-table low high number x table read eight each i k within small =
      seen split (slice_set made at table) i k (in-split i within) small ∙ write-last split made are word at table (in-split word here) is eight i k (in-split i within) ∙ go (cases_eq i word)
    where
      go : (i ≡ word) ⊎ (i ≡ word → ⊥) → (if i == word then slice_index table.numbers k else last_in split made i k) ≡ with_store word low high number (last_at value) i k
      go (inl e) =
          let there : (if is_in low high k then number else last_at value word k) ≡ (if is_in low high k then number else last_at value i k) = ap (λ j. if is_in low high k then number else last_at value j k) (sym e) in
          rw (eq-eqb i word e) (each k small ∙ ap (λ n. if is_in low high k then number else n) (made-last x read k small) ∙ there)
      go (inr apart_) = rw (ne_eqb i word apart_) (now i k within small)
