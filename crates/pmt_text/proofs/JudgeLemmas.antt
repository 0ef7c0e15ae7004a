-- How the parts of a line, read one by one, meet what the line is judged as.
use Rattle.std.proofs.Common.{◌≡◌, ℕ, ◌<◌, ◌≤◌, Bool, true, false, List, [], ◌∷◌, length, take, Option, Some, None, option_map, Result, Ok, Err, refl, sym, ◌∙◌, ap, arith}
use Rattle.pmt_text.specs.Prelude.{Op, Clwb, ClflushOpt, Clflush, Sfence, Mfence, store_of, Layout, first_version}
use Rattle.pmt_text.specs.declared.kind.TextKind.{TextKind}
use Rattle.pmt_text.specs.declared.kind.TextKind.TheVariants.{BadWord, BadField, OutOfRange}
use Rattle.pmt_text.specs.declared.word.Word.{Word}
use Rattle.pmt_text.specs.declared.word.Word.TheVariants as words
use Rattle.pmt_text.specs.Spelling.{hex_bytes}
use Rattle.pmt_text.specs.Judging.{bytes_in, flushed_in, op_in, event_in, fields_of, word_in, required, checked, is_address, op_checked, event_checked, event_judged, op_judged, line_judged, script_line_judged, GivesBytes, first_number, op_of_fields, flushed_of_fields, fence_of_fields, with_thread}
use Rattle.pmt_text.proofs.FieldLemmas.{hex_bytes-bytes_in, bytes_in-empty}
use Rattle.pmt_text.proofs.OpLemmas.{store_checked, in_text, store_of-checked, store-long}
use Rattle.pmt_text.proofs.AssertLemmas.{event-none, event-some}

-- ---- The bytes of a store

pub store-no_bytes : (a : ℕ) (o : Option (List ℕ)) (out : List ℕ) → GivesBytes o None out → Err BadField ≡ store_checked a o
store-no_bytes a None out h = refl
store-no_bytes a (Some bytes) out h = let never = h.0 in cc

some_bytes : (field bytes : List ℕ) → bytes_in field ≡ Some bytes → 1 ≤ length bytes
unfolding hex_bytes
some_bytes [] bytes e = let never = sym e ∙ bytes_in-empty [] refl in cc
some_bytes (x ∷ rest) [] e = let never = hex_bytes-bytes_in (x ∷ rest) [] e in cc
some_bytes (x ∷ rest) (b ∷ bytes) e = omega arith

pub store-many_bytes : (a : ℕ) (o : Option (List ℕ)) (n : ℕ) (out : List ℕ) → GivesBytes o (Some n) out → 8 < n → Err OutOfRange ≡ store_checked a o
store-many_bytes a None n out h l = cc
store-many_bytes a (Some bytes) n out h l =
    let e = h.0 in
    let same : n ≡ length bytes = cc in
    store-long a bytes (omega arith)

pub store-some_bytes : (a : ℕ) (field : List ℕ) (n : ℕ) (out : List ℕ) → GivesBytes (bytes_in field) (Some n) out → n ≤ 8 → in_text (store_of a (take n out)) ≡ store_checked a (bytes_in field)
store-some_bytes a field n out h l = go (bytes_in field) refl h
  where
    go : (o : Option (List ℕ)) → bytes_in field ≡ o → GivesBytes o (Some n) out → in_text (store_of a (take n out)) ≡ store_checked a o
    go None e h = cc
    go (Some bytes) e h =
        let first = h.0 in
        let same : n ≡ length bytes = cc in
        let few : length bytes ≤ 8 = omega arith in
        ap (λ (m : ℕ). in_text (store_of a (take m out))) same
        ∙ ap (λ (bs : List ℕ). in_text (store_of a bs)) (h.1 few)
        ∙ store_of-checked a bytes (some_bytes field bytes e) few

-- ---- The words

-- the flush of the address, or what refuses it
abbrev pub flush_of : (ℕ → Op) → Result ℕ TextKind → Result Op TextKind
flush_of make (Ok a) = Ok (make a)
flush_of make (Err kind) = Err kind

flush_checked : (make : ℕ → Op) (o : Option ℕ) → ((a : ℕ) → op_checked (make a) ≡ checked OutOfRange (is_address a) (Ok (make a))) →
    flush_of make (required BadField o (λ a. checked OutOfRange (is_address a) (Ok a))) ≡ required BadField (option_map make o) op_checked
flush_checked make None h = refl
flush_checked make (Some a) h = go (is_address a) ∙ sym (h a)
  where
    go : (t : Bool) → flush_of make (checked OutOfRange t (Ok a)) ≡ checked OutOfRange t (Ok (make a))
    go true = refl
    go false = refl

pub flush-clwb : (fields : List (List ℕ)) → flush_of Clwb (flushed_of_fields fields) ≡ op_of_fields words.Clwb fields
unfolding op_of_fields flushed_of_fields
flush-clwb fields = flush_checked Clwb (flushed_in fields) (λ a. refl)

pub flush-clflushopt : (fields : List (List ℕ)) → flush_of ClflushOpt (flushed_of_fields fields) ≡ op_of_fields words.ClflushOpt fields
unfolding op_of_fields flushed_of_fields
flush-clflushopt fields = flush_checked ClflushOpt (flushed_in fields) (λ a. refl)

pub flush-clflush : (fields : List (List ℕ)) → flush_of Clflush (flushed_of_fields fields) ≡ op_of_fields words.Clflush fields
unfolding op_of_fields flushed_of_fields
flush-clflush fields = flush_checked Clflush (flushed_in fields) (λ a. refl)

pub fence-sfence : (fields : List (List ℕ)) → fence_of_fields Sfence fields ≡ op_of_fields words.Sfence fields
unfolding op_of_fields
fence-sfence [] = refl
fence-sfence (field ∷ fields) = refl

pub fence-mfence : (fields : List (List ℕ)) → fence_of_fields Mfence fields ≡ op_of_fields words.Mfence fields
unfolding op_of_fields
fence-mfence [] = refl
fence-mfence (field ∷ fields) = refl

-- ---- The lines

pub line-no_word : (f : Layout) (line word : List ℕ) (left : List (List ℕ)) → fields_of line ≡ word ∷ left → None ≡ word_in f word → Err BadWord ≡ line_judged f line
unfolding line_judged
line-no_word f line word left e h =
    ap (λ (o : Option Word). required BadWord o (λ w. required BadField (event_in w left) event_checked)) h ∙ ap (event_judged f) (sym e)

-- the event of the word's fields
pub line-word : (f : Layout) (line word : List ℕ) (left : List (List ℕ)) (w : Word) → fields_of line ≡ word ∷ left → Some w ≡ word_in f word → required BadField (event_in w left) event_checked ≡ line_judged f line
unfolding line_judged
line-word f line word left w e h =
    ap (λ (o : Option Word). required BadWord o (λ v. required BadField (event_in v left) event_checked)) h ∙ ap (event_judged f) (sym e)

pub line-no_thread : (f : Layout) (line word : List ℕ) (left : List (List ℕ)) (w : Word) → fields_of line ≡ word ∷ left → Some w ≡ word_in f word → None ≡ first_number left → Err BadField ≡ line_judged f line
line-no_thread f line word left w e h none = event-none w left none ∙ line-word f line word left w e h

pub line-event : (f : Layout) (line word : List ℕ) (left after : List (List ℕ)) (w : Word) (t : ℕ) → fields_of line ≡ word ∷ left → Some w ≡ word_in f word → Some (t, after) ≡ first_number left → with_thread t (op_of_fields w after) ≡ line_judged f line
line-event f line word left after w t e h some = event-some w left after t some ∙ line-word f line word left w e h

pub script_line-no_word : (line word : List ℕ) (left : List (List ℕ)) → fields_of line ≡ word ∷ left → None ≡ word_in first_version word → Err BadWord ≡ script_line_judged line
unfolding script_line_judged
script_line-no_word line word left e h =
    ap (λ (o : Option Word). required BadWord o (λ w. required BadField (op_in w left) op_checked)) h ∙ ap op_judged (sym e)

pub script_line-op : (line word : List ℕ) (left : List (List ℕ)) (w : Word) → fields_of line ≡ word ∷ left → Some w ≡ word_in first_version word → op_of_fields w left ≡ script_line_judged line
unfolding script_line_judged op_of_fields
script_line-op line word left w e h =
    ap (λ (o : Option Word). required BadWord o (λ v. required BadField (op_in v left) op_checked)) h ∙ ap op_judged (sym e)
