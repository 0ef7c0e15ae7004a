-- At each return, the word that the field is.
use Rattle.std.proofs.Common.{◌≡◌, ◌≢◌, true, false, refl, sym, ◌∙◌, eq-eqb, ne_eqb, ◌==◌, true≢false}
use Rattle.pmt_text.specs.declared.word.Word.{Word}
use Rattle.pmt_text.specs.declared.word.Word.TheVariants as words
use Rattle.pmt_text.specs.Spelling.{word_text}
use Rattle.pmt_text.specs.Judging.{is_known}
use Rattle.pmt_text.proofs.WordLemmas.{is_text, no_text, word_in-known, word_in-other}
use Rattle.pmt_text.proofs.word.read_word.Goals as goal

pub returns-then-eq : goal.returns-then-eq
returns-then-eq c = word_in-known c.args.format words.Store c.args.field.now (is_text c.args.field.now c.as_slice.result.now _ c.eq.result c.eq.ensures c.as_slice.ensures c.if-eq.true) refl

pub returns-then-eq-2 : goal.returns-then-eq-2
returns-then-eq-2 c = word_in-known c.args.format words.Clwb c.args.field.now (is_text c.args.field.now c.as_slice-2.result.now _ c.eq-2.result c.eq-2.ensures c.as_slice-2.ensures c.if-eq-2.true) refl

pub returns-then-eq-3 : goal.returns-then-eq-3
returns-then-eq-3 c = word_in-known c.args.format words.Sfence c.args.field.now (is_text c.args.field.now c.as_slice-3.result.now _ c.eq-3.result c.eq-3.ensures c.as_slice-3.ensures c.if-eq-3.true) refl

pub returns-then-eq-4 : goal.returns-then-eq-4
returns-then-eq-4 c = word_in-known c.args.format words.ClflushOpt c.args.field.now (is_text c.args.field.now c.as_slice-4.result.now _ c.eq-4.result c.eq-4.ensures c.as_slice-4.ensures c.if-eq-4.true) refl

pub returns-then-eq-5 : goal.returns-then-eq-5
returns-then-eq-5 c = word_in-known c.args.format words.IsPersist c.args.field.now (is_text c.args.field.now c.as_slice-5.result.now _ c.eq-5.result c.eq-5.ensures c.as_slice-5.ensures c.if-eq-5.true) refl

pub returns-then-eq-6 : goal.returns-then-eq-6
returns-then-eq-6 c = word_in-known c.args.format words.IsOrderedBefore c.args.field.now (is_text c.args.field.now c.as_slice-6.result.now _ c.eq-6.result c.eq-6.ensures c.as_slice-6.ensures c.if-eq-6.true) refl

pub returns-then-eq-7 : goal.returns-then-eq-7
returns-then-eq-7 c = word_in-known c.args.format words.Clflush c.args.field.now (is_text c.args.field.now c.as_slice-7.result.now _ c.eq-7.result c.eq-7.ensures c.as_slice-7.ensures c.if-eq-7.true) (eq-eqb _ _ (sym c.version.ensures.value ∙ c.if-version-ne2.false))

pub returns-then-eq-8 : goal.returns-then-eq-8
returns-then-eq-8 c = word_in-known c.args.format words.Mfence c.args.field.now (is_text c.args.field.now c.as_slice-8.result.now _ c.eq-8.result c.eq-8.ensures c.as_slice-8.ensures c.if-eq-8.true) (eq-eqb _ _ (sym c.version.ensures.value ∙ c.if-version-ne2.false))

pub returns-then-version-ne2 : goal.returns-then-version-ne2
returns-then-version-ne2 c = word_in-other c.args.format c.args.field.now each
  where
    first : (c.args.format.version == 2) ≡ false
    first = ne_eqb _ _ (λ e. c.if-version-ne2.true (c.version.ensures.value ∙ e))

    each : (w : Word) → is_known c.args.format w ≡ true → c.args.field.now ≢ word_text w
    each words.Store known = no_text c.args.field.now c.as_slice.result.now (word_text words.Store) c.eq.result c.eq.ensures c.as_slice.ensures c.if-eq.false
    each words.Clwb known = no_text c.args.field.now c.as_slice-2.result.now (word_text words.Clwb) c.eq-2.result c.eq-2.ensures c.as_slice-2.ensures c.if-eq-2.false
    each words.Sfence known = no_text c.args.field.now c.as_slice-3.result.now (word_text words.Sfence) c.eq-3.result c.eq-3.ensures c.as_slice-3.ensures c.if-eq-3.false
    each words.ClflushOpt known = no_text c.args.field.now c.as_slice-4.result.now (word_text words.ClflushOpt) c.eq-4.result c.eq-4.ensures c.as_slice-4.ensures c.if-eq-4.false
    each words.IsPersist known = no_text c.args.field.now c.as_slice-5.result.now (word_text words.IsPersist) c.eq-5.result c.eq-5.ensures c.as_slice-5.ensures c.if-eq-5.false
    each words.IsOrderedBefore known = no_text c.args.field.now c.as_slice-6.result.now (word_text words.IsOrderedBefore) c.eq-6.result c.eq-6.ensures c.as_slice-6.ensures c.if-eq-6.false
    each words.Clflush known = absurd (true≢false (sym known ∙ first))
    each words.Mfence known = absurd (true≢false (sym known ∙ first))

pub returns : goal.returns
returns c = word_in-other c.args.format c.args.field.now each
  where
    each : (w : Word) → is_known c.args.format w ≡ true → c.args.field.now ≢ word_text w
    each words.Store known = no_text c.args.field.now c.as_slice.result.now (word_text words.Store) c.eq.result c.eq.ensures c.as_slice.ensures c.if-eq.false
    each words.Clwb known = no_text c.args.field.now c.as_slice-2.result.now (word_text words.Clwb) c.eq-2.result c.eq-2.ensures c.as_slice-2.ensures c.if-eq-2.false
    each words.Sfence known = no_text c.args.field.now c.as_slice-3.result.now (word_text words.Sfence) c.eq-3.result c.eq-3.ensures c.as_slice-3.ensures c.if-eq-3.false
    each words.ClflushOpt known = no_text c.args.field.now c.as_slice-4.result.now (word_text words.ClflushOpt) c.eq-4.result c.eq-4.ensures c.as_slice-4.ensures c.if-eq-4.false
    each words.IsPersist known = no_text c.args.field.now c.as_slice-5.result.now (word_text words.IsPersist) c.eq-5.result c.eq-5.ensures c.as_slice-5.ensures c.if-eq-5.false
    each words.IsOrderedBefore known = no_text c.args.field.now c.as_slice-6.result.now (word_text words.IsOrderedBefore) c.eq-6.result c.eq-6.ensures c.as_slice-6.ensures c.if-eq-6.false
    each words.Clflush known = no_text c.args.field.now c.as_slice-7.result.now (word_text words.Clflush) c.eq-7.result c.eq-7.ensures c.as_slice-7.ensures c.if-eq-7.false
    each words.Mfence known = no_text c.args.field.now c.as_slice-8.result.now (word_text words.Mfence) c.eq-8.result c.eq-8.ensures c.as_slice-8.ensures c.if-eq-8.false
