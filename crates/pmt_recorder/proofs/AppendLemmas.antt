-- What the owner of a tape learns of an append.
use Rattle.std.proofs.Common.{◌≡◌, ℕ, zero, suc, ◌+◌, ◌<◌, ◌≤◌, List, [], ◌∷◌, ◌++◌, length, map, get_or, slice_get, Some, true, sym, ◌∙◌, ap, subst, arith, Result, Ok, Err}
use Rattle.std.proofs.lemmas.List.{length-append}
use Rattle.pmt_model.specs.declared.event.Op.{Op}
use Rattle.pmt_model.specs.Values.{Layout}
use Rattle.pmt_model.specs.Traces.{Recording, in_format, event_limit, with_event}
use Rattle.pmt_book.specs.declared.fault.BookError.{BookError}
use Rattle.pmt_book.specs.declared.fault.BookError.TheVariants.{NotInFormat, Full, OutOfMemory}
use Rattle.pmt_recorder.specs.Strips.{Strip, strip, with_entry, event_of}
use Rattle.pmt_recorder.specs.Shelving.{Appends, Records}

-- what is said of book and tape says this of the tape
pub records-from_appends :
    (f : Layout) (book : Recording) (tape : Strip) (op : Op) (r : Result ℕ BookError) (new_book : Recording) (new_tape : Strip) →
    book.format ≡ f → Appends book tape op r new_book new_tape → Records f tape op r new_tape
records-from_appends f book tape op (Ok number) nb nt e a = (a.2, ap (λ (g : Layout). in_format g op) (sym e) ∙ a.3, a.5)
records-from_appends f book tape op (Err NotInFormat) nb nt e a = (a.1, ap (λ (g : Layout). in_format g op) (sym e) ∙ a.2)
records-from_appends f book tape op (Err (Full events)) nb nt e a = (a.1, ap (λ (g : Layout). in_format g op) (sym e) ∙ a.2, a.4)
records-from_appends f book tape op (Err OutOfMemory) nb nt e a = (a.1, ap (λ (g : Layout). in_format g op) (sym e) ∙ a.2)

-- the book and the tape have one more, and the ledger tells that the tape was no longer than the book
pub appended :
    (book book0 new : Recording) (tape : Strip) (thread : ℕ) (es es1 es2 : List (ℕ × Op)) (op : Op) (number amount total : ℕ) →
    book ≡ book0 → tape ≡ strip thread es → es1 ≡ es → es2 ≡ es1 ++ (number, op) ∷ [] →
    (in_format book0.format op ≡ true) × (length book0.events < event_limit) × (number ≡ length new.events) × (new ≡ with_event book0 (record { thread = thread; op = op })) →
    amount ≡ length es → amount ≤ total → length book0.events ≡ total → Appends book tape op (Ok number) new (strip thread es2)
appended book book0 new tape thread es es1 es2 op number amount total b t same pushed a own below counted =
    let grown : es2 ≡ es ++ (number, op) ∷ [] = pushed ∙ ap (λ (l : List (ℕ × Op)). l ++ (number, op) ∷ []) same in
    let few : length book0.events < 1000000 = a.1 in
    let count : number ≡ length book0.events + 1 = a.2 ∙ ap (λ (T : Recording). length T.events) a.3 ∙ length-append book0.events (event_of (strip thread es) op ∷ []) in
    let long : length es2 ≡ length es + 1 = ap length grown ∙ length-append es ((number, op) ∷ []) in
    let first : 1 ≤ number = omega (arith, count) in
    let last : number ≤ 1000000 = omega (arith, count, few) in
    let enough : length es2 ≤ number = omega (arith, count, long, own, below, counted) in (
      a.3 ∙ ap (λ (T : Recording). with_event T (event_of (strip thread es) op)) (sym b) ∙ ap (λ (s : Strip). with_event book (event_of s op)) (sym t),
      a.2,
      ap (strip thread) grown ∙ ap (λ (s : Strip). with_entry s number op) (sym t),
      ap (λ (T : Recording). in_format T.format op) b ∙ a.0,
      subst (λ (T : Recording). length T.events < event_limit) (sym b) a.1,
      record { first = first; last = last; enough = enough },
    )

-- the script of a number is what its memory has
pub script_at : {A : Type 0} → (f : A → List Op) (xs : List A) (t : ℕ) (x : A) → t < length xs → x ≡ get_or xs t x → slice_get (map f xs) t ≡ Some (f x)
script_at f [] t x h e = absurd (omega arith)
script_at f (y ∷ xs) zero x h e = ap (λ (z : _). Some (f z)) (sym e)
script_at f (y ∷ xs) (suc t) x h e = script_at f xs t x (omega (arith, h)) e
