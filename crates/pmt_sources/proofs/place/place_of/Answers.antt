use Rattle.std.proofs.Common.{◌≡◌, ℕ, ◌≤◌, List, length, None, Some, option_map, sym, ap, ◌∙◌, arith}
use Rattle.std.proofs.lemmas.Bool.{eqb-true, eqb-false}
use Rattle.pmt_text.specs.Judging.{number_in, capped}
use Rattle.pmt_sources.proofs.LineLemmas.{nothing}
use Rattle.pmt_sources.proofs.PlaceLemmas.{capped-above, capped-most, cut-at, none-without, read-as, read-line, read-none, uncapped}
use Rattle.pmt_sources.proofs.place.place_of.Goals.{then-is_empty-via-then-is_empty, then-is_empty-via-else-is_empty+then-line-eq0, then-is_empty-via-else-is_empty+else-line-eq0+then-line-gt-MOST_LINE}
use Rattle.pmt_sources.proofs.place.place_of.Goals as goal

pub returns-in_default : goal.returns-in_default
returns-in_default c = λ file line p. none-without c.args.word.now file line c.in_default.ensures.cases p

pub returns-in_default-read_number : goal.returns-in_default-read_number
returns-in_default-read_number c = λ file line p.
    let digits = c.in-Some.digits.now in
    let cut = cut-at c.args.word.now c.in-Some.file.now digits c.in-Some.ensures.cases in
    let own : number_in 10 digits ≡ Some line = (read-as c.args.word.now c.in-Some.file.now digits file line cut p).1 in
    let none : None ≡ option_map capped (number_in 10 digits) = sym c.in_default-read_number.is ∙ c.read_number.ensures ∙ ap (λ bytes. option_map capped (number_in 10 bytes)) c.as_bytes.ensures.value in
    read-none (number_in 10 digits) line none own

pub returns-then-is_empty : goal.returns-then-is_empty
returns-then-is_empty c = λ file line p.
    let digits = c.in-Some.digits.now in
    let cut = cut-at c.args.word.now c.in-Some.file.now digits c.in-Some.ensures.cases in
    let same = read-as c.args.word.now c.in-Some.file.now digits file line cut p in
    let read : Some c.in-Some-read_number.line ≡ option_map capped (number_in 10 digits) = sym c.in-Some-read_number.is ∙ c.read_number.ensures ∙ ap (λ bytes. option_map capped (number_in 10 bytes)) c.as_bytes.ensures.value in
    let number : c.in-Some-read_number.line ≡ capped line = read-line (number_in 10 digits) c.in-Some-read_number.line line read same.1 in
    elim c.then-is_empty.branch [
      | then-is_empty-via-then-is_empty w ↦ p.named (same.0 ∙ nothing c.in-Some.file.now (eqb-true (length c.in-Some.file.now) 0 (sym c.is_empty.ensures ∙ w.if-is_empty.true)))
      | then-is_empty-via-else-is_empty+then-line-eq0 w ↦ capped-above line p.from_1 (sym number ∙ w.if-line-eq0.true)
      | then-is_empty-via-else-is_empty+else-line-eq0+then-line-gt-MOST_LINE w ↦ omega (arith, w.if-line-gt-MOST_LINE.true, number, capped-most line, p.most)
    ]

pub returns : goal.returns
returns c =
    let digits = c.in-Some.digits.now in
    let cut = cut-at c.args.word.now c.in-Some.file.now digits c.in-Some.ensures.cases in
    let read : Some c.in-Some-read_number.line ≡ option_map capped (number_in 10 digits) = sym c.in-Some-read_number.is ∙ c.read_number.ensures ∙ ap (λ bytes. option_map capped (number_in 10 bytes)) c.as_bytes.ensures.value in
    let most : c.in-Some-read_number.line ≤ 9_999_999 = c.if-line-gt-MOST_LINE.false in
    record {
      digits = digits;
      whole = cut.0;
      last = cut.1;
      number = uncapped (number_in 10 digits) c.in-Some-read_number.line read most;
      named = λ is. eqb-false (length c.in-Some.file.now) 0 (sym c.is_empty.ensures ∙ c.if-is_empty.false) (ap (λ (xs : List ℕ). length xs) is);
      from_1 = omega (arith, c.if-line-eq0.false);
      most = most;
    }
