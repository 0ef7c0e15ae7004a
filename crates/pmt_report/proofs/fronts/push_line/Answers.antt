use Rattle.std.proofs.Common.{arith, ◌≡◌, ℕ, ◌*◌, List, ◌++◌, length, ap, ◌∙◌, subst, OnOk}
use Rattle.std.proofs.lemmas.Grind.{elements}
use Rattle.pmt_laws.specs.Prelude.{Layout, history, count_at, lines_of, front_at}
use Rattle.pmt_book.proofs.LiveLemmas.{has-slot, slot-in}
use Rattle.pmt_report.specs.Reports.{front_entry, line_entry}
use Rattle.pmt_report.proofs.fronts.push_line.Goals as goal

pub front-front-requires : goal.front-front-requires
front-front-requires c = has-slot _ _ c.args.line c.args.slot _ c.requires.slot c.requires.lines.1.live

pub count-count-requires : goal.count-count-requires
count-count-requires c = has-slot _ _ c.args.line c.args.slot _ c.requires.slot c.requires.lines.1.live

pub returns : goal.returns
returns c = λ T known.
    let l = c.args.line in
    let n = length T.events in
    let h = history T n in
    let at = slot-in (lines_of h) h l c.args.slot c.args.lines.now.live c.requires.slot known.live in
    let size : c.line_size.result ≡ T.format.line_size = c.line_size.ensures.value ∙ ap (λ (f : Layout). f.line_size) known.format in
    let front : c.front-front.result ≡ front_at T l n = c.front-front.ensures (lines_of h) h l at known.live in
    let count : c.count-count.result ≡ count_at T l n = c.count-count.ensures (lines_of h) h l at known.live in
    let entry : front_entry (l * c.line_size.result) c.front-front.result c.count-count.result ≡ line_entry T n l = ap (λ (s : ℕ). front_entry (l * s) c.front-front.result c.count-count.result) size
    ∙ ap (λ (f : ℕ). front_entry (l * T.format.line_size) f c.count-count.result) front
    ∙ ap (λ (k : ℕ). front_entry (l * T.format.line_size) (front_at T l n) k) count in
    subst (λ (bytes : List ℕ). OnOk c.push_front_entry.result (c.push_front_entry.new.text.items ≡ c.args.text.now.items ++ bytes)) entry c.push_front_entry.ensures

pub overflow_mul-addr : goal.overflow_mul-addr
overflow_mul-addr c = grind (arith, elements)
