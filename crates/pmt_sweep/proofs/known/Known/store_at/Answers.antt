use Rattle.std.proofs.Common.{◌≡◌, ℕ, suc, ◌+◌, ◌*◌, ◌<◌, length, ap, subst, ◌∙◌, arith}
use Rattle.std.proofs.lemmas.Grind.{elements}
use Rattle.pmt_laws.specs.Prelude.{last_flush, history, lines_of, with_line}
use Rattle.pmt_safety.specs.Safety.{last_line_store_at, safe_store_at}
use Rattle.pmt_tables.specs.Lasts.{last_at, with_store}
use Rattle.pmt_rows.specs.declared.rows.Row.{Row}
use Rattle.pmt_rows.specs.Known.{row_after}
use Rattle.pmt_sweep.proofs.WordsLemmas.{words-store}
use Rattle.pmt_sweep.proofs.KnownLemmas.{stored-rows, stored-links, stored-flushed, stored-waiting, stored-over}
use Rattle.pmt_sweep.proofs.known.Known.store_at.Goals as goal

pub returns-clause-known : goal.returns-clause-known
returns-clause-known c = λ T n l w it.
    let k = c.args.self.now in
    let b = c.args.bytes in
    let slot = c.args.slot in
    let lines = with_line l (lines_of (history T n)) in
    let row : c.row-row.result ≡ row_after (λ m. safe_store_at T m n) (history T n) l = c.row-row.ensures lines (λ m. last_line_store_at T m n) (λ m. safe_store_at T m n) (λ m. last_flush m (history T n)) l it.at it.known.rows in
    let numbered : c.len-number.result ≡ suc n = c.len-number.ensures ∙ it.known.entries.many in
    let stored : (j i : ℕ) → j < length k.words → i < 8 → last_at c.store.new.self j i ≡ with_store (slot * k.words_of_line + b.word) b.low b.high (suc n) (last_at k.words) j i =
    subst (λ m. (j i : ℕ) → j < length k.words → i < 8 → last_at c.store.new.self j i ≡ with_store (slot * k.words_of_line + b.word) b.low b.high m (last_at k.words) j i) numbered c.in_ok-store.ensures.stored in
    record {
      trace = it.known.trace;
      format = it.known.format;
      many = it.known.many;
      rows = stored-rows T n l slot b.word b.low b.high w lines k it.known it.is it.at it.word it.eight it.writes c.len-number.result c.store-2.new.self numbered
          (c.store-2.ensures lines (λ m. last_line_store_at T m n) (λ m. safe_store_at T m n) (λ m. last_flush m (history T n)) l it.at it.known.rows);
      words = words-store T n k.words_of_line l slot b.word b.low b.high w lines k.words c.store.new.self it.known.many it.is it.known.rows.once it.at it.word it.eight it.writes c.store.ensures.many stored it.known.words;
      entries = stored-links T n l slot b.word b.low b.high w lines k it.known it.is it.at it.word it.eight it.writes c.row-row.result.last_store c.push.new.self (ap (λ (y : Row). y.last_store) row) c.in_ok-push.ensures.added;
      flushed = stored-flushed T n l slot b.word b.low b.high w lines k it.known it.is it.at it.word it.eight it.writes;
      waiting = stored-waiting T n l slot b.word b.low b.high w lines k it.known it.is it.at it.word it.eight it.writes;
    }

pub returns-clause-tells : goal.returns-clause-tells
returns-clause-tells c = λ T n l w it.
    let k = c.args.self.now in
    let b = c.args.bytes in
    let lines = with_line l (lines_of (history T n)) in
    let row : c.row-row.result ≡ row_after (λ m. safe_store_at T m n) (history T n) l = c.row-row.ensures lines (λ m. last_line_store_at T m n) (λ m. safe_store_at T m n) (λ m. last_flush m (history T n)) l it.at it.known.rows in
    let numbered : c.len-number.result ≡ suc n = c.len-number.ensures ∙ it.known.entries.many in
    stored-over T n l c.args.slot b.word b.low b.high w lines k it.known it.is it.at it.word it.eight it.writes c.len-number.result c.row-row.result.last_flush c.args.over.now.items c.store.new.over.items numbered (ap (λ (y : Row). y.last_flush) row)
    c.in_ok-store.ensures.over

pub overflow_cast-number : goal.overflow_cast-number
overflow_cast-number c = grind (arith, elements)

pub row-row-requires : goal.row-row-requires
row-row-requires c = grind (arith, elements)

pub store-requires-clause-within : goal.store-requires-clause-within
store-requires-clause-within c = grind (arith, elements)

pub store-requires-clause-small : goal.store-requires-clause-small
store-requires-clause-small c = grind (arith, elements)

pub store-requires-2 : goal.store-requires-2
store-requires-2 c = grind (arith, elements)

pub overflow_mul-word : goal.overflow_mul-word
overflow_mul-word c = grind arith

pub overflow_add-word : goal.overflow_add-word
overflow_add-word c = grind arith

pub returns-in_err-store-clause-known : goal.returns-in_err-store-clause-known
returns-in_err-store-clause-known c = grind arith

pub returns-in_err-push-clause-known : goal.returns-in_err-push-clause-known
returns-in_err-push-clause-known c = grind arith

pub returns-in_err-push-clause-tells : goal.returns-in_err-push-clause-tells
returns-in_err-push-clause-tells c = grind arith
