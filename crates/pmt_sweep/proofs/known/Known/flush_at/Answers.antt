use Rattle.std.proofs.Common.{◌≡◌, suc, ◌==◌, refl, sym, ap, ◌∙◌, arith}
use Rattle.std.proofs.lemmas.Grind.{elements}
use Rattle.std.specs.Prelude.{◌||◌, nat_eq}
use Rattle.pmt_laws.specs.Prelude.{last_flush, history, lines_of, with_line}
use Rattle.pmt_safety.specs.Safety.{last_line_store_at, safe_store_at}
use Rattle.pmt_rows.specs.declared.rows.Row.{Row}
use Rattle.pmt_rows.specs.Known.{row_after}
use Rattle.pmt_sweep.proofs.KnownLemmas.{flushed-rows, flushed-words, flushed-links, flushed-flushed, flushed-waiting, flushed-tells, or-left}
use Rattle.pmt_sweep.proofs.known.Known.flush_at.Goals as goal

pub returns-then-again-clause-known : goal.returns-then-again-clause-known
returns-then-again-clause-known c = λ T n l it.
    let k = c.args.self.now in
    let t = c.args.thread in
    let slot = c.args.slot in
    let lines = with_line l (lines_of (history T n)) in
    let row : c.row-row.result ≡ row_after (λ m. safe_store_at T m n) (history T n) l = c.row-row.ensures lines (λ m. last_line_store_at T m n) (λ m. safe_store_at T m n) (λ m. last_flush m (history T n)) l it.at it.known.rows in
    let marked = ap (λ (y : Row). y.last_store) row in
    let numbered : c.len-number.result ≡ suc n = c.len-number.ensures ∙ it.known.entries.many in
    record {
      trace = it.known.trace;
      format = it.known.format;
      many = it.known.many;
      rows = flushed-rows T n l t slot lines k it.known it.is it.at c.len-number.result c.flush-2.new.self numbered (c.flush-2.ensures lines (λ m. last_line_store_at T m n) (λ m. safe_store_at T m n) (λ m. last_flush m (history T n)) l it.at it.known.rows);
      words = flushed-words T n l t slot lines k it.known it.is it.at;
      entries = flushed-links T n l t slot lines k it.known it.is it.at c.len-number.result c.push.new.self numbered c.in_ok-push.ensures.added;
      flushed = flushed-flushed T n l t slot lines k it.known it.is it.at c.row-row.result.last_store c.flush.new.self.first.items c.flush.new.self.others.lines.items marked c.in_ok-again.ensures.flushed;
      waiting = flushed-waiting T n l t slot lines k it.known it.is it.at (record { number = c.len-number.result; slot = slot; store = c.row-row.result.last_store }) c.add.new.self refl numbered marked c.in_ok-add.ensures.own c.in_ok-add.ensures.others;
    }

pub returns-then-again-clause-tells : goal.returns-then-again-clause-tells
returns-then-again-clause-tells c = λ T n l it.
    let k = c.args.self.now in
    let t = c.args.thread in
    let slot = c.args.slot in
    let lines = with_line l (lines_of (history T n)) in
    let row : c.row-row.result ≡ row_after (λ m. safe_store_at T m n) (history T n) l = c.row-row.ensures lines (λ m. last_line_store_at T m n) (λ m. safe_store_at T m n) (λ m. last_flush m (history T n)) l it.at it.known.rows in
    let marked = ap (λ (y : Row). y.last_store) row in
    flushed-tells T n l t slot lines k it.known it.is it.at c.in_ok-again.again c.in_ok-again.again c.row-row.result.safe c.row-row.result.last_store c.in_ok-again.ensures.tells (omega (arith, c.ranges.thread.fits)) (ap (λ (y : Row). y.safe) row) marked
    (c.if-again.true ∙ sym (or-left c.in_ok-again.again (c.row-row.result.safe == c.row-row.result.last_store) c.if-again.true))

pub returns-else-again-clause-known : goal.returns-else-again-clause-known
returns-else-again-clause-known c = λ T n l it.
    let k = c.args.self.now in
    let t = c.args.thread in
    let slot = c.args.slot in
    let lines = with_line l (lines_of (history T n)) in
    let row : c.row-row.result ≡ row_after (λ m. safe_store_at T m n) (history T n) l = c.row-row.ensures lines (λ m. last_line_store_at T m n) (λ m. safe_store_at T m n) (λ m. last_flush m (history T n)) l it.at it.known.rows in
    let marked = ap (λ (y : Row). y.last_store) row in
    let numbered : c.len-number.result ≡ suc n = c.len-number.ensures ∙ it.known.entries.many in
    record {
      trace = it.known.trace;
      format = it.known.format;
      many = it.known.many;
      rows = flushed-rows T n l t slot lines k it.known it.is it.at c.len-number.result c.flush-2.new.self numbered (c.flush-2.ensures lines (λ m. last_line_store_at T m n) (λ m. safe_store_at T m n) (λ m. last_flush m (history T n)) l it.at it.known.rows);
      words = flushed-words T n l t slot lines k it.known it.is it.at;
      entries = flushed-links T n l t slot lines k it.known it.is it.at c.len-number.result c.push.new.self numbered c.in_ok-push.ensures.added;
      flushed = flushed-flushed T n l t slot lines k it.known it.is it.at c.row-row.result.last_store c.flush.new.self.first.items c.flush.new.self.others.lines.items marked c.in_ok-again.ensures.flushed;
      waiting = flushed-waiting T n l t slot lines k it.known it.is it.at (record { number = c.len-number.result; slot = slot; store = c.row-row.result.last_store }) c.add.new.self refl numbered marked c.in_ok-add.ensures.own c.in_ok-add.ensures.others;
    }

pub returns-else-again-clause-tells : goal.returns-else-again-clause-tells
returns-else-again-clause-tells c = λ T n l it.
    let k = c.args.self.now in
    let t = c.args.thread in
    let slot = c.args.slot in
    let lines = with_line l (lines_of (history T n)) in
    let row : c.row-row.result ≡ row_after (λ m. safe_store_at T m n) (history T n) l = c.row-row.ensures lines (λ m. last_line_store_at T m n) (λ m. safe_store_at T m n) (λ m. last_flush m (history T n)) l it.at it.known.rows in
    let marked = ap (λ (y : Row). y.last_store) row in
    flushed-tells T n l t slot lines k it.known it.is it.at c.in_ok-again.again (nat_eq c.row-row.result.safe c.row-row.result.last_store) c.row-row.result.safe c.row-row.result.last_store c.in_ok-again.ensures.tells (omega (arith, c.ranges.thread.fits)) (ap (λ (y : Row). y.safe) row) marked
    (ap (λ b. b || (c.row-row.result.safe == c.row-row.result.last_store)) (sym c.if-again.false))

pub overflow_cast-number : goal.overflow_cast-number
overflow_cast-number c = grind (arith, elements)

pub row-row-requires : goal.row-row-requires
row-row-requires c = grind (arith, elements)

pub flush-requires-2 : goal.flush-requires-2
flush-requires-2 c = grind (arith, elements)

pub returns-in_err-again-clause-known : goal.returns-in_err-again-clause-known
returns-in_err-again-clause-known c = grind arith

pub returns-in_err-again-clause-tells : goal.returns-in_err-again-clause-tells
returns-in_err-again-clause-tells c = grind arith

pub returns-in_err-add-clause-tells : goal.returns-in_err-add-clause-tells
returns-in_err-add-clause-tells c = grind arith

pub returns-in_err-push-clause-known : goal.returns-in_err-push-clause-known
returns-in_err-push-clause-known c = grind arith

pub returns-in_err-push-clause-tells : goal.returns-in_err-push-clause-tells
returns-in_err-push-clause-tells c = grind arith
