use Rattle.std.proofs.Common.{◌≡◌, suc, ap, ◌∙◌, arith}
use Rattle.std.proofs.lemmas.Grind.{elements}
use Rattle.pmt_laws.specs.Prelude.{last_flush, history, lines_of, with_line}
use Rattle.pmt_safety.specs.Safety.{last_line_store_at, safe_store_at}
use Rattle.pmt_rows.specs.declared.rows.Row.{Row}
use Rattle.pmt_rows.specs.Known.{row_after}
use Rattle.pmt_sweep.proofs.ClflushLemmas.{clears-chain, cleared-rows, cleared-links, cleared-words, cleared-flushed, cleared-waiting, clears-kept, clears-redundant}
use Rattle.pmt_sweep.proofs.known.Known.clflush_at.Goals as goal

pub raise-requires : goal.raise-requires
raise-requires c =
    let r = c.requires in
    let T = r.0 in
    let n = r.1 in
    let l = r.2 in
    let it = r.3 in
    let k = c.args.self.now in
    let slot = c.args.slot in
    let lines = with_line l (lines_of (history T n)) in
    let row : c.row-row.result ≡ row_after (λ m. safe_store_at T m n) (history T n) l = c.row-row.ensures lines (λ m. last_line_store_at T m n) (λ m. safe_store_at T m n) (λ m. last_flush m (history T n)) l it.at it.known.rows in
    let safe = ap (λ (y : Row). y.safe) row in
    let last = ap (λ (y : Row). y.last_store) row in
    clears-chain T n l slot lines k it.known it.is it.at c.row-row.result.safe c.row-row.result.last_store safe last

pub returns-clause-known : goal.returns-clause-known
returns-clause-known c = λ T n l it.
    let k = c.args.self.now in
    let slot = c.args.slot in
    let lines = with_line l (lines_of (history T n)) in
    let row : c.row-row.result ≡ row_after (λ m. safe_store_at T m n) (history T n) l = c.row-row.ensures lines (λ m. last_line_store_at T m n) (λ m. safe_store_at T m n) (λ m. last_flush m (history T n)) l it.at it.known.rows in
    let safe = ap (λ (y : Row). y.safe) row in
    let last = ap (λ (y : Row). y.last_store) row in
    let numbered : c.len-number.result ≡ suc n = c.len-number.ensures ∙ it.known.entries.many in
    record {
      trace = it.known.trace;
      format = it.known.format;
      many = it.known.many;
      rows = cleared-rows T n l slot lines k it.known it.is it.at c.len-number.result c.clflush.new.self numbered (c.clflush.ensures lines (λ m. last_line_store_at T m n) (λ m. safe_store_at T m n) (λ m. last_flush m (history T n)) l it.at it.known.rows);
      words = cleared-words T n l slot lines k it.known it.is it.at;
      entries = cleared-links T n l slot lines k it.known it.is it.at c.row-row.result.safe c.row-row.result.last_store c.len-number.result c.raise.new.self c.push.new.self safe last numbered c.raise.ensures c.in_ok-push.ensures.added;
      flushed = cleared-flushed T n l slot lines k it.known it.is it.at;
      waiting = cleared-waiting T n l slot lines k it.known it.is it.at;
    }

pub returns-clause-kept : goal.returns-clause-kept
returns-clause-kept c = λ T n l it.
    let k = c.args.self.now in
    let slot = c.args.slot in
    let lines = with_line l (lines_of (history T n)) in
    let row : c.row-row.result ≡ row_after (λ m. safe_store_at T m n) (history T n) l = c.row-row.ensures lines (λ m. last_line_store_at T m n) (λ m. safe_store_at T m n) (λ m. last_flush m (history T n)) l it.at it.known.rows in
    let safe = ap (λ (y : Row). y.safe) row in
    let last = ap (λ (y : Row). y.last_store) row in
    clears-kept T n l slot lines k it.known it.is it.at c.row-row.result.safe c.row-row.result.last_store safe last

pub returns-clause-redundant : goal.returns-clause-redundant
returns-clause-redundant c = λ T n l it.
    let k = c.args.self.now in
    let slot = c.args.slot in
    let lines = with_line l (lines_of (history T n)) in
    let row : c.row-row.result ≡ row_after (λ m. safe_store_at T m n) (history T n) l = c.row-row.ensures lines (λ m. last_line_store_at T m n) (λ m. safe_store_at T m n) (λ m. last_flush m (history T n)) l it.at it.known.rows in
    let safe = ap (λ (y : Row). y.safe) row in
    let last = ap (λ (y : Row). y.last_store) row in
    clears-redundant T n l slot lines k it.known it.is it.at c.row-row.result.safe c.row-row.result.last_store safe last

pub overflow_cast-number : goal.overflow_cast-number
overflow_cast-number c = grind (arith, elements)

pub row-row-requires : goal.row-row-requires
row-row-requires c = grind (arith, elements)

pub clflush-requires : goal.clflush-requires
clflush-requires c = grind (arith, elements)
