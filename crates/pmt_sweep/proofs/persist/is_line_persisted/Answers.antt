use Rattle.std.proofs.Common.{◌≡◌, refl, ap, arith}
use Rattle.std.proofs.lemmas.Bool.{le-leb, leb-true}
use Rattle.pmt_model.specs.Traces.{history}
use Rattle.pmt_rows.specs.declared.rows.Row.{Row}
use Rattle.pmt_rows.specs.Known.{row_after}
use Rattle.pmt_safety.specs.Safety.{safe_store_at}
use Rattle.pmt_sweep.proofs.LineLemmas.{last-safe, newest-before, safe-before}
use Rattle.pmt_sweep.proofs.persist.is_line_persisted.Goals as goal

pub returns-then-row : goal.returns-then-row
returns-then-row c = λ T n A it.
    let l = c.args.at.now.line in
    let row : c.row-row.result ≡ row_after (λ m. safe_store_at T m n) (history T n) l = c.row-row.ensures T n l it.line in
    (λ told. last-safe T n l A it.line.known.trace (omega (arith, c.if-row.true, ap (λ (y : Row). y.last_store) row, ap (λ (y : Row). y.safe) row)), λ safe. refl)

pub returns : goal.returns
returns c = λ T n A it.
    let l = c.args.at.now.line in
    let row : c.row-row.result ≡ row_after (λ m. safe_store_at T m n) (history T n) l = c.row-row.ensures T n l it.line in
    let safe : c.row-row.result.safe ≡ safe_store_at T l n = ap (λ (y : Row). y.safe) row in
    let are = c.bytes-bytes.ensures T.format A it.spanned it.from it.to in
    let law = newest-before T n l A c.bytes-bytes.result it.line.known.trace are c.newest.result (safe_store_at T l n) (c.newest.ensures T n l it.line) in
    let line = safe-before T n l A in (
      λ told. line.0 (law.0 (omega (arith, leb-true c.newest.result c.row-row.result.safe told, safe))),
      λ all. le-leb c.newest.result c.row-row.result.safe (omega (arith, law.1 (line.1 all), safe)),
    )
