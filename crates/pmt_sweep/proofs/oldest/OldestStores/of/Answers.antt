use Rattle.std.proofs.Common.{◌≡◌, List, get_or, sym, ap, subst, ◌∙◌}
use Rattle.pmt_laws.specs.Prelude.{history, Layout}
use Rattle.pmt_rows.specs.declared.rows.Row.{Row}
use Rattle.pmt_rows.specs.Known.{row_after}
use Rattle.pmt_tables.specs.Lasts.{IsLeastAbove}
use Rattle.pmt_safety.specs.Safety.{safe_store_at}
use Rattle.pmt_sweep.specs.declared.oldest.OldestStore.{OldestStore}
use Rattle.pmt_sweep.specs.declared.oldest.OldestStores.{OldestStores}
use Rattle.pmt_sweep.specs.Judged.{AreOldestOf, IsOldestOf, none_found}
use Rattle.pmt_sweep.specs.Known.{last_in_line}
use Rattle.pmt_sweep.proofs.OldestLemmas.{oldest-found, oldest-kept, oldest-now}
use Rattle.pmt_sweep.proofs.oldest.OldestStores.of.Goals.{in-Some+else-found-last_store, in_default}
use Rattle.pmt_sweep.proofs.oldest.OldestStores.of.Goals as goal

pub returns-then-found-last_store-clause-oldest : goal.returns-then-found-last_store-clause-oldest
returns-then-found-last_store-clause-oldest c = λ T n l it are.
    let x = c.in-Some.found.now in
    let row : c.row-last_store.result ≡ row_after (λ m. safe_store_at T m n) (history T n) l = c.row-last_store.ensures T n l it in
    let here : get_or c.args.self.now.found.items c.args.slot none_found ≡ x = sym (c.in-Some.ensures.lookup.3.1 none_found ∙ ap (λ (xs : List OldestStore). get_or xs c.args.slot none_found) c.deref.ensures.value) in
    oldest-now T n l x it.known.trace (c.if-found-last_store.true ∙ ap (λ (y : Row). y.last_store) row) (subst (IsOldestOf T n l) here (are.each l c.args.slot it.at))

pub returns-clause-oldest : goal.returns-clause-oldest
returns-clause-oldest c = λ T n l it are.
    subst (λ m. IsLeastAbove 0 0 m (last_in_line T n l) c.oldest_of_line-oldest.result) (ap (λ (f : Layout). f.line_size) it.known.format) (c.oldest_of_line-oldest.ensures T n l it)

pub returns-clause-kept : goal.returns-clause-kept
returns-clause-kept c = λ T n l it are.
    let row : c.row-last_store.result ≡ row_after (λ m. safe_store_at T m n) (history T n) l = c.row-last_store.ensures T n l it in
    let oldest = subst (λ m. IsLeastAbove 0 0 m (last_in_line T n l) c.oldest_of_line-oldest.result) (ap (λ (f : Layout). f.line_size) it.known.format) (c.oldest_of_line-oldest.ensures T n l it) in
    let found = oldest-found T n l (record { last_store = c.row-last_store.result.last_store; oldest = c.oldest_of_line-oldest.result }) it.known.trace (ap (λ (y : Row). y.last_store) row) oldest in
    let same : c.args.self.now ≡ c.match-get.self = elim c.match-get.branch [ in-Some+else-found-last_store w ↦ sym w.self-is | in_default w ↦ sym w.self-is ] in
    oldest-kept T n l c.args.slot _ c.match-get.self.found.items c.keep.new.self.found.items it.at found c.keep.ensures.few c.keep.ensures.each
    (subst (λ (s : OldestStores). AreOldestOf T n s.found.items) same are)
