use Rattle.std.proofs.Common.{◌≡◌, true, false, length, sym, ap, subst, ◌∙◌}
use Rattle.std.specs.Prelude.{◌==◌, map, not}
use Rattle.std.specs.List.{filter, list_any}
use Rattle.std.proofs.lemmas.Result.{IfOk-weaker}
use Rattle.pmt_fates.specs.Places.{misses}
use Rattle.pmt_entries.specs.declared.sites.Facts.{Facts}
use Rattle.pmt_entries.specs.Sites.{AreAt, site_by, is_touched, loses_one_address, is_only_late, mixed_paths, site_in, unclaimed_in}
use Rattle.pmt_entries.proofs.FenceLemmas.{own-fences}
use Rattle.pmt_entries.proofs.SignLemmas.{AreSigns}
use Rattle.pmt_entries.proofs.SiteLemmas.{AreLines, filter-none, sites-same}
use Rattle.pmt_entries.proofs.sites.sites_of.Goals as goal

pub returns-then-not-is_any_missed : goal.returns-then-not-is_any_missed
returns-then-not-is_any_missed c =
    let rows = c.args.table.now.places.items in
    let own = own-fences c.args.trace.now in
    let none : list_any misses rows ≡ false = ap (list_any misses) (sym c.as_slice-rows.ensures.value) ∙ sym c.is_any_missed.ensures ∙ c.if-not-is_any_missed.true in
    let all = map (site_in c.args.trace.now c.args.frames.now c.args.table.now c.args.hints.now c.args.told.now c.args.waited.now c.args.claimed.now own.0) in
    (own.0, own.1, c.new.ensures.items ∙ sym (ap all (filter-none misses misses rows (λ r e. e) none)))

pub returns : goal.returns
returns c =
    let T = c.args.trace.now in
    let frames = c.args.frames.now in
    let table = c.args.table.now in
    let hints = c.args.hints.now in
    let told = c.args.told.now in
    let facts : Facts = record {
      fences = c.in_ok-fences.fences;
      signs = c.in_ok-signs.signs;
      has_paths = not c.is_empty.result;
      mixed = c.in_ok-mixed-2.mixed;
      touched = c.in_ok-touched.touched;
      scratch = c.in_ok-scratch.scratch;
      unclaimed = c.in_ok-unclaimed.unclaimed;
    } in
    let same = sites-same T frames table hints told c.args.waited.now c.args.claimed.now facts c.in_ok-mixed.mixed.items
    (subst (λ fences. AreSigns T fences hints facts.signs) c.as_slice.ensures.value c.in_ok-signs.ensures)
    (ap not c.is_empty.ensures ∙ ap (λ rows. not (length rows == 0)) c.as_slice-paths.ensures.value)
    (c.in_ok-mixed.ensures ∙ ap mixed_paths c.as_slice-paths.ensures.value)
    (subst (λ numbers. AreAt T frames numbers facts.mixed) c.as_slice-2.ensures.value c.in_ok-mixed-2.ensures)
    (subst (λ rows. list_any (loses_one_address T) rows ≡ true → AreAt T frames (filter (is_touched T told) told) facts.touched) c.as_slice-rows.ensures.value c.in_ok-touched.ensures)
    (subst (λ rows. AreLines T facts rows) c.as_slice-rows.ensures.value c.in_ok-scratch.ensures)
    (subst (λ rows. list_any is_only_late rows ≡ true → AreAt T frames (unclaimed_in c.args.waited.now c.args.claimed.now) facts.unclaimed) c.as_slice-rows.ensures.value c.in_ok-unclaimed.ensures)
    in
    IfOk-weaker c.sites_by.result (λ sites. sites.items ≡ map (site_by T facts) (filter misses c.as_slice-rows.result.now)) _
    (λ sites made. (facts.fences.items, c.in_ok-fences.ensures, made ∙ ap (λ rows. map (site_by T facts) (filter misses rows)) c.as_slice-rows.ensures.value ∙ same)) c.sites_by.ensures
