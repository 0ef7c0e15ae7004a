use Rattle.std.proofs.Common.{◌≡◌, ℕ, ap, subst, ◌∙◌}
use Rattle.std.specs.Prelude.{map}
use Rattle.pmt_hints.specs.Contrasts.{as_asked, contrast_at, contrast_by, count_at, is_asked}
use Rattle.pmt_hints.proofs.ContrastLemmas.{counted-all}
use Rattle.pmt_hints.proofs.contrast.contrasts_of.Goals as goal

pub returns : goal.returns
returns c =
    let T = c.args.trace.now in
    let labels = c.args.labels.now in
    let hints = c.args.hints.now in
    let nexts = c.in_ok-nexts.nexts.items in
    let counts = c.in_ok-counts.counts in
    let counted = subst (λ ks. (s : _) → count_at counts s ≡ as_asked (is_asked T labels ks hints s) (contrast_at T labels s)) c.as_slice.ensures.value c.in_ok-counts.ensures in
    (nexts, c.in_ok-nexts.ensures, c.in_ok-contrasts.ensures ∙ ap (λ ks. map (contrast_by T labels ks counts) hints) c.as_slice-2.ensures.value ∙ counted-all T labels nexts counts hints counted)
