use Rattle.pmt_page.proofs.Prelude.{◌≡◌, ◌++◌, [], List, ℕ, map, take, length, get_or, Some, slice_get, sym, ap, subst, ◌∙◌, arith, ◌<◌, take_all, take_more, list_any, AreTexts, Label}
use Rattle.std.proofs.Common.{Bor}
use Rattle.pmt_page.proofs.LabelLemmas.{texts_of, found_still, found_next, found_at, texts-distinct, same_text}
use Rattle.pmt_page.proofs.labels.texts_of.Goals as goal

abbrev text_of : Label → List ℕ
text_of l = l.text.now

pub loop-label-preserved : goal.loop-label-preserved
loop-label-preserved c =
    let labels = c.args.labels.now in
    let index = c.loop-label.label-index in
    let none : Label = record { event = 0; text = record { ref_ptr = (0, 0); now = [] } } in
    let label = get_or labels index none in
    let old = c.loop-label.seen.keys in
    let new = c.insert_full.new.self.keys in
    let places = c.loop-label.places.items in
    let stored = c.in-Ok.ensures.stored in
    let still : map (slice_get (texts_of new)) places ≡ map (λ (l : Label). Some (text_of l)) (take index labels) =
    found_still text_of (list_any (same_text label.text) old) old new label.text places (take index labels) c.in-Ok.ensures.keys c.loop-label.invariant in
    let here : slice_get (texts_of new) c.in-Ok.place ≡ Some (text_of label) = found_at new c.in-Ok.place label.text.now stored.0 stored.1 stored.2 in
    let next = found_next text_of (texts_of new) places (take index labels) c.in-Ok.place label still here in
    let within : index < length labels = omega arith in
    ap (map (slice_get (texts_of new))) c.in_ok-push-in-Ok.ensures.items ∙ next ∙ ap (map (λ (l : Label). Some (text_of l))) (sym (take_more labels index none within))

pub returns : goal.returns
returns c =
    let labels = c.args.labels.now in
    let keys = c.loop-label.seen.keys in
    let copied : c.extend_from_slice.new.self.items ≡ keys =
    c.in_ok-extend_from_slice.ensures.items ∙ ap (λ (l : List (Bor (List ℕ))). l ++ c.as_slice.result.now) c.new-texts.ensures.items ∙ c.as_slice.ensures.keys in
    let all : take c.loop-label.label-index labels ≡ labels = take_all c.loop-label.label-index labels (omega arith) in
    let are : AreTexts labels (texts_of keys) c.loop-label.places.items = record {
      each = c.loop-label.invariant ∙ ap (map (λ (l : Label). Some l.text.now)) all;
      distinct = texts-distinct keys c.as_slice.ensures.unique;
    } in
    subst (λ (ks : List (Bor (List ℕ))). AreTexts labels (texts_of ks) c.loop-label.places.items) (sym copied) are
