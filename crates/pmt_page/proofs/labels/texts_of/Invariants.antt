use Rattle.pmt_page.proofs.Prelude.{◌≡◌, List, ℕ, take, map, slice_get, Some, Bor, Label}
use Rattle.pmt_page.proofs.labels.texts_of.Given as goal

abbrev pub invariant-loop-label : goal.invariant-loop-label
invariant-loop-label l =
    map (slice_get (map (λ (s : Bor (List ℕ)). s.now) l.seen.keys)) l.places.items ≡ map (λ (x : Label). Some x.text.now) (take l.label-index l.labels)
