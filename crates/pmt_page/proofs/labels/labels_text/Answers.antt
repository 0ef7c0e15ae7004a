use Rattle.pmt_page.proofs.Prelude.{List, ℕ, map, ap, ◌∙◌, ◌++◌, Bor, quoted, listed, steps}
use Rattle.pmt_page.proofs.Pushing.{more}
use Rattle.pmt_page.proofs.labels.labels_text.Goals as goal

pub returns : goal.returns
returns c =
    let texts : List (Bor (List ℕ)) = c.in_ok-found.found.texts.items in
    let places : List ℕ = c.in_ok-found.found.places.items in (
      map (λ (s : Bor (List ℕ)). s.now) texts,
      places,
      c.in_ok-found.ensures,
      more _ _ _ _
          (more _ _ _ _
          (more _ _ _ _
          (more _ _ _ _
          (more _ _ _ _
          (more _ _ _ _
          (more _ _ _ _ c.new-text.ensures.items c.in_ok-extend_from_slice.ensures.items)
          c.in_ok-push_events.ensures)
          c.in_ok-extend_from_slice-2.ensures.items)
          (c.in_ok-push_texts.ensures ∙ ap (λ (x : List (Bor (List ℕ))). c.extend_from_slice-2.new.self.items ++ listed quoted (map (λ (s : Bor (List ℕ)). s.now) x)) c.as_slice.ensures.value))
          c.in_ok-extend_from_slice-3.ensures.items)
          (c.in_ok-push_steps.ensures ∙ ap (λ (x : List ℕ). c.extend_from_slice-3.new.self.items ++ steps 0 x) c.as_slice-2.ensures.value))
          c.in_ok-extend_from_slice-4.ensures.items,
    )
