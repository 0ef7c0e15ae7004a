use Rattle.pmt_slices.proofs.Prelude.{inl, inr, cases_lt, leb-true, le-leb}
use Rattle.pmt_slices.proofs.StoreStoryLemmas.{safe-told, unsafe-told}
use Rattle.pmt_slices.proofs.store_story.StoreStory.is_safe.Goals as goal

pub returns : goal.returns
returns c = λ T n is.
    let s = c.args.self.now in (
      λ yes. safe-told T n s is (leb-true s.fate.coming.safe s.end yes),
      λ safe. le-leb s.fate.coming.safe s.end (elim (cases_lt s.end s.fate.coming.safe) [ inl past ↦ absurd (unsafe-told T n s is past safe) | inr within ↦ within ]),
    )
