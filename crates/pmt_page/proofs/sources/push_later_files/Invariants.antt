use Rattle.pmt_page.proofs.Prelude.{◌≡◌, ◌++◌, ◌∷◌, drop, flat_map, source_file}
use Rattle.pmt_page.proofs.sources.push_later_files.Given as goal

abbrev pub invariant-loop-file : goal.invariant-loop-file
invariant-loop-file l = l.text.items ++ flat_map (λ x. 44 ∷ source_file x) (drop l.file-index l.files) ≡ l.initial.text.items ++ flat_map (λ x. 44 ∷ source_file x) l.files
