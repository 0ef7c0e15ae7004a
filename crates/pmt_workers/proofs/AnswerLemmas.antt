-- Answers to jobs, one after another.
use Rattle.std.proofs.Common.{ℕ, List, [], ◌∷◌, ◌++◌, take, drop, subst}
use Rattle.std.proofs.lemmas.List.{take-append-drop}
use Rattle.pmt_lines.specs.Jobs.{LineWork}
use Rattle.pmt_workers.specs.declared.shard.LineAnswer.{LineAnswer}
use Rattle.pmt_workers.specs.Answering.{AreAnswersTo}

-- The answers to two lists of jobs answer both.
pub AreAnswersTo-append : (js ks : List LineWork) (answers more : List LineAnswer) → AreAnswersTo js answers → AreAnswersTo ks more → AreAnswersTo (js ++ ks) (answers ++ more)
AreAnswersTo-append [] ks [] more first second = second
AreAnswersTo-append [] ks (a ∷ answers) more first second = absurd first
AreAnswersTo-append (j ∷ js) ks [] more first second = absurd first
AreAnswersTo-append (j ∷ js) ks (a ∷ answers) more first second = (first.0, AreAnswersTo-append js ks answers more first.1 second)

-- The answers to the two parts of a list of jobs answer all of them.
pub AreAnswersTo-parts : (n : ℕ) (jobs : List LineWork) (answers more : List LineAnswer) → AreAnswersTo (take n jobs) answers → AreAnswersTo (drop n jobs) more → AreAnswersTo jobs (answers ++ more)
AreAnswersTo-parts n jobs answers more first second =
    subst (λ (js : List LineWork). AreAnswersTo js (answers ++ more)) (take-append-drop n jobs) (AreAnswersTo-append (take n jobs) (drop n jobs) answers more first second)
