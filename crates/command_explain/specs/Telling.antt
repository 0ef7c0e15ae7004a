-- What `explain --json` tells.
use Rattle.std.specs.Prelude.{◌≡◌, ℕ, not, Bool, false, if◌then◌else◌, List, [], Option, None}
use Rattle.pmt_model.specs.Traces.{Recording}
use Rattle.pmt_text.specs.Coming.{Coming, ComesWhole}
use Rattle.pmt_analysis.specs.Analysing.{IsAnalysed}
use Rattle.pmt_explanation.specs.Prelude.{Labels, Options, label_of}
use Rattle.pmt_explanation.specs.declared.explaining.Explanation.{Explanation}
use Rattle.pmt_explanation.specs.Explaining.{IsExplanation}
use Rattle.pmt_explanation.specs.Summing.{fails}
use Rattle.pmt_explain_json.specs.declared.lacking.Lack.{Lack}
use Rattle.pmt_explain_json.specs.Lines.{IsJsonText}
use Rattle.command_inputs.specs.declared.writing.Sent.{Sent}
use Rattle.command_inputs.specs.Devices.{Sends}
use Rattle.command_requests.specs.declared.explaining.ExplainWords.{ExplainWords}
use Rattle.command_explain.specs.declared.explain.Known.{Known}

-- The explanation's text is out whole, unless its reader has gone, and the status is that of its verdict.
pub record IsToldOf (x : Explanation) (labels : Labels) (lacks : List Lack) (is_cut : Bool) (words : ExplainWords) (old new : Option (List ℕ)) (told : ℕ × Sent) : Type 0 where
  pub text : List ℕ
  pub right : IsJsonText x labels words.options.choice lacks text
  pub sent : Sends old new text told.1
  pub status : told.0 ≡ (if fails x.entries is_cut words.is_strict then 1 else 0)

-- That of an explanation of the trace.
pub record TellsKnown (T : Recording) (known : Known) (words : ExplainWords) (old new : Option (List ℕ)) (ended : ℕ × Sent) : Type 0 where
  pub explanation : Explanation
  pub analysed : IsAnalysed explanation.analysis
  pub of_trace : explanation.analysis.trace ≡ T
  pub explained : IsExplanation explanation.analysis known.labels words.options explanation
  pub limit : explanation.limit ≡ words.options.limit
  pub told : IsToldOf explanation known.labels known.lacks.items (not known.lacking.knows_losses) words old new ended

-- Of the trace that comes, which is not known to lack anything, an explanation's text is out whole, unless its reader has gone, and the
-- status is that of its verdict. What is asked for is what the words say, and what is ignored in files beside; without a file of labels
-- there are none.
pub record TellsJson (words : ExplainWords) (coming : Option Coming) (old new : Option (List ℕ)) (ended : ℕ × Sent) : Type 0 where
  pub labels : Labels
  pub unlabelled : words.labels ≡ None → (event : ℕ) → label_of labels event ≡ None
  pub options : Options
  pub limit : options.limit ≡ words.options.limit
  pub choice : options.choice ≡ words.options.choice
  pub ignored : words.ignore_files.items ≡ [] → options ≡ words.options
  pub explanation : Explanation
  pub analysed : IsAnalysed explanation.analysis
  pub all : ComesWhole coming explanation.analysis.trace
  pub explained : IsExplanation explanation.analysis labels options explanation
  pub shown : explanation.limit ≡ options.limit
  pub told : IsToldOf explanation labels [] false words old new ended
