-- What is told of a known trace, told of the words and of what came.
use Rattle.std.proofs.Common.{◌≡◌, ℕ, List, [], Option, None, true, sym, subst}
use Rattle.std.specs.Prelude.{not, if◌then◌else◌}
use Rattle.pmt_model.specs.Traces.{Recording}
use Rattle.pmt_text.specs.Coming.{Coming, ComesWhole}
use Rattle.pmt_asked.specs.Choosing.{label_of}
use Rattle.pmt_explanation.specs.Summing.{fails}
use Rattle.pmt_explain_json.specs.Lines.{IsJsonText}
use Rattle.command_inputs.specs.declared.writing.Sent.{Sent}
use Rattle.command_requests.specs.declared.explaining.ExplainWords.{ExplainWords}
use Rattle.command_explain.specs.declared.explain.Known.{Known}
use Rattle.command_explain.specs.Telling.{TellsJson, TellsKnown}

-- What the words ask for, but for what is ignored.
pub record AsksSame (words asked : ExplainWords) : Type 0 where
  pub limit : asked.options.limit ≡ words.options.limit
  pub choice : asked.options.choice ≡ words.options.choice
  pub strict : asked.is_strict ≡ words.is_strict
  pub ignored : words.ignore_files.items ≡ [] → asked.options ≡ words.options

pub tells-json : (T : Recording) (known : Known) (words asked : ExplainWords) (coming : Option Coming) (old new : Option (List ℕ)) (told : ℕ × Sent) → TellsKnown T known asked old new told → AsksSame words asked → ComesWhole coming T →
    (words.labels ≡ None → (event : ℕ) → label_of known.labels event ≡ None) → known.lacks.items ≡ [] → known.lacking.knows_losses ≡ true → TellsJson words coming old new told
tells-json T known words asked coming old new told t same whole unlabelled none knows = record {
  labels = known.labels;
  unlabelled = unlabelled;
  options = asked.options;
  limit = same.limit;
  choice = same.choice;
  ignored = same.ignored;
  explanation = t.explanation;
  analysed = t.analysed;
  all = subst (ComesWhole coming) (sym t.of_trace) whole;
  explained = t.explained;
  shown = t.limit;
  told = record {
    text = t.told.text;
    right = subst (λ l. IsJsonText t.explanation known.labels words.options.choice l t.told.text) none (subst (λ c. IsJsonText t.explanation known.labels c known.lacks.items t.told.text) same.choice t.told.right);
    sent = t.told.sent;
    status = subst (λ k. told.0 ≡ (if fails t.explanation.entries (not k) words.is_strict then 1 else 0)) knows (subst (λ s. told.0 ≡ (if fails t.explanation.entries (not known.lacking.knows_losses) s then 1 else 0)) same.strict t.told.status);
  };
}
