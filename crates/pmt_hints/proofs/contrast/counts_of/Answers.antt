use Rattle.std.proofs.Common.{◌≡◌, suc, ◌<◌, length, Some, ap, sym, ◌∙◌, arith}
use Rattle.std.specs.Prelude.{◌==◌, slice_get}
use Rattle.std.proofs.lemmas.Option.{slice_get-get_or}
use Rattle.pmt_model.specs.Traces.{act, act_of, event}
use Rattle.pmt_hints.specs.Contrasts.{as_asked, contrast_upto, count_at, is_asked, is_clear}
use Rattle.pmt_hints.proofs.ContrastLemmas.{clear-up, count-up, counts-small}
use Rattle.pmt_hints.proofs.contrast.counts_of.Goals as goal

pub loop-index-init : goal.loop-index-init
loop-index-init c = record { clear = λ t small. ap (λ x. x == 0) (c.new-waiting.ensures t small); counts = c.in_ok-counts.ensures }

pub count-requires : goal.count-requires
count-requires c = λ s x some.
    counts-small c.args.trace.now c.args.labels.now s c.loop-index.index (is_asked c.args.trace.now c.args.labels.now c.args.nexts.now c.args.hints.now s) (count_at c.loop-index.counts s) x (omega arith) (c.loop-index.invariant.counts s) some

pub loop-index-preserved : goal.loop-index-preserved
loop-index-preserved c =
    let T = c.args.trace.now in
    let labels = c.args.labels.now in
    let es = c.events-events.result.now in
    let i = c.loop-index.index in
    let e = c.index-events-index.result in
    let a = act_of c.format-format.result e.thread e.op in
    let within : c.loop-index.index < length c.events-events.result.now = omega arith in
    let at : event T (suc i) ≡ Some e = ap (λ xs. slice_get xs i) (sym c.events-events.ensures.value) ∙ slice_get-get_or es i e within ∙ ap Some (sym c.index-events-index.is) in
    let own : act T.format e ≡ a = ap (λ g. act_of g e.thread e.op) (sym c.format-format.ensures.value) in
    let is : c.is_clear-is_clear.result ≡ is_clear T e.thread i = c.is_clear-is_clear.ensures.value ∙ c.loop-index.invariant.clear e.thread c.is_clear-is_clear.ensures.small in
    record {
      clear = λ t small. clear-up T i e a t _ _ at own (c.note_open.ensures t small) (c.loop-index.invariant.clear t small);
      counts = λ m. count-up T labels m i e _ (is_asked T labels c.args.nexts.now c.args.hints.now m) _ (count_at c.loop-index.counts m) (count_at c.count.new.counts m) at is c.op_spot-spot.ensures (c.in_ok-count.ensures m) (c.loop-index.invariant.counts m);
    }

pub returns : goal.returns
returns c = λ m.
    let T = c.args.trace.now in
    let labels = c.args.labels.now in
    let long : length c.events-events.result.now ≡ length T.events = ap (λ xs. length xs) c.events-events.ensures.value in
    let all : c.loop-index.index ≡ length T.events = omega (arith, long) in
    c.loop-index.invariant.counts m ∙ ap (λ n. as_asked (is_asked T labels c.args.nexts.now c.args.hints.now m) (contrast_upto T labels m n)) all
