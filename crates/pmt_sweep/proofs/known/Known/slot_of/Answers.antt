use Rattle.std.proofs.Common.{◌<◌, ◌≤◌, length, arith}
use Rattle.std.proofs.lemmas.Grind.{elements}
use Rattle.pmt_laws.specs.Prelude.{last_flush, history}
use Rattle.pmt_safety.specs.Safety.{last_line_store_at, safe_store_at}
use Rattle.pmt_sweep.proofs.WordsLemmas.{AreAdded}
use Rattle.pmt_sweep.proofs.KnownLemmas.{placed-flushed, placed-waiting, placed-words, placed-same}
use Rattle.pmt_sweep.proofs.known.Known.slot_of.Goals as goal

pub returns-in_ok-add_many-clause-known : goal.returns-in_ok-add_many-clause-known
returns-in_ok-add_many-clause-known c = λ T n lines is.
    let k = c.args.self.now in
    let l = c.args.line in
    let placed = c.in_ok-slot.ensures.known lines (λ m. last_line_store_at T m n) (λ m. safe_store_at T m n) (λ m. last_flush m (history T n)) is.rows in
    let more : length k.rows.rows.items < length c.slot_of.new.self.rows.items = omega arith in
    let added : AreAdded k.words_of_line k.words c.add_many.new.self = record { in_all = c.in_ok-add_many.ensures.many; none = c.in_ok-add_many.ensures.none; others = c.in_ok-add_many.ensures.others } in
    record {
      trace = is.trace;
      format = is.format;
      many = is.many;
      rows = placed;
      words = placed-words T n l lines k c.slot_of.new.self is placed c.add_many.new.self more added;
      entries = is.entries;
      flushed = placed-flushed T n l lines k c.slot_of.new.self is placed;
      waiting = placed-waiting T n l lines k c.slot_of.new.self is placed;
    }

pub returns-else-is_new-clause-known : goal.returns-else-is_new-clause-known
returns-else-is_new-clause-known c = λ T n lines is.
    let k = c.args.self.now in
    let l = c.args.line in
    let placed = c.in_ok-slot.ensures.known lines (λ m. last_line_store_at T m n) (λ m. safe_store_at T m n) (λ m. last_flush m (history T n)) is.rows in
    let few : length c.slot_of.new.self.rows.items ≤ length k.rows.rows.items = omega arith in
    record {
      trace = is.trace;
      format = is.format;
      many = is.many;
      rows = placed;
      words = placed-same T n l lines k c.slot_of.new.self is placed few;
      entries = is.entries;
      flushed = placed-flushed T n l lines k c.slot_of.new.self is placed;
      waiting = placed-waiting T n l lines k c.slot_of.new.self is placed;
    }

pub returns-in_err-add_many-clause-known : goal.returns-in_err-add_many-clause-known
returns-in_err-add_many-clause-known c = grind (arith, elements)

pub returns-else-is_new-clause-small : goal.returns-else-is_new-clause-small
returns-else-is_new-clause-small c = grind arith
