use Rattle.std.proofs.Common.{◌≡◌, sym, ap, ◌∙◌}
use Rattle.std.proofs.lemmas.Result.{on_ok_weaker}
use Rattle.pmt_laws.specs.Prelude.{Stores, line_of, history, lines_of}
use Rattle.pmt_sweep.proofs.KnownLemmas.{store-here, known-next}
use Rattle.pmt_sweep.proofs.known.Known.store.Goals as goal

pub bytes_of-bytes-requires : goal.bytes_of-bytes-requires
bytes_of-bytes-requires c =
    let r = c.requires in
    let new = c.in_ok-slot.ensures.known r.0 r.1 (lines_of (history r.0 r.1)) r.2 in
    c.line_of-line.ensures ∙ ap (line_of c.args.self.now.format) c.addr.ensures.value ∙ ap (λ f. line_of f c.args.store.now.addr) (r.2.format ∙ sym new.format)

pub store_at-requires-clause-next : goal.store_at-requires-clause-next
store_at-requires-clause-next c =
    let r = c.requires in
    let line = c.line_of-line.result in
    let is_line : line ≡ line_of c.args.self.now.format c.args.store.now.addr = c.line_of-line.ensures ∙ ap (line_of c.args.self.now.format) c.addr.ensures.value in (
      r.0,
      r.1,
      line,
      c.args.store.now,
      store-here r.0 r.1 line c.in_ok-slot.slot c.args.store.now c.bytes_of-bytes.result c.args.self.now c.slot_of.new.self r.2 r.3 is_line (c.in_ok-slot.ensures.known r.0 r.1 (lines_of (history r.0 r.1)) r.2)
          c.in_ok-slot.ensures.here c.bytes_of-bytes.ensures.some c.bytes_of-bytes.ensures.eight c.bytes_of-bytes.ensures.word c.bytes_of-bytes.ensures.writes,
    )

pub returns-clause-known : goal.returns-clause-known
returns-clause-known c = on_ok_weaker c.store_at.result (λ goes T n known next.
    let line = c.line_of-line.result in
    let is_line : line ≡ line_of c.args.self.now.format c.args.store.now.addr = c.line_of-line.ensures ∙ ap (line_of c.args.self.now.format) c.addr.ensures.value in
    let here = store-here T n line c.in_ok-slot.slot c.args.store.now c.bytes_of-bytes.result c.args.self.now c.slot_of.new.self known next is_line (c.in_ok-slot.ensures.known T n (lines_of (history T n)) known)
    c.in_ok-slot.ensures.here c.bytes_of-bytes.ensures.some c.bytes_of-bytes.ensures.eight c.bytes_of-bytes.ensures.word c.bytes_of-bytes.ensures.writes in
    known-next T n (Stores line c.args.store.now) c.store_at.new.self here.is (goes T n line c.args.store.now here)) c.store_at.ensures.known

pub returns-clause-tells : goal.returns-clause-tells
returns-clause-tells c = on_ok_weaker c.store_at.result (λ adds T n known next.
    let line = c.line_of-line.result in
    let is_line : line ≡ line_of c.args.self.now.format c.args.store.now.addr = c.line_of-line.ensures ∙ ap (line_of c.args.self.now.format) c.addr.ensures.value in
    let here = store-here T n line c.in_ok-slot.slot c.args.store.now c.bytes_of-bytes.result c.args.self.now c.slot_of.new.self known next is_line (c.in_ok-slot.ensures.known T n (lines_of (history T n)) known)
    c.in_ok-slot.ensures.here c.bytes_of-bytes.ensures.some c.bytes_of-bytes.ensures.eight c.bytes_of-bytes.ensures.word c.bytes_of-bytes.ensures.writes in
    adds T n line c.args.store.now here) c.store_at.ensures.tells
