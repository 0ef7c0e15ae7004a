use Rattle.std.proofs.Common.{◌≡◌, ℕ, ◌-◌, suc, ◌<◌, Bool, true, false, length, get_or, Some, subst, sym, ap, ◌∙◌, rules, arith}
use Rattle.std.specs.Prelude.{◌↔◌, replicate, slice_get}
use Rattle.std.proofs.lemmas.List.{length-set}
use Rattle.std.proofs.lemmas.Option.{slice_get-get_or}
use Rattle.pmt_model.specs.Traces.{event}
use Rattle.pmt_explain.proofs.FollowingLemmas.{told-set}
use Rattle.pmt_hints.specs.Hints.{IsNamed}
use Rattle.pmt_hints.specs.NamedBytes.{HasByte}
use Rattle.pmt_hints.proofs.NamingLemmas.{IsWanted, flags-start, step-bytes, step-named, wanted-none}
use Rattle.pmt_hints.proofs.named.stores_before.Goals as goal

pub loop-index-init : goal.loop-index-init
loop-index-init c =
    let T = c.args.trace.now in
    let long : length c.events-events.result.now ≡ length T.events = ap (λ xs. length xs) c.events-events.ensures.value in
    let start : c.in_ok-flags.flags.items ≡ replicate (length c.events-events.result.now) false = c.in_ok-flags.ensures.items_if_clones_equal (λ y is. search rules) in
    record {
      size = omega (arith, c.in_ok-flags.ensures.len, long);
      are = c.new-bytes.ensures.are;
      told = λ b. (λ h. absurd (c.new-bytes.ensures.none b h), λ h. absurd (wanted-none T c.args.role c.args.end b c.requires.last h));
      each = λ k f from is. flags-start T c.args.role c.args.end (length c.events-events.result.now) k f c.in_ok-flags.flags.items c.requires.last start from is;
    }

pub loop-index-preserved : goal.loop-index-preserved
loop-index-preserved c =
    let T = c.args.trace.now in
    let es = c.events-events.result.now in
    let i = c.loop-index.index - 1 in
    let e = c.index-events-index.result in
    let long : length c.events-events.result.now ≡ length T.events = ap (λ xs. length xs) c.events-events.ensures.value in
    let before : c.loop-index.index ≡ suc (c.loop-index.index - 1) = omega arith in
    let within : c.loop-index.index - 1 < length c.events-events.result.now = omega (arith, c.requires.within, long) in
    let inside : c.loop-index.index - 1 < length c.loop-index.flags.items = omega (arith, c.loop-index.invariant.size, long, within) in
    let marked : c.loop-index.index - 1 < length c.args.naming.now = omega (arith, c.requires.flags.size, long, within) in
    let at : event T (suc i) ≡ Some e = ap (λ xs. slice_get xs i) (sym c.events-events.ensures.value) ∙ slice_get-get_or es i e within ∙ ap Some (sym c.index-events-index.is) in
    let tells = c.requires.flags.each i (get_or c.args.naming.now i false) (slice_get-get_or c.args.naming.now i false marked) in
    let told = subst (λ n. (b : ℕ) → HasByte c.loop-index.bytes b ↔ IsWanted T c.args.role n b) before c.loop-index.invariant.told in
    let named = step-named T c.args.role i e (get_or c.args.naming.now i false) c.in_ok-is_named.is_named c.loop-index.bytes c.go_back.new.bytes at tells c.in_ok-is_named.ensures told in
    record {
      size = length-set c.loop-index.flags.items i c.in_ok-is_named.is_named ∙ c.loop-index.invariant.size;
      are = c.in_ok-is_named.ensures.are;
      told = step-bytes T c.args.role i e (get_or c.args.naming.now i false) c.in_ok-is_named.is_named c.loop-index.bytes c.go_back.new.bytes at tells c.in_ok-is_named.ensures told;
      each = λ k f from is. told-set (λ n (g : Bool). (g ≡ true) ↔ IsNamed T c.args.role n) c.loop-index.flags.items i k c.in_ok-is_named.is_named f inside named (λ m g later here. c.loop-index.invariant.each m g (omega arith) here) from is;
    }

pub returns : goal.returns
returns c = record { size = c.loop-index.invariant.size; each = λ k f is. c.loop-index.invariant.each k f (omega arith) is }
