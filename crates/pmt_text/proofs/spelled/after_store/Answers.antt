-- The event is that of the store that was read.
use Rattle.pmt_text.proofs.StoreReading.{store-after}
use Rattle.pmt_text.proofs.spelled.after_store.Goals as goal

pub returns : goal.returns
returns c = store-after c.in_ok-store.store c.in_ok-event.event c.args.text.now c.in_ok-store.text.now c.in_ok-event.ensures c.in_ok-store.ensures.spelled
