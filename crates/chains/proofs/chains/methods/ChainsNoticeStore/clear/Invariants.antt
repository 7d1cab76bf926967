use Rattle.std.proofs.Common.{◌≡◌, length}
use Rattle.store.specs.Meaning.{held, clear_at}
use Rattle.chains.specs.Lists.{slot_lists}
use Rattle.chains.proofs.chains.methods.ChainsNoticeStore.clear.Given as goal

abbrev pub invariant-loop-self : goal.invariant-loop-self
invariant-loop-self l =
    (clear_at (slot_lists l.self) l.slot ≡ clear_at (slot_lists l.initial.self) l.slot) × (l.self.reserve ≡ l.initial.self.reserve) × (l.self.spare ≡ l.initial.self.spare)

abbrev pub decreases-loop-self : goal.decreases-loop-self
decreases-loop-self l = length (held (slot_lists l.self) l.slot)
