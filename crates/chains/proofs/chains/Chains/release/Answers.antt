use Rattle.std.proofs.Common.{◌≡◌, ◌+◌, ◌-◌, vec_len, List, drop, length, refl, sym, ap, ◌∙◌, arith}
use Rattle.std.proofs.lemmas.List.{length-drop}
use Rattle.notice.specs.declared.event.Notice.{Notice}
use Rattle.store.specs.Meaning.{held, in_use}
use Rattle.store.proofs.Follows.{in_use_dropped}
use Rattle.chains.specs.Held.{links_of}
use Rattle.chains.specs.Lists.{slot_lists}
use Rattle.chains.proofs.Stored.{drop_ready, first_in, written, moved_holds, release_lists}
use Rattle.chains.proofs.chains.Chains.release.Goals as goal

pub shift-requires-clause-first : goal.shift-requires-clause-first
shift-requires-clause-first c =
    let some = (drop_ready c.args.self.now c.args.slot _ refl c.requires).some in
    first_in c.args.self.now (c.args.slot + 1) c.deref_mut.result.now c.deref_mut-2.result.now some (omega (arith, c.deref_mut.ensures.len)) c.deref_mut-2.ensures.value

pub invariant_of-self : goal.invariant_of-self
invariant_of-self c =
    let s = c.args.self.now in
    let i = c.args.slot in
    let ps = c.deref_mut.result.now in
    let cs = c.deref_mut-2.result.now in
    let ep = c.deref_mut.ensures.value in
    let ec = c.deref_mut-2.ensures.value in
    let lp : length c.shift.new.places ≡ vec_len s.places = omega (arith, c.deref_mut.ensures.len) in
    let lc : length c.shift.new.chains ≡ vec_len s.chains = omega (arith, c.deref_mut-2.ensures.len) in
    let w = written s.places s.chains (i + 1) 0 ps c.shift.new.places cs c.shift.new.chains lp lc c.shift.ensures in
    let e = release_lists s i c.requires ps _ cs _ ep ec w in
    let u = c.used_with-used.ensures (drop 1 (held (slot_lists s) i)) (length-drop 1 (held (slot_lists s) i) ∙ ap (λ n. n - 1) (sym c.len.ensures)) in
    moved_holds s (i + 1) 0 ps _ cs _ _ _ _ (drop_ready s i (i + 1) refl c.requires) (ap links_of ep) ec w refl refl
    (u ∙ ap (λ (ls : List (List Notice)). in_use s.reserve ls) (sym e)) (omega (arith, u, in_use_dropped s.reserve (slot_lists s) i, s.tally, s.within))

pub returns-clause-lists : goal.returns-clause-lists
returns-clause-lists c =
    let s = c.args.self.now in
    let i = c.args.slot in
    let ps = c.deref_mut.result.now in
    let cs = c.deref_mut-2.result.now in
    let ep = c.deref_mut.ensures.value in
    let ec = c.deref_mut-2.ensures.value in
    let lp : length c.shift.new.places ≡ vec_len s.places = omega (arith, c.deref_mut.ensures.len) in
    let lc : length c.shift.new.chains ≡ vec_len s.chains = omega (arith, c.deref_mut-2.ensures.len) in
    let w = written s.places s.chains (i + 1) 0 ps c.shift.new.places cs c.shift.new.chains lp lc c.shift.ensures in
    release_lists s i c.requires ps _ cs _ ep ec w
