use Rattle.std.proofs.Common.{◌≡◌, ◌+◌, List, [], ◌∷◌, ◌++◌, length, vec_len, ◌<◌, subst, sym, refl, ap, ◌∙◌, arith}
use Rattle.std.specs.Vec.{with_item}
use Rattle.std.proofs.lemmas.List.{length_push}
use Rattle.notice.specs.declared.event.Notice.{Notice}
use Rattle.store.specs.Meaning.{held, in_use}
use Rattle.store.proofs.Follows.{stays_within}
use Rattle.chains.specs.declared.chain.Chain.{Chain}
use Rattle.chains.specs.Links.{chain_at}
use Rattle.chains.specs.Held.{links_of}
use Rattle.chains.specs.Lists.{slot_lists}
use Rattle.chains.proofs.Stored.{put_ready, free_in, first_in, written, moved_holds, noted_links, append_lists}
use Rattle.chains.proofs.chains.Chains.append.Goals as goal

pub index_mut-requires : goal.index_mut-requires
index_mut-requires c = free_in c.args.self.now c.args.slot c.index.result.now c.requires c.index.ensures

pub shift-requires-clause-some : goal.shift-requires-clause-some
shift-requires-clause-some c =
    subst (λ (cs : List Chain). 0 < (chain_at cs 0).count) (sym c.deref_mut-2.ensures.value) (put_ready c.args.self.now c.args.slot (c.args.slot + 1) (omega arith) c.requires).some

pub shift-requires-clause-first : goal.shift-requires-clause-first
shift-requires-clause-first c =
    let some = (put_ready c.args.self.now c.args.slot (c.args.slot + 1) (omega arith) c.requires).some in
    first_in c.args.self.now 0 c.deref_mut.result.now c.deref_mut-2.result.now some (omega (arith, c.deref_mut.ensures.len)) c.deref_mut-2.ensures.value

pub invariant_of-self : goal.invariant_of-self
invariant_of-self c =
    let s = c.args.self.now in
    let i = c.args.slot in
    let x = c.args.notice in
    let a = c.index.result.now in
    let q = c.index_mut.result.now in
    let ea = c.index.ensures in
    let eq = c.index_mut.ensures.value in
    let ps = c.deref_mut.result.now in
    let cs = c.deref_mut-2.result.now in
    let ep = c.deref_mut.ensures.value in
    let ec = c.deref_mut-2.ensures.value in
    let lp : length c.shift.new.places ≡ vec_len s.places = omega (arith, c.deref_mut.ensures.len) in
    let lc : length c.shift.new.chains ≡ vec_len s.chains = omega (arith, c.deref_mut-2.ensures.len) in
    let v = with_item s.places c.index.result.now.first (record { notice = c.args.notice; next = c.index_mut.result.now.next }) in
    let w = written v s.chains 0 (i + 1) ps c.shift.new.places cs c.shift.new.chains lp lc c.shift.ensures in
    let e = append_lists s i x a q c.requires ea eq ps _ cs _ ep ec w in
    let u = c.used_with-used.ensures (held (slot_lists s) i ++ x ∷ []) (length_push (held (slot_lists s) i) x ∙ ap (λ n. n + 1) (sym c.len.ensures)) in
    let k = (stays_within Notice s.reserve s.spare (slot_lists s) i x (omega (arith, s.tally, s.within))).0 c.requires in
    moved_holds s 0 (i + 1) ps _ cs _ _ _ _ (put_ready s i (i + 1) (omega arith) c.requires) (ap links_of ep ∙ noted_links s i x a q c.requires ea eq) ec w refl refl
    (u ∙ ap (λ (ls : List (List Notice)). in_use s.reserve ls) (sym e)) (omega (arith, u, k))

pub returns-clause-lists : goal.returns-clause-lists
returns-clause-lists c =
    let s = c.args.self.now in
    let i = c.args.slot in
    let ps = c.deref_mut.result.now in
    let cs = c.deref_mut-2.result.now in
    let lp : length c.shift.new.places ≡ vec_len s.places = omega (arith, c.deref_mut.ensures.len) in
    let lc : length c.shift.new.chains ≡ vec_len s.chains = omega (arith, c.deref_mut-2.ensures.len) in
    let v = with_item s.places c.index.result.now.first (record { notice = c.args.notice; next = c.index_mut.result.now.next }) in
    let w = written v s.chains 0 (i + 1) ps c.shift.new.places cs c.shift.new.chains lp lc c.shift.ensures in
    append_lists s i c.args.notice c.index.result.now c.index_mut.result.now c.requires c.index.ensures c.index_mut.ensures.value ps _ cs _ c.deref_mut.ensures.value c.deref_mut-2.ensures.value w
