use Rattle.std.proofs.Common.{◌≡◌, ◌+◌, ◌++◌, drop, vec_items, vec_len, vec_capacity}
use Rattle.script.specs.Script.{contents, seen_all, after_all}
use Rattle.script.proofs.playing.play_into.Given as goal

-- what is left of the script, from the contents as they are now, gives what is seen and the contents at the end
abbrev pub invariant-loop-step : goal.invariant-loop-step
invariant-loop-step g l =
    let start = contents g.S.NoticeStore l.initial.store in
    let now = contents g.S.NoticeStore l.store in
    record {
      seen : vec_items l.seen ++ seen_all now (drop l.step-index l.steps) ≡ vec_items l.initial.seen ++ seen_all start l.steps;
      contents : after_all now (drop l.step-index l.steps) ≡ after_all start l.steps;
      count : vec_len l.seen ≡ vec_len l.initial.seen + l.step-index;
      capacity : vec_capacity l.seen ≡ vec_capacity l.initial.seen;
    }
