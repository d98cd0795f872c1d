use Rattle.std.proofs.Common.{◌-◌, length, sym, ap, ◌∙◌, arith}
use Rattle.std.specs.List.{range_with_len, flat_map}
use Rattle.std.proofs.lemmas.Bool.Decides.{nat_tests}
use Rattle.rack.specs.Gathering.{live_slots}
use Rattle.manager.proofs.Marks.{with_none, one_more}
use Rattle.manager.proofs.live.LiveSlots.count.Goals as goal

pub loop-index-preserved : goal.loop-index-preserved
loop-index-preserved c = (
  (omega arith),
  (λ es k are.
      let more = one_more (live_slots es k) c.loop-index.index in
      let here = c.count_in-count.ensures.count es k are in
      let sofar = c.loop-index.invariant.1 es k are in
      grind (arith, nat_tests)),
)

pub returns : goal.returns
returns c es k are =
    c.loop-index.invariant.1 es k are
    ∙ ap (λ n. length (flat_map (live_slots es k) (range_with_len 0 n))) (omega arith)
    ∙ ap length (sym (with_none (live_slots es k) (range_with_len 0 (c.args.row.servers - 1))))
