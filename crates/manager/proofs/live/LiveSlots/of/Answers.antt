use Rattle.std.proofs.Common.{false, rules}
use Rattle.geometry.specs.Keys.{number_of}
use Rattle.stripe.proofs.Arrays.{from_fn_is}
use Rattle.manager.specs.Tables.{entries_in}
use Rattle.manager.specs.Live.{is_live_at, live_marks}
use Rattle.manager.proofs.live.LiveSlots.of.Goals as goal

pub returns : goal.returns
unfolding live_marks
returns c =
    from_fn_is _ _ (is_live_at (entries_in c.args.table.now) (number_of c.args.key)) 21 false (λ i y q h k. (search rules, search rules)) c.from_fn.result c.from_fn.ensures.items
