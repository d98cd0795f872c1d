use Rattle.std.proofs.Common.{rules}
use Rattle.std.proofs.lemmas.List.Edits.{map_over_more}
use Rattle.std.proofs.lemmas.List.{set-get_or}
use Rattle.geometry.specs.Keys.{number_of}
use Rattle.cache.specs.Slots.{forgot}
use Rattle.cache.proofs.slots.CacheSlots.forget.Goals as goal

pub loop-slot-preserved : goal.loop-slot-preserved
loop-slot-preserved c =
    let now = c.loop-slot.slot-items in
    let i = c.loop-slot.slot-index in
    let s = c.slot-item.result in
    search (rules, map_over_more (forgot (number_of c.args.key)) c.args.self.now.all now i s, set-get_or now i s)
