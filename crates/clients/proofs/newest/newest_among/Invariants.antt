use Rattle.std.proofs.Common.{map, take}
use Rattle.rack.specs.Entries.{block_number}
use Rattle.clients.specs.Means.{client_of}
use Rattle.clients.specs.Newest.{newest_of, Finds}
use Rattle.clients.proofs.newest.newest_among.Given as goal

abbrev pub invariant-loop-state : goal.invariant-loop-state
invariant-loop-state l = Finds (newest_of (block_number l.file l.block) (map client_of (take l.state-index l.states))) l.newest
