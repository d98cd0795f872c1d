use Rattle.std.proofs.Common.{◌*◌, sym}
use Rattle.geometry.specs.Keys.{stripes}
use Rattle.rack.specs.Restarting.{keys_held}
use Rattle.rack.proofs.Orders.{from_on_none}
use Rattle.row_fragments.specs.Servers.{servers_in}
use Rattle.row_fragments.specs.Walks.{position, walk_at}
use Rattle.row_fragments.proofs.KeysHeld.{none_past, step_left, step_nearer, left_is_ahead}
use Rattle.row_fragments.proofs.walk.KeyWalk.next.Goals as goal

pub returns-in_default-clause-key : goal.returns-in_default-clause-key
returns-in_default-clause-key g c =
    let was = g.R.ServerRow.meanings c.args.row.now in
    rw c.in_default.is (sym (none_past was (servers_in c.args.self.now.servers) (g.R.ServerRow.sound c.args.row.now)))

pub returns-in_default-clause-left : goal.returns-in_default-clause-left
returns-in_default-clause-left g c =
    let was = g.R.ServerRow.meanings c.args.row.now in
    let us = servers_in c.args.self.now.servers in
    rw c.in_default.is (from_on_none (keys_held was us) (8 * stripes) (none_past was us (g.R.ServerRow.sound c.args.row.now)))

pub returns-clause-left : goal.returns-clause-left
returns-clause-left g c =
    let was = g.R.ServerRow.meanings c.args.row.now in
    let w = c.args.self.now in
    step_left was (servers_in w.servers) (walk_at w) (position c.after-self.result) c.next_key-key.result (rw c.in-Some.is c.next_key-key.ensures.key) c.after-self.ensures

pub returns-clause-nearer : goal.returns-clause-nearer
returns-clause-nearer g c =
    let was = g.R.ServerRow.meanings c.args.row.now in
    let w = c.args.self.now in
    step_nearer (keys_held was (servers_in w.servers)) (walk_at w) (position c.after-self.result) c.next_key-key.result (rw c.in-Some.is c.next_key-key.ensures.key) c.after-self.ensures

pub returns-in_default-clause-ahead : goal.returns-in_default-clause-ahead
returns-in_default-clause-ahead g c = left_is_ahead

pub returns-clause-ahead : goal.returns-clause-ahead
returns-clause-ahead g c = left_is_ahead
