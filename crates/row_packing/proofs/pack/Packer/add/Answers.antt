use Rattle.std.proofs.Common.{◌≡◌, ◌+◌, arith}
use Rattle.row_packing.proofs.Packers.{added}
use Rattle.row_packing.proofs.pack.Packer.add.Goals as goal

pub returns-clause-added : goal.returns-clause-added
returns-clause-added g c =
    let u = c.put.ensures in
    let next : c.in_ok-version.version ≡ c.args.self.now.version + 1 = grind arith in
    added c.put.result _ c.make_room.new.self _ _ _ _ c.in_ok-make_room.ensures.room (rw next at u.current) (rw next at u.version) u.stripes u.row
