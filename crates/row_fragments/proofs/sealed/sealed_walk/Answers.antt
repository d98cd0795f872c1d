use Rattle.std.proofs.Common.{◌<◌, get_or, [], ◌∷◌, ◌∙◌, arith}
use Rattle.row_fragments.specs.Servers.{used_in}
use Rattle.row_fragments.proofs.Servers.{one_lowest}
use Rattle.row_fragments.proofs.KeysHeld.{keys_held_one, starts_with_all}
use Rattle.row_fragments.proofs.sealed.sealed_walk.Goals as goal

pub returns-clause-servers : goal.returns-clause-servers
returns-clause-servers c =
    let u = c.args.in_use in
    let h : 1 < u.row.servers = omega (arith, u.row.least) in
    rw (c.new.ensures.servers, c.one.ensures, c.lowest.ensures) (one_lowest u.row.servers u.out h)

pub returns-clause-keys : goal.returns-clause-keys
returns-clause-keys c = λ row a.
    let s = get_or (used_in c.args.in_use) 0 0 in
    rw (c.new.ensures.at, returns-clause-servers c) (starts_with_all row (s ∷ []) ∙ keys_held_one row s a)
