use Rattle.std.proofs.Common.{◌≡◌, ◌+◌, ◌%◌, sym, ap, ◌∙◌, arith}
use Rattle.geometry.proofs.Rounds.{data_after}
use Rattle.geometry.specs.Keys.{number_of}
use Rattle.geometry.specs.Placement.{parity_server}
use Rattle.geometry.proofs.placement.PlacedStripe.data_server.Goals as goal

pub returns : goal.returns
returns c =
    let n = c.args.self.row.servers in
    let k = number_of c.args.self.key in
    let e : c.origin.result + 1 + c.from.result ≡ parity_server n k + (1 + c.args.index) = omega arith in
    ap (λ t. t % c.from-2.result) e ∙ ap (λ t. (parity_server n k + (1 + c.args.index)) % t) (omega arith) ∙ sym (data_after n k c.args.index)
