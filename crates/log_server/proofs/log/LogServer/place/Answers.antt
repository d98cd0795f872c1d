use Rattle.std.proofs.Common.{◌≡◌, List, ap, ◌∙◌}
use Rattle.geometry.specs.Keys.{number_of}
use Rattle.server.specs.Meaning.{Piece}
use Rattle.log_server.specs.Area.{pieces_in, area_pieces}
use Rattle.log_server.specs.Walks.{place_of}
use Rattle.log_server.proofs.Places.{place_fits}
use Rattle.log_server.proofs.log.LogServer.place.Goals as goal

pub returns : goal.returns
returns c =
    let s = c.args.self.now in
    let e : c.find.result ≡ place_of (area_pieces s.bytes.now) (number_of c.args.key) =
    c.find.ensures ∙ ap (place_of (pieces_in c.held_records.result.now)) c.from.ensures
    ∙ ap (λ (t : List Piece). place_of t (number_of c.args.key)) c.held_records.ensures in
    record { is = e; within = place_fits (area_pieces s.bytes.now) (number_of c.args.key) s.held c.find.result e s.count }
