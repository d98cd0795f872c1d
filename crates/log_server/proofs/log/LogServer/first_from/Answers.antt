use Rattle.std.proofs.Common.{◌≡◌, ℕ, ◌*◌, ◌^◌, ◌<◌, ◌≤◌, List, Some, Ok, Err, Option, Result, MatchResult, sym, ap, ◌∙◌, arith}
use Rattle.std.specs.Result.{result_ok}
use Rattle.ordered.specs.Maps.{least}
use Rattle.geometry.specs.declared.key.Key.{Key}
use Rattle.geometry.specs.declared.key.numbers.NotAKey.{NotAKey}
use Rattle.geometry.specs.Keys.{number_of, number_in}
use Rattle.server.specs.Meaning.{Piece, piece_key, key_in, key_from}
use Rattle.log_server.specs.Area.{area_pieces, map_of, area_meaning}
use Rattle.log_server.proofs.Meanings.{from_small}
use Rattle.log_server.proofs.log.LogServer.first_from.Goals as goal

-- what the walk found
from_is : (xs : List ℕ) (ps : List Piece) (k q : ℕ) (o : Option ℕ) → o ≡ key_in (least piece_key (map_of ps) q) → ps ≡ area_pieces xs → q ≡ k → o ≡ key_from (area_meaning xs) k
from_is xs ps k q o e p s = e ∙ ap (λ (ps : List Piece). key_in (least piece_key (map_of ps) q)) p ∙ ap (λ (j : ℕ). key_in (least piece_key (map_of (area_pieces xs)) j)) s

pub returns-in_err-number : goal.returns-in_err-number
returns-in_err-number c =
    ap number_in c.from_residual.ensures ∙ sym c.in_err-number.was
    ∙ from_is c.args.self.now.bytes.now _ (number_of c.args.key) c.from.result c.nearest.result c.nearest.ensures c.held_records.ensures c.from.ensures

key_of : (r : Result Key NotAKey) (n : ℕ) → n < 8 * 2 ^ 32 → MatchResult r (λ key. number_of key ≡ n) (λ _. 8 * 2 ^ 32 ≤ n) → number_in (result_ok r) ≡ Some n
key_of (Ok key) n l m = ap Some m
key_of (Err _) n l m = absurd (omega arith)

pub returns : goal.returns
returns c =
    let xs = c.args.self.now.bytes.now in
    let k : ℕ = number_of c.args.key in
    let n : ℕ = c.in_ok-number.number in
    let e : Some n ≡ key_from (area_meaning xs) k = sym c.in_ok-number.was ∙ from_is xs _ k c.from.result c.nearest.result c.nearest.ensures c.held_records.ensures c.from.ensures in
    ap number_in c.ok.ensures.value ∙ key_of c.try_from.result n (from_small xs k n e) c.try_from.ensures ∙ e
