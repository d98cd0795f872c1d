-- The newest slot of two clients, and of one client more.
use Rattle.std.proofs.Common.{◌≡◌, ℕ, ◌+◌, ◌<◌, Bool, true, false, cond, List, [], map, length, get_or, take, Some, None, Option, nat_lt, ap, sym, ◌∙◌}
use Rattle.std.specs.List.{flat_map}
use Rattle.std.proofs.lemmas.List.{map_more, flat_map_more}
use Rattle.fragment.specs.Slots.{Filled}
use Rattle.rack.specs.Worlds.{filled_of}
use Rattle.open_stripe.specs.Newest.{newest_in, newest_of_two}
use Rattle.open_stripe.proofs.Newer.{newest_append}
use Rattle.clients.specs.declared.newest.NewestSlot.{NewestSlot}
use Rattle.clients.specs.declared.state.ClientState.{ClientState}
use Rattle.clients.specs.Means.{client_of}
use Rattle.clients.specs.Newest.{newest_of, newer_of_two, Finds}

chosen : (x y : Filled) (r s : NewestSlot) (b c : Bool) → b ≡ c → Finds (Some x) (Some r) → Finds (Some y) (Some s) → Finds (Some (cond b y x)) (cond c (Some s) (Some r))
chosen x y r s true true e h k = k
chosen x y r s false false e h k = h
chosen x y r s true false e h k = cc
chosen x y r s false true e h k = cc

-- of what was found, the newer
pub finds_newer : (x y : Option Filled) (r s : Option NewestSlot) → Finds x r → Finds y s → Finds (newest_of_two x y) (newer_of_two r s)
finds_newer x None r None h k = h
finds_newer x None r (Some s) h k = let e = k.delta in cc
finds_newer x (Some y) r None h k = let e = k.delta in cc
finds_newer None (Some y) None (Some s) h k = k
finds_newer None (Some y) (Some r) (Some s) h k = let e = h.delta in cc
finds_newer (Some x) (Some y) None (Some s) h k = let e = h.delta in cc
finds_newer (Some x) (Some y) (Some r) (Some s) h k =
    let d = h.delta in
    let e = k.delta in
    let same : nat_lt x.delta.version y.delta.version ≡ nat_lt r.slot.delta.version s.slot.delta.version = cc in
    chosen x y r s _ _ same h k

pub newest_more : (b : ℕ) (ss : List ClientState) (i : ℕ) (d : ClientState) → i < length ss → newest_of b (map client_of (take (i + 1) ss)) ≡ newest_of_two (newest_of b (map client_of (take i ss))) (newest_in b (filled_of (client_of (get_or ss i d))))
newest_more b ss i d h =
    let before = map client_of (take i ss) in
    let next = client_of (get_or ss i d) in
    ap (newest_of b) (map_more client_of ss i d h)
    ∙ ap (newest_in b) (sym (flat_map_more filled_of [] before next))
    ∙ newest_append b (flat_map filled_of before) (filled_of next)
