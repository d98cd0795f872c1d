-- Pull and rebuild: a server goes out, and comes back.
use Rattle.std.specs.Prelude.{ℕ, not, ◌||◌, List, [], ◌∷◌, map, length, is_some, Some, None, Option, nat_lt, nat_le}
use Rattle.std.specs.List.{flat_map}
use Rattle.geometry.specs.Rows.{is_row}
use Rattle.server.specs.Meaning.{piece_key}
use Rattle.row.specs.Rows.{at}
use Rattle.row.specs.Changes.{Step, StoreStep, WipeStep, stepped_all}
use Rattle.rack.specs.Lists.{first_of, when}
use Rattle.rack.specs.Faults.{Fault}
use Rattle.rack.specs.Worlds.{World, with_service, with_out, size, is_out, used, lowest}
use Rattle.rack.specs.Answers.{Done, Number, Outcome, gives, unless, within, bad_server, out_fault, server_full}
use Rattle.rack.specs.Opening.{if_cold}
use Rattle.rack.specs.Fragments.{together, lacks}

-- ---- pull

abbrev pub pull_refusal : World → ℕ → Option Fault
pull_refusal w s =
    first_of
    (if_cold w
    ∷ when (nat_le (size w) s || not (is_row (size w))) bad_server
    ∷ when (is_some w.service.out) (out_fault w.service.out)
    ∷ [])

abbrev pub pull_outcome : World → ℕ → Outcome
pull_outcome w s = unless (pull_refusal w s) w (gives Done (with_service w (with_out w.service (Some s))))

-- ---- rebuild

-- the keys of the sealed stripes, in order
abbrev pub sealed_keys : World → List ℕ
sealed_keys w = map piece_key (lowest w).held

abbrev pub rebuild_refusal : World → ℕ → Option Fault
rebuild_refusal w s =
    first_of
    (if_cold w
    ∷ when (nat_le (size w) s || not (is_row (size w))) bad_server
    ∷ when (not (is_out w.service.out s)) (out_fault w.service.out)
    ∷ when (nat_lt (at w.row s).places (length (sealed_keys w))) (server_full s)
    ∷ flat_map (λ u. map (λ k. lacks w k u) (sealed_keys w)) (used w))

-- the server's fragment of each sealed stripe is put together from the servers in use
abbrev pub rebuild_steps : World → ℕ → List Step
rebuild_steps w s = WipeStep s ∷ map (λ k. StoreStep s k (together w.row (used w) k)) (sealed_keys w)

abbrev pub rebuild_after : World → ℕ → World
rebuild_after w s =
    record w { row = stepped_all (rebuild_steps w s) w.row; service = with_out w.service None }

abbrev pub rebuild_outcome : World → ℕ → ℕ → Outcome
rebuild_outcome w s budget =
    let whole = gives (Number (length (sealed_keys w))) (rebuild_after w s) in
    unless (rebuild_refusal w s) w (within budget (rebuild_steps w s) w whole)
