-- The servers in use, and sets of servers, as lists of their numbers that rise.
use Rattle.std.specs.Prelude.{◌≡◌, ℕ, ◌+◌, if◌then◌else◌, Bool, List, [], ◌∷◌, ◌++◌, nat_lt}
use Rattle.rack.specs.Lists.{in_order}
use Rattle.rack.specs.Worlds.{is_out, in_use}
use Rattle.row_fragments.specs.declared.in_use.InUse.{InUse}
use Rattle.row_fragments.specs.declared.server_set.ServerSet.{ServerSet}

abbrev pub used_in : InUse → List ℕ
used_in u = in_use u.row.servers u.out

-- the numbers, from i on, of those that are true
abbrev pub numbered : ℕ → List Bool → List ℕ
numbered i [] = []
numbered i (b ∷ bs) = if b then i ∷ numbered (i + 1) bs else numbered (i + 1) bs

abbrev pub servers_in : ServerSet → List ℕ
servers_in set = numbered 0 set.members

-- server s alone, on the longest row
abbrev pub one_in : ℕ → List ℕ
one_in s = if nat_lt s 8 then s ∷ [] else []

-- the servers that are read for the fragment on server s
abbrev pub reads_in : InUse → ℕ → List ℕ
reads_in u s = if is_out u.out s then used_in u else one_in s

-- joining to what is in order already gives what joining all at once does
abbrev pub JoinsUp : Type 0
JoinsUp = (xs ys : List ℕ) → in_order (in_order xs ++ ys) ≡ in_order (xs ++ ys)
