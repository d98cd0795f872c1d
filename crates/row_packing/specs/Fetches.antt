-- A stripe's fragment, fetched from its server or put together from the others.
use Rattle.std.specs.Prelude.{ℕ, List, Some, None, Ok, Err, Option, Result}
use Rattle.ordered.specs.declared.fault.MapFault.{MapFault}
use Rattle.ordered.specs.declared.fault.MapFault.TheVariants.{Absent}
use Rattle.server.specs.Meaning.{Meaning}
use Rattle.rack.specs.Worlds.{in_use}
use Rattle.rack.specs.Fragments.{together, reads_for, fragment_from}
use Rattle.row_fragments.specs.Lacking.{first_lacking}

-- the servers of a row of n but s
abbrev pub others : ℕ → ℕ → List ℕ
others n s = in_use n (Some s)

-- what a fetch is answered, where a server lacks the key or none does
abbrev pub lack_answer : Option ℕ → Result (Unit {0}) MapFault
lack_answer None = Ok tt
lack_answer (Some s) = Err Absent

-- the first refusal of these servers, if there is one
abbrev pub fetches_answer : List Meaning → ℕ → List ℕ → Result (Unit {0}) MapFault
fetches_answer row k ss = lack_answer (first_lacking row k ss)

abbrev pub put_together : List Meaning → ℕ → List ℕ → List ℕ
put_together row k ss = together row ss k

-- what the fragment that belongs on server s of a row of n is answered, and the fragment

abbrev pub fragment_answer : List Meaning → ℕ → Option ℕ → ℕ → ℕ → Result (Unit {0}) MapFault
fragment_answer row n missing k s = fetches_answer row k (reads_for (in_use n missing) missing s)

abbrev pub fragment_in : List Meaning → ℕ → Option ℕ → ℕ → ℕ → List ℕ
fragment_in row n missing k s = fragment_from row (in_use n missing) missing k s
