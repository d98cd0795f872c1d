-- Worked examples of the service.
use Rattle.std.specs.Prelude.{◌≡◌, ℕ, List, [], ◌∷◌, ◌++◌, Some, None, Option}
use Rattle.geometry.specs.Keys.{key_number}
use Rattle.rack.specs.Worlds.{Ticket}
use Rattle.rack.specs.Answers.{Answer, Refused, Cut, Begun, Number, Found, nothing_there, stripe_full, server_full}
use Rattle.rack.specs.Calls.{Call, Begin, Write, Trim, Gather, Seal, Read, Restart}
use Rattle.rack.specs.Plain.{new_plain}
use Rattle.rack.specs.Histories.{new_rack}
use Rattle.rack_examples.specs.Runs.{run, bytes_by}

-- a ticket of this client, with this begin number
abbrev tk : ℕ → ℕ → Ticket
tk c b = record { client = c; begun = b }

-- a budget that no call of these runs comes to the end of
abbrev ample : ℕ
ample = 100

-- what these calls answer on a rack of servers with so many places each, and a table of 100 entries
abbrev answers : List ℕ → List Call → List Answer
answers places calls = (run calls (new_rack places 100) new_plain).answers

abbrev three : List ℕ
three = 9 ∷ 9 ∷ 9 ∷ []

abbrev four : List ℕ
four = 9 ∷ 9 ∷ 9 ∷ 9 ∷ []

-- ---- clients 1 and 2 write one block, versions 1 and 2; 2 seals, then 1

abbrev pub two_writers : List Call
two_writers =
    Restart None ample
    ∷ Begin 1
    ∷ Begin 2
    ∷ Write (tk 1 1) 5 6 (bytes_by 1)
    ∷ Write (tk 2 2) 5 6 (bytes_by 2)
    ∷ Seal (tk 2 2) ample
    ∷ Seal (tk 1 1) ample
    ∷ Read 5 6
    ∷ []

abbrev pub TwoWriters : Type 0
TwoWriters =
    answers three two_writers
    ≡ Number 0 ∷ Begun (tk 1 1) ∷ Begun (tk 2 2) ∷ Number 1 ∷ Number 2 ∷ Number 0 ∷ Number 1 ∷ Found 2 (bytes_by 2) ∷ []

-- ---- a seal is cut after so many changes, and a restart follows that names this server out, or none

abbrev pub cut_seal : ℕ → Option ℕ → List Call
cut_seal budget out =
    Restart None ample ∷ Begin 1 ∷ Write (tk 1 1) 5 6 (bytes_by 1) ∷ Seal (tk 1 1) budget ∷ Restart out ample ∷ []

-- what it answers where so many stripes count
abbrev pub counting : ℕ → List Answer
counting n = Number 0 ∷ Begun (tk 1 1) ∷ Number 1 ∷ Cut ∷ Number n ∷ []

abbrev pub CutSeals : Type 0
CutSeals =
    (answers four (cut_seal 3 None) ≡ counting 1)
    × (answers four (cut_seal 2 None) ≡ counting 0)
    × (answers four (cut_seal 3 (Some 0)) ≡ counting 0)

-- ---- three servers: six writes fit a stripe, and the seventh is refused

abbrev six_writes : List Call
six_writes =
    Write (tk 1 1) 5 1 (bytes_by 1)
    ∷ Write (tk 1 1) 5 2 (bytes_by 2)
    ∷ Write (tk 1 1) 5 3 (bytes_by 3)
    ∷ Write (tk 1 1) 5 4 (bytes_by 4)
    ∷ Write (tk 1 1) 5 5 (bytes_by 5)
    ∷ Write (tk 1 1) 5 6 (bytes_by 6)
    ∷ []

abbrev pub FullStripe : Type 0
FullStripe =
    answers three (Restart None ample ∷ Begin 1 ∷ six_writes ++ Write (tk 1 1) 5 7 (bytes_by 7) ∷ [])
    ≡ Number 0 ∷ Begun (tk 1 1) ∷ Number 1 ∷ Number 2 ∷ Number 3 ∷ Number 4 ∷ Number 5 ∷ Number 6 ∷ Refused (stripe_full 1) ∷ []

-- ---- two free places let a client seal, one does not

abbrev one_seal : List Call
one_seal = Restart None ample ∷ Begin 1 ∷ Write (tk 1 1) 5 6 (bytes_by 1) ∷ Seal (tk 1 1) ample ∷ []

abbrev sealed_as : Answer → List Answer
sealed_as answer = Number 0 ∷ Begun (tk 1 1) ∷ Number 1 ∷ answer ∷ []

abbrev pub PlacesKept : Type 0
PlacesKept =
    (answers (2 ∷ 2 ∷ 2 ∷ []) one_seal ≡ sealed_as (Number 0))
    × (answers (2 ∷ 1 ∷ 2 ∷ []) one_seal ≡ sealed_as (Refused (server_full 1)))

-- ---- a block rewritten after it was moved reads as the rewrite, whichever is sealed first

abbrev first : ℕ
first = key_number 1 0

abbrev pub rewrite : List Call
rewrite =
    one_seal
    ++ Begin 0
    ∷ Gather (tk 0 2) first
    ∷ Begin 1
    ∷ Write (tk 1 3) 5 6 (bytes_by 2)
    ∷ []

abbrev rewritten : List Answer
rewritten = sealed_as (Number 0) ++ Begun (tk 0 2) ∷ Number 1 ∷ Begun (tk 1 3) ∷ Number 2 ∷ []

abbrev pub Rewrites : Type 0
Rewrites =
    (answers three (rewrite ++ Seal (tk 0 2) ample ∷ Seal (tk 1 3) ample ∷ Read 5 6 ∷ [])
    ≡ rewritten ++ Number 0 ∷ Number 0 ∷ Found 2 (bytes_by 2) ∷ [])
    ×
    -- the copy that comes too late takes no entry
    (answers three (rewrite ++ Seal (tk 1 3) ample ∷ Seal (tk 0 2) ample ∷ Read 5 6 ∷ [])
    ≡ rewritten ++ Number 0 ∷ Number 1 ∷ Found 2 (bytes_by 2) ∷ [])

-- ---- a trim survives cleaning, and a restart

abbrev pub Trims : Type 0
Trims =
    answers three
    (Restart None ample
    ∷ Begin 1
    ∷ Write (tk 1 1) 5 6 (bytes_by 1)
    ∷ Trim (tk 1 1) 5 6
    ∷ Seal (tk 1 1) ample
    ∷ Begin 0
    ∷ Gather (tk 0 2) first
    ∷ Seal (tk 0 2) ample
    ∷ Read 5 6
    ∷ Restart None ample
    ∷ Read 5 6
    ∷ [])
    ≡ Number 0
    ∷ Begun (tk 1 1)
    ∷ Number 1
    ∷ Number 2
    ∷ Number 0
    ∷ Begun (tk 0 2)
    ∷ Number 1
    ∷ Number 0
    ∷ Refused nothing_there
    ∷ Number 1
    ∷ Refused nothing_there
    ∷ []

-- ---- a sealed slot stays live while only an unsealed write hides it

abbrev pub StaysLive : Type 0
StaysLive =
    answers three
    (one_seal ++ Begin 1 ∷ Write (tk 1 2) 5 6 (bytes_by 2) ∷ Read 5 6 ∷ Begin 0 ∷ Gather (tk 0 3) first ∷ [])
    ≡ sealed_as (Number 0) ++ Begun (tk 1 2) ∷ Number 2 ∷ Found 2 (bytes_by 2) ∷ Begun (tk 0 3) ∷ Number 1 ∷ []

pub record Examples : Type 0 where
  pub two_writers : TwoWriters
  pub cut_seals : CutSeals
  pub full_stripe : FullStripe
  pub places_kept : PlacesKept
  pub rewrites : Rewrites
  pub trims : Trims
  pub stays_live : StaysLive
