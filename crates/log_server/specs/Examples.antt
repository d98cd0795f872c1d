-- Areas of a few records, and what they mean.
use Rattle.std.specs.Prelude.{◌≡◌, ℕ, List, [], ◌∷◌, ◌++◌, replicate}
use Rattle.geometry.specs.Keys.{key_number}
use Rattle.geometry.specs.Sizes.{fragment_length}
use Rattle.log_server.specs.Records.{held_record, free_record}
use Rattle.log_server.specs.Area.{area_meaning}
use Rattle.log_server.specs.Calls.{deleted}
use Rattle.log_server.specs.Laws.{nothing}

-- a fragment whose bytes are all b
abbrev fragment : ℕ → List ℕ
fragment b = replicate fragment_length b

-- the records of client 3, stripe 70000 and of client 2, stripe 5
abbrev first : List ℕ
first = held_record 3 70000 (fragment 9)

abbrev second : List ℕ
second = held_record 2 5 (fragment 7)

abbrev tail : List ℕ
tail = 1 ∷ 2 ∷ 3 ∷ []

pub record Examples : Type 0 where
  -- two free records, and three bytes after them
  pub free : area_meaning (free_record ++ free_record ++ tail) ≡ record { places = 2; held = [] }
  -- the map is in the order of the keys, whatever the order of the records
  pub held : area_meaning (first ++ second ++ free_record) ≡ record { places = 3; held = (key_number 2 5, fragment 7) ∷ (key_number 3 70000, fragment 9) ∷ [] }
  -- a delete closes the gap
  pub closed : deleted (first ++ second ++ tail) (key_number 3 70000) ≡ second ++ free_record ++ tail
  -- not in order: no such client, a key that comes again, a held record after a free one
  pub client : area_meaning (held_record 8 0 (fragment 0)) ≡ nothing
  pub again : area_meaning (first ++ first) ≡ nothing
  pub gap : area_meaning (free_record ++ second) ≡ nothing
  -- shorter than a record
  pub short : area_meaning (replicate 519 0) ≡ nothing
