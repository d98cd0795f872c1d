-- Laws of areas.
use Rattle.std.specs.Prelude.{◌≡◌, ℕ, ◌*◌, ◌<◌, false, List, [], length, drop}
use Rattle.geometry.specs.Keys.{key_number, stripes}
use Rattle.geometry.specs.Sizes.{fragment_length}
use Rattle.server.specs.Meaning.{Meaning, store_after, delete_after, wipe_after}
use Rattle.log_server.specs.Records.{record_length, held_record}
use Rattle.log_server.specs.Area.{records_of, in_order, area_places, area_meaning}
use Rattle.log_server.specs.Calls.{stored, deleted, wiped}

-- the bytes that a call leaves, opened again, mean what the call means
pub record Reopens (xs : List ℕ) : Type 0 where
  pub store : (client stripe : ℕ) (fragment : List ℕ) → client < 8 → stripe < stripes → length fragment ≡ fragment_length
      → area_meaning (stored xs (key_number client stripe) (held_record client stripe fragment)) ≡ store_after (area_meaning xs) (key_number client stripe) fragment
  pub delete : (k : ℕ) → area_meaning (deleted xs k) ≡ delete_after (area_meaning xs) k
  pub wipe : area_meaning (wiped xs) ≡ wipe_after (area_meaning xs)

-- no call changes these bytes
pub record Untouched (xs : List ℕ) : Type 0 where
  pub store : (k : ℕ) (r : List ℕ) → stored xs k r ≡ xs
  pub delete : (k : ℕ) → deleted xs k ≡ xs
  pub wipe : wiped xs ≡ xs

-- the bytes after the records stay as they are
pub record RestStays (xs : List ℕ) : Type 0 where
  pub store : (k : ℕ) (r : List ℕ) → length r ≡ record_length → drop (record_length * area_places xs) (stored xs k r) ≡ drop (record_length * area_places xs) xs
  pub delete : (k : ℕ) → drop (record_length * area_places xs) (deleted xs k) ≡ drop (record_length * area_places xs) xs
  pub wipe : drop (record_length * area_places xs) (wiped xs) ≡ drop (record_length * area_places xs) xs

abbrev pub nothing : Meaning
nothing = record { places = 0; held = [] }

pub record AreaLaws : Type 0 where
  pub reopens : (xs : List ℕ) → Reopens xs
  pub rest_stays : (xs : List ℕ) → RestStays xs
  pub out_of_order : (xs : List ℕ) → in_order (records_of xs) ≡ false → (area_meaning xs ≡ nothing) × Untouched xs
