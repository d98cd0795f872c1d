-- What holds of every server's meaning, in terms of what is found under a key.
use Rattle.std.specs.Prelude.{◌≡◌, ℕ, ◌+◌, ◌*◌, ◌<◌, ◌≤◌, true, false, List, length, is_some, Some, None, Ok, Err, ◌≢◌}
use Rattle.geometry.specs.Keys.{stripes}
use Rattle.geometry.specs.Sizes.{fragment_length}
use Rattle.ordered.specs.declared.fault.MapFault.{MapFault}
use Rattle.server.specs.Meaning.{Meaning, Sound, holds, key_from, free, bytes_under, store_answer, store_after, held_answer, delete_after, wipe_after}

-- a key is held exactly where bytes are under it
abbrev pub HeldHasBytes : Type 0
HeldHasBytes = (m : Meaning) (k : ℕ) → holds m k ≡ is_some (bytes_under m k)

-- after an accepted store the key has the bytes, and every other key what it had
abbrev pub StoreFinds : Type 0
StoreFinds =
    (m : Meaning) (k : ℕ) (bytes : List ℕ)
    → store_answer m k ≡ Ok tt
    → (bytes_under (store_after m k bytes) k ≡ Some bytes)
    × ((q : ℕ) → (q ≢ k) → bytes_under (store_after m k bytes) q ≡ bytes_under m q)

-- after a delete the key has none, and every other key what it had
abbrev pub DeleteFinds : Type 0
DeleteFinds =
    (m : Meaning) (k : ℕ)
    → Sound m
    → (bytes_under (delete_after m k) k ≡ None)
    × ((q : ℕ) → (q ≢ k) → bytes_under (delete_after m k) q ≡ bytes_under m q)

-- after a wipe no key has any
abbrev pub WipeFinds : Type 0
WipeFinds = (m : Meaning) (k : ℕ) → bytes_under (wipe_after m) k ≡ None

-- a refused store or delete leaves the server as it was
abbrev pub RefusedStays : Type 0
RefusedStays =
    (m : Meaning) (k : ℕ) (bytes : List ℕ) (f : MapFault)
    → (store_answer m k ≡ Err f → store_after m k bytes ≡ m) × (held_answer m k ≡ Err f → delete_after m k ≡ m)

abbrev pub PlacesStay : Type 0
PlacesStay =
    (m : Meaning) (k : ℕ) (bytes : List ℕ)
    → ((store_after m k bytes).places ≡ m.places)
    × ((delete_after m k).places ≡ m.places)
    × ((wipe_after m).places ≡ m.places)

-- an accepted store takes one place, an accepted delete frees one, and a wipe frees all
abbrev pub FreeCounts : Type 0
FreeCounts =
    (m : Meaning) (k : ℕ) (bytes : List ℕ)
    → Sound m
    → (store_answer m k ≡ Ok tt → free (store_after m k bytes) + 1 ≡ free m)
    × (held_answer m k ≡ Ok tt → free (delete_after m k) ≡ free m + 1)
    × (free (wipe_after m) ≡ m.places)

-- the key found from k on is held and not below k, and no key between is held
abbrev pub FromIsLeast : Type 0
FromIsLeast =
    (m : Meaning) (k q : ℕ)
    → Sound m
    → key_from m k ≡ Some q
    → (holds m q ≡ true) × (k ≤ q) × ((j : ℕ) → k ≤ j → j < q → holds m j ≡ false)

-- none is found exactly where no key from k on is held
abbrev pub FromIsNone : Type 0
FromIsNone =
    (m : Meaning) (k : ℕ)
    → (key_from m k ≡ None → (q : ℕ) → k ≤ q → holds m q ≡ false)
    × (((q : ℕ) → k ≤ q → holds m q ≡ false) → key_from m k ≡ None)

abbrev pub SoundStays : Type 0
SoundStays =
    (m : Meaning)
    → Sound m
    → ((k : ℕ) (bytes : List ℕ) → k < 8 * stripes → length bytes ≡ fragment_length → Sound (store_after m k bytes))
    × ((k : ℕ) → Sound (delete_after m k))
    × Sound (wipe_after m)

-- servers with as many places and the same bytes under every key mean the same
abbrev pub OneMeaning : Type 0
OneMeaning =
    (m n : Meaning)
    → Sound m
    → Sound n
    → m.places ≡ n.places
    → ((k : ℕ) → bytes_under m k ≡ bytes_under n k)
    → m ≡ n
