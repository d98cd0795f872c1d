-- What the slots of a cache hold.
use Rattle.std.specs.Prelude.{◌≡◌, ℕ, Bool, false, if◌then◌else◌, List, [], ◌∷◌, map, replicate, Some, None, Option, ◌==◌, slice_index_or, slice_set}
use Rattle.geometry.specs.Keys.{number_of}
use Rattle.geometry.specs.declared.key.Key.{Key}
use Rattle.server.specs.declared.stored.StoredFragment.{StoredFragment}
use Rattle.cache.specs.declared.slots.CacheSlots.{CacheSlots}
use Rattle.cache.specs.Sizes.{slots_in_cache}

abbrev pub empty_slots : List (Option StoredFragment)
empty_slots = replicate slots_in_cache None

-- nothing is cached, and the first slot is filled next
abbrev pub IsFresh : CacheSlots → Type 0
IsFresh slots = (slots.all ≡ empty_slots) × (slots.turn ≡ 0)

abbrev pub key_in : Option StoredFragment → Option Key
key_in None = None
key_in (Some f) = Some f.key

abbrev pub kept_under : ℕ → Option StoredFragment → Bool
kept_under k None = false
kept_under k (Some f) = number_of f.key == k

-- the bytes cached under a key: those of the first slot that has the key
abbrev pub cached : List (Option StoredFragment) → ℕ → Option (List ℕ)
cached [] k = None
cached (None ∷ ss) k = cached ss k
cached (Some f ∷ ss) k = if number_of f.key == k then Some f.bytes else cached ss k

-- with nothing cached under a key

abbrev pub forgot : ℕ → Option StoredFragment → Option StoredFragment
forgot k s = if kept_under k s then None else s

abbrev pub forgotten : ℕ → List (Option StoredFragment) → List (Option StoredFragment)
forgotten k ss = map (forgot k) ss

-- with nothing cached under the key of one slot, which leaves that slot empty
abbrev pub vacated : List (Option StoredFragment) → Option StoredFragment → List (Option StoredFragment)
vacated ss None = ss
vacated ss (Some f) = forgotten (number_of f.key) ss

-- with a fragment in slot i
abbrev pub replaced : List (Option StoredFragment) → ℕ → StoredFragment → List (Option StoredFragment)
replaced ss i f = slice_set (vacated ss (slice_index_or ss i None)) i (Some f)

-- what a store or a delete leaves cached: where it was accepted, nothing under its key
abbrev pub Forgets : ℕ → Bool → CacheSlots → CacheSlots → Type 0
Forgets k accepted old new = (new.all ≡ (if accepted then forgotten k old.all else old.all)) × (new.turn ≡ old.turn)
