-- A cache above a server of type S, by what such servers mean and by when they are coherent.
use Rattle.std.specs.Prelude.{◌≡◌, ℕ, List}
use Rattle.geometry.specs.declared.key.Key.{Key}
use Rattle.server.specs.Meaning.{Meaning}
use Rattle.server.specs.declared.stored.StoredFragment.{StoredFragment}
use Rattle.cache.specs.declared.layer.Cache.{Cache}
use Rattle.cache.specs.Overlay.{overlaid, Agrees, keep_after, turn_after}

module _ {S : Type 0} (meaning : S → Meaning) where
  -- what the cache means, whatever is cached
  abbrev pub means : Cache S → Meaning
  means c = overlaid c.slots.all (meaning c.below)

  -- what is cached equals what stands below
  abbrev pub AgreesBelow : Cache S → Type 0
  AgreesBelow c = Agrees (meaning c.below) c.slots.all

  -- and the server below is coherent itself
  abbrev pub Coheres : (S → Type 0) → Cache S → Type 0
  Coheres coherent c = coherent c.below × AgreesBelow c

  -- after a fragment came from below: it has the place of the one whose turn it was to go, if that could go
  pub record Keeps (before : Cache S) (key : Key) (bytes : List ℕ) (after : Cache S) : Type 0 where
    pub fragment : StoredFragment
    pub of_key : fragment.key ≡ key
    pub of_bytes : fragment.bytes ≡ bytes
    pub placed : after.slots.all ≡ keep_after (meaning before.below) before.slots.all before.slots.turn fragment
    pub turned : after.slots.turn ≡ turn_after (meaning before.below) before.slots.all before.slots.turn
