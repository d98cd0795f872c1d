-- What is got of fragments, or which server lacks the key.
use Rattle.std.specs.Prelude.{ℕ, Some, None, Ok, Err, Option, Result}
use Rattle.geometry.specs.declared.key.Key.{Key}
use Rattle.row_fragments.specs.declared.lacks.Lacks.{Lacks}

module _ {A : Type 0} where
  -- what is got, unless a server lacks the key
  abbrev pub unless_lacking : Option ℕ → Key → A → Result A Lacks
  unless_lacking None key got = Ok got
  unless_lacking (Some s) key got = Err (record { server = s; key = key })

-- the refusal alone
abbrev pub lack_in : Option ℕ → Key → Option Lacks
lack_in None key = None
lack_in (Some s) key = Some (record { server = s; key = key })
