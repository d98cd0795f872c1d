-- The plain rack: what a rack is to remember, as a list of records, and what each call and its answer do to it.
use Rattle.std.specs.Prelude.{ℕ, ◌+◌, max, if◌then◌else◌, Bool, true, false, not, ◌&&◌, List, [], ◌∷◌, ◌++◌, map, filter, fold, Some, None, Option, nat_eq, nat_lt}
use Rattle.rack.specs.Worlds.{World, used_of}
use Rattle.rack.specs.Answers.{Answer, Refused, Cut}
use Rattle.rack.specs.Opening.{open_of}
use Rattle.rack.specs.Sealing.{seal_key, is_filled}
use Rattle.rack.specs.Restarting.{counts}
use Rattle.rack.specs.Calls.{Call, Withdraw, Write, Trim, Seal, Restart}

-- one write, or one trim, which has no content
pub record Record : Type 0 where
  pub version : ℕ
  pub client : ℕ
  pub file : ℕ
  pub block : ℕ
  pub content : Option (List ℕ)
  pub sealed : Bool

-- `awaits` has the client and the key of a seal that was cut, until the restart that is accepted next
pub record Plain : Type 0 where
  pub records : List Record
  pub next : ℕ
  pub awaits : Option (ℕ × ℕ)

abbrev pub new_plain : Plain
new_plain = record { records = []; next = 1; awaits = None }

abbrev pub with_records : Plain → List Record → Plain
with_records p rs = record p { records = rs }

abbrev pub marked : Record → Record
marked r = record r { sealed = true }

-- the client's records become sealed
abbrev pub marked_of : ℕ → List Record → List Record
marked_of c rs = map (λ r. if nat_eq r.client c then marked r else r) rs

abbrev pub is_unsealed_of : ℕ → Record → Bool
is_unsealed_of c r = nat_eq r.client c && not r.sealed

abbrev pub added : Plain → ℕ → ℕ → ℕ → Option (List ℕ) → Plain
added p c file block content =
    let new : Record = record { version = p.next; client = c; file = file; block = block; content = content; sealed = false } in
    record p { records = p.records ++ new ∷ []; next = p.next + 1 }

-- a cut seal's records become sealed if its stripe counts
abbrev pub settled : Option (ℕ × ℕ) → (ℕ → Bool) → List Record → List Record
settled None counting rs = rs
settled (Some p) counting rs = if counting p.1 then marked_of p.0 rs else rs

abbrev pub highest : List Record → ℕ
highest rs = fold (λ v r. max v r.version) 0 rs

-- the records that are not sealed are gone
abbrev pub restarted : List Record → Plain
restarted rs =
    let kept = filter (λ r. r.sealed) rs in
    record { records = kept; next = highest kept + 1; awaits = None }

-- what an accepted call does; the world is that before the call
abbrev pub accepted : World → Call → Plain → Plain
accepted w (Withdraw t) p = with_records p (filter (λ r. not (is_unsealed_of t.client r)) p.records)
accepted w (Write t file block bytes) p = added p t.client file block (Some bytes)
accepted w (Trim t file block) p = added p t.client file block None
accepted w (Seal t budget) p = with_records p (marked_of t.client p.records)
accepted w (Restart out budget) p =
    restarted (settled p.awaits (counts w.row (used_of w.row out)) p.records)
accepted w _ p = p

abbrev pub awaiting : Plain → Bool → ℕ → ℕ → Plain
awaiting p filled c k = if filled then record p { awaits = Some (c, k) } else p

-- what a cut call does: of a seal of filled slots it is remembered which stripe it was to store
abbrev pub cut_short : World → Call → Plain → Plain
cut_short w (Seal t budget) p = awaiting p (is_filled (open_of w t)) t.client (seal_key w t.client)
cut_short w _ p = p

abbrev pub plain_after : World → Call → Answer → Plain → Plain
plain_after w call (Refused fault) p = p
plain_after w call Cut p = cut_short w call p
plain_after w call _ p = accepted w call p

-- ---- the newest write kept

abbrev pub newer_record : Option Record → Record → Option Record
newer_record None r = Some r
newer_record (Some q) r = Some (if nat_lt q.version r.version then r else q)

-- a block's record of highest version
abbrev pub newest : Plain → ℕ → ℕ → Option Record
newest p file block = fold newer_record None (filter (λ r. nat_eq r.file file && nat_eq r.block block) p.records)

abbrev pub with_content : ℕ → Option (List ℕ) → Option (ℕ × List ℕ)
with_content version None = None
with_content version (Some bytes) = Some (version, bytes)

-- what a read is to give: version and bytes, or nothing
abbrev pub kept_of : Option Record → Option (ℕ × List ℕ)
kept_of None = None
kept_of (Some r) = with_content r.version r.content
