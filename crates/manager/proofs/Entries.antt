-- What a table of the code leaves, by what its entries mean.
use Rattle.std.proofs.Common.{◌≡◌, ℕ, ◌≤◌, true, List, map, length, take, Some, None, Ok, Option, refl, sym, ap, ◌∙◌, arith}
use Rattle.std.specs.Option.{option_map}
use Rattle.std.specs.Result.{result_and}
use Rattle.std.proofs.lemmas.Bool.Decides.{nat_tests}
use Rattle.std.proofs.lemmas.List.{length-map, length-take}
use Rattle.fragment.specs.declared.delta.Delta.{Delta}
use Rattle.fragment.specs.Pairs.{beats}
use Rattle.ordered.specs.Maps.{find, has, put, Rises}
use Rattle.ordered.specs.Tables.{insert_answer, insert_after, replace_after, held_answer}
use Rattle.ordered.proofs.Maps.{has_map, put_map, rises_map}
use Rattle.rack.specs.declared.entry.Entry as code
use Rattle.rack.specs.Entries.{Entry, entry_of, entry_block, block_in}
use Rattle.rack.specs.Sealing.{entry_for}
use Rattle.manager.specs.Taking.{with_delta, take_answer, take_after}

abbrev number : code.Entry → ℕ
number e = entry_block (entry_of e)

-- what is true of every table's entries: they are in order, and not more than there is memory for
pub rises_entries : (xs : List code.Entry) → Rises number xs → Rises entry_block (map entry_of xs)
rises_entries = rises_map number entry_block entry_of (λ x. refl)

pub few_entries : (len : ℕ) (slots : List code.Entry) → length (map entry_of (take len slots)) ≤ length slots
few_entries len slots = simp (length-map, length-take) (omega arith)

-- e is to be the entry of slot j of the stripe of key k, and found is the entry of its block
module _ (places k j : ℕ) (xs : List code.Entry) (e : code.Entry) (d : Delta) (is : entry_of e ≡ entry_for k j (with_delta d))
    (found : Option code.Entry) (was : option_map entry_of found ≡ find entry_block (map entry_of xs) (block_in (with_delta d))) where
  abbrev es : List Entry
  es = map entry_of xs

  has_block : has entry_block es (block_in (with_delta d)) ≡ has number xs (number e)
  has_block = ap (has entry_block es) (sym (ap entry_block is)) ∙ has_map number entry_block entry_of (λ x. refl) xs (number e)

  put_entry : put entry_block es (entry_for k j (with_delta d)) ≡ map entry_of (put number xs e)
  put_entry = ap (put entry_block es) (sym is) ∙ put_map number entry_block entry_of (λ x. refl) xs e

  pub new_answer : found ≡ None → take_answer places es (with_delta d) ≡ result_and (insert_answer number xs places e) (Ok true)
  new_answer new = let h = has_block in let l : length es ≡ length xs = length-map xs entry_of in grind (arith, nat_tests)

  pub new_after : found ≡ None → take_after places k j es (with_delta d) ≡ map entry_of (insert_after number xs places e)
  new_after new =
      let h = has_block in let p = put_entry in let l : length es ≡ length xs = length-map xs entry_of in grind (arith, nat_tests)

  module _ (held : code.Entry) (old : found ≡ Some held) (better : beats e.pair held.pair ≡ true) where
    pub higher_answer : take_answer places es (with_delta d) ≡ result_and (held_answer number xs (number e)) (Ok true)
    higher_answer = let h = has_block in grind (arith, nat_tests)

    pub higher_after : take_after places k j es (with_delta d) ≡ map entry_of (replace_after number xs e)
    higher_after = let h = has_block in let p = put_entry in grind (arith, nat_tests)
