-- How many blocks are new to a table, slot by slot.
use Rattle.std.proofs.Common.{◌≡◌, ℕ, ◌+◌, ◌<◌, ◌≤◌, if◌then◌else◌, not, ◌&&◌, ◌||◌, List, [], ◌∷◌, map, filter, length, drop, get_or, Some, None, Ok, Option, nat_eq, refl, sym, ap, ◌∙◌, add-one, arith}
use Rattle.std.specs.List.{list_any}
use Rattle.std.proofs.Math.Seq.{drop-cons}
use Rattle.std.proofs.lemmas.Bool.Decides.{nat_tests}
use Rattle.fragment.specs.declared.delta.Delta.{Delta}
use Rattle.fragment.specs.Slots.{Filled}
use Rattle.ordered.specs.Maps.{has, Rises}
use Rattle.ordered.proofs.Maps.{has_put, length_put_new, length_put_held, rises_put}
use Rattle.rack.specs.Entries.{Entry, entry_block, block_in}
use Rattle.rack.specs.Lists.{is_among, in_order}
use Rattle.rack.specs.Restarting.{filled_in}
use Rattle.rack.specs.Sealing.{entry_for, takes, take_one, taken, passed_over, not_taken, new_blocks}
use Rattle.rack.proofs.InOrder.{length_in_order, among_filter}
use Rattle.manager.specs.Taking.{with_delta, slot_with, slots_with, blocks_in, new_count, take_answer}

-- ---- counting the new ones

pub counted : (es : List Entry) (bs : List ℕ) → length (in_order (filter (λ b. not (has entry_block es b)) bs)) ≡ new_count es bs
counted es [] = refl
counted es (b ∷ bs) =
    let ih = counted es bs in
    let l = length_in_order b (filter (λ q. not (has entry_block es q)) bs) in
    let a = among_filter (λ q. not (has entry_block es q)) bs b in
    grind (arith, nat_tests)

-- ---- taking entries

module _ (k j : ℕ) (es : List Entry) (x : Filled) where
  abbrev after : List Entry
  after = take_one k j es (Some x)

  has_after : (q : ℕ) → has entry_block after q ≡ (nat_eq (block_in x) q || has entry_block es q)
  has_after q = let p = has_put entry_block es (entry_for k j x) q in grind (arith, nat_tests)

  count_after : (bs : List ℕ)
      → new_count es bs ≡ new_count after bs + (if not (has entry_block es (block_in x)) && is_among bs (block_in x) then 1 else 0)
  count_after [] = grind (arith, nat_tests)
  count_after (b ∷ bs) = let ih = count_after bs in let h = has_after b in grind (arith, nat_tests)

  -- an entry more is a new block less
  pub entries_and_new : (bs : List ℕ) → Rises entry_block es → length after + new_count after bs ≡ length es + new_count es (block_in x ∷ bs)
  entries_and_new bs rises =
      let c = count_after bs in
      let new = length_put_new entry_block es (entry_for k j x) in
      let old = length_put_held entry_block es (entry_for k j x) rises in
      grind (arith, nat_tests)

pub rises_take_one : (k j : ℕ) (es : List Entry) (s : Option Filled) → Rises entry_block es → Rises entry_block (take_one k j es s)
rises_take_one k j es None rises = rises
rises_take_one k j es (Some x) rises = let p = rises_put entry_block es (entry_for k j x) rises in grind (arith, nat_tests)

-- a slot that fits is not refused
pub has_room : (places k j : ℕ) (es : List Entry) (x : Filled) → length (take_one k j es (Some x)) ≤ places
    → take_answer places es x ≡ Ok (takes es x)
has_room places k j es x fits = let new = length_put_new entry_block es (entry_for k j x) in grind (arith, nat_tests)

-- the entries after a stripe's slots are those before and one for each new block
pub length_taken : (k j : ℕ) (es : List Entry) (xs : List (Option Filled)) → Rises entry_block es
    → length (taken k j es xs) ≡ length es + length (new_blocks es (filled_in xs))
length_taken k j es xs rises = counts k j es xs rises ∙ ap (λ n. length es + n) (sym (counted es (map block_in (filled_in xs))))
  where
    counts : (k j : ℕ) (es : List Entry) (xs : List (Option Filled)) → Rises entry_block es
        → length (taken k j es xs) ≡ length es + new_count es (map block_in (filled_in xs))
    counts k j es [] rises = omega arith
    counts k j es (None ∷ xs) rises = counts k (j + 1) es xs rises
    counts k j es (Some x ∷ xs) rises =
        counts k (j + 1) (take_one k j es (Some x)) xs (rises_take_one k j es (Some x) rises)
        ∙ entries_and_new k j es x (map block_in (filled_in xs)) rises

-- ---- slots of the code

pub any_among : (ds : List (Option Delta)) (b : ℕ) → list_any (λ s. is_among (blocks_in (s ∷ [])) b) ds ≡ is_among (blocks_in ds) b
any_among [] b = refl
any_among (None ∷ ds) b = any_among ds b
any_among (Some x ∷ ds) b = let ih = any_among ds b in grind (arith, nat_tests)

pub none_left : (es : List Entry) (ds : List (Option Delta)) → length ds ≡ 0 → new_count es (blocks_in ds) ≡ 0
none_left es [] h = refl
none_left es (s ∷ ds) h = absurd (omega arith)

pub one_at_most : (es : List Entry) (s : Option Filled) → passed_over es s ≤ 1
one_at_most es None = omega arith
one_at_most es (Some x) = grind (arith, nat_tests)

pub first_left : (ds : List (Option Delta)) (j : ℕ) → j < length ds → drop j ds ≡ get_or ds j None ∷ drop (j + 1) ds
first_left ds j inside = rw (add-one, drop-cons ds j None)

-- one slot on
module _ (k j : ℕ) (es fs : List Entry) (ds rest : List (Option Delta)) (s : Option Delta) (first : ds ≡ s ∷ rest) (after : fs ≡ take_one k j es (slot_with s)) where
  pub taken_on : taken k (j + 1) fs (slots_with rest) ≡ taken k j es (slots_with ds)
  taken_on = ap (λ gs. taken k (j + 1) gs (slots_with rest)) after ∙ sym (ap (λ t. taken k j es (slots_with t)) first)

  pub not_taken_on : passed_over es (slot_with s) + not_taken k (j + 1) fs (slots_with rest) ≡ not_taken k j es (slots_with ds)
  not_taken_on =
      ap (λ gs. passed_over es (slot_with s) + not_taken k (j + 1) gs (slots_with rest)) after
      ∙ sym (ap (λ t. not_taken k j es (slots_with t)) first)

  counted_on : (t : Option Delta) → Rises entry_block es
      → length (take_one k j es (slot_with t)) + new_count (take_one k j es (slot_with t)) (blocks_in rest) ≡ length es + new_count es (blocks_in (t ∷ rest))
  counted_on None rises = refl
  counted_on (Some d) rises = entries_and_new k j es (with_delta d) (blocks_in rest) rises

  pub count_on : Rises entry_block es → length fs + new_count fs (blocks_in rest) ≡ length es + new_count es (blocks_in ds)
  count_on rises =
      ap (λ gs. length gs + new_count gs (blocks_in rest)) after
      ∙ counted_on s rises
      ∙ sym (ap (λ t. length es + new_count es (blocks_in t)) first)
