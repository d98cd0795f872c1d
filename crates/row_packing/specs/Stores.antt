-- Storing a finished stripe, as changes to the row.
use Rattle.std.specs.Prelude.{ℕ, List, [], ◌∷◌, map, Ok, Err, Result}
use Rattle.std.specs.List.{range_with_len}
use Rattle.geometry.specs.Keys.{number_of}
use Rattle.ordered.specs.declared.fault.MapFault.{MapFault}
use Rattle.server.specs.Meaning.{Meaning, store_answer, held_answer}
use Rattle.row.specs.declared.change.Change.{Change}
use Rattle.row.specs.declared.change.Change.TheVariants.{Store, Delete, Wipe}
use Rattle.row.specs.Rows.{at}
use Rattle.row.specs.Changes.{changed}
use Rattle.stripe.specs.declared.image.StripeImage.{StripeImage}
use Rattle.stripe.specs.Means.{image_on}

abbrev pub store_on : StripeImage → ℕ → Change
store_on image s = Store s image.stripe.key (image_on image s)

-- one store on each server, in order
abbrev pub stripe_stores : StripeImage → List Change
stripe_stores image = map (store_on image) (range_with_len 0 image.stripe.row.servers)

-- what a change is answered
abbrev pub answer_on : List Meaning → Change → Result (Unit {0}) MapFault
answer_on row (Store s key bytes) = store_answer (at row s) (number_of key)
answer_on row (Delete s key) = held_answer (at row s) (number_of key)
answer_on row (Wipe s) = Ok tt

abbrev pub onward : {A E : Type 0} → Result (Unit {0}) E → A → (E → A) → A
onward (Ok u) next stop = next
onward (Err f) next stop = stop f

-- the first refusal, if there is one
abbrev pub stores_answer : List Change → List Meaning → Result (Unit {0}) MapFault
stores_answer [] row = Ok tt
stores_answer (c ∷ cs) row = onward (answer_on row c) (stores_answer cs (changed row c)) Err

-- what stands after the first refusal; a refused store leaves the row
abbrev pub stores_after : List Change → List Meaning → List Meaning
stores_after [] row = row
stores_after (c ∷ cs) row = onward (answer_on row c) (stores_after cs (changed row c)) (λ _. changed row c)
