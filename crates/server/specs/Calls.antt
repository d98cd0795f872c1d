-- What a server answers to calls, and what they leave.
use Rattle.std.specs.Prelude.{ℕ, List, [], ◌∷◌, replicate}
use Rattle.geometry.specs.Keys.{number_of}
use Rattle.geometry.specs.Sizes.{fragment_length}
use Rattle.server.specs.declared.calls.ServerCall.{ServerCall}
use Rattle.server.specs.declared.calls.ServerCall.TheVariants as call
use Rattle.server.specs.declared.calls.ServerAnswer.{ServerAnswer}
use Rattle.server.specs.declared.calls.ServerAnswer.TheVariants as answer
use Rattle.server.specs.Meaning.{Meaning, holds, key_from, free, fetched, store_answer, store_after, held_answer, delete_after, wipe_after}

abbrev pub zeros : List ℕ
zeros = replicate fragment_length 0

abbrev pub answer_to : Meaning → ServerCall → ServerAnswer
answer_to m (call.Store key bytes) = answer.Changed (store_answer m (number_of key))
answer_to m (call.Fetch key) = answer.Fetched (record { answer = held_answer m (number_of key); bytes = fetched m (number_of key) zeros })
answer_to m (call.Delete key) = answer.Changed (held_answer m (number_of key))
answer_to m call.Wipe = answer.Wiped
answer_to m (call.Holds key) = answer.Holds (holds m (number_of key))
answer_to m (call.From key) = answer.From (key_from m (number_of key))
answer_to m call.Capacity = answer.Count m.places
answer_to m call.Free = answer.Count (free m)

abbrev pub after_call : Meaning → ServerCall → Meaning
after_call m (call.Store key bytes) = store_after m (number_of key) bytes
after_call m (call.Fetch key) = m
after_call m (call.Delete key) = delete_after m (number_of key)
after_call m call.Wipe = wipe_after m
after_call m (call.Holds key) = m
after_call m (call.From key) = m
after_call m call.Capacity = m
after_call m call.Free = m

-- call after call

abbrev pub answers_to : Meaning → List ServerCall → List ServerAnswer
answers_to m [] = []
answers_to m (c ∷ cs) = answer_to m c ∷ answers_to (after_call m c) cs

abbrev pub after_calls : Meaning → List ServerCall → Meaning
after_calls m [] = m
after_calls m (c ∷ cs) = after_calls (after_call m c) cs
