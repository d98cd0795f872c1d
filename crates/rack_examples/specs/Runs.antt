-- Runs: calls made one after another on a new rack.
use Rattle.std.specs.Prelude.{ℕ, ◌+◌, ◌*◌, ◌%◌, List, [], ◌∷◌, map}
use Rattle.std.specs.List.{range_with_len}
use Rattle.rack.specs.Worlds.{World}
use Rattle.rack.specs.Answers.{Answer}
use Rattle.rack.specs.Calls.{Call, outcome}
use Rattle.rack.specs.Plain.{Plain, plain_after}

-- the answers, and what stands in the end
pub record Run : Type 0 where
  pub answers : List Answer
  pub world : World
  pub plain : Plain

abbrev pub onward : Answer → Run → Run
onward answer r = record { answers = answer ∷ r.answers; world = r.world; plain = r.plain }

abbrev pub run : List Call → World → Plain → Run
run [] w p = record { answers = []; world = w; plain = p }
run (call ∷ calls) w p =
    let o = outcome w call in
    onward o.answer (run calls o.after (plain_after w call o.answer p))

-- a block's bytes, told apart by one number
abbrev pub bytes_by : ℕ → List ℕ
bytes_by b = map (λ i. (b + 7 * i) % 256) (range_with_len 0 128)
