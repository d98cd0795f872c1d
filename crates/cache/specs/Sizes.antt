-- How many fragments a cache keeps at most.
use Rattle.std.specs.Prelude.{ℕ}

abbrev pub slots_in_cache : ℕ
slots_in_cache = 4
