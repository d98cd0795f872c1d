use Rattle.std.proofs.Common.{refl}
use Rattle.server.proofs.Meanings.{held_has_bytes, store_finds, delete_finds, wipe_finds, refused_stays, places_stay, free_counts, from_is_least, from_is_none, sound_stays, one_meaning}
use Rattle.server.proofs.laws.meanings_stand.Goals as goal

pub returns : goal.returns
returns c =
    record {
      answer = refl;
      bytes = held_has_bytes;
      store = store_finds;
      delete = delete_finds;
      wipe = wipe_finds;
      refused = refused_stays;
      places = places_stay;
      free = free_counts;
      least = from_is_least;
      none = from_is_none;
      sound = sound_stays;
      one = one_meaning;
    }
