use Rattle.std.proofs.Common.{refl}
use Rattle.ordered.proofs.Maps.{find_put_same, find_put_other, find_without_same, find_without_other, length_put_new, length_put_held, length_without_held, without_absent, rises_put, rises_without, least_held, least_from, least_gap, least_none, none_least, same_from_finds}
use Rattle.ordered.proofs.laws.maps_stand.Goals as goal

pub returns : goal.returns
returns g c =
    let n = g.E.Keyed.number in
    record {
      stands = refl;
      put_finds = λ xs e. (find_put_same n xs e, find_put_other n xs e);
      without_finds = λ xs k r. (find_without_same n xs k r, find_without_other n xs k);
      put_counts = λ xs e r. (length_put_new n xs e, length_put_held n xs e r);
      without_counts = λ xs k. (length_without_held n xs k, without_absent n xs k);
      order_stays = λ xs r. (λ e. rises_put n xs e r, λ k. rises_without n xs k r);
      least = λ xs k x r h. (least_held n xs k x h, least_from n xs k x h, λ q. least_gap n xs k x q r h);
      none = λ xs k. (λ h q. least_none n xs k q h, none_least n xs k);
      one_list = same_from_finds n;
    }
