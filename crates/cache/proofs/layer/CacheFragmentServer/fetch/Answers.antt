use Rattle.std.proofs.Common.{◌≡◌, true, sym, refl, ◌∙◌, arith, rules}
use Rattle.geometry.specs.Keys.{number_of}
use Rattle.server.specs.Meaning.{holds}
use Rattle.cache.proofs.Overlays.{held_answer_over}
use Rattle.cache.proofs.Calls.{missed}
use Rattle.cache.proofs.layer.CacheFragmentServer.fetch.Goals as goal

pub returns : goal.returns
returns g c =
    let s = c.args.self.now.slots in
    let below = c.args.self.now.below in
    let m = g.S.FragmentServer.meaning below in
    let k = number_of c.args.key in
    let f = c.fetch.ensures in
    let w = c.keep.ensures in
    let none = c.in_default.ensures in
    let same : g.S.FragmentServer.meaning c.fetch.new.self ≡ m = f.after in
    let a = f.answer in
    let held : holds m k ≡ true = grind arith in
    let slots = rw same at w.slots in
    let turn = rw same at w.turn in
    let t =
    missed m (g.S.FragmentServer.sound below) s.all _ _ s.turn _ _ refl refl (omega arith) none held
    f.copied (w.below ∙ same) slots (λ h. w.coherent (f.coherent h))
    in
    record {
      answer = held_answer_over s.all m k true (sym held);
      copied = t.0;
      after = t.1;
      coherent = t.2;
      below = w.below ∙ same;
      refused = λ h. search rules;
      hit = λ h. search rules;
      missed = λ _ _. record { fragment = _; of_key = refl; of_bytes = refl; placed = slots; turned = turn };
      kept = λ _. t.3;
    }
