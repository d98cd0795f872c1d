-- Calls made one after another: what one call more adds.
use Rattle.std.proofs.Common.{◌≡◌, ℕ, ◌+◌, ◌<◌, Bool, ◌&&◌, List, [], ◌∷◌, ◌++◌, length, get_or, take, Decides, sym, refl, ap, ◌∙◌}
use Rattle.std.proofs.lemmas.List.{take_more, same_from_push}
use Rattle.std.proofs.lemmas.Bool.{and_parts, and_from}
use Rattle.server.specs.declared.calls.ServerCall.{ServerCall}
use Rattle.server.specs.Meaning.{Meaning}
use Rattle.server.specs.Calls.{answer_to, after_call, answers_to, after_calls}

after_push : (m : Meaning) (cs : List ServerCall) (c : ServerCall) → after_calls m (cs ++ c ∷ []) ≡ after_call (after_calls m cs) c
after_push m [] c = refl
after_push m (x ∷ cs) c = after_push (after_call m x) cs c

answers_push : (m : Meaning) (cs : List ServerCall) (c : ServerCall) → answers_to m (cs ++ c ∷ []) ≡ answers_to m cs ++ answer_to (after_calls m cs) c ∷ []
answers_push m [] c = refl
answers_push m (x ∷ cs) c = ap (λ t. answer_to m x ∷ t) (answers_push (after_call m x) cs c)

module _ (cs : List ServerCall) (i : ℕ) (c : ServerCall) (h : i < length cs) (e : c ≡ get_or cs i c) where
  more : take (i + 1) cs ≡ take i cs ++ c ∷ []
  more = take_more cs i c h ∙ ap (λ x. take i cs ++ x ∷ []) (sym e)

  pub after_more : (m m' : Meaning) → m' ≡ after_calls m (take i cs) → after_call m' c ≡ after_calls m (take (i + 1) cs)
  after_more m m' a = ap (λ t. after_call t c) a ∙ sym (ap (after_calls m) more ∙ after_push m (take i cs) c)

  answers_more : (m m' : Meaning) → m' ≡ after_calls m (take i cs) → answers_to m (take (i + 1) cs) ≡ answers_to m (take i cs) ++ answer_to m' c ∷ []
  answers_more m m' a = ap (answers_to m) more ∙ answers_push m (take i cs) c ∙ ap (λ t. answers_to m (take i cs) ++ answer_to t c ∷ []) (sym a)

  -- whether all answers were the same, with one call more
  pub agree_more : (m n m' n' : Meaning) (s t : Bool) → m' ≡ after_calls m (take i cs) → n' ≡ after_calls n (take i cs) → Decides s (answers_to m (take i cs) ≡ answers_to n (take i cs)) → Decides t (answer_to m' c ≡ answer_to n' c) → Decides (s && t) (answers_to m (take (i + 1) cs) ≡ answers_to n (take (i + 1) cs))
  agree_more m n m' n' s t a b d f =
      rw (answers_more m m' a, answers_more n n' b) (
        λ h. let p = and_parts s t h in let x = d.0 p.0 in let y = f.0 p.1 in cc,
        λ h. let p = same_from_push _ _ _ _ h in and_from s t (d.1 p.0) (f.1 p.1),
      )
