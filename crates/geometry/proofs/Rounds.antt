-- Going round a row of n servers.
use Rattle.std.proofs.Common.{◌≡◌, ℕ, zero, suc, ◌+◌, ◌-◌, ◌%◌, ◌<◌, ◌≤◌, cond, Some, None, sym, refl, ap, ◌∙◌, mod-lt, mod-eq_of_lt, arith, lt-ltb}
use native.Mathlib.Nat.{mod-add-mod, add-mod_right}
use native.Mathlib.Decide.{dec_lt}
use Rattle.geometry.specs.declared.part.Part.{Part}
use Rattle.geometry.specs.declared.part.Part.TheVariants.{Parity, Data}
use Rattle.geometry.specs.Keys.{client_of, stripe_of}
use Rattle.geometry.specs.Placement.{parity_server, data_server, server_of, IsPart, steps_on, part_at, part_on, OnePartOnEachServer}

-- a remainder of less than twice n
pub under : (n x : ℕ) → x < n → x % n ≡ x
under n x h = mod-eq_of_lt h

pub over : (n x : ℕ) → n ≤ x → x < n + n → x % n ≡ x - n
over n x h l =
    let e : x ≡ x - n + n = omega arith in
    let b : x - n < n = omega arith in
    ap (λ t. t % n) e ∙ add-mod_right (x - n) n ∙ mod-eq_of_lt b

-- data fragment i lies 1 + i servers after the parity
pub data_after : (n k i : ℕ) → data_server n k i ≡ (parity_server n k + (1 + i)) % n
data_after n k i =
    ap (λ t. t % n) (let e : client_of k + stripe_of k + 1 + i ≡ client_of k + stripe_of k + (1 + i) = omega arith in e)
    ∙ sym (mod-add-mod (client_of k + stripe_of k) n (1 + i))

module _ (n k : ℕ) (pos : 0 < n) where
  pub parity_below : parity_server n k < n
  parity_below = mod-lt (client_of k + stripe_of k) pos

  -- the server so many steps after the parity's
  pub there : (i : ℕ) → i < n → steps_on n k ((parity_server n k + i) % n) ≡ i
  there i h =
      let b = parity_below in
      elim (dec_lt (parity_server n k + i) n) [
        | yes l ↦ (let e = under n (parity_server n k + i) l in
            let s : (parity_server n k + i) % n + n - parity_server n k ≡ i + n = omega arith in
            ap (λ t. t % n) s ∙ add-mod_right i n ∙ under n i h)
        | no u ↦ (let e = over n (parity_server n k + i) (omega arith) (omega arith) in
            let s : (parity_server n k + i) % n + n - parity_server n k ≡ i = omega arith in
            ap (λ t. t % n) s ∙ under n i h)
      ]

  pub steps_below : (s : ℕ) → steps_on n k s < n
  steps_below s = mod-lt (s + n - parity_server n k) pos

  -- and back
  pub here : (s : ℕ) → s < n → (parity_server n k + steps_on n k s) % n ≡ s
  here s h =
      let b = parity_below in
      elim (dec_lt s (parity_server n k)) [
        | yes l ↦ (let e = under n (s + n - parity_server n k) (omega arith) in
            let t : parity_server n k + steps_on n k s ≡ s + n = omega arith in
            ap (λ x. x % n) t ∙ add-mod_right s n ∙ under n s h)
        | no u ↦ (let e = over n (s + n - parity_server n k) (omega arith) (omega arith) in
            let t : parity_server n k + steps_on n k s ≡ s = omega arith in
            ap (λ x. x % n) t ∙ under n s h)
      ]

-- a part's own number of steps
abbrev step_of : Part → ℕ
step_of Parity = 0
step_of (Data i) = suc i

part_back : (p : Part) → part_at (step_of p) ≡ p
part_back Parity = refl
part_back (Data i) = refl

step_back : (i : ℕ) → step_of (part_at i) ≡ i
step_back zero = refl
step_back (suc i) = refl

is_part : (n i : ℕ) → i < n → IsPart n (part_at i)
is_part n zero h = tt
is_part n (suc i) h = omega arith

step_below : (n : ℕ) (p : Part) → 0 < n → IsPart n p → step_of p < n
step_below n Parity pos h = pos
step_below n (Data i) pos h = omega arith

server_is : (n k : ℕ) (p : Part) → 0 < n → server_of n k p ≡ (parity_server n k + step_of p) % n
server_is n k Parity pos =
    let z : parity_server n k + 0 ≡ parity_server n k = omega arith in
    sym (ap (λ t. t % n) z ∙ under n (parity_server n k) (parity_below n k pos))
server_is n k (Data i) pos = data_after n k i ∙ ap (λ t. (parity_server n k + t) % n) (let e : 1 + i ≡ suc i = omega arith in e)

pub one_part_on_each_server : OnePartOnEachServer
one_part_on_each_server n k s least most h =
    let pos : 0 < n = omega arith in
    let i : ℕ = steps_on n k s in
    let b : steps_on n k s < n = steps_below n k pos s in (
      part_at i,
      ap (λ t. cond t (Some (part_at i)) None) (lt-ltb s n h),
      record {
        part = is_part n i b;
        here = server_is n k (part_at i) pos ∙ ap (λ t. (parity_server n k + t) % n) (step_back i) ∙ here n k pos s h;
        alone =
            λ q v e.
            sym (part_back q)
            ∙ ap part_at (sym (there n k pos (step_of q) (step_below n q pos v)) ∙ ap (steps_on n k) (sym (server_is n k q pos) ∙ e));
      },
    )

pub part_found : (n k s i : ℕ) → s < n → i ≡ steps_on n k s → Some (part_at i) ≡ part_on n k s
part_found n k s i h e = ap (λ t. Some (part_at t)) e ∙ sym (ap (λ t. cond t (Some (part_at (steps_on n k s))) None) (lt-ltb s n h))

pub data_at : (i : ℕ) → (i ≡ 0 → ⊥) → Data (i - 1) ≡ part_at i
data_at zero h = absurd (h refl)
data_at (suc i) h = ap Data (omega arith)
