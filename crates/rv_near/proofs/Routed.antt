-- Gates as `route` leaves them in a decomposed circuit are decomposed to gates on consecutive lines.
use Rattle.std.proofs.Common.{◌≡◌, ◌∙◌, ℕ, zero, suc, ◌+◌, ◌*◌, ◌<◌, ◌≤◌, Bool, true, false, cond, ◌||◌, eqb, List, [], ◌∷◌, ◌++◌, nat_lt, refl, sym, ap, subst, arith}
use Rattle.std.specs.Prelude.{bit_or, ◌^◌}
use Rattle.std.specs.List.{All, flat_map}
use Rattle.std.proofs.lemmas.Bool.{eqb-true, lt-ltb}
use Rattle.std.proofs.lemmas.List.Elements.{All-append, All-cons, All-head, All-nil, All-tail}
use Rattle.rv_gate.specs.Gate.{touches}
use Rattle.rv_gate.specs.Word.{has}
use Rattle.rv_gate.specs.declared.gate.Shape.{Shape}
use Rattle.rv_gate.specs.declared.gate.Shape.TheVariants.{Flip, Swap as SwapGate, Peres}
use Rattle.rv_gate.specs.declared.word.TheConstants.{MOST_LINES}
use Rattle.rv_gate.proofs.Bits.{or_comm}
use Rattle.rv_gate.proofs.LineSets.{has-line, has-none, has-with_line}
use Rattle.rv_mct.specs.Blocks.{block_of, count, count_lines, decomposition_of, flip_block}
use Rattle.rv_mct.specs.declared.aux.Aux.{Aux}
use Rattle.rv_mct.proofs.Rising.{count_zero, count-suc}
use Rattle.rv_route.specs.Placement.{IsNear}
use Rattle.rv_near.specs.Near.{IsRouted}
use Rattle.rv_mct.proofs.inside.Splits.{count_none}

-- ---- a flip with at most two controls stays as it is

once : (p : ℕ → Bool) (a n : ℕ) → ((x : ℕ) → p x ≡ true → x ≡ a) → count p n ≤ 1
once p a zero h = omega (arith, count_zero p)
once p a (suc n) h = go (p n) refl (once p a n h)
  where
    other : (x : ℕ) → x < n → n ≡ a → (b : Bool) → p x ≡ b → p x ≡ false
    other x lt at false e = e
    other x lt at true e = absurd (omega (arith, lt, at, h x e))

    go : (b : Bool) → p n ≡ b → count p n ≤ 1 → count p (suc n) ≤ 1
    go false e rest =
        let last : cond {A = ℕ} (p n) 1 0 ≡ 0 = ap (λ b. cond b 1 0) e in
        omega (arith, count-suc p n, rest, last)
    go true e rest =
        let last : cond {A = ℕ} (p n) 1 0 ≡ 1 = ap (λ b. cond b 1 0) e in
        omega (arith, count-suc p n, count_none p n (λ x lt. other x lt (h n e) (p x) refl), last)

stays : (aux : Aux) (lines extra care want t : ℕ) → count_lines care ≤ 2 → IsNear (Flip care want t)
    → All IsNear (flip_block aux lines extra (Flip care want t))
stays aux lines extra care want t few near =
    let lt : count_lines care < 3 = omega (arith, few) in
    rw (lt-ltb (count_lines care) 3 lt) (All-cons IsNear (Flip care want t) [] near (All-nil IsNear))

-- ---- the three flips of a swap

-- gates that touch the same lines
near_as : (g h : Shape) → ((line : ℕ) → touches g line ≡ touches h line) → IsNear h → IsNear g
near_as g h same near first line last from to low high =
    same line ∙ near first line last (sym (same first) ∙ from) (sym (same last) ∙ to) low high

outer : (want a b line : ℕ) → touches (Flip (2 ^ b) (2 ^ b) a) line ≡ touches (SwapGate 0 want a b) line
outer want a b line =
    ap (λ s. s || eqb line a) (has-line b line) ∙ or_comm (eqb line b) (eqb line a)
    ∙ sym (ap (λ s. s || eqb line a || eqb line b) (has-none line))

inner : (want a b line : ℕ)
    → touches (Flip (bit_or 0 (2 ^ a)) (bit_or want (2 ^ a)) b) line ≡ touches (SwapGate 0 want a b) line
inner want a b line =
    ap (λ s. s || eqb line b) (has-with_line 0 a line ∙ ap (λ s. s || eqb line a) (has-none line))
    ∙ sym (ap (λ s. s || eqb line a || eqb line b) (has-none line))

one : (set a : ℕ) → ((line : ℕ) → has set line ≡ eqb line a) → count_lines set ≤ 2
one set a is = let few = once (has set) a MOST_LINES (λ x on. eqb-true x a (sym (is x) ∙ on)) in omega (arith, few)

swapped : (aux : Aux) (lines extra want a b : ℕ) → IsNear (SwapGate 0 want a b)
    → All IsNear (block_of aux lines extra (SwapGate 0 want a b))
swapped aux lines extra want a b near =
    let middle : ℕ = bit_or 0 (2 ^ a) in
    let first = stays aux lines extra (2 ^ b) (2 ^ b) a (one (2 ^ b) b (has-line b))
    (near_as (Flip (2 ^ b) (2 ^ b) a) (SwapGate 0 want a b) (outer want a b) near) in
    let second = stays aux lines extra middle (bit_or want (2 ^ a)) b
    (one middle a (λ line. has-with_line 0 a line ∙ ap (λ s. s || eqb line a) (has-none line)))
    (near_as (Flip middle (bit_or want (2 ^ a)) b) (SwapGate 0 want a b) (inner want a b) near) in
    All-append IsNear _ _ first (All-append IsNear _ _ second (All-append IsNear _ _ first (All-nil IsNear)))

-- ---- all gates

block : (aux : Aux) (lines extra : ℕ) (g : Shape) → IsRouted g → All IsNear (block_of aux lines extra g)
block aux lines extra (Flip care want t) routed =
    All-append IsNear _ _ (stays aux lines extra care want t routed.0 routed.1) (All-nil IsNear)
block aux lines extra (SwapGate care want a b) routed =
    let count_none : care ≡ 0 = routed.0 in
    let near : IsNear (SwapGate 0 want a b) = subst (λ c. IsNear (SwapGate c want a b)) count_none routed.1 in
    subst (λ c. All IsNear (block_of aux lines extra (SwapGate c want a b))) (sym count_none)
    (swapped aux lines extra want a b near)
block aux lines extra (Peres a b c) routed = absurd routed

pub decomposed-near : (aux : Aux) (lines extra : ℕ) (gates : List Shape) → All IsRouted gates
    → All IsNear (decomposition_of aux lines extra gates)
decomposed-near aux lines extra [] routed = All-nil IsNear
decomposed-near aux lines extra (g ∷ gates) routed =
    All-append IsNear _ _ (block aux lines extra g (All-head IsRouted g gates routed))
    (decomposed-near aux lines extra gates (All-tail IsRouted g gates routed))
