-- What is found maps the circuit.
use Rattle.std.proofs.Common.{◌≡◌, ℕ, ◌+◌, ◌-◌, ◌≤◌, List, [], ◌∷◌, ◌++◌, length, refl, sym, subst, ap, ◌∙◌, arith}
use Rattle.std.proofs.Math.Nat.{le-max_left, le-max_right}
use Rattle.std.proofs.lemmas.List.Elements.{All-head, All-tail}
use Rattle.std.specs.List.{All, flat_map}
use Rattle.std.specs.Prelude.{count_by}
use Rattle.rv_gate.specs.Circuit.{Cascade, IsCascade}
use Rattle.rv_gate.specs.Every.{Every}
use Rattle.rv_gate.specs.Gate.{FitsIn, IsFlipOn, IsGate, act, run}
use Rattle.rv_gate.specs.Greatest.{greatest}
use Rattle.rv_gate.specs.declared.gate.Shape.{Shape}
use Rattle.rv_gate.proofs.Every.{every_append}
use Rattle.rv_gate.proofs.inside.GateLemmas.{run-append}
use Rattle.rv_mct.specs.Blocks.{added, flip_wish, flips_of, wish}
use Rattle.rv_mct.specs.Widened.{helper_count}
use Rattle.rv_mct.specs.declared.aux.Aux.{Aux}
use Rattle.rv_mct.proofs.inside.Gates.{flips_own}
use Rattle.rv_net.specs.Op.{Network, is_t}
use Rattle.rv_net.specs.declared.net.TheConstants.{MOST_OPS}
use Rattle.rv_net.specs.declared.op.Op.{Op}
use Rattle.rv_net.proofs.Step.{Word}
use Rattle.rv_ladder.specs.Relative.{MapsRelative}
use Rattle.rv_ladder.proofs.inside.Circuits.{Held, carries_runs, flips_are, held_run, runs_fitting}
use Rattle.rv_ladder.proofs.inside.Nets.{Runs, runs_as}
use Rattle.rv_joined.specs.Joined.{MapsJoined}
use Rattle.rv_joined.specs.declared.setup.Setup.{Setup}
use Rattle.rv_joined.specs.inside.Brings.{RunsAs}

pub flips_on : (n : ℕ) (gates : List Shape) → n ≤ 64 → All IsGate gates → All (λ g. FitsIn g n) gates
    → Every (IsFlipOn n) (flat_map flips_of gates)
flips_on n [] few is fits = tt
flips_on n (g ∷ rest) few is fits =
    every_append (IsFlipOn n) (flips_of g) (flat_map flips_of rest)
    (flips_own g n few (All-head IsGate g rest is) (All-head (λ h. FitsIn h n) g rest fits))
    (flips_on n rest few (All-tail IsGate g rest is) (All-tail (λ h. FitsIn h n) g rest fits))

greatest_append : {A : Type 0} (f : A → ℕ) (xs ys : List A) (e : ℕ) → greatest f xs ≤ e → greatest f ys ≤ e → greatest f (xs ++ ys) ≤ e
unfolding greatest
greatest_append f [] ys e a b = b
greatest_append f (x ∷ xs) ys e a b =
    let l = le-max_left (f x) (greatest f xs) in
    let r = le-max_right (f x) (greatest f xs) in
    let rest = greatest_append f xs ys e (omega arith) b in
    omega arith

pub wishes : (aux : Aux) (n e : ℕ) (gates : List Shape) → added aux n gates ≤ e → greatest (flip_wish aux n) (flat_map flips_of gates) ≤ e
unfolding greatest
wishes aux n e [] le = omega arith
wishes aux n e (g ∷ rest) le =
    let l = le-max_left (wish aux n g) (greatest (wish aux n) rest) in
    let r = le-max_right (wish aux n g) (greatest (wish aux n) rest) in
    greatest_append (flip_wish aux n) (flips_of g) (flat_map flips_of rest) e (omega arith) (wishes aux n e rest (omega arith))

run_all : (aux : Aux) (n extra : ℕ) (gates : List Shape) (x : Word) → n ≤ 64 → All IsGate gates → All (λ g. FitsIn g n) gates
    → Held aux n extra x → run (flat_map flips_of gates) x ≡ run gates x
run_all aux n extra [] x few is fits ok = refl
run_all aux n extra (g ∷ rest) x few is fits ok =
    let own = All-head IsGate g rest is in
    let fit = All-head (λ h. FitsIn h n) g rest fits in
    let same : run (flips_of g) x ≡ act g x = flips_are aux n extra g x own fit ok in
    run-append (flips_of g) (flat_map flips_of rest) x
    ∙ ap (run (flat_map flips_of rest)) same
    ∙ run_all aux n extra rest (act g x) few (All-tail IsGate g rest is) (All-tail (λ h. FitsIn h n) g rest fits)
    (subst (Held aux n extra) same (held_run aux n extra (flips_of g) x (flips_own g n few own fit) ok))

-- the lines, and those that were added
pub helpers : (aux : Aux) (c : Cascade) (net : Network) (extra : ℕ) → MapsRelative aux c net → net.lines ≡ length c.names + extra
    → extra ≡ helper_count aux c
helpers aux c net extra maps lines =
    let e : net.lines ≡ length c.names + helper_count aux c = ap (λ (m : Network). m.lines) maps.is in
    omega arith

pub maps_found : (aux : Aux) (c : Cascade) (net : Network) (s : Setup) (ops : List Op) (flips : List Shape) → IsCascade c
    → MapsRelative aux c net → s.aux ≡ aux → s.lines ≡ length c.names → net.lines ≡ s.lines + s.extra
    → flips ≡ flat_map flips_of c.gates → RunsAs s ops flips → length ops ≤ MOST_OPS
    → count_by is_t ops ≤ count_by is_t net.ops
    → MapsJoined aux c (record { lines = net.lines; ops = ops })
maps_found aux c net s ops flips given maps ea el all ef runs short fewer =
    let n : ℕ = length c.names in
    let h : s.extra ≡ helper_count aux c = helpers aux c net s.extra maps (all ∙ ap (λ k. k + s.extra) el) in
    let own : Runs (Held aux n (helper_count aux c)) ops (run flips) =
    subst (λ e. Runs (Held aux n e) ops (run flips)) h
    (subst (λ l. Runs (Held aux l s.extra) ops (run flips)) el (subst (λ (a : Aux). Runs (Held a s.lines s.extra) ops (run flips)) ea runs)) in
    let few : n + helper_count aux c ≤ 64 = (let f = maps.valid.few in omega arith) in
    let whole : Runs (Held aux n (helper_count aux c)) ops (run c.gates) =
    runs_as (Held aux n (helper_count aux c)) ops (run flips) (run c.gates) own
    (λ x ok. ap (λ f. run f x) ef ∙ run_all aux n (helper_count aux c) c.gates x (omega arith) given.valid given.fitting ok) in
    let lines : net.lines ≡ n + helper_count aux c = omega arith in
    let fitting = runs_fitting aux n (helper_count aux c) ops (run c.gates) whole in
    record {
      valid = record {
        some = maps.valid.some;
        few = maps.valid.few;
        bounded = short;
        fitting = rw lines fitting;
      };
      lines = lines;
      turned = (let t = maps.turned in omega arith);
      carries = carries_runs aux n (helper_count aux c) c.gates ops (omega arith) given.valid given.fitting whole;
    }

-- the network by each gate's own ladder serves, too
pub maps_each : (aux : Aux) (c : Cascade) (net : Network) → MapsRelative aux c net → MapsJoined aux c net
maps_each aux c net maps = record {
  valid = maps.valid;
  lines = ap (λ (m : Network). m.lines) maps.is;
  turned = (let t = maps.turned in omega arith);
  carries = maps.carries;
}

pub maps_at : (aux : Aux) (c : Cascade) (net : Network) (lines all : ℕ) (ops : List Op) (flips : List Shape) → IsCascade c
    → MapsRelative aux c net → lines ≡ length c.names → all ≡ net.lines → lines ≤ all → flips ≡ flat_map flips_of c.gates
    → RunsAs (record { aux = aux; lines = lines; extra = all - lines }) ops flips → length ops ≤ MOST_OPS
    → count_by is_t ops ≤ count_by is_t net.ops
    → MapsJoined aux c (record { lines = all; ops = ops })
maps_at aux c net lines all ops flips given maps el ea le ef runs short fewer =
    subst (λ (l : ℕ). MapsJoined aux c (record { lines = l; ops = ops })) (sym ea)
    (maps_found aux c net (record { aux = aux; lines = lines; extra = all - lines }) ops flips given maps refl el
    (let e : net.lines ≡ lines + (all - lines) = omega arith in e) ef runs short fewer)
