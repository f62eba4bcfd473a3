use Rattle.std.proofs.Common.{◌≡◌, get_or, Option, None, Some, sym, ap, ◌∙◌, subst}
use Rattle.std.specs.Option.{SomeIff}
use Rattle.rv_gate.specs.Gate.{IsGate}
use Rattle.rv_gate.specs.declared.gate.Shape.{Shape}
use Rattle.rv_gate.specs.declared.gate.Shape.TheVariants.{Flip, Swap, Peres}
use Rattle.rv_route.specs.Placement.{gate_on}
use Rattle.rv_gate.proofs.inside.GateLemmas.{fits_flip, fits_flip_care, fits_swap_care, fits_swap_a, fits_swap_b, fits_peres_a, fits_peres_b, fits_peres_c}
use Rattle.rv_route.proofs.inside.Running.{IsGate-gate_on}
use Rattle.rv_route.proofs.places.placed_on.Goals as goal

pub positions_of-requires-clause-within : goal.positions_of-requires-clause-within
positions_of-requires-clause-within c = fits_flip_care _ _ _ _ _ (sym c.in-Flip.ensures.value) c.requires.fits

pub positions_of-requires-in-Flip-clause-within : goal.positions_of-requires-in-Flip-clause-within
positions_of-requires-in-Flip-clause-within c =
    let g : IsGate (Flip c.in-Flip.care c.in-Flip.want c.in-Flip.target) = subst IsGate (sym c.in-Flip.ensures.value) c.in-Flip.ensures.valid in
    λ line on. fits_flip_care _ _ _ _ _ (sym c.in-Flip.ensures.value) c.requires.fits line (g.2 line on)

pub bounds-places-target : goal.bounds-places-target
bounds-places-target c = fits_flip _ _ _ _ _ (sym c.in-Flip.ensures.value) c.requires.fits

pub positions_of-requires-in-Swap-clause-within : goal.positions_of-requires-in-Swap-clause-within
positions_of-requires-in-Swap-clause-within c = fits_swap_care _ _ _ _ _ _ (sym c.in-Swap.ensures.value) c.requires.fits

pub positions_of-requires-in-Swap-2-clause-within : goal.positions_of-requires-in-Swap-2-clause-within
positions_of-requires-in-Swap-2-clause-within c =
    let g : IsGate (Swap c.in-Swap.care c.in-Swap.want c.in-Swap.a c.in-Swap.b) = subst IsGate (sym c.in-Swap.ensures.value) c.in-Swap.ensures.valid in
    λ line on. fits_swap_care _ _ _ _ _ _ (sym c.in-Swap.ensures.value) c.requires.fits line (g.5 line on)

pub bounds-places-a : goal.bounds-places-a
bounds-places-a c = fits_swap_a _ _ _ _ _ _ (sym c.in-Swap.ensures.value) c.requires.fits

pub bounds-places-b : goal.bounds-places-b
bounds-places-b c = fits_swap_b _ _ _ _ _ _ (sym c.in-Swap.ensures.value) c.requires.fits

pub bounds-places-a-in-Peres : goal.bounds-places-a-in-Peres
bounds-places-a-in-Peres c = fits_peres_a _ _ _ _ _ (sym c.in-Peres.ensures.value) c.requires.fits

pub bounds-places-b-in-Peres : goal.bounds-places-b-in-Peres
bounds-places-b-in-Peres c = fits_peres_b _ _ _ _ _ (sym c.in-Peres.ensures.value) c.requires.fits

pub bounds-places-c : goal.bounds-places-c
bounds-places-c c = fits_peres_c _ _ _ _ _ (sym c.in-Peres.ensures.value) c.requires.fits

-- a gate that is made of the shape of a valid one
is_made : (o : Option Shape) (v placed : Shape) → SomeIff o (IsGate v) v → placed ≡ v → IsGate placed → o ≡ Some placed
is_made None v placed h e valid = absurd (h (subst IsGate e valid))
is_made (Some x) v placed h e valid = cc

pub returns-in-Flip : goal.returns-in-Flip
returns-in-Flip c = λ row s.
    (let e : gate_on row c.args.gate ≡ Flip c.positions_of.result c.positions_of-in-Flip.result (get_or c.args.places.now c.in-Flip.target 0) =
    ap (gate_on row) (sym c.in-Flip.ensures.value) ∙ (let x = c.positions_of.ensures row s in let y = c.positions_of-in-Flip.ensures row s in let z = s.at c.in-Flip.target (fits_flip _ _ _ _ _ (sym c.in-Flip.ensures.value) c.requires.fits) in cc) in
    is_made _ _ _ c.flip.ensures e (IsGate-gate_on _ row s.placement c.args.gate c.requires.few c.requires.fits c.shape.ensures.valid))

pub returns-in-Swap : goal.returns-in-Swap
returns-in-Swap c = λ row s.
    (let e : gate_on row c.args.gate ≡ Swap c.positions_of-in-Swap.result c.positions_of-in-Swap-2.result (get_or c.args.places.now c.in-Swap.a 0) (get_or c.args.places.now c.in-Swap.b 0) =
    ap (gate_on row) (sym c.in-Swap.ensures.value) ∙ (let x = c.positions_of-in-Swap.ensures row s in let y = c.positions_of-in-Swap-2.ensures row s in let z = s.at c.in-Swap.a (fits_swap_a _ _ _ _ _ _ (sym c.in-Swap.ensures.value) c.requires.fits) in let u = s.at c.in-Swap.b (fits_swap_b _ _ _ _ _ _ (sym c.in-Swap.ensures.value) c.requires.fits) in cc) in
    is_made _ _ _ c.swap.ensures e (IsGate-gate_on _ row s.placement c.args.gate c.requires.few c.requires.fits c.shape.ensures.valid))

pub returns-in-Peres : goal.returns-in-Peres
returns-in-Peres c = λ row s.
    (let e : gate_on row c.args.gate ≡ Peres (get_or c.args.places.now c.in-Peres.a 0) (get_or c.args.places.now c.in-Peres.b 0) (get_or c.args.places.now c.in-Peres.c 0) =
    ap (gate_on row) (sym c.in-Peres.ensures.value) ∙ (let x = s.at c.in-Peres.a (fits_peres_a _ _ _ _ _ (sym c.in-Peres.ensures.value) c.requires.fits) in let y = s.at c.in-Peres.b (fits_peres_b _ _ _ _ _ (sym c.in-Peres.ensures.value) c.requires.fits) in let z = s.at c.in-Peres.c (fits_peres_c _ _ _ _ _ (sym c.in-Peres.ensures.value) c.requires.fits) in cc) in
    is_made _ _ _ c.peres.ensures e (IsGate-gate_on _ row s.placement c.args.gate c.requires.few c.requires.fits c.shape.ensures.valid))
