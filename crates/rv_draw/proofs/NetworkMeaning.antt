-- The operations that a drawing shows have the amplitudes of the network's operations.
use Rattle.std.proofs.Common.{◌≡◌, ℕ, Bool, true, false, List, [], ◌∷◌, ◌&&◌, if◌then◌else◌, map, nat_lt, refl, sym, ap, ◌∙◌, inl, inr}
use Rattle.std.specs.Prelude.{All, slice_set}
use Rattle.std.proofs.lemmas.Bool.{cases_Bool}
use Rattle.std.proofs.lemmas.List.{set_comm}
use Rattle.std.proofs.lemmas.List.Elements.{All-head, All-tail}
use Rattle.rv_gate.proofs.Bits.{and_comm}
use Rattle.rv_gate.specs.Word.{bit_of}
use Rattle.rv_net.specs.Amplitude.{amplitude}
use Rattle.rv_net.specs.Cyclotomic.{Cyclotomic, times_w_power}
use Rattle.rv_net.specs.Op.{OpFitsIn, goes_to, phase_of}
use Rattle.rv_net.specs.declared.op.Op.{Op}
use Rattle.rv_net.specs.declared.op.Op.TheVariants.{Ccx, Cswap, Cz, H, Swap}
use Rattle.rv_draw.specs.Networks.{op_from_top}

module _ (ops rest : List Op) (y : List Bool) (same : (x : List Bool) → amplitude ops x y ≡ amplitude rest x y) where
  -- an operation with the same words and phases, before operations with the same amplitudes
  moved : (phase other : ℕ) (to goes : List Bool) → phase ≡ other → to ≡ goes
      → times_w_power phase (amplitude ops to y) ≡ times_w_power other (amplitude rest goes y)
  moved phase other to goes p g =
      ap (λ (n : ℕ). times_w_power n (amplitude ops to y)) p ∙ ap (λ (w : List Bool). times_w_power other (amplitude ops w y)) g
      ∙ ap (times_w_power other) (same goes)

  first : (op : Op) (n : ℕ) (x : List Bool) → OpFitsIn op n → amplitude (op_from_top op ∷ ops) x y ≡ amplitude (op ∷ rest) x y
  unfolding amplitude
  first (H q) n x fits = rw (same (slice_set x q false), same (slice_set x q true)) refl
  first (Cz a b) n x fits = elim (cases_Bool (nat_lt a b)) [
    | inl less ↦ rw less (moved _ _ x x refl refl)
    | inr more ↦ rw more (moved _ _ x x (ap (λ (both : Bool). if both then 4 else 0) (and_comm (bit_of x b) (bit_of x a))) refl)
  ]
  first (Ccx a b c) n x fits = elim (cases_Bool (nat_lt a b)) [
    | inl less ↦ rw less (moved 0 0 _ _ refl refl)
    | inr more ↦ rw (more, and_comm (bit_of x b) (bit_of x a)) (moved 0 0 _ _ refl refl)
  ]
  first (Swap a b) n x fits = elim (cases_Bool (nat_lt a b)) [
    | inl less ↦ rw less (moved 0 0 _ _ refl refl)
    | inr more ↦ rw more (moved 0 0 _ _ refl (set_comm x b a (bit_of x a) (bit_of x b) (λ e. fits.2 (sym e))))
  ]
  first (Cswap c a b) n x fits = elim (cases_Bool (nat_lt a b)) [
    | inl less ↦ rw less (moved 0 0 _ _ refl refl)
    | inr more ↦ rw more (moved 0 0 _ _ refl
        (set_comm x b a (if bit_of x c then bit_of x a else bit_of x b) (if bit_of x c then bit_of x b else bit_of x a) (λ e. fits.5 (sym e))))
  ]
  first op n x fits = moved (phase_of op x) (phase_of op x) (goes_to op x) (goes_to op x) refl refl

pub same_amplitude : (ops : List Op) (n : ℕ) (x y : List Bool) → All (λ op. OpFitsIn op n) ops
    → amplitude (map op_from_top ops) x y ≡ amplitude ops x y
same_amplitude [] n x y fit = refl
same_amplitude (op ∷ ops) n x y fit =
    let fits = λ (o : Op). OpFitsIn o n in
    first (map op_from_top ops) ops y (λ z. same_amplitude ops n z y (All-tail fits op ops fit)) op n x (All-head fits op ops fit)
