-- What a flip of the images makes of a permutation.
use Rattle.std.proofs.Common.{◌≡◌, ℕ, ◌^◌, ◌<◌, List, length, map, get_or, sym, ◌∙◌, ap, arith}
use Rattle.std.proofs.lemmas.List.{length-map, get_or-map}
use Rattle.rv_gate.specs.Gate.{act_on_number, FitsIn, IsGate, IsFlip}
use Rattle.rv_gate.proofs.inside.GateLemmas.{act_on_number-lt, act_on_number-twice}
use Rattle.rv_gate.specs.declared.gate.Shape.{Shape}
use Rattle.rv_perm.specs.Perm.{IsPerm}

-- a flip of the images leaves a permutation
pub perm_moved : (g : Shape) (n : ℕ) (images : List ℕ) → IsFlip g → IsGate g → FitsIn g n → IsPerm n images → IsPerm n (map (act_on_number g n) images)
perm_moved g n images f v fits p =
    let len : length (map (act_on_number g n) images) ≡ length images = length-map images (act_on_number g n) in (
      p.0,
      p.1,
      len ∙ p.2,
      (
        λ x h.
            let within : x < length images = omega arith in
            let e : get_or (map (act_on_number g n) images) x 0 ≡ act_on_number g n (get_or images x 0) = get_or-map (act_on_number g n) images x 0 0 within in
            let lt = act_on_number-lt g n (get_or images x 0) in
            omega (arith, p.2),
        λ x y l h e.
            let y_in : y < length images = omega arith in
            let x_in : x < length images = omega arith in
            let ex : get_or (map (act_on_number g n) images) x 0 ≡ act_on_number g n (get_or images x 0) = get_or-map (act_on_number g n) images x 0 0 x_in in
            let ey : get_or (map (act_on_number g n) images) y 0 ≡ act_on_number g n (get_or images y 0) = get_or-map (act_on_number g n) images y 0 0 y_in in
            let bx : get_or images x 0 < 2 ^ n = rw (← p.2) (p.3.0 x x_in) in
            let by : get_or images y 0 < 2 ^ n = rw (← p.2) (p.3.0 y y_in) in
            p.3.1 x y l y_in
            (sym (act_on_number-twice g n (get_or images x 0) f v fits bx)
            ∙ ap (act_on_number g n) (sym ex ∙ e ∙ ey)
            ∙ act_on_number-twice g n (get_or images y 0) f v fits by),
      ),
    )
