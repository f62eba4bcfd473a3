-- What stands on the lines at the beginning and at the end.
use Rattle.std.proofs.Common.{◌≡◌, ℕ, zero, suc, ◌+◌, ◌-◌, ◌<◌, ◌≤◌, Bool, false, cond, List, [], ◌∷◌, ◌++◌, length, replicate, get_or, refl, sym, ◌∙◌, ap, inl, inr, arith, append_assoc, length-append, ext_get_or}
use Rattle.std.specs.Prelude.{Option, Some, None, nat_lt, slice_get}
use Rattle.std.specs.Option.{option_map}
use Rattle.std.proofs.lemmas.Bool.{cases_lt, lt-ltb, le-ltb}
use Rattle.std.proofs.lemmas.List.{length-replicate, length-map, get_or-map, get_or-replicate, get_or_append_left, get_or-append_right}
use Rattle.std.proofs.lemmas.Option.{slice_get-get_or, slice_get_past}
use Rattle.rv_gate.specs.Word.{bit_of}
use Rattle.rv_gate.specs.Gate.{run, xor}
use Rattle.rv_gate.specs.declared.gate.Shape.{Shape}
use Rattle.rv_gate.proofs.Bits.{xor_false, false_xor}
use Rattle.rv_gate.proofs.inside.GateLemmas.{length-run}
use Rattle.rv_blif.specs.Logic.{Logic, Output, values, outputs_of}
use Rattle.rv_forms.specs.Followed.{xor_each}
use Rattle.rv_forms.specs.Computing.{Computes}
use Rattle.rv_compute.specs.inside.Held.{held_value, held_at, put_in, line_count, Stands, IsDone, due}
use Rattle.rv_compute.proofs.inside.Signals.{input_bit}
use Rattle.rv_compute.proofs.inside.Standing.{base_free, length-put_in}

-- ---- the beginning

-- the inputs on the first lines, and nothing on the others
abbrev pub first_at : ℕ → ℕ → Option ℕ
first_at inputs line = cond (nat_lt line inputs) (Some line) None

pub record HaveFirst (inputs count : ℕ) (held : List (Option ℕ)) : Type 0 where
  pub count_is : length held ≡ count
  pub each : (line : ℕ) → line < count → held_at held line ≡ first_at inputs line

pub first_none : (inputs : ℕ) → HaveFirst inputs 0 []
first_none inputs = record { count_is = refl; each = λ line lt. absurd (omega arith) }

pub first_more : (inputs count : ℕ) (held : List (Option ℕ)) (next : Option ℕ) → HaveFirst inputs count held
    → next ≡ first_at inputs count → HaveFirst inputs (count + 1) (held ++ next ∷ [])
first_more inputs count held next so_far is = record {
  count_is = length-append held (next ∷ []) ∙ (let e = so_far.count_is in omega arith);
  each = λ line lt.
      elim (cases_lt line count) [
        | inl below ↦
            (get_or_append_left held (next ∷ []) None line (let e = so_far.count_is in omega arith)
            ∙ so_far.each line below)
        | inr le ↦
            (let same : line ≡ count = omega arith in
            get_or-append_right held (next ∷ []) count line None so_far.count_is le
            ∙ (let z : line - count ≡ 0 = omega arith in ap (λ k. get_or (next ∷ []) k None) z)
            ∙ is ∙ ap (first_at inputs) (sym same))
      ];
}

-- two words of one length before the same bits
same_after : (u v w : List Bool) (line : ℕ) → length u ≡ length v → length u ≤ line
    → bit_of (u ++ w) line ≡ bit_of (v ++ w) line
same_after u v w line e le =
    get_or-append_right u w (length u) line false refl le
    ∙ sym (get_or-append_right v w (length u) line false (sym e) le)

pub first_stands : (logic : Logic) (extra : ℕ) (held : List (Option ℕ)) (count : ℕ)
    → line_count logic extra ≤ count → HaveFirst (length logic.inputs) count held → count ≤ line_count logic extra
    → Stands logic extra held []
first_stands logic extra held count le first ge = record {
  count = (let e = first.count_is in omega arith);
  each = λ x y line lx ly lt.
      let zeros : List Bool = replicate (length x) false in
      let lz = length-replicate (length x) false in
      let n = length logic.inputs in
      let h = ap (held_value (values logic x)) (first.each line (omega arith)) in
      elim (cases_lt line n) [
        | inl input ↦
            (get_or_append_left (x ++ y) (replicate extra false) false line (omega (arith, length-append x y))
            ∙ get_or_append_left x y false line (omega arith)
            ∙ sym (input_bit logic x line (omega arith))
            ∙ sym (false_xor (bit_of (values logic x) line))
            ∙ ap (λ b. xor b (bit_of (values logic x) line)) (sym (base_free logic extra x y line lx ly lt (inl input)))
            ∙ ap (λ (t : Bool). xor (bit_of (put_in extra zeros y) line) (held_value (values logic x) (cond t (Some line) None)))
            (sym (lt-ltb line n input))
            ∙ ap (xor (bit_of (put_in extra zeros y) line)) (sym h))
        | inr other ↦
            (ap (λ (w : List Bool). bit_of w line) (append_assoc x y (replicate extra false))
            ∙ same_after x zeros (y ++ replicate extra false) line (sym lz) (omega arith)
            ∙ ap (λ (w : List Bool). bit_of w line) (sym (append_assoc zeros y (replicate extra false)))
            ∙ sym (xor_false (bit_of (put_in extra zeros y) line))
            ∙ ap (λ (t : Bool). xor (bit_of (put_in extra zeros y) line) (held_value (values logic x) (cond t (Some line) None)))
            (sym (le-ltb line n other))
            ∙ ap (xor (bit_of (put_in extra zeros y) line)) (sym h))
      ];
}

-- ---- the end

pub length-xor_each : (y outs : List Bool) → length (xor_each y outs) ≡ length y
unfolding xor_each
length-xor_each [] outs = refl
length-xor_each (b ∷ y) [] = refl
length-xor_each (b ∷ y) (c ∷ outs) = ap suc (length-xor_each y outs)

pub bit_of-xor_each : (y outs : List Bool) (i : ℕ) → length y ≡ length outs → i < length y
    → bit_of (xor_each y outs) i ≡ xor (bit_of y i) (bit_of outs i)
unfolding xor_each
bit_of-xor_each [] outs i e lt = absurd (omega arith)
bit_of-xor_each (b ∷ y) [] i e lt = absurd (omega arith)
bit_of-xor_each (b ∷ y) (c ∷ outs) zero e lt = refl
bit_of-xor_each (b ∷ y) (c ∷ outs) (suc i) e lt = bit_of-xor_each y outs i (omega arith) (omega arith)

pub length-outputs_of : (logic : Logic) (x : List Bool) → length (outputs_of logic x) ≡ length logic.outputs
unfolding outputs_of
length-outputs_of logic x = length-map logic.outputs (λ output. bit_of (values logic x) output.signal)

abbrev pub ended : Logic → ℕ → List Bool → List Bool → List Bool
ended logic extra x y = (x ++ xor_each y (outputs_of logic x)) ++ replicate extra false

end_bit : (logic : Logic) (extra : ℕ) (x y : List Bool) (line : ℕ) → length x ≡ length logic.inputs
    → length y ≡ length logic.outputs → line < line_count logic extra
    → xor (bit_of (put_in extra (replicate (length x) false) y) line) (held_value (values logic x) (due logic line))
    ≡ bit_of (ended logic extra x y) line
unfolding outputs_of
end_bit logic extra x y line lx ly lt =
    let n = length logic.inputs in
    let o = length logic.outputs in
    let zeros : List Bool = replicate (length x) false in
    let lz = length-replicate (length x) false in
    let outs : List Bool = outputs_of logic x in
    let changed : List Bool = xor_each y outs in
    let lc = length-xor_each y outs in
    let rest : List Bool = replicate extra false in
    let base : Bool = bit_of (put_in extra zeros y) line in
    let v : List Bool = values logic x in
    let f : Output → Bool = λ output. bit_of v output.signal in
    let at : Option ℕ = option_map (λ (output : Output). output.signal) (slice_get logic.outputs (line - n)) in
    elim (cases_lt line n) [
      | inl input ↦
          (ap (λ (t : Bool). xor base (held_value v (cond t (Some line) at))) (lt-ltb line n input)
          ∙ ap (λ b. xor b (bit_of v line)) (base_free logic extra x y line lx ly lt (inl input))
          ∙ false_xor (bit_of v line)
          ∙ input_bit logic x line (omega arith)
          ∙ sym (get_or_append_left (x ++ changed) rest false line (omega (arith, length-append x changed))
          ∙ get_or_append_left x changed false line (omega arith)))
      | inr later ↦
          (ap (λ (t : Bool). xor base (held_value v (cond t (Some line) at))) (le-ltb line n later)
          ∙ (elim (cases_lt line (n + o)) [
            | inl output ↦
                (let j = line - n in
                let d : Output = record { name = []; signal = 0 } in
                let here : j < o = omega arith in
                ap (λ (s : Option Output). xor base (held_value v (option_map (λ (t : Output). t.signal) s)))
                (slice_get-get_or logic.outputs j d here)
                ∙ ap (λ b. xor b (f (get_or logic.outputs j d)))
                (get_or_append_left (zeros ++ y) rest false line (omega (arith, length-append zeros y))
                ∙ get_or-append_right zeros y n line false (lz ∙ lx) later)
                ∙ ap (xor (bit_of y j)) (sym (get_or-map f logic.outputs j d false here))
                ∙ sym (bit_of-xor_each y outs j (ly ∙ sym (length-outputs_of logic x)) (omega arith))
                ∙ sym (get_or_append_left (x ++ changed) rest false line (omega (arith, length-append x changed))
                ∙ get_or-append_right x changed n line false lx later))
            | inr work ↦
                (ap (λ (s : Option Output). xor base (held_value v (option_map (λ (t : Output). t.signal) s)))
                (slice_get_past logic.outputs (line - n) (omega arith))
                ∙ ap (λ b. xor b false) (base_free logic extra x y line lx ly lt (inr work))
                ∙ sym (get_or-append_right (x ++ changed) rest (n + o) line false
                (length-append x changed ∙ (omega arith)) work
                ∙ get_or-replicate extra (line - (n + o)) false false (omega arith)))
          ]))
    ]

pub ends : (logic : Logic) (extra : ℕ) (held : List (Option ℕ)) (gates : List Shape) → Stands logic extra held gates
    → IsDone logic held → (x y : List Bool) → length x ≡ length logic.inputs → length y ≡ length logic.outputs
    → run gates (put_in extra x y) ≡ ended logic extra x y
ends logic extra held gates stands done x y lx ly =
    let lr = length-run gates (put_in extra x y) ∙ length-put_in extra x y in
    let lc = length-xor_each y (outputs_of logic x) in
    let le : length (ended logic extra x y) ≡ length x + length y + extra =
    omega (
      arith,
      length-append (x ++ xor_each y (outputs_of logic x)) (replicate extra false),
      length-append x (xor_each y (outputs_of logic x)),
      length-replicate extra false,
    ) in
    ext_get_or false _ _ (lr ∙ sym le)
    (λ line lt.
    let within : line < line_count logic extra = omega arith in
    stands.each x y line lx ly within
    ∙ ap (λ h. xor (bit_of (put_in extra (replicate (length x) false) y) line) (held_value (values logic x) h))
    (done line (let e = stands.count in omega arith))
    ∙ end_bit logic extra x y line lx ly within)

pub ends_computing : (logic : Logic) (extra : ℕ) (held : List (Option ℕ)) (gates : List Shape)
    → Stands logic extra held gates → IsDone logic held → Computes logic extra gates
ends_computing logic extra held gates stands done = record { adds = ends logic extra held gates stands done }
