-- Toffoli and Fredkin gates do what their blocks do, twice: a block has two H.
use Rattle.std.proofs.Common.{◌≡◌, ◌≢◌, ℕ, zero, suc, ◌+◌, ◌*◌, ◌<◌, Bool, ◌&&◌, List, [], ◌∷◌, ◌++◌, All, map, length, take, get_or, refl, sym, ap, ◌∙◌, arith, append_assoc, append-nil, length-append, subst}
use Rattle.std.specs.Prelude.{count_by, if◌then◌else◌}
use Rattle.std.proofs.lemmas.List.{take_more}
use Rattle.std.proofs.lemmas.List.Sums.{sum_by-append}
use Rattle.std.proofs.lemmas.List.Elements.{All-append, All-cons, All-head, All-nil, All-tail}
use Rattle.rv_gate.specs.Gate.{xor}
use Rattle.rv_net.specs.Amplitude.{amplitude, count_h}
use Rattle.rv_net.specs.Cyclotomic.{Cyclotomic, doubled, plus, times_w_power}
use Rattle.rv_net.specs.Network.{toffoli}
use Rattle.rv_net.specs.Op.{OpFitsIn, goes_to, has_three_lines}
use Rattle.rv_net.specs.declared.op.Op.{Op}
use Rattle.rv_net.specs.declared.op.Op.TheVariants.{X, Y, Z, H, S, Sdg, T, Tdg, Cx, Cz, Ccx, Swap, Cswap}
use Rattle.rv_net.proofs.Cyclotomic.{doubled-more}
use Rattle.rv_net.proofs.Matrix.{step-sum}
use Rattle.rv_net.proofs.Step.{Word, delta, same_amp, step}
use Rattle.rv_net.proofs.Frame.{through, through-append, step-local, relabel, AllWithin}
use Rattle.rv_net.proofs.inside.Network.{amp-through, count_h-append}
use Rattle.rv_net.proofs.Toffoli.{on_lines, on_three}
use Rattle.rv_reduce.specs.Blocks.{block_of, in_blocks}

-- ---- gates one after another

pub in_blocks_none : in_blocks [] ≡ []
unfolding in_blocks
in_blocks_none = refl

in_blocks_append : (a b : List Op) → in_blocks (a ++ b) ≡ in_blocks a ++ in_blocks b
unfolding in_blocks
in_blocks_append [] b = refl
in_blocks_append (op ∷ a) b = ap (λ l. block_of op ++ l) (in_blocks_append a b) ∙ sym (append_assoc (block_of op) (in_blocks a) (in_blocks b))

in_blocks_one : (op : Op) → in_blocks (op ∷ []) ≡ block_of op
unfolding in_blocks
in_blocks_one op = append-nil (block_of op)

pub in_blocks_more : (ops : List Op) (k : ℕ) (d : Op) → k < length ops → in_blocks (take (k + 1) ops) ≡ in_blocks (take k ops) ++ block_of (get_or ops k d)
in_blocks_more ops k d h =
    ap in_blocks (take_more ops k d h) ∙ in_blocks_append (take k ops) (get_or ops k d ∷ []) ∙ ap (λ l. in_blocks (take k ops) ++ l) (in_blocks_one (get_or ops k d))

-- ---- on three lines

exchanged : List Op
unfolding toffoli
exchanged = Cx 2 1 ∷ (toffoli 0 1 2 ++ Cx 2 1 ∷ [])

toffoli_on_three : (k : Word → Cyclotomic) (a b c : Bool) → through (toffoli 0 1 2) k (a ∷ b ∷ c ∷ []) ≡ doubled 1 (through (Ccx 0 1 2 ∷ []) k (a ∷ b ∷ c ∷ []))
unfolding through times_w_power doubled
toffoli_on_three k a b c = on_three k a b c

after_exchange : (a b c : Bool) → goes_to (Cx 2 1) (a ∷ xor c b ∷ xor (a && xor c b) c ∷ []) ≡ goes_to (Cswap 0 1 2) (a ∷ b ∷ c ∷ [])
after_exchange a b c = grind arith

exchange_on_three : (k : Word → Cyclotomic) (a b c : Bool) → through exchanged k (a ∷ b ∷ c ∷ []) ≡ doubled 1 (through (Cswap 0 1 2 ∷ []) k (a ∷ b ∷ c ∷ []))
unfolding through times_w_power doubled exchanged
exchange_on_three k a b c =
    through-append (toffoli 0 1 2) (Cx 2 1 ∷ []) k (a ∷ xor c b ∷ c ∷ [])
    ∙ on_three (λ v. through (Cx 2 1 ∷ []) k v) a (xor c b) c
    ∙ ap (λ v. plus (k v) (k v)) (after_exchange a b c)

pub length_more : (ops : List Op) (k : ℕ) (d : Op) → k < length ops → length (in_blocks (take (k + 1) ops)) ≡ length (in_blocks (take k ops)) + length (block_of (get_or ops k d))
length_more ops k d h = ap length (in_blocks_more ops k d h) ∙ length-append (in_blocks (take k ops)) (block_of (get_or ops k d))

pub length-toffoli : (a b c : ℕ) → length (toffoli a b c) ≡ 15
unfolding toffoli
length-toffoli a b c = refl

pub length-exchange : (c a b : ℕ) → length (block_of (Cswap c a b)) ≡ 17
unfolding toffoli
length-exchange c a b = refl

-- ---- on any lines

within_toffoli : AllWithin 3 (toffoli 0 1 2)
unfolding toffoli
within_toffoli = omega arith

within_exchanged : AllWithin 3 exchanged
unfolding toffoli exchanged
within_exchanged = omega arith

same_toffoli : (a b c : ℕ) → map (relabel (a ∷ b ∷ c ∷ [])) (toffoli 0 1 2) ≡ block_of (Ccx a b c)
unfolding toffoli relabel
same_toffoli a b c = refl

same_exchanged : (c a b : ℕ) → map (relabel (c ∷ a ∷ b ∷ [])) exchanged ≡ block_of (Cswap c a b)
unfolding toffoli exchanged relabel
same_exchanged c a b = refl

same_one : (op : Op) (lines : List ℕ) → map (relabel lines) (op ∷ []) ≡ relabel lines op ∷ []
same_one op lines = refl

-- a block on three lines does what an operation does, twice
module _ (block : List Op) (op : Op) (within_block : AllWithin 3 block) (within_op : AllWithin 3 (op ∷ []))
    (on_bits : (k : Word → Cyclotomic) (a b c : Bool) → through block k (a ∷ b ∷ c ∷ []) ≡ doubled 1 (through (op ∷ []) k (a ∷ b ∷ c ∷ []))) where
  pub framed : (k : Word → Cyclotomic) (x : Word) (a b c : ℕ) → a < length x → b < length x → c < length x → a ≢ b → a ≢ c → b ≢ c
      → through (map (relabel (a ∷ b ∷ c ∷ [])) block) k x ≡ doubled 1 (through (map (relabel (a ∷ b ∷ c ∷ [])) (op ∷ [])) k x)
  framed k x a b c ha hb hc ab ac bc =
      on_lines block k x a b c ha hb hc ab ac bc within_block
      ∙ on_bits _ _ _ _
      ∙ ap (doubled 1) (sym (on_lines (op ∷ []) k x a b c ha hb hc ab ac bc within_op))

-- a block does what its operation does, doubled for each Toffoli or Fredkin gate
abbrev pub fold_of : Op → ℕ
fold_of op = count_by has_three_lines (op ∷ [])

pub through-block : (k : Word → Cyclotomic) (x : Word) (op : Op) → OpFitsIn op (length x) → through (block_of op) k x ≡ doubled (fold_of op) (through (op ∷ []) k x)
unfolding relabel doubled
through-block k x (Ccx a b c) h =
    ap (λ l. through l k x) (sym (same_toffoli a b c))
    ∙ framed (toffoli 0 1 2) (Ccx 0 1 2) within_toffoli (omega arith) toffoli_on_three k x a b c h.0 h.1 h.2 h.3 h.4 h.5
through-block k x (Cswap c a b) h =
    ap (λ l. through l k x) (sym (same_exchanged c a b))
    ∙ framed exchanged (Cswap 0 1 2) within_exchanged (omega arith) exchange_on_three k x c a b h.0 h.1 h.2 h.3 h.4 h.5
through-block k x (X q) h = refl
through-block k x (Y q) h = refl
through-block k x (Z q) h = refl
through-block k x (H q) h = refl
through-block k x (S q) h = refl
through-block k x (Sdg q) h = refl
through-block k x (T q) h = refl
through-block k x (Tdg q) h = refl
through-block k x (Cx a b) h = refl
through-block k x (Cz a b) h = refl
through-block k x (Swap a b) h = refl

-- ---- each block fits

module _ (n : ℕ) where
  abbrev AllFit : List Op → Type 0
  AllFit ops = All (λ op. OpFitsIn op n) ops

  abbrev EachFits : List Op → Type 0
  EachFits [] = Unit {0}
  EachFits (op ∷ ops) = OpFitsIn op n × EachFits ops

  all_from_each : (ops : List Op) → EachFits ops → AllFit ops
  all_from_each [] each = All-nil (λ op. OpFitsIn op n)
  all_from_each (op ∷ ops) each = All-cons (λ op. OpFitsIn op n) op ops each.0 (all_from_each ops each.1)

  one_fits : (op : Op) → OpFitsIn op n → AllFit (op ∷ [])
  one_fits op h = all_from_each (op ∷ []) (h, tt)

  toffoli_fits : (a b c : ℕ) → OpFitsIn (Ccx a b c) n → AllFit (toffoli a b c)
  unfolding toffoli
  toffoli_fits a b c h =
      let ac : OpFitsIn (Cx a c) n = (h.0, h.2, h.4) in
      let bc : OpFitsIn (Cx b c) n = (h.1, h.2, h.5) in
      let ab : OpFitsIn (Cx a b) n = (h.0, h.1, h.3) in
      all_from_each (toffoli a b c) (h.2, (bc, (h.2, (ac, (h.2, (bc, (h.2, (ac, (h.1, (h.2, (h.2, (ab, (h.0, (h.1, (ab, tt)))))))))))))))

  block_fits : (op : Op) → OpFitsIn op n → AllFit (block_of op)
  block_fits (Ccx a b c) h = toffoli_fits a b c h
  block_fits (Cswap c a b) h =
      let flip : OpFitsIn (Cx b a) n = (h.2, h.1, λ e. h.5 (sym e)) in
      All-cons (λ op. OpFitsIn op n) (Cx b a) (toffoli c a b ++ Cx b a ∷ []) flip
      (All-append (λ op. OpFitsIn op n) (toffoli c a b) (Cx b a ∷ []) (toffoli_fits c a b h) (one_fits (Cx b a) flip))
  block_fits (X q) h = one_fits (X q) h
  block_fits (Y q) h = one_fits (Y q) h
  block_fits (Z q) h = one_fits (Z q) h
  block_fits (H q) h = one_fits (H q) h
  block_fits (S q) h = one_fits (S q) h
  block_fits (Sdg q) h = one_fits (Sdg q) h
  block_fits (T q) h = one_fits (T q) h
  block_fits (Tdg q) h = one_fits (Tdg q) h
  block_fits (Cx a b) h = one_fits (Cx a b) h
  block_fits (Cz a b) h = one_fits (Cz a b) h
  block_fits (Swap a b) h = one_fits (Swap a b) h

-- ---- amplitudes

-- as many Toffoli and Fredkin gates as doublings
abbrev pub gate_count : List Op → ℕ
gate_count ops = count_by has_three_lines ops

pub blocks_fit : (n : ℕ) (ops : List Op) → All (λ op. OpFitsIn op n) ops → All (λ op. OpFitsIn op n) (in_blocks ops)
unfolding in_blocks
blocks_fit n [] fit = fit
blocks_fit n (op ∷ ops) fit = All-append (λ op. OpFitsIn op n) (block_of op) (in_blocks ops) (block_fits n op (All-head (λ op. OpFitsIn op n) op ops fit)) (blocks_fit n ops (All-tail (λ op. OpFitsIn op n) op ops fit))

count_of-append : (a b : List Op) → gate_count (a ++ b) ≡ gate_count a + gate_count b
count_of-append a b = sum_by-append (λ o. if has_three_lines o then 1 else 0) a b

block_count_h : (op : Op) → count_h (block_of op) ≡ count_h (op ∷ []) + 2 * fold_of op
unfolding toffoli count_h
block_count_h op = grind arith

pub blocks_count_h : (ops : List Op) → count_h (in_blocks ops) ≡ count_h ops + 2 * gate_count ops
unfolding in_blocks count_h
blocks_count_h [] = refl
blocks_count_h (op ∷ ops) =
    omega (
      arith,
      count_h-append (block_of op) (in_blocks ops),
      count_h-append (op ∷ []) ops,
      block_count_h op,
      count_of-append (op ∷ []) ops,
      blocks_count_h ops,
    )

block_plain : (op : Op) → gate_count (block_of op) ≡ 0
unfolding toffoli
block_plain op = grind arith

-- no gate is left that stands for several
pub blocks_plain : (ops : List Op) → gate_count (in_blocks ops) ≡ 0
unfolding in_blocks
blocks_plain [] = refl
blocks_plain (op ∷ ops) = omega (arith, count_of-append (block_of op) (in_blocks ops), block_plain op, blocks_plain ops)

step_doubled : (m : ℕ) (op : Op) (f : Word → Cyclotomic) (x : Word) → step op (λ v. doubled m (f v)) x ≡ doubled m (step op f x)
unfolding doubled
step_doubled zero op f x = refl
step_doubled (suc m) op f x = step-sum op _ _ x ∙ ap (λ u. plus u u) (step_doubled m op f x)

blocks_through : (n : ℕ) (ops : List Op) (k : Word → Cyclotomic) (x : Word) → length x ≡ n → All (λ op. OpFitsIn op n) ops
    → through (in_blocks ops) k x ≡ doubled (gate_count ops) (through ops k x)
unfolding in_blocks through doubled
blocks_through n [] k x e fit = refl
blocks_through n (op ∷ ops) k x e fit =
    through-append (block_of op) (in_blocks ops) k x
    ∙ through-block (λ v. through (in_blocks ops) k v) x op (subst (λ m. OpFitsIn op m) (sym e) (All-head (λ op. OpFitsIn op n) op ops fit))
    ∙ ap (doubled (fold_of op))
    (step-local op _ _ x (λ v f. blocks_through n ops k v (f ∙ e) (All-tail (λ op. OpFitsIn op n) op ops fit)) ∙ step_doubled (gate_count ops) op (λ v. through ops k v) x)
    ∙ doubled-more (fold_of op) (gate_count ops) _
    ∙ ap (λ m. doubled m (through (op ∷ ops) k x)) (sym (count_of-append (op ∷ []) ops))

pub blocks_amplitude : (n : ℕ) (ops : List Op) (x y : Word) → length x ≡ n → All (λ op. OpFitsIn op n) ops
    → amplitude (in_blocks ops) x y ≡ doubled (gate_count ops) (amplitude ops x y)
blocks_amplitude n ops x y e fit =
    sym (same_amp (in_blocks ops) x y) ∙ amp-through (in_blocks ops) x y
    ∙ blocks_through n ops (λ v. delta v y) x e fit
    ∙ ap (doubled (gate_count ops)) (sym (amp-through ops x y) ∙ same_amp ops x y)
