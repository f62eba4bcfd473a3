-- Cubes that differ in two inputs, by those that differ in one.
use Rattle.std.proofs.Common.{◌≡◌, ◌≢◌, ℕ, ◌+◌, Bool, true, false, not, cond, List, refl, sym, ◌∙◌, ap, arith}
use Rattle.std.specs.Prelude.{bit_xor, All}
use Rattle.std.specs.Int.Bits.{xor_assoc, xor_self, xor_zero_r}
use Rattle.rv_gate.specs.Word.{has}
use Rattle.rv_pla.specs.Cube.{Symbol, Dash, symbol}
use Rattle.rv_pla.specs.declared.cube.Cube.{Cube}
use Rattle.rv_cube.specs.Distance.{is_same, third, put, wants_one, with_symbol, with_third}
use Rattle.rv_cube.specs.Reduction.{no_cube, at}
use Rattle.rv_cube.specs.inside.Slots.{full}
use Rattle.rv_cube.specs.inside.Slotted.{turn, Gains, AsksWithin, IsAlike, IsBeside, IsTwoApart, IsTwoApartFrom, IsTwoApartBelow}
use Rattle.rv_cube.specs.inside.Moved.{moved_as, IsMovedEither}
use Rattle.rv_cube.proofs.inside.Listing.{gains_nothing, gains_then, gains_pair, from_more, below_more}
use Rattle.rv_cube.proofs.inside.Neighbours.{beside_either, third_turn}
use Rattle.rv_cube.proofs.inside.Full.{full_within}
use Rattle.std.proofs.lemmas.Bool.{false≢true}
use Rattle.std.proofs.lemmas.List.Elements.{All-get_or}
use Rattle.rv_cube.proofs.Symbols.{has_put-other, symbol_with-other}
use Rattle.std.proofs.lemmas.Grind.{common_steps}

-- ---- sets

put_by : (t : Bool) (x c k : ℕ) → bit_xor (bit_xor x c) (cond t c (bit_xor c k)) ≡ cond t x (bit_xor x k)
put_by true x c k = xor_assoc x c c ∙ ap (bit_xor x) (xor_self c) ∙ xor_zero_r x
put_by false x c k =
    xor_assoc x c (bit_xor c k) ∙ ap (bit_xor x) (sym (xor_assoc c c k) ∙ ap (λ z. bit_xor z k) (xor_self c)) ∙ refl

put_moved : (c p q : ℕ) (a b : Bool) → q ≢ p → bit_xor (bit_xor (put c p a) c) (put c q b) ≡ put (put c p a) q b
put_moved c p q a b ne = grind (arith, put_by, bit_xor, has_put-other)

-- ---- cubes

moved_symbol : (cube : Cube) (p q : ℕ) (s t : Symbol) → q ≢ p → moved_as (with_symbol cube p s) cube (with_symbol cube q t) ≡ with_symbol (with_symbol cube p s) q t
moved_symbol cube p q s t ne = grind (arith, bit_xor, wants_one, put_moved)

-- the third symbol at an input, where another was turned
abbrev turned_third : Cube → ℕ → Symbol
turned_third cube q = third (symbol cube q) (turn (symbol cube q))

-- the slots beside a cube that differs from the first one in p
beside_moved : (slots : List Cube) (cube x one other : Cube) (p q b : ℕ) (s : Symbol) → q ≢ p → x ≡ with_symbol cube p s
    → one ≡ with_symbol cube q (turn (symbol cube q)) → other ≡ with_third cube one q → IsBeside slots x q b → IsMovedEither slots x cube one other b
beside_moved slots cube x one other p q b s ne ex eo et h =
    let y : Cube = with_symbol cube p s in
    let there : symbol x q ≡ symbol cube q = ap (λ c. symbol c q) ex ∙ symbol_with-other cube p q s ne in
    let first : moved_as x cube one ≡ with_symbol x q (turn (symbol x q)) =
    ap (λ c. moved_as c cube one) ex ∙ ap (moved_as (with_symbol cube p s) cube) eo ∙ moved_symbol cube p q s (turn (symbol cube q)) ne
    ∙ ap (λ c. with_symbol c q (turn (symbol cube q))) (sym ex) ∙ ap (λ v. with_symbol x q (turn v)) (sym there) in
    let second : moved_as x cube other ≡ with_third x (moved_as x cube one) q =
    ap (λ c. moved_as c cube other) ex ∙ ap (moved_as (with_symbol cube p s) cube) (et ∙ third_turn cube one q eo) ∙ moved_symbol cube p q s (turned_third cube q) ne
    ∙ ap (λ c. with_symbol c q (turned_third cube q)) (sym ex) ∙ ap (λ v. with_symbol x q (third v (turn v))) (sym there)
    ∙ sym (third_turn x (moved_as x cube one) q first) in
    beside_either x (at slots b) (moved_as x cube one) (moved_as x cube other) q first second h.0 h.1

beside_gains : (slots : List Cube) (cube x one other : Cube) (p q : ℕ) (s : Symbol) (old new : List ℕ) → q ≢ p → x ≡ with_symbol cube p s
    → one ≡ with_symbol cube q (turn (symbol cube q)) → other ≡ with_third cube one q
    → Gains slots (IsMovedEither slots x cube one other) old new → Gains slots (IsBeside slots x q) old new
beside_gains slots cube x one other p q s old new ne ex eo et g = grind (arith, common_steps, beside_moved)

pub gains_moved : (slots : List Cube) (cube first second one other : Cube) (p q : ℕ) (old mid new : List ℕ) → q ≢ p
    → first ≡ with_symbol cube p (turn (symbol cube p)) → second ≡ with_third cube first p
    → one ≡ with_symbol cube q (turn (symbol cube q)) → other ≡ with_third cube one q
    → Gains slots (IsMovedEither slots first cube one other) old mid → Gains slots (IsMovedEither slots second cube one other) mid new
    → Gains slots (IsTwoApart slots cube p q) old new
gains_moved slots cube first second one other p q old mid new ne ef es eo et g h =
    gains_pair slots cube first second p q old mid new ef es
    (beside_gains slots cube first one other p q (turn (symbol cube p)) old mid ne ef eo et g)
    (beside_gains slots cube second one other p q (turned_third cube p) mid new ne (es ∙ third_turn cube first p ef) eo et h)

pub gains_either : (slots : List Cube) (cube from one other : Cube) (old mid new : List ℕ)
    → Gains slots (IsAlike slots (moved_as cube from one)) old mid → Gains slots (IsAlike slots (moved_as cube from other)) mid new
    → Gains slots (IsMovedEither slots cube from one other) old new
gains_either slots cube from one other old mid new g h = grind (arith, gains_then)

-- ---- inputs that no cube asks for

not_asked : (asked : ℕ) (cube : Cube) (p : ℕ) → AsksWithin asked cube → has asked p ≡ false → symbol cube p ≡ Dash
not_asked asked cube p h off = grind arith

no_difference : (s t : Symbol) → s ≡ Dash → t ≡ Dash → not (is_same s t) ≡ true → ⊥
no_difference s t es et d = false≢true (sym (ap (λ v. not (is_same v t)) es ∙ ap (λ v. not (is_same Dash v)) et) ∙ d)

slot_asks : (asked : ℕ) (slots : List Cube) (b : ℕ) → All (AsksWithin asked) slots → full slots b ≡ true → AsksWithin asked (at slots b)
slot_asks asked slots b all f = All-get_or (AsksWithin asked) slots b no_cube (full_within slots b f) all

pub skip_input : (slots : List Cube) (cube : Cube) (asked q p : ℕ) (old new : List ℕ) → AsksWithin asked cube → All (AsksWithin asked) slots → has asked p ≡ false
    → Gains slots (IsTwoApartFrom slots cube q p) old new → Gains slots (IsTwoApartFrom slots cube q (p + 1)) old new
skip_input slots cube asked q p old new own all off g =
    from_more slots cube q p old new new g
    (gains_nothing slots (IsTwoApart slots cube p q) new
    (λ b f x. no_difference (symbol cube p) (symbol (at slots b) p) (not_asked asked cube p own off) (not_asked asked (at slots b) p (slot_asks asked slots b all f) off) x.0))

pub skip_row : (slots : List Cube) (cube : Cube) (asked q : ℕ) (old new : List ℕ) → AsksWithin asked cube → All (AsksWithin asked) slots → has asked q ≡ false
    → Gains slots (IsTwoApartBelow slots cube q) old new → Gains slots (IsTwoApartBelow slots cube (q + 1)) old new
skip_row slots cube asked q old new own all off g =
    below_more slots cube q old new new g
    (gains_nothing slots (IsTwoApartFrom slots cube q q) new
    (λ b f x.
    let i : ℕ = x.0 in
    let l = x.1 in
    let ne : q ≢ x.0 = omega arith in
    let s : Symbol = symbol (at slots b) x.0 in
    no_difference (symbol (with_symbol cube x.0 (symbol (at slots b) x.0)) q) (symbol (at slots b) q)
    (symbol_with-other cube x.0 q (symbol (at slots b) x.0) ne ∙ not_asked asked cube q own off) (not_asked asked (at slots b) q (slot_asks asked slots b all f) off) x.2.1.0))
