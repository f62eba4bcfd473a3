-- A cube loses an output that is idle: the value stays right.
use Rattle.std.proofs.Common.{◌≡◌, ◌≢◌, ℕ, ◌+◌, ◌^◌, ◌<◌, ◌≤◌, Bool, true, not, ◌||◌, cond, eqb, List, length, set, refl, sym, ◌∙◌, ap, subst, inl, inr, arith, length-set, ne_eqb}
use Rattle.std.specs.Prelude.{Some, All, bit_and, bit_or, bit_xor}
use Rattle.std.specs.List.{remove}
use Rattle.std.specs.Int.{bit_at}
use Rattle.std.proofs.lemmas.Bool.{cases_Bool, cases_eq, eqb-true, and_parts, false≢true}
use Rattle.std.proofs.lemmas.Nat.{or_disjoint, pow_pos}
use Rattle.std.proofs.lemmas.Nat.Bits.{bit_at-lt, bit_at_xor, bit_at-pow_other, bit_at-zero}
use Rattle.std.proofs.lemmas.List.Edits.{length-remove}
use Rattle.std.proofs.lemmas.List.Elements.{All-set, All-get_or}
use Rattle.std.proofs.lemmas.List.Sums.{sum_by-set, sum_by-remove}
use Rattle.rv_gate.specs.Word.{has, number_of, word_of}
use Rattle.rv_gate.specs.inside.laws.WordLaws.{number_of-lt, word_of-number_of}
use Rattle.rv_pla.specs.Cube.{matches}
use Rattle.rv_pla.specs.declared.cube.Cube.{Cube}
use Rattle.rv_pla.specs.declared.entry.Entry.{Entry}
use Rattle.rv_pla.specs.Pla.{TwoLevel, entry}
use Rattle.rv_pla.specs.FreeEntries.{allows, is_dont_care}
use Rattle.rv_gate.proofs.LineSets.{has-and, has-line, has-none, has-or, has-xor, same_lines}
use Rattle.rv_gate.proofs.AllBelow.{all_below-at}
use Rattle.rv_cube.specs.Esop.{share, esop_value, IsTerm}
use Rattle.rv_gate.specs.FirstAnswer.{first}
use Rattle.rv_cube.specs.Reduction.{no_cube, at}
use Rattle.rv_cube.specs.ReductionFor.{IsRight, free_where, is_idle, output_dropped, dropped, dropping, first_drop, weight}
use Rattle.rv_cube.proofs.inside.Merges.{All-remove, cond-zero}
use Rattle.rv_cube.proofs.Outputs.{count-output_dropped}
use Rattle.rv_cube.proofs.Searches.{finds_first, finds_if}
use Rattle.rv_cube.proofs.Symbols.{matches-same}
use Rattle.rv_cube.proofs.Sums.{value-set, value-remove}

-- ---- what an idle output is

pub idle_carried : (pla : TwoLevel) (cube : Cube) (j : ℕ) → is_idle pla cube j ≡ true → has cube.outs j ≡ true
unfolding is_idle
idle_carried pla cube j h = (and_parts _ _ h).0

implied : (m f : Bool) → (not m || f) ≡ true → m ≡ true → f ≡ true
implied m f h h2 = grind arith

-- the entry is free at each word that the cube matches
pub idle_free : (pla : TwoLevel) (cube : Cube) (j : ℕ) (word : List Bool) → is_idle pla cube j ≡ true → length word ≡ pla.inputs → matches cube word ≡ true → is_dont_care (entry pla word j) ≡ true
unfolding is_idle
idle_free pla cube j word h len m =
    let lt : number_of word < 2 ^ pla.inputs = let P : ℕ → Type 0 = λ n. number_of word < 2 ^ n in subst P len (number_of-lt word) in
    let same : word_of pla.inputs (number_of word) ≡ word = ap (λ n. word_of n (number_of word)) (sym len) ∙ word_of-number_of word in
    let P : List Bool → Type 0 = λ w. (not (matches cube w) || is_dont_care (entry pla w j)) ≡ true in
    implied (matches cube word) (is_dont_care (entry pla word j)) (subst P same (all_below-at (free_where pla cube j) (2 ^ pla.inputs) (number_of word) (and_parts _ _ h).1 lt)) m

-- ---- the list after the first drop

pub record IsDrop (pla : TwoLevel) (cubes new : List Cube) : Type 0 where
  pub place : ℕ
  pub output : ℕ
  pub within : place < length cubes
  pub output_in : output < pla.outputs
  pub idle : is_idle pla (at cubes place) output ≡ true
  pub is : new ≡ dropped cubes place output

pub first_drop_is : (pla : TwoLevel) (cubes new : List Cube) → first_drop pla cubes ≡ Some new → IsDrop pla cubes new
first_drop_is pla cubes =
    finds_first (IsDrop pla cubes) (λ a. first (dropping pla cubes a) 0 pla.outputs) 0 (length cubes)
    (λ a l u. finds_first (IsDrop pla cubes) (dropping pla cubes a) 0 pla.outputs
    (λ j lj uj. finds_if (IsDrop pla cubes) (is_idle pla (at cubes a) j) (dropped cubes a j)
    (λ e. record { place = a; output = j; within = omega arith; output_in = omega arith; idle = e; is = refl })))

-- the cube goes, or stands without the output
pub data Left (cubes : List Cube) (a j : ℕ) (new : List Cube) : Type 0 where
  gone : bit_xor (at cubes a).outs (2 ^ j) ≡ 0 → new ≡ remove cubes a → Left cubes a j new
  stands : bit_xor (at cubes a).outs (2 ^ j) ≢ 0 → new ≡ set cubes a (output_dropped (at cubes a) j) → Left cubes a j new

left : (pla : TwoLevel) (cubes new : List Cube) (d : IsDrop pla cubes new) → Left cubes d.place d.output new
left pla cubes new d = grind (arith, ne_eqb)

-- ---- the value

-- at a word that the cube doesn't match, and at other outputs, nothing changes
same_bit : (m : Bool) (a j k : ℕ) → (m ≡ true → k ≢ j) → bit_at (cond {A = ℕ} m (bit_xor a (2 ^ j)) 0) k ≡ bit_at (cond {A = ℕ} m a 0) k
same_bit m a j k h = grind (arith, bit_at-pow_other, bit_at_xor, bit_at-lt)

has_same : (a b k : ℕ) → bit_at a k ≡ bit_at b k → has a k ≡ has b k
has_same a b k e = ap (λ n. eqb n 1) e

left_value : (cubes new : List Cube) (a j : ℕ) (word : List Bool) (k : ℕ) → a < length cubes → (matches (at cubes a) word ≡ true → k ≢ j) → Left cubes a j new
    → has (esop_value new word) k ≡ has (esop_value cubes word) k
left_value cubes new a j word k within h (stands some e) =
    let c : Cube = at cubes a in
    let d : Cube = output_dropped c j in
    let m : matches d word ≡ matches c word = matches-same d c word (λ i l. refl) in
    let s : bit_at (share d word) k ≡ bit_at (share c word) k = ap (λ t. bit_at (cond {A = ℕ} t (bit_xor c.outs (2 ^ j)) 0) k) m ∙ same_bit (matches c word) c.outs j k h in
    let v = value-set cubes a d word within in
    let x = bit_at_xor (bit_xor (share c word) (share d word)) (esop_value cubes word) k in
    let y = bit_at_xor (share c word) (share d word) k in
    let l = bit_at-lt (esop_value cubes word) k in
    ap (λ l. has (esop_value l word) k) e ∙ ap (λ n. has n k) v ∙ has_same _ _ k (omega arith)
left_value cubes new a j word k within h (gone none e) =
    let c : Cube = at cubes a in
    let s : bit_at (cond {A = ℕ} (matches c word) (bit_xor c.outs (2 ^ j)) 0) k ≡ bit_at (share c word) k = same_bit (matches c word) c.outs j k h in
    let z : bit_at (cond {A = ℕ} (matches c word) (bit_xor c.outs (2 ^ j)) 0) k ≡ 0 = ap (λ n. bit_at (cond {A = ℕ} (matches c word) n 0) k) none ∙ ap (λ n. bit_at n k) (cond-zero (matches c word)) ∙ bit_at-zero k in
    let v = value-remove cubes a word within in
    let x = bit_at_xor (share c word) (esop_value cubes word) k in
    let l = bit_at-lt (esop_value cubes word) k in
    ap (λ l. has (esop_value l word) k) e ∙ ap (λ n. has n k) v ∙ has_same _ _ k (omega arith)

-- a free entry allows both bits
free_allows : (e : Entry) (b : Bool) → is_dont_care e ≡ true → allows e b ≡ true
free_allows e b h = grind arith

pub drop_right : (pla : TwoLevel) (cubes new : List Cube) → IsDrop pla cubes new → IsRight pla cubes → IsRight pla new
drop_right pla cubes new d right word len k lt =
    elim (cases_Bool (matches (at cubes d.place) word)) [
      | inl on ↦
          elim (cases_eq k d.output) [
            | inl same ↦ free_allows (entry pla word k) (has (esop_value new word) k) (ap (λ n. is_dont_care (entry pla word n)) same ∙ idle_free pla (at cubes d.place) d.output word d.idle len on)
            | inr other ↦ (ap (allows (entry pla word k)) (left_value cubes new d.place d.output word k d.within (λ m. other) (left pla cubes new d)) ∙ right word len k lt)
          ]
      | inr off ↦ (ap (allows (entry pla word k)) (left_value cubes new d.place d.output word k d.within (λ m. absurd (false≢true (sym off ∙ m))) (left pla cubes new d)) ∙ right word len k lt)
    ]

-- ---- the terms

xor_one_none : (a j line : ℕ) → has a j ≡ true → has (bit_and (bit_xor a (2 ^ j)) (2 ^ j)) line ≡ has 0 line
xor_one_none a j line h = grind (arith, has-and, has-xor, has-line, has-none, eqb-true)

xor_one_all : (a j line : ℕ) → has a j ≡ true → has (bit_or (bit_xor a (2 ^ j)) (2 ^ j)) line ≡ has a line
xor_one_all a j line h = grind (arith, has-or, has-xor, has-line, eqb-true)

xor_one : (a j : ℕ) → has a j ≡ true → bit_xor a (2 ^ j) + 2 ^ j ≡ a
xor_one a j h =
    sym (or_disjoint (bit_xor a (2 ^ j)) (2 ^ j) (same_lines _ _ (λ line. xor_one_none a j line h))) ∙ same_lines _ _ (λ line. xor_one_all a j line h)

-- the set gets smaller
pub output_dropped-lt : (cube : Cube) (j : ℕ) → has cube.outs j ≡ true → bit_xor cube.outs (2 ^ j) < cube.outs
output_dropped-lt cube j h = let e = xor_one cube.outs j h in let p = pow_pos j in omega arith

left_valid : (n outputs : ℕ) (cubes new : List Cube) (a j : ℕ) → a < length cubes → has (at cubes a).outs j ≡ true → All (IsTerm n outputs) cubes → Left cubes a j new → All (IsTerm n outputs) new
left_valid n outputs cubes new a j within on all (gone none e) = rw e (All-remove (IsTerm n outputs) cubes a all)
left_valid n outputs cubes new a j within on all (stands some e) =
    let own = All-get_or (IsTerm n outputs) cubes a no_cube within all in
    let less = output_dropped-lt (at cubes a) j on in
    let cap = own.is_cube.carried in
    rw e (All-set (IsTerm n outputs) cubes a (output_dropped (at cubes a) j)
    (record {
      is_cube = record { asked = own.is_cube.asked; wanted = own.is_cube.wanted; carried = omega arith };
      some = omega arith;
    }) all)

pub drop_valid : (n outputs : ℕ) (pla : TwoLevel) (cubes new : List Cube) → IsDrop pla cubes new → All (IsTerm n outputs) cubes → All (IsTerm n outputs) new
drop_valid n outputs pla cubes new d all =
    left_valid n outputs cubes new d.place d.output d.within (idle_carried pla (at cubes d.place) d.output d.idle) all (left pla cubes new d)

-- ---- the weight

pub record Lowered (outputs : ℕ) (old new : List Cube) : Type 0 where
  pub no_longer : length new ≤ length old
  pub smaller : weight outputs new < weight outputs old

left_lowers : (o : ℕ) (cubes new : List Cube) (a j : ℕ) → a < length cubes → j < o → has (at cubes a).outs j ≡ true → Left cubes a j new → Lowered o cubes new
left_lowers o cubes new a j within lt on (gone none e) = grind (arith, length-remove, sum_by-remove)
left_lowers o cubes new a j within lt on (stands some e) = grind (arith, length-set, sum_by-set, count-output_dropped)

pub drop_lowers : (pla : TwoLevel) (cubes new : List Cube) → IsDrop pla cubes new → Lowered pla.outputs cubes new
drop_lowers pla cubes new d =
    left_lowers pla.outputs cubes new d.place d.output d.within d.output_in (idle_carried pla (at cubes d.place) d.output d.idle) (left pla cubes new d)
