-- Keys by the numbers at their places.
use Rattle.std.proofs.Common.{◌≡◌, ℕ, zero, suc, ◌+◌, ◌-◌, ◌*◌, ◌/◌, ◌%◌, ◌^◌, ◌<◌, ◌≤◌, List, [], ◌∷◌, length, map, get_or, sym, ◌∙◌, ap, subst, arith, pow-add}
use Rattle.std.specs.List.{range_with_len}
use Rattle.std.proofs.lemmas.List.{length-map}
use Rattle.std.proofs.lemmas.List.Elements.{All-head, All-tail, All-map}
use Rattle.std.proofs.lemmas.List.FromFn.{get_or-map-range_with_len, length-range_with_len}
use Rattle.rv_gate.specs.Gate.{run_on_number}
use Rattle.rv_optimal.specs.inside.Packed.{packed, at, composed}
use Rattle.rv_optimal.specs.inside.Levels.{IsWhole}
use Rattle.rv_optimal.proofs.inside.Packing.{IsSmall, AreSmall, at-is, at-packed, low, high, fits_more}
use Rattle.rv_optimal.proofs.inside.Running.{key_none, run_are_small}

pub at-small : (key place : ℕ) → at key place < 16
at-small key place = omega (arith, at-is key place)

pub at-composed : (count outer inner place : ℕ) → place < count → at (composed count outer inner) place ≡ at outer (at inner place)
unfolding at composed
at-composed zero outer inner place lt = absurd (omega (arith, lt))
at-composed (suc count) outer inner zero lt = low (at outer (inner % 16)) (composed count outer (inner / 16)) (at-small outer (inner % 16))
at-composed (suc count) outer inner (suc place) lt =
    ap (λ k. at k place) (high (at outer (inner % 16)) (composed count outer (inner / 16)) (at-small outer (inner % 16)))
    ∙ at-composed count outer (inner / 16) place (omega (arith, lt))

pub composed-small : (count outer inner : ℕ) → composed count outer inner < 2 ^ (4 * count)
unfolding composed
composed-small zero outer inner = omega arith
composed-small (suc count) outer inner =
    let e : count ≡ suc count - 1 = omega arith in
    fits_more (suc count) (at outer (inner % 16)) (composed count outer (inner / 16)) (omega arith) (at-small outer (inner % 16))
    (subst (λ k. composed count outer (inner / 16) < 2 ^ (4 * k)) e (composed-small count outer (inner / 16)))

pub packed-small : (xs : List ℕ) → AreSmall xs → packed xs < 2 ^ (4 * length xs)
unfolding packed
packed-small [] small = omega arith
packed-small (x ∷ xs) small =
    let e : length xs ≡ suc (length xs) - 1 = omega arith in
    fits_more (suc (length xs)) x (packed xs) (omega arith) (All-head IsSmall x xs small)
    (subst (λ k. packed xs < 2 ^ (4 * k)) e (packed-small xs (All-tail IsSmall x xs small)))

-- keys with the same numbers at all places are the same
pub same_key : (count a b : ℕ) → a < 2 ^ (4 * count) → b < 2 ^ (4 * count) → ((place : ℕ) → place < count → at a place ≡ at b place) → a ≡ b
unfolding at
same_key zero a b less_a less_b same = omega (arith, less_a, less_b)
same_key (suc count) a b less_a less_b same =
    let e : 4 * count + 4 ≡ 4 * suc count = omega arith in
    let whole : 2 ^ (4 * suc count) ≡ 2 ^ (4 * count) * 16 = ap (λ k. 2 ^ k) (sym e) ∙ pow-add 2 (4 * count) 4 in
    let first : a % 16 ≡ b % 16 = same 0 (omega arith) in
    let rest : a / 16 ≡ b / 16 =
    same_key count (a / 16) (b / 16) (omega (arith, less_a, whole)) (omega (arith, less_b, whole)) (λ place lt. same (suc place) (omega (arith, lt))) in
    omega (arith, first, rest)

pub composed-assoc : (a b c : ℕ) → composed 16 (composed 16 a b) c ≡ composed 16 a (composed 16 b c)
composed-assoc a b c =
    same_key 16 _ _ (composed-small 16 (composed 16 a b) c) (composed-small 16 a (composed 16 b c)) (λ place lt.
    at-composed 16 (composed 16 a b) c place lt
    ∙ at-composed 16 a b (at c place) (at-small c place)
    ∙ sym (at-composed 16 a (composed 16 b c) place lt ∙ ap (at a) (at-composed 16 b c place lt)))

pub whole_below : (n key : ℕ) → n ≡ 4 → IsWhole n key → key < 2 ^ 64
whole_below n key four w =
    let few : n ≤ 4 = omega (arith, four) in
    let made : List ℕ = map (run_on_number w.gates n) w.numbers in
    let len : length made ≡ 16 = length-map w.numbers (run_on_number w.gates n) ∙ w.all ∙ ap (λ k. 2 ^ k) four in
    let small : packed made < 2 ^ (4 * length made) = packed-small made (run_are_small w.gates n w.numbers few) in
    let least : packed made < 2 ^ (4 * 16) = subst (λ k. packed made < 2 ^ (4 * k)) len small in
    subst (λ k. k < 2 ^ 64) (sym w.is) least

whole_four : (key : ℕ) → key < 2 ^ 64 → IsWhole 4 key
whole_four key less =
    let range : List ℕ = range_with_len 0 16 in
    let numbers : List ℕ = map (at key) range in
    let len : length numbers ≡ 16 = length-map range (at key) ∙ length-range_with_len 0 16 in
    let small : AreSmall numbers = All-map IsSmall (at key) range (λ k d l. at-small key (get_or range k d)) in
    let below : packed numbers < 2 ^ (4 * 16) = subst (λ k. packed numbers < 2 ^ (4 * k)) len (packed-small numbers small) in
    let same : packed numbers ≡ key =
    same_key 16 (packed numbers) key below less (λ place lt.
    at-packed numbers place small ∙ get_or-map-range_with_len (at key) 0 16 place place 0 lt (zero_plus place)) in
    record {
      numbers = numbers;
      gates = [];
      all = len;
      is = sym (key_none 4 numbers small ∙ same);
    }
  where
    zero_plus : (y : ℕ) → 0 + y ≡ y
    zero_plus y = omega arith

-- all keys of four lines are whole
pub whole_any : (n key : ℕ) → n ≡ 4 → key < 2 ^ 64 → IsWhole n key
whole_any n key four less = subst (λ k. IsWhole k key) (sym four) (whole_four key less)
