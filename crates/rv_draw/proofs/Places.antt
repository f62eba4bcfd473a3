-- The places of a symbol in a column, and the set of them.
use Rattle.std.proofs.Common.{◌≡◌, ℕ, zero, suc, ◌+◌, ◌<◌, ◌≤◌, Bool, true, false, ◌||◌, List, [], ◌∷◌, length, map}
use Rattle.std.proofs.Common.{nat_eq, refl, sym, ap, ◌∙◌, inl, inr, arith, eq-eqb, ne_eqb}
use Rattle.std.specs.List.{range_with_len}
use Rattle.std.proofs.lemmas.Bool.{cases_eq}
use Rattle.std.proofs.lemmas.List.FromFn.{length-map-range_with_len, get_or-map-range_with_len}
use Rattle.rv_gate.specs.Word.{has, ones_of}
use Rattle.rv_gate.proofs.inside.Ones.{ones_of-is}
use Rattle.rv_draw.specs.declared.symbol.Symbol.{Symbol}
use Rattle.rv_draw.specs.Reading.{places, lines_with, is_right, are_right}
use Rattle.rv_draw.specs.Symbols.{is_between}
use Rattle.std.proofs.lemmas.Bool.{and_from}
use Rattle.rv_gate.proofs.Lists.{map_map}

-- no line from `start` on has the symbol
pub places_none : (p : Symbol → Bool) (f : ℕ → Symbol) (start n : ℕ) → ((i : ℕ) → start ≤ i → p (f i) ≡ false) → places p start (map f (range_with_len start n)) ≡ []
places_none p f start zero none = refl
places_none p f start (suc n) none =
    rw (none start (omega arith)) (places_none p f (start + 1) n (λ i le. none i (omega (arith, le))))

-- one line has it
pub places_one : (p : Symbol → Bool) (f : ℕ → Symbol) (line start n : ℕ) → ((i : ℕ) → p (f i) ≡ nat_eq i line) → start ≤ line → line < start + n
    → places p start (map f (range_with_len start n)) ≡ line ∷ []
places_one p f line start zero one le lt = absurd (omega (arith, le, lt))
places_one p f line start (suc n) one le lt =
    elim (cases_eq start line) [
      | inl same ↦
          rw (one start ∙ eq-eqb start line same, places_none p f (start + 1) n (λ i more. one i ∙ ne_eqb i line (λ e. omega (arith, e, more, same))))
          (ap (λ k. k ∷ []) same)
      | inr other ↦
          rw (one start ∙ ne_eqb start line other) (places_one p f line (start + 1) n one (omega (arith, le, other)) (omega (arith, lt)))
    ]

-- two lines have it
pub places_two : (p : Symbol → Bool) (f : ℕ → Symbol) (a b start n : ℕ) → ((i : ℕ) → p (f i) ≡ (nat_eq i a || nat_eq i b)) → start ≤ a → a < b → b < start + n
    → places p start (map f (range_with_len start n)) ≡ a ∷ b ∷ []
places_two p f a b start zero two le less lt = absurd (omega (arith, le, less, lt))
places_two p f a b start (suc n) two le less lt =
    elim (cases_eq start a) [
      | inl same ↦
          (let here : p (f start) ≡ true = two start ∙ ap (λ t. t || nat_eq start b) (eq-eqb start a same) in
          let rest : places p (start + 1) (map f (range_with_len (start + 1) n)) ≡ b ∷ [] =
          places_one_past p f a b (start + 1) n two (omega (arith, same)) (omega (arith, same, less)) (omega (arith, lt)) in
          rw (here, rest) (ap (λ k. k ∷ b ∷ []) same))
      | inr other ↦
          (let here : p (f start) ≡ false = two start ∙ ap (λ t. t || nat_eq start b) (ne_eqb start a other) ∙ ne_eqb start b (λ e. omega (arith, e, le, less)) in
          rw here (places_two p f a b (start + 1) n two (omega (arith, le, other)) less (omega (arith, lt))))
    ]
  where
    places_one_past : (p : Symbol → Bool) (f : ℕ → Symbol) (a b start n : ℕ) → ((i : ℕ) → p (f i) ≡ (nat_eq i a || nat_eq i b)) → a < start → start ≤ b → b < start + n
        → places p start (map f (range_with_len start n)) ≡ b ∷ []
    places_one_past p f a b start zero two past le lt = absurd (omega (arith, le, lt))
    places_one_past p f a b start (suc n) two past le lt =
        elim (cases_eq start b) [
          | inl same ↦
              (let here : p (f start) ≡ true = two start ∙ ap (λ t. t || nat_eq start b) (ne_eqb start a (λ e. omega (arith, e, past))) ∙ eq-eqb start b same in
              rw (here, places_none p f (start + 1) n (λ i more. two i ∙ ap (λ t. t || nat_eq i b) (ne_eqb i a (λ e. omega (arith, e, past, more))) ∙ ne_eqb i b (λ e. omega (arith, e, more, same))))
              (ap (λ k. k ∷ []) same))
          | inr other ↦
              (let here : p (f start) ≡ false = two start ∙ ap (λ t. t || nat_eq start b) (ne_eqb start a (λ e. omega (arith, e, past))) ∙ ne_eqb start b other in
              rw here (places_one_past p f a b (start + 1) n two (omega (arith, past)) (omega (arith, le, other)) (omega (arith, lt))))
        ]

-- the lines of a set of lines below n are those that have the symbol
pub lines_with_back : (p : Symbol → Bool) (f : ℕ → Symbol) (set n : ℕ) → ((i : ℕ) → p (f i) ≡ has set i) → ((i : ℕ) → n ≤ i → has set i ≡ false)
    → lines_with p (map f (range_with_len 0 n)) ≡ set
lines_with_back p f set n same above =
    let bits : List Bool = map (λ i. p (f i)) (range_with_len 0 n) in
    let count : length bits ≡ n = length-map-range_with_len (λ i. p (f i)) 0 n in
    ap ones_of (map_map p f (range_with_len 0 n))
    ∙ sym (ones_of-is set bits (λ line lt. sym (same line) ∙ sym (get_or-map-range_with_len (λ i. p (f i)) 0 n line line false (omega (arith, lt, count)) (omega arith))) (λ line le. above line (omega (arith, le, count))))

-- each line that isn't touched is crossed exactly if it is passed
pub all_right : (set : ℕ) (f : ℕ → Symbol) (start n : ℕ) → ((i : ℕ) → is_right (is_between set i) (f i) ≡ true) → are_right set start (map f (range_with_len start n)) ≡ true
all_right set f start zero each = refl
all_right set f start (suc n) each = and_from _ _ (each start) (all_right set f (start + 1) n each)
