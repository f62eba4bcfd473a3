-- The column that an operation of a network draws shows the operation.
use Rattle.std.proofs.Common.{◌≡◌, ◌≢◌, ℕ, zero, suc, ◌+◌, ◌-◌, ◌^◌, ◌<◌, ◌≤◌, Bool, true, false, cond, ◌||◌, List, []}
use Rattle.std.proofs.Common.{◌∷◌, map, nat_eq, nat_lt, refl, sym, ap, ◌∙◌, inl, inr, arith, ne_eqb, eq-eqb}
use Rattle.std.specs.Prelude.{All, Some, bit_or}
use Rattle.std.specs.List.{range_with_len}
use Rattle.std.proofs.lemmas.Bool.{cases_Bool, cases_eq, cases_lt, le-ltb, lt-ltb}
use Rattle.std.proofs.lemmas.List.Elements.{All-cons, All-head, All-nil, All-tail}
use Rattle.rv_gate.specs.Word.{has}
use Rattle.rv_gate.proofs.LineSets.{has-line, has-none, has-or}
use Rattle.rv_net.specs.Op.{OpFitsIn}
use Rattle.rv_net.specs.declared.op.Op.{Op}
use Rattle.rv_net.specs.declared.op.Op.TheVariants.{X, Y, Z, H, S, Sdg, T, Tdg, Cx, Cz, Ccx, Swap, Cswap}
use Rattle.rv_draw.specs.declared.symbol.Symbol.{Symbol}
use Rattle.rv_draw.specs.declared.symbol.Symbol.TheVariants as symbols
use Rattle.rv_draw.specs.Networks.{marks_from, op_from_top, op_of, op_of_marks}
use Rattle.rv_draw.specs.Reading.{are_right, is_right, is_touched, lines_with, places}
use Rattle.rv_draw.specs.Symbols.{is_between, line_set, op_symbol_on, pair_on}
use Rattle.rv_draw.proofs.Places.{all_right, lines_with_back, places_none, places_one, places_two}
use Rattle.rv_draw.proofs.SymbolKinds.{right_kind, touched_kind}
use Rattle.rv_draw.proofs.inside.ReadBack.{AreRead}
use Rattle.rv_gate.proofs.Bits.{or_same, or_comm}

-- ---- the marks of a column

marks_are : (f : ℕ → Symbol) (start n : ℕ)
    → marks_from start (map f (range_with_len start n)) ≡ map (λ line. (line, f line)) (places is_touched start (map f (range_with_len start n)))
marks_are f start zero = refl
marks_are f start (suc n) =
    elim (cases_Bool (is_touched (f start))) [
      | inl on ↦ rw on (ap (λ marks. (start, f start) ∷ marks) (marks_are f (start + 1) n))
      | inr off ↦ rw off (marks_are f (start + 1) n)
    ]

-- the symbols touch the lines of a set, and `┼` stands on those that it passes
record Touches (f : ℕ → Symbol) (set n : ℕ) : Type 0 where
  drawn : (i : ℕ) → is_touched (f i) ≡ has set i
  right : (i : ℕ) → is_right (is_between set i) (f i) ≡ true
  above : (i : ℕ) → n ≤ i → has set i ≡ false

shown_marks : (f : ℕ → Symbol) (set n : ℕ) → Touches f set n
    → op_of (map f (range_with_len 0 n)) ≡ op_of_marks (map (λ line. (line, f line)) (places is_touched 0 (map f (range_with_len 0 n))))
shown_marks f set n is =
    let column : List Symbol = map f (range_with_len 0 n) in
    let right : are_right (lines_with is_touched column) 0 column ≡ true =
    ap (λ (lines : ℕ). are_right lines 0 column) (lines_with_back is_touched f set n is.drawn is.above) ∙ all_right set f 0 n is.right in
    rw right (ap op_of_marks (marks_are f 0 n))

-- ---- one, two and three lines

one_shown : (f : ℕ → Symbol) (set q n : ℕ) (own : Symbol) → Touches f set n → ((i : ℕ) → has set i ≡ nat_eq i q) → q < n → f q ≡ own
    → op_of (map f (range_with_len 0 n)) ≡ op_of_marks ((q, own) ∷ [])
one_shown f set q n own is one lt here =
    shown_marks f set n is
    ∙ ap (λ (lines : List ℕ). op_of_marks (map (λ line. (line, f line)) lines)) (places_one is_touched f q 0 n (λ i. is.drawn i ∙ one i) (omega arith) (omega (arith, lt)))
    ∙ ap (λ (s : Symbol). op_of_marks ((q, s) ∷ [])) here

two_sorted : (f : ℕ → Symbol) (set a b n : ℕ) (x y : Symbol) → Touches f set n → ((i : ℕ) → has set i ≡ (nat_eq i a || nat_eq i b)) → a < b → b < n → f a ≡ x → f b ≡ y
    → op_of (map f (range_with_len 0 n)) ≡ op_of_marks ((a, x) ∷ (b, y) ∷ [])
two_sorted f set a b n x y is two less lt at_a at_b =
    shown_marks f set n is
    ∙ ap (λ (lines : List ℕ). op_of_marks (map (λ line. (line, f line)) lines)) (places_two is_touched f a b 0 n (λ i. is.drawn i ∙ two i) (omega arith) less (omega (arith, lt)))
    ∙ ap (λ (s : Symbol). op_of_marks ((a, s) ∷ (b, f b) ∷ [])) at_a
    ∙ ap (λ (s : Symbol). op_of_marks ((a, x) ∷ (b, s) ∷ [])) at_b

two_shown : (f : ℕ → Symbol) (set a b n : ℕ) (x y : Symbol) → Touches f set n → ((i : ℕ) → has set i ≡ (nat_eq i a || nat_eq i b)) → a ≢ b → a < n → b < n → f a ≡ x → f b ≡ y
    → op_of (map f (range_with_len 0 n)) ≡ cond (nat_lt a b) (op_of_marks ((a, x) ∷ (b, y) ∷ [])) (op_of_marks ((b, y) ∷ (a, x) ∷ []))
two_shown f set a b n x y is two apart lt_a lt_b at_a at_b =
    elim (cases_lt a b) [
      | inl less ↦ rw (lt-ltb a b less) (two_sorted f set a b n x y is two less lt_b at_a at_b)
      | inr ge ↦
          (let more : b < a = omega (arith, apart) in
          rw (le-ltb a b ge) (two_sorted f set b a n y x is (λ i. two i ∙ or_comm (nat_eq i a) (nat_eq i b)) more lt_a at_b at_a))
    ]

-- up to the first line that has the symbol
places_first : (p : Symbol → Bool) (f : ℕ → Symbol) (a m start n : ℕ) → start ≤ a → start + n ≡ a + 1 + m → ((i : ℕ) → start ≤ i → i < a → p (f i) ≡ false) → p (f a) ≡ true
    → places p start (map f (range_with_len start n)) ≡ a ∷ places p (a + 1) (map f (range_with_len (a + 1) m))
places_first p f a m start zero le sum off on = absurd (omega (arith, le, sum))
places_first p f a m start (suc n) le sum off on =
    elim (cases_eq start a) [
      | inl same ↦
          (let rest : n ≡ m = omega (arith, sum, same) in
          let here : p (f start) ≡ true = ap (λ (k : ℕ). p (f k)) same ∙ on in
          rw here (
          ap (λ (k : ℕ). k ∷ places p (k + 1) (map f (range_with_len (k + 1) n))) same ∙ ap (λ (k : ℕ). a ∷ places p (a + 1) (map f (range_with_len (a + 1) k))) rest
          ))
      | inr other ↦
          (let here : p (f start) ≡ false = off start (omega arith) (omega (arith, le, other)) in
          rw here (places_first p f a m (start + 1) n (omega (arith, le, other)) (omega (arith, sum)) (λ i more lt. off i (omega (arith, more)) lt) on))
    ]

places_three : (p : Symbol → Bool) (f : ℕ → Symbol) (a b c n : ℕ) → ((i : ℕ) → p (f i) ≡ (nat_eq i a || (nat_eq i b || nat_eq i c))) → a < b → b < c → c < n
    → places p 0 (map f (range_with_len 0 n)) ≡ a ∷ b ∷ c ∷ []
places_three p f a b c n three ab bc cn =
    let off : (i : ℕ) → i ≢ a → i ≢ b → i ≢ c → p (f i) ≡ false =
    λ i na nb nc. three i ∙ rw (ne_eqb i a na, ne_eqb i b nb, ne_eqb i c nc) refl in
    let at_a : p (f a) ≡ true = three a ∙ rw (eq-eqb a a refl) refl in
    let at_b : p (f b) ≡ true = three b ∙ rw (ne_eqb b a (λ e. omega (arith, e, ab)), eq-eqb b b refl) refl in
    let at_c : p (f c) ≡ true = three c ∙ rw (ne_eqb c a (λ e. omega (arith, e, ab, bc)), ne_eqb c b (λ e. omega (arith, e, bc)), eq-eqb c c refl) refl in
    let third : ℕ = n - (c + 1) in
    let second : ℕ = n - (b + 1) in
    let first : ℕ = n - (a + 1) in
    places_first p f a first 0 n (omega arith) (omega (arith, ab, bc, cn)) (λ i le lt. off i (λ e. omega (arith, e, lt)) (λ e. omega (arith, e, lt, ab)) (λ e. omega (arith, e, lt, ab, bc))) at_a
    ∙ ap (λ (ls : List ℕ). a ∷ ls) (
    places_first p f b second (a + 1) first (omega (arith, ab)) (omega (arith, ab, bc, cn)) (λ i le lt. off i (λ e. omega (arith, e, le)) (λ e. omega (arith, e, lt)) (λ e. omega (arith, e, lt, bc))) at_b
    ∙ ap (λ (ls : List ℕ). b ∷ ls) (
    places_first p f c third (b + 1) second (omega (arith, bc)) (omega (arith, bc, cn)) (λ i le lt. off i (λ e. omega (arith, e, le, ab)) (λ e. omega (arith, e, le)) (λ e. omega (arith, e, lt))) at_c
    ∙ ap (λ (ls : List ℕ). c ∷ ls) (places_none p f (c + 1) third (λ i le. off i (λ e. omega (arith, e, le, ab, bc)) (λ e. omega (arith, e, le, bc)) (λ e. omega (arith, e, le))))
    )
    )

three_sorted : (f : ℕ → Symbol) (set a b c n : ℕ) (x y z : Symbol) → Touches f set n → ((i : ℕ) → has set i ≡ (nat_eq i a || (nat_eq i b || nat_eq i c))) → a < b → b < c → c < n
    → f a ≡ x → f b ≡ y → f c ≡ z → op_of (map f (range_with_len 0 n)) ≡ op_of_marks ((a, x) ∷ (b, y) ∷ (c, z) ∷ [])
three_sorted f set a b c n x y z is three ab bc cn at_a at_b at_c =
    shown_marks f set n is
    ∙ ap (λ (lines : List ℕ). op_of_marks (map (λ line. (line, f line)) lines)) (places_three is_touched f a b c n (λ i. is.drawn i ∙ three i) ab bc cn)
    ∙ rw (at_a, at_b, at_c) refl

bools_first : (x y z : Bool) → (z || (x || y)) ≡ (x || (z || y))
bools_first true true true = refl
bools_first true true false = refl
bools_first true false true = refl
bools_first true false false = refl
bools_first false true true = refl
bools_first false true false = refl
bools_first false false true = refl
bools_first false false false = refl

bools_last : (x y z : Bool) → (z || (x || y)) ≡ (x || (y || z))
bools_last x y z = bools_first x y z ∙ ap (λ t. x || t) (or_comm z y)

-- two lines with one symbol, the first above the second, and one line with another symbol
pair_sorted : (f : ℕ → Symbol) (set a b c n : ℕ) (s t : Symbol) (op : Op) → Touches f set n → ((i : ℕ) → has set i ≡ (nat_eq i c || (nat_eq i a || nat_eq i b)))
    → a < b → c ≢ a → c ≢ b → b < n → c < n → f a ≡ s → f b ≡ s → f c ≡ t
    → op_of_marks ((c, t) ∷ (a, s) ∷ (b, s) ∷ []) ≡ Some op → op_of_marks ((a, s) ∷ (c, t) ∷ (b, s) ∷ []) ≡ Some op → op_of_marks ((a, s) ∷ (b, s) ∷ (c, t) ∷ []) ≡ Some op
    → op_of (map f (range_with_len 0 n)) ≡ Some op
pair_sorted f set a b c n s t op is three ab ca cb bn cn at_a at_b at_c first middle last =
    elim (cases_lt c a) [
      | inl less ↦ three_sorted f set c a b n t s s is three less ab bn at_c at_a at_b ∙ first
      | inr ge ↦
          (let ac : a < c = omega (arith, ge, ca) in
          elim (cases_lt c b) [
            | inl less ↦
                three_sorted f set a c b n s t s is (λ i. three i ∙ bools_first (nat_eq i a) (nat_eq i b) (nat_eq i c)) ac less bn at_a at_c at_b ∙ middle
            | inr more ↦
                three_sorted f set a b c n s s t is (λ i. three i ∙ bools_last (nat_eq i a) (nat_eq i b) (nat_eq i c)) ab (omega (arith, more, cb)) cn at_a at_b at_c ∙ last
          ])
    ]

-- ---- what operations draw

abbrev pair_set : ℕ → ℕ → ℕ → ℕ
pair_set a b care = bit_or care (bit_or (line_set a) (line_set b))

line_set-is : (a : ℕ) → a < 64 → line_set a ≡ 2 ^ a
line_set-is a lt = rw (lt-ltb a 64 lt) refl

has-line_set : (a i : ℕ) → a < 64 → has (line_set a) i ≡ nat_eq i a
has-line_set a i lt = ap (λ (set : ℕ). has set i) (line_set-is a lt) ∙ has-line a i

has-pair : (a b care i : ℕ) → a < 64 → b < 64 → has (pair_set a b care) i ≡ (has care i || (nat_eq i a || nat_eq i b))
has-pair a b care i lt_a lt_b =
    has-or care (bit_or (line_set a) (line_set b)) i
    ∙ ap (λ (t : Bool). has care i || t) (has-or (line_set a) (line_set b) i ∙ ap (λ (t : Bool). t || has (line_set b) i) (has-line_set a i lt_a) ∙ ap (λ (t : Bool). nat_eq i a || t) (has-line_set b i lt_b))

pair_touches : (own : Symbol) (a b care n : ℕ) → is_touched own ≡ true → ((passed : Bool) → is_right passed own ≡ true) → a < 64 → b < 64
    → ((i : ℕ) → n ≤ i → has (pair_set a b care) i ≡ false) → Touches (pair_on own a b care) (pair_set a b care) n
pair_touches own a b care n o r lt_a lt_b above =
    record {
      drawn = λ i. touched_kind own o (nat_eq i a || nat_eq i b) (has care i) (has care i) (is_between (pair_set a b care) i) ∙ sym (has-pair a b care i lt_a lt_b);
      right = λ i. right_kind own r (nat_eq i a || nat_eq i b) (has care i) (has care i) (is_between (pair_set a b care) i);
      above = above;
    }

own_first : (own : Symbol) (a b care : ℕ) → pair_on own a b care a ≡ own
own_first own a b care = rw (eq-eqb a a refl) refl

own_second : (own : Symbol) (a b care : ℕ) → pair_on own a b care b ≡ own
own_second own a b care = elim (cases_Bool (nat_eq b a)) [ inl same ↦ rw same refl | inr other ↦ rw (other, eq-eqb b b refl) refl ]

positive_at : (own : Symbol) (a b care c : ℕ) → c ≢ a → c ≢ b → has care c ≡ true → pair_on own a b care c ≡ symbols.Positive
positive_at own a b care c ca cb on = rw (ne_eqb c a ca, ne_eqb c b cb, on) refl

ne_from_lt : (n i q : ℕ) → q < n → n ≤ i → nat_eq i q ≡ false
ne_from_lt n i q lt le = ne_eqb i q (λ e. omega (arith, e, lt, le))

single_back : (own : Symbol) (q n : ℕ) → is_touched own ≡ true → ((passed : Bool) → is_right passed own ≡ true) → n ≤ 64 → q < n
    → op_of (map (pair_on own q q 0) (range_with_len 0 n)) ≡ op_of_marks ((q, own) ∷ [])
single_back own q n o r few lt =
    let below : q < 64 = omega (arith, few, lt) in
    let one : (i : ℕ) → has (pair_set q q 0) i ≡ nat_eq i q =
    λ i. has-pair q q 0 i below below ∙ ap (λ (t : Bool). t || (nat_eq i q || nat_eq i q)) (has-none i) ∙ or_same (nat_eq i q) in
    one_shown (pair_on own q q 0) (pair_set q q 0) q n own (pair_touches own q q 0 n o r below below (λ i le. one i ∙ ne_from_lt n i q lt le)) one lt (own_first own q q 0)

-- two lines without controls
double_back : (own : Symbol) (a b n : ℕ) → is_touched own ≡ true → ((passed : Bool) → is_right passed own ≡ true) → n ≤ 64 → a < n → b < n → a ≢ b
    → op_of (map (pair_on own a b 0) (range_with_len 0 n)) ≡ cond (nat_lt a b) (op_of_marks ((a, own) ∷ (b, own) ∷ [])) (op_of_marks ((b, own) ∷ (a, own) ∷ []))
double_back own a b n o r few lt_a lt_b apart =
    let two : (i : ℕ) → has (pair_set a b 0) i ≡ (nat_eq i a || nat_eq i b) =
    λ i. has-pair a b 0 i (omega (arith, few, lt_a)) (omega (arith, few, lt_b)) ∙ ap (λ (t : Bool). t || (nat_eq i a || nat_eq i b)) (has-none i) in
    two_shown (pair_on own a b 0) (pair_set a b 0) a b n own own
    (pair_touches own a b 0 n o r (omega (arith, few, lt_a)) (omega (arith, few, lt_b)) (λ i le. two i ∙ rw (ne_from_lt n i a lt_a le, ne_from_lt n i b lt_b le) refl))
    two apart lt_a lt_b (own_first own a b 0) (own_second own a b 0)

cond_same : {X : Type 0} (t : Bool) (x : X) → cond t x x ≡ x
cond_same true x = refl
cond_same false x = refl

cond_some : {X : Type 0} (t : Bool) (x y : X) → cond t (Some x) (Some y) ≡ Some (cond t x y)
cond_some true x y = refl
cond_some false x y = refl

cx_back : (a b n : ℕ) → n ≤ 64 → a < n → b < n → a ≢ b → op_of (map (pair_on symbols.Target b b (line_set a)) (range_with_len 0 n)) ≡ Some (Cx a b)
cx_back a b n few lt_a lt_b apart =
    let set : ℕ = pair_set b b (line_set a) in
    let below_a : a < 64 = omega (arith, few, lt_a) in
    let below_b : b < 64 = omega (arith, few, lt_b) in
    let two : (i : ℕ) → has set i ≡ (nat_eq i a || nat_eq i b) =
    λ i. has-pair b b (line_set a) i below_b below_b
    ∙ ap (λ (t : Bool). t || (nat_eq i b || nat_eq i b)) (has-line_set a i below_a) ∙ ap (λ (t : Bool). nat_eq i a || t) (or_same (nat_eq i b)) in
    two_shown (pair_on symbols.Target b b (line_set a)) set a b n symbols.Positive symbols.Target
    (pair_touches symbols.Target b b (line_set a) n refl (λ p. refl) below_b below_b (λ i le. two i ∙ rw (ne_from_lt n i a lt_a le, ne_from_lt n i b lt_b le) refl))
    two apart lt_a lt_b (positive_at symbols.Target b b (line_set a) a apart apart (has-line_set a a below_a ∙ eq-eqb a a refl)) (own_first symbols.Target b b (line_set a))
    ∙ cond_same (nat_lt a b) (Some (Cx a b))

-- two controls and a target
ccx_back : (a b c n : ℕ) → n ≤ 64 → a < n → b < n → c < n → a ≢ b → a ≢ c → b ≢ c
    → op_of (map (pair_on symbols.Target c c (bit_or (line_set a) (line_set b))) (range_with_len 0 n)) ≡ Some (op_from_top (Ccx a b c))
ccx_back a b c n few lt_a lt_b lt_c ab ac bc =
    let care : ℕ = bit_or (line_set a) (line_set b) in
    let f : ℕ → Symbol = pair_on symbols.Target c c care in
    let set : ℕ = pair_set c c care in
    let below_a : a < 64 = omega (arith, few, lt_a) in
    let below_b : b < 64 = omega (arith, few, lt_b) in
    let below_c : c < 64 = omega (arith, few, lt_c) in
    let cares : (i : ℕ) → has care i ≡ (nat_eq i a || nat_eq i b) =
    λ i. has-or (line_set a) (line_set b) i ∙ ap (λ (t : Bool). t || has (line_set b) i) (has-line_set a i below_a) ∙ ap (λ (t : Bool). nat_eq i a || t) (has-line_set b i below_b) in
    let three : (i : ℕ) → has set i ≡ (nat_eq i c || (nat_eq i a || nat_eq i b)) =
    λ i. has-pair c c care i below_c below_c ∙ ap (λ (t : Bool). t || (nat_eq i c || nat_eq i c)) (cares i) ∙ ap (λ (t : Bool). (nat_eq i a || nat_eq i b) || t) (or_same (nat_eq i c))
    ∙ or_comm (nat_eq i a || nat_eq i b) (nat_eq i c) in
    let touches : Touches f set n =
    pair_touches symbols.Target c c care n refl (λ p. refl) below_c below_c (λ i le. three i ∙ rw (ne_from_lt n i a lt_a le, ne_from_lt n i b lt_b le, ne_from_lt n i c lt_c le) refl) in
    let at_a : f a ≡ symbols.Positive = positive_at symbols.Target c c care a ac ac (cares a ∙ rw (eq-eqb a a refl) refl) in
    let at_b : f b ≡ symbols.Positive = positive_at symbols.Target c c care b bc bc (cares b ∙ rw (ne_eqb b a (λ e. ab (sym e)), eq-eqb b b refl) refl) in
    let at_c : f c ≡ symbols.Target = own_first symbols.Target c c care in
    elim (cases_lt a b) [
      | inl less ↦
          rw (lt-ltb a b less) (pair_sorted f set a b c n symbols.Positive symbols.Target (Ccx a b c) touches three less (λ e. ac (sym e)) (λ e. bc (sym e)) lt_b lt_c at_a at_b at_c refl refl refl)
      | inr ge ↦
          (let more : b < a = omega (arith, ge, ab) in
          rw (le-ltb a b ge) (
          pair_sorted f set b a c n symbols.Positive symbols.Target (Ccx b a c) touches (λ i. three i ∙ ap (λ (t : Bool). nat_eq i c || t) (or_comm (nat_eq i a) (nat_eq i b))) more
          (λ e. bc (sym e)) (λ e. ac (sym e)) lt_a lt_c at_b at_a at_c refl refl refl
          ))
    ]

-- two lines that are exchanged under a control
cswap_back : (c a b n : ℕ) → n ≤ 64 → c < n → a < n → b < n → c ≢ a → c ≢ b → a ≢ b
    → op_of (map (pair_on symbols.Exchanged a b (line_set c)) (range_with_len 0 n)) ≡ Some (op_from_top (Cswap c a b))
cswap_back c a b n few lt_c lt_a lt_b ca cb ab =
    let f : ℕ → Symbol = pair_on symbols.Exchanged a b (line_set c) in
    let set : ℕ = pair_set a b (line_set c) in
    let below_a : a < 64 = omega (arith, few, lt_a) in
    let below_b : b < 64 = omega (arith, few, lt_b) in
    let below_c : c < 64 = omega (arith, few, lt_c) in
    let three : (i : ℕ) → has set i ≡ (nat_eq i c || (nat_eq i a || nat_eq i b)) =
    λ i. has-pair a b (line_set c) i below_a below_b ∙ ap (λ (t : Bool). t || (nat_eq i a || nat_eq i b)) (has-line_set c i below_c) in
    let touches : Touches f set n =
    pair_touches symbols.Exchanged a b (line_set c) n refl (λ p. refl) below_a below_b (λ i le. three i ∙ rw (ne_from_lt n i a lt_a le, ne_from_lt n i b lt_b le, ne_from_lt n i c lt_c le) refl) in
    let at_c : f c ≡ symbols.Positive = positive_at symbols.Exchanged a b (line_set c) c ca cb (has-line_set c c below_c ∙ eq-eqb c c refl) in
    let at_a : f a ≡ symbols.Exchanged = own_first symbols.Exchanged a b (line_set c) in
    let at_b : f b ≡ symbols.Exchanged = own_second symbols.Exchanged a b (line_set c) in
    elim (cases_lt a b) [
      | inl less ↦
          rw (lt-ltb a b less) (pair_sorted f set a b c n symbols.Exchanged symbols.Positive (Cswap c a b) touches three less ca cb lt_b lt_c at_a at_b at_c refl refl refl)
      | inr ge ↦
          (let more : b < a = omega (arith, ge, ab) in
          rw (le-ltb a b ge) (
          pair_sorted f set b a c n symbols.Exchanged symbols.Positive (Cswap c b a) touches (λ i. three i ∙ ap (λ (t : Bool). nat_eq i c || t) (or_comm (nat_eq i a) (nat_eq i b))) more cb ca lt_a
          lt_c at_b at_a at_c refl refl refl
          ))
    ]

-- ---- the whole

pub op_back : (op : Op) (n : ℕ) → n ≤ 64 → OpFitsIn op n → op_of (map (op_symbol_on op) (range_with_len 0 n)) ≡ Some (op_from_top op)
op_back (X q) n few fits = single_back symbols.Target q n refl (λ p. refl) few fits
op_back (Y q) n few fits = single_back symbols.Y q n refl (λ p. refl) few fits
op_back (Z q) n few fits = single_back symbols.Z q n refl (λ p. refl) few fits
op_back (H q) n few fits = single_back symbols.H q n refl (λ p. refl) few fits
op_back (S q) n few fits = single_back symbols.S q n refl (λ p. refl) few fits
op_back (Sdg q) n few fits = single_back symbols.Sdg q n refl (λ p. refl) few fits
op_back (T q) n few fits = single_back symbols.T q n refl (λ p. refl) few fits
op_back (Tdg q) n few fits = single_back symbols.Tdg q n refl (λ p. refl) few fits
op_back (Cx a b) n few fits = cx_back a b n few fits.0 fits.1 fits.2
op_back (Cz a b) n few fits = double_back symbols.Positive a b n refl (λ p. refl) few fits.0 fits.1 fits.2 ∙ cond_some (nat_lt a b) (Cz a b) (Cz b a)
op_back (Ccx a b c) n few fits = ccx_back a b c n few fits.0 fits.1 fits.2 fits.3 fits.4 fits.5
op_back (Swap a b) n few fits = double_back symbols.Exchanged a b n refl (λ p. refl) few fits.0 fits.1 fits.2 ∙ cond_some (nat_lt a b) (Swap a b) (Swap b a)
op_back (Cswap c a b) n few fits = cswap_back c a b n few fits.0 fits.1 fits.2 fits.3 fits.4 fits.5

pub ops_read : (n : ℕ) (ops : List Op) → n ≤ 64 → All (λ op. OpFitsIn op n) ops → AreRead op_symbol_on op_of op_from_top n ops
ops_read n [] few fit = All-nil (λ op. op_of (map (op_symbol_on op) (range_with_len 0 n)) ≡ Some (op_from_top op))
ops_read n (op ∷ ops) few fit =
    All-cons (λ op. op_of (map (op_symbol_on op) (range_with_len 0 n)) ≡ Some (op_from_top op)) op ops
    (op_back op n few (All-head (λ op. OpFitsIn op n) op ops fit)) (ops_read n ops few (All-tail (λ op. OpFitsIn op n) op ops fit))
