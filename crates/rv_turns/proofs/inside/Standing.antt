-- What holds before each operation of a network, and that a step keeps it.
use Rattle.std.proofs.Common.{◌≡◌, ℕ, suc, ◌+◌, ◌-◌, ◌<◌, ◌≤◌, Bool, true, false, Option, None, Some, List, [], ◌∷◌, ◌++◌, cond, length, get_or, set, take, drop, replicate, refl, sym, ap, ap₂, ◌∙◌, arith, subst, inl, inr, length-set, length-append, get_or-set_same, get_or-set_other}
use Rattle.std.specs.Prelude.{◌⊎◌, All, count_by, slice_index}
use Rattle.std.proofs.lemmas.Bool.{cases_order}
use Rattle.std.proofs.lemmas.List.{append_assoc, append-nil, drop-append-le, drop-drop, drop-set-lt, drop-set-add, drop_all, get_or_append_left, get_or-drop, get_or_at, get_or_push, length-replicate, length-take-le, take_more}
use Rattle.std.proofs.lemmas.List.Sums.{sum_by-append}
use Rattle.std.proofs.lemmas.List.Elements.{All-nil, All-cons, All-get_or, All-head, All-tail, All-push, All-set}
use Rattle.rv_gate.specs.Word.{has}
use Rattle.rv_net.specs.declared.op.Op.{Op}
use Rattle.rv_net.specs.declared.op.Op.TheVariants.{X, Y, Z, H, S, Sdg, T, Tdg, Cx, Cz, Ccx, Swap, Cswap}
use Rattle.rv_net.specs.Op.{OpFitsIn, has_three_lines, is_t}
use Rattle.rv_net.specs.Amplitude.{count_h}
use Rattle.rv_net.proofs.inside.Network.{count_h-append}
use Rattle.rv_turns.specs.declared.joining.Joining.{Joining}
use Rattle.rv_turns.specs.inside.Pauli.{Pauli, IsOn, kept, passed, sign_on, stops, summed, turn}
use Rattle.rv_turns.specs.inside.Slots.{pauli_at, slots_of}
use Rattle.rv_turns.specs.inside.Standing.{Begins, Follows, Opened, Keeps, Joins, Steps}
use Rattle.rv_turns.proofs.inside.Moving.{Same, Carries, same_lists, same_then, same_after, same_before, carries_none, carries_more, carries_same, is_sign, two_ops, kept-append, kept-at, kept-hole, joins}
use Rattle.rv_net.proofs.Networks.{count_t-append}

-- ---- products stay on their lines

pub on_passed : (n : ℕ) (o : Op) (p : Pauli) → IsOn n p → IsOn n (passed o p)
on_passed n (X q) p on = record { flips = on.flips; signs = on.signs }
on_passed n (Y q) p on = record { flips = on.flips; signs = on.signs }
on_passed n (Z q) p on = record { flips = on.flips; signs = on.signs }
on_passed n (H q) p on = record { flips = length-set _ _ _ ∙ on.flips; signs = length-set _ _ _ ∙ on.signs }
on_passed n (S q) p on = record { flips = on.flips; signs = length-set _ _ _ ∙ on.signs }
on_passed n (Sdg q) p on = record { flips = on.flips; signs = length-set _ _ _ ∙ on.signs }
on_passed n (Cx a b) p on = record { flips = length-set _ _ _ ∙ on.flips; signs = length-set _ _ _ ∙ on.signs }
on_passed n (Cz a b) p on = record { flips = on.flips; signs = length-set _ _ _ ∙ length-set _ _ _ ∙ on.signs }
on_passed n (Swap a b) p on = record { flips = length-set _ _ _ ∙ length-set _ _ _ ∙ on.flips; signs = length-set _ _ _ ∙ length-set _ _ _ ∙ on.signs }
on_passed n (T q) p on = on
on_passed n (Tdg q) p on = on
on_passed n (Ccx a b c) p on = on
on_passed n (Cswap c a b) p on = on

on_sign : (n q : ℕ) → IsOn n (sign_on n q)
on_sign n q = record { flips = length-replicate n false; signs = length-set (replicate n false) q true ∙ length-replicate n false }

turn_fits : (n : ℕ) (b : Bool) (q : ℕ) → OpFitsIn (turn b q) n → q < n
turn_fits n false q h = h
turn_fits n true q h = h

fits_turn : (n : ℕ) (b : Bool) (q : ℕ) → q < n → OpFitsIn (turn b q) n
fits_turn n false q h = h
fits_turn n true q h = h

turn_line : (a b : Bool) (p q : ℕ) → turn a p ≡ turn b q → p ≡ q
turn_line a b p q h = grind arith

turn_passed : (b : Bool) (q : ℕ) (p : Pauli) → passed (turn b q) p ≡ p
turn_passed false q p = refl
turn_passed true q p = refl

turn_stops : (b c : Bool) (q : ℕ) (p : Pauli) → stops (turn b q) p ≡ stops (turn c q) p
turn_stops b c q p = grind arith

-- ---- a turn that waits

pub record Waits (n : ℕ) (made : List (Option Op)) (place : ℕ) (p : Pauli) : Type 0 where
  pub early : place < length made
  pub on : IsOn n p
  pub carried : (b : Bool) (q : ℕ) → get_or made place None ≡ Some (turn b q) → Carries n q (kept (drop (suc place) made)) p

waits_more : (n : ℕ) (made : List (Option Op)) (place : ℕ) (p : Pauli) (o : Op) → Waits n made place p → OpFitsIn o n → stops o p ≡ false → Waits n (made ++ Some o ∷ []) place (passed o p)
waits_more n made place p o w fits free = record {
  early = omega (arith, w.early, length-append made (Some o ∷ []));
  on = on_passed n o p w.on;
  carried = λ b q at.
      subst (λ l. Carries n q l (passed o p))
      (sym (ap kept (drop-append-le (suc place) made (Some o ∷ []) w.early) ∙ kept-append (drop (suc place) made) (Some o ∷ [])))
      (carries_more n q (kept (drop (suc place) made)) o p (w.carried b q (sym (get_or_append_left made (Some o ∷ []) None place w.early) ∙ at)) w.on fits free);
}

waits_new : (n : ℕ) (made : List (Option Op)) (c : Bool) (line : ℕ) → line < n → Waits n (made ++ Some (turn c line) ∷ []) (length made) (sign_on n line)
waits_new n made c line lt = record {
  early = omega (arith, length-append made (Some (turn c line) ∷ []));
  on = on_sign n line;
  carried = λ b q at.
      let e : Some (turn c line) ≡ Some (turn b q) = sym (get_or_push made (Some (turn c line)) None (length made) refl) ∙ at in
      let same : turn c line ≡ turn b q = cc in
      let is : line ≡ q = turn_line c b line q same in
      subst (λ l. Carries n q l (sign_on n line))
      (sym (ap kept (drop_all (suc (length made)) (made ++ Some (turn c line) ∷ []) (omega (arith, length-append made (Some (turn c line) ∷ []))))))
      (subst (λ r. Carries n r [] (sign_on n line)) is (carries_none n line lt));
}

-- the place of a turn that is joined, and what stands after it
module _ (n : ℕ) (made : List (Option Op)) (place : ℕ) (b c : Bool) (was line : ℕ) (at : get_or made place None ≡ Some (turn b was)) (carried : Carries n was (kept (drop (suc place) made)) (sign_on n line)) (early : place < length made) (lt : line < n) where
  abbrev pub joined : List (Option Op)
  joined = set made place None ++ summed b c line ∷ []

  pub joined_same : Same n (kept made ++ turn c line ∷ []) (kept joined)
  joined_same = joins n was line b c made place (sign_on n line) at carried (is_sign n line lt)

  -- a turn that waits after the place
  after : (i : ℕ) (p : Pauli) → place < i → Waits n made i p → stops (turn c line) p ≡ false → Waits n joined i (passed (turn c line) p)
  after i p later w free = record {
    early = omega (arith, w.early, length-append (set made place None) (summed b c line ∷ []), length-set made place None);
    on = on_passed n (turn c line) p w.on;
    carried = λ d q here.
        let ops : List Op = kept (drop (suc i) made) in
        let inside : i < length (set made place None) = subst (λ m. i < m) (sym (length-set made place None)) w.early in
        let there : get_or made i None ≡ Some (turn d q) = sym (get_or-set_other made place i None None (λ e. omega arith)) ∙ sym (get_or_append_left (set made place None) (summed b c line ∷ []) None i inside) ∙ here in
        let rest : kept (drop (suc i) joined) ≡ ops ++ kept (summed b c line ∷ []) = ap kept (drop-append-le (suc i) (set made place None) (summed b c line ∷ []) inside ∙ ap (λ l. l ++ summed b c line ∷ []) (drop-set-lt (suc i) made place None (omega arith))) ∙ kept-append (drop (suc i) made) (summed b c line ∷ []) in
        let first : Carries n q (ops ++ turn b line ∷ []) (passed (turn b line) p) = carries_more n q ops (turn b line) p (w.carried d q there) w.on (fits_turn n b line lt) (turn_stops b c line p ∙ free) in
        let one : Carries n q (ops ++ turn b line ∷ []) p = subst (λ r. Carries n q (ops ++ turn b line ∷ []) r) (turn_passed b line p) first in
        let two = carries_more n q (ops ++ turn b line ∷ []) (turn c line) p one w.on (fits_turn n c line lt) free in
        subst (λ l. Carries n q l (passed (turn c line) p)) (sym rest)
        (carries_same n q _ _ (passed (turn c line) p) two
        (same_then n _ _ _
        (same_lists n _ (ops ++ (turn b line ∷ turn c line ∷ [])) (append_assoc ops (turn b line ∷ []) (turn c line ∷ [])))
        (same_before n _ _ ops (two_ops n b c line))));
  }

  -- one that waits before the place
  sooner : (i r : ℕ) (p : Pauli) → place ≡ suc i + r → Waits n made i p → stops (turn c line) p ≡ false → Waits n joined i (passed (turn c line) p)
  sooner i r p is w free = record {
    early = omega (arith, w.early, length-append (set made place None) (summed b c line ∷ []), length-set made place None);
    on = on_passed n (turn c line) p w.on;
    carried = λ d q here.
        let mid : List (Option Op) = drop (suc i) made in
        let inside : i < length (set made place None) = subst (λ m. i < m) (sym (length-set made place None)) w.early in
        let there : get_or made i None ≡ Some (turn d q) = sym (get_or-set_other made place i None None (λ e. omega arith)) ∙ sym (get_or_append_left (set made place None) (summed b c line ∷ []) None i inside) ∙ here in
        let rest : drop (suc i) joined ≡ set mid r None ++ summed b c line ∷ [] = drop-append-le (suc i) (set made place None) (summed b c line ∷ []) inside ∙ ap (λ l. l ++ summed b c line ∷ []) (ap (λ m. drop (suc i) (set made m None)) is ∙ drop-set-add (suc i) made r None) in
        let in_mid : get_or mid r None ≡ Some (turn b was) = get_or-drop (suc i) made r None ∙ ap (λ m. get_or made m None) (sym is) ∙ at in
        let post : drop (suc r) mid ≡ drop (suc place) made = drop-drop (suc r) (suc i) made ∙ ap (λ m. drop m made) (let e : suc i + suc r ≡ suc place = omega arith in e) in
        let moved : Carries n was (kept (drop (suc r) mid)) (sign_on n line) = subst (λ l. Carries n was (kept l) (sign_on n line)) (sym post) carried in
        let one = carries_more n q (kept mid) (turn c line) p (w.carried d q there) w.on (fits_turn n c line lt) free in
        subst (λ l. Carries n q l (passed (turn c line) p)) (sym (ap kept rest))
        (carries_same n q _ _ (passed (turn c line) p) one (joins n was line b c mid r (sign_on n line) in_mid moved (is_sign n line lt)));
  }

  hole : (m : Option Op) (d : Bool) (q : ℕ) → m ≡ None → m ≡ Some (turn d q) → ⊥
  hole m d q e f = cc

  pub waits_joined : (i : ℕ) (p : Pauli) → Waits n made i p → stops (turn c line) p ≡ false → Waits n joined i (passed (turn c line) p)
  waits_joined i p w free = elim (cases_order i place) [
    | inl same ↦ (record {
      early = omega (arith, w.early, length-append (set made place None) (summed b c line ∷ []), length-set made place None);
      on = on_passed n (turn c line) p w.on;
      carried = λ d q here. absurd (hole (get_or joined place None) d q
          (get_or_append_left (set made place None) (summed b c line ∷ []) None place (subst (λ m. place < m) (sym (length-set made place None)) early) ∙ get_or-set_same made place None None early)
          (ap (λ m. get_or joined m None) (sym same) ∙ here));
    })
    | inr differ ↦ (elim differ [
      | inl before ↦ sooner i (place - suc i) p (omega arith) w free
      | inr later ↦ after i p later w free
    ])
  ]

-- ---- counts

h_turn : (b : Bool) (q : ℕ) → count_h (turn b q ∷ []) ≡ 0
unfolding count_h
h_turn false q = refl
h_turn true q = refl

h_summed : (b c : Bool) (q : ℕ) → count_h (kept (summed b c q ∷ [])) ≡ 0
unfolding count_h
h_summed b c q = grind arith

t_summed : (b c : Bool) (q : ℕ) → count_by is_t (kept (summed b c q ∷ [])) ≡ 0
t_summed b c q = grind arith

three_summed : (b c : Bool) (q : ℕ) → count_by has_three_lines (kept (summed b c q ∷ [])) ≡ 0
three_summed b c q = grind arith

h_hole : (l : List (Option Op)) (i : ℕ) (b : Bool) (q : ℕ) → get_or l i None ≡ Some (turn b q) → count_h (kept (set l i None)) ≡ count_h (kept l)
h_hole l i b q e =
    ap count_h (kept-hole l i)
    ∙ count_h-append (kept (take i l)) (kept (drop (suc i) l))
    ∙ sym (ap count_h (kept-at l i (turn b q) e)
    ∙ count_h-append (kept (take i l)) (turn b q ∷ kept (drop (suc i) l))
    ∙ ap (λ m. count_h (kept (take i l)) + m) (count_h-append (turn b q ∷ []) (kept (drop (suc i) l)) ∙ ap (λ m. m + count_h (kept (drop (suc i) l))) (h_turn b q) ∙ (let z : 0 + count_h (kept (drop (suc i) l)) ≡ count_h (kept (drop (suc i) l)) = omega arith in z)))

t_hole : (l : List (Option Op)) (i : ℕ) (b : Bool) (q : ℕ) → get_or l i None ≡ Some (turn b q) → count_by is_t (kept (set l i None)) ≤ count_by is_t (kept l)
t_hole l i b q e =
    let a = ap (count_by is_t) (kept-hole l i) ∙ count_t-append (kept (take i l)) (kept (drop (suc i) l)) in
    let d = ap (count_by is_t) (kept-at l i (turn b q) e) ∙ count_t-append (kept (take i l)) (turn b q ∷ kept (drop (suc i) l)) in
    let f = count_t-append (turn b q ∷ []) (kept (drop (suc i) l)) in
    omega (arith, a, d, f)

count_three-append : (a b : List Op) → count_by has_three_lines (a ++ b) ≡ count_by has_three_lines a + count_by has_three_lines b
count_three-append a b = sum_by-append (λ o. cond (has_three_lines o) 1 0) a b

three_hole : (l : List (Option Op)) (i : ℕ) (b : Bool) (q : ℕ) → get_or l i None ≡ Some (turn b q)
    → count_by has_three_lines (kept (set l i None)) ≤ count_by has_three_lines (kept l)
three_hole l i b q e =
    let a = ap (count_by has_three_lines) (kept-hole l i) ∙ count_three-append (kept (take i l)) (kept (drop (suc i) l)) in
    let d = ap (count_by has_three_lines) (kept-at l i (turn b q) e) ∙ count_three-append (kept (take i l)) (turn b q ∷ kept (drop (suc i) l)) in
    let f = count_three-append (turn b q ∷ []) (kept (drop (suc i) l)) in
    omega (arith, a, d, f)

pub kept-length : (l : List (Option Op)) → length (kept l) ≤ length l
kept-length [] = omega arith
kept-length (None ∷ l) = omega (arith, kept-length l)
kept-length (Some o ∷ l) = omega (arith, kept-length l)

pub kept_more : (l : List (Option Op)) (i : ℕ) (o : Op) → i < length l → get_or l i None ≡ Some o → kept (take (i + 1) l) ≡ kept (take i l) ++ o ∷ []
kept_more l i o lt at = ap kept (take_more l i None lt) ∙ kept-append (take i l) (get_or l i None ∷ []) ∙ ap (λ m. kept (take i l) ++ kept (m ∷ [])) at

pub kept_none : (l : List (Option Op)) (i : ℕ) → i < length l → get_or l i None ≡ None → kept (take (i + 1) l) ≡ kept (take i l)
kept_none l i lt at = ap kept (take_more l i None lt) ∙ kept-append (take i l) (get_or l i None ∷ []) ∙ ap (λ m. kept (take i l) ++ kept (m ∷ [])) at ∙ append-nil (kept (take i l))

pub kept_part : (l : List (Option Op)) (i : ℕ) → i < length l → length (kept (take i l)) < length l
kept_part l i lt = omega (arith, kept-length (take i l), length-take-le i l (omega arith))

-- ---- operations that fit

abbrev pub Fits : ℕ → Option Op → Type 0
Fits n None = Unit {0}
Fits n (Some o) = OpFitsIn o n

pub fits_at : (n : ℕ) (l : List (Option Op)) (i : ℕ) (o : Op) → get_or l i None ≡ Some o → All (λ p. OpFitsIn p n) (kept l) → OpFitsIn o n
fits_at n l i o at all =
    subst (λ p. OpFitsIn p n) (get_or_at (kept (take i l)) o (kept (drop (suc i) l)) o (length (kept (take i l))) refl)
    (All-get_or (λ p. OpFitsIn p n) (kept (take i l) ++ o ∷ kept (drop (suc i) l)) (length (kept (take i l))) o
    (omega (arith, length-append (kept (take i l)) (o ∷ kept (drop (suc i) l))))
    (subst (λ m. All (λ p. OpFitsIn p n) m) (kept-at l i o at) all))

fits_summed : (n : ℕ) (b c : Bool) (q : ℕ) → q < n → Fits n (summed b c q)
fits_summed n false false q h = h
fits_summed n true true q h = h
fits_summed n false true q h = tt
fits_summed n true false q h = tt

pub kept-fits : (n : ℕ) (l : List (Option Op)) → All (Fits n) l → All (λ o. OpFitsIn o n) (kept l)
kept-fits n [] h = All-nil (λ o. OpFitsIn o n)
kept-fits n (None ∷ l) h = kept-fits n l (All-tail (Fits n) None l h)
kept-fits n (Some o ∷ l) h = All-cons (λ p. OpFitsIn p n) o (kept l) (All-head (Fits n) (Some o) l h) (kept-fits n l (All-tail (Fits n) (Some o) l h))

-- ---- before each operation

pub record Stands (n : ℕ) (done : List Op) (j : Joining) : Type 0 where
  pub lines : length j.waiting.flips.items ≡ n
  pub count : length j.made.items ≡ length done
  pub same : Same n done (kept j.made.items)
  pub fits : All (Fits n) j.made.items
  pub t_gates : count_by is_t (kept j.made.items) ≤ count_by is_t done
  pub three_lines : count_by has_three_lines (kept j.made.items) ≤ count_by has_three_lines done
  pub hadamards : count_h (kept j.made.items) ≡ count_h done
  pub slots : (i : ℕ) → has j.waiting.live i ≡ true → Waits n j.made.items (slice_index j.waiting.places.items i) (pauli_at (slots_of j.waiting) i)

pub begins : (n : ℕ) (j : Joining) → Begins n j → Stands n [] j
begins n j b = record {
  lines = b.lines;
  count = ap length b.made;
  same = same_lists n [] (kept j.made.items) (ap kept (sym b.made));
  fits = subst (λ l. All (Fits n) l) (sym b.made) (All-nil (Fits n));
  t_gates = subst (λ l. count_by is_t (kept l) ≤ 0) (sym b.made) (omega arith);
  three_lines = subst (λ l. count_by has_three_lines (kept l) ≤ 0) (sym b.made) (omega arith);
  hadamards = ap (λ l. count_h (kept l)) b.made;
  slots = λ i h. absurd (apart (has j.waiting.live i) (b.live i) h);
}
  where
    apart : (x : Bool) → x ≡ false → x ≡ true → ⊥
    apart x e f = cc

module _ (n : ℕ) (done : List Op) (op : Op) (old new : Joining) (stands : Stands n done old) (op_fits : OpFitsIn op n) where
  -- a slot that stays in use
  carried_on : (made : List (Option Op)) (i : ℕ) → Follows op old.waiting new.waiting i → Waits n made (slice_index old.waiting.places.items i) (passed op (pauli_at (slots_of old.waiting) i)) → Waits n made (slice_index new.waiting.places.items i) (pauli_at (slots_of new.waiting) i)
  carried_on made i f w = subst (λ m. Waits n made m (pauli_at (slots_of new.waiting) i)) (sym f.place) (subst (λ p. Waits n made (slice_index old.waiting.places.items i) p) (sym f.pauli) w)

  pub kept_stands : Keeps op old new → Stands n (done ++ op ∷ []) new
  kept_stands k = record {
    lines = k.lines ∙ stands.lines;
    count = omega (arith, ap length k.made, length-append old.made.items (Some op ∷ []), length-append done (op ∷ []), stands.count);
    same = same_then n _ _ _ (same_after n done (kept old.made.items) (op ∷ []) stands.same) (same_lists n _ _ (sym all));
    fits = subst (λ l. All (Fits n) l) (sym k.made) (All-push (Fits n) old.made.items (Some op) stands.fits op_fits);
    t_gates = omega (arith, ap (count_by is_t) all, count_t-append (kept old.made.items) (op ∷ []), count_t-append done (op ∷ []), stands.t_gates);
    three_lines =
        omega (
          arith,
          ap (count_by has_three_lines) all,
          count_three-append (kept old.made.items) (op ∷ []),
          count_three-append done (op ∷ []),
          stands.three_lines,
        );
    hadamards = ap count_h all ∙ count_h-append (kept old.made.items) (op ∷ []) ∙ ap (λ m. m + count_h (op ∷ [])) stands.hadamards ∙ sym (count_h-append done (op ∷ []));
    slots = λ i h. subst (λ l. Waits n l (slice_index new.waiting.places.items i) (pauli_at (slots_of new.waiting) i)) (sym k.made) (each i (k.slots i h));
  }
    where
      all : kept new.made.items ≡ kept old.made.items ++ op ∷ []
      all = ap kept k.made ∙ kept-append old.made.items (Some op ∷ [])

      fresh : (i : ℕ) → Opened op (length old.made.items) new.waiting i → Waits n (old.made.items ++ Some op ∷ []) (slice_index new.waiting.places.items i) (pauli_at (slots_of new.waiting) i)
      fresh i o =
          subst (λ m. Waits n (old.made.items ++ Some op ∷ []) m (pauli_at (slots_of new.waiting) i)) (sym o.place)
          (subst (λ p. Waits n (old.made.items ++ Some op ∷ []) (length old.made.items) p) (sym (o.pauli ∙ ap (λ m. sign_on m o.line) (k.lines ∙ stands.lines)))
          (subst (λ p. Waits n (old.made.items ++ Some p ∷ []) (length old.made.items) (sign_on n o.line)) (sym o.is)
          (waits_new n old.made.items o.back o.line (turn_fits n o.back o.line (subst (λ p. OpFitsIn p n) o.is op_fits)))))

      each : (i : ℕ) → Follows op old.waiting new.waiting i ⊎ Opened op (length old.made.items) new.waiting i → Waits n (old.made.items ++ Some op ∷ []) (slice_index new.waiting.places.items i) (pauli_at (slots_of new.waiting) i)
      each i (inl f) = carried_on (old.made.items ++ Some op ∷ []) i f (waits_more n old.made.items (slice_index old.waiting.places.items i) (pauli_at (slots_of old.waiting) i) op (stands.slots i f.was) op_fits f.free)
      each i (inr o) = fresh i o

  pub joined_stands : Joins op old new → Stands n (done ++ op ∷ []) new
  joined_stands j =
      let made : List (Option Op) = old.made.items in
      let place : ℕ = j.partner.place in
      let lt : j.line < n = turn_fits n j.back j.line (subst (λ p. OpFitsIn p n) j.is op_fits) in
      let partner = stands.slots j.partner.slot j.joins.live in
      let at_place : Waits n made place (pauli_at (slots_of old.waiting) j.partner.slot) = subst (λ m. Waits n made m (pauli_at (slots_of old.waiting) j.partner.slot)) j.joins.place partner in
      let sign : Waits n made place (sign_on n j.line) = subst (λ p. Waits n made place p) (j.joins.pauli ∙ ap (λ m. sign_on m j.line) stands.lines) at_place in
      let over : Carries n j.joins.was_on (kept (drop (suc place) made)) (sign_on n j.line) = sign.carried j.partner.back j.joins.was_on j.joins.at in
      let now : List (Option Op) = set made place None ++ summed j.partner.back j.back j.line ∷ [] in
      let all : kept new.made.items ≡ kept now = ap kept j.made in
      let parts : kept now ≡ kept (set made place None) ++ kept (summed j.partner.back j.back j.line ∷ []) = kept-append (set made place None) (summed j.partner.back j.back j.line ∷ []) in
      let op_is : kept made ++ op ∷ [] ≡ kept made ++ turn j.back j.line ∷ [] = ap (λ p. kept made ++ p ∷ []) j.is in
      record {
        lines = j.lines ∙ stands.lines;
        count = omega (arith, ap length j.made, length-append (set made place None) (summed j.partner.back j.back j.line ∷ []), length-set made place None, length-append done (op ∷ []), stands.count);
        same =
            same_then n _ _ _ (same_after n done (kept made) (op ∷ []) stands.same)
            (same_then n _ _ _ (same_lists n _ _ op_is)
            (same_then n _ _ _ (joined_same n made place j.partner.back j.back j.joins.was_on j.line j.joins.at over j.joins.early lt) (same_lists n _ _ (sym all))));
        fits = subst (λ l. All (Fits n) l) (sym j.made) (All-push (Fits n) (set made place None) (summed j.partner.back j.back j.line) (All-set (Fits n) made place None tt stands.fits) (fits_summed n j.partner.back j.back j.line lt));
        t_gates = omega (arith, ap (count_by is_t) all, ap (count_by is_t) parts, count_t-append (kept (set made place None)) (kept (summed j.partner.back j.back j.line ∷ [])), t_summed j.partner.back j.back j.line, t_hole made place j.partner.back j.joins.was_on j.joins.at, count_t-append done (op ∷ []), stands.t_gates);
        three_lines =
            omega (
              arith,
              ap (count_by has_three_lines) all,
              ap (count_by has_three_lines) parts,
              count_three-append (kept (set made place None)) (kept (summed j.partner.back j.back j.line ∷ [])),
              three_summed j.partner.back j.back j.line,
              three_hole made place j.partner.back j.joins.was_on j.joins.at,
              count_three-append done (op ∷ []),
              stands.three_lines,
            );
        hadamards =
            ap count_h (all ∙ parts)
            ∙ count_h-append (kept (set made place None)) (kept (summed j.partner.back j.back j.line ∷ []))
            ∙ ap₂ (λ a b. a + b) (h_hole made place j.partner.back j.joins.was_on j.joins.at ∙ stands.hadamards) (h_summed j.partner.back j.back j.line ∙ sym (ap (λ p. count_h (p ∷ [])) j.is ∙ h_turn j.back j.line))
            ∙ sym (count_h-append done (op ∷ []));
        slots = λ i h.
            let f = j.slots i h in
            subst (λ l. Waits n l (slice_index new.waiting.places.items i) (pauli_at (slots_of new.waiting) i)) (sym j.made)
            (carried_on now i f
            (subst (λ p. Waits n now (slice_index old.waiting.places.items i) (passed p (pauli_at (slots_of old.waiting) i))) (sym j.is)
            (waits_joined n made place j.partner.back j.back j.joins.was_on j.line j.joins.at over j.joins.early lt (slice_index old.waiting.places.items i) (pauli_at (slots_of old.waiting) i) (stands.slots i f.was) (ap (λ p. stops p (pauli_at (slots_of old.waiting) i)) (sym j.is) ∙ f.free))));
      }

  pub stands_more : Steps op old new → Stands n (done ++ op ∷ []) new
  stands_more (inl k) = kept_stands k
  stands_more (inr j) = joined_stands j
