-- An output that a slot's cube loses is dropped from the list.
use Rattle.std.proofs.Common.{◌≡◌, ◌≢◌, ℕ, ◌^◌, ◌<◌, Bool, true, false, cond, List, length, set, refl, sym, ◌∙◌, ap, subst, inl, inr, arith, get_or-set_other, replicate, ne_eqb}
use Rattle.std.specs.Prelude.{Option, None, Some, All, bit_xor}
use Rattle.std.specs.List.{remove}
use Rattle.std.proofs.lemmas.Bool.{cases_eq}
use Rattle.std.proofs.lemmas.List.{set-set, get_or-replicate, length-replicate}
use Rattle.std.proofs.lemmas.Nat.Bits.{bit_at-zero}
use Rattle.rv_pla.specs.declared.cube.Cube.{Cube}
use Rattle.rv_pla.specs.Pla.{TwoLevel}
use Rattle.rv_cube.specs.Esop.{terms_of}
use Rattle.rv_gate.specs.FirstAnswer.{first}
use Rattle.rv_cube.specs.Reduction.{no_cube, at, carrying, reduced, IsSettled}
use Rattle.rv_cube.specs.ReductionFor.{is_idle, output_dropped, dropped, dropping, first_drop, first_step_for, weight, reduced_for}
use Rattle.rv_cube.specs.inside.Slotted.{Slotted}
use Rattle.rv_pla.specs.declared.cube.TheConstants.{MOST_OUTPUTS}
use Rattle.rv_cube.proofs.Reduced.{is_reduced}
use Rattle.rv_cube.proofs.ReducedFor.{goes, once_for, end_for, drop_step, is_through}
use Rattle.rv_cube.specs.inside.Slots.{full, is_alike, list_place, or_empty, IsKeyed, slot_of, settled, settled_by}
use Rattle.rv_cube.specs.inside.Idle.{HasNoIdle, IsLeastIdle, IsFirstIdle}
use Rattle.rv_cube.proofs.inside.Dropping.{idle_carried, output_dropped-lt}
use Rattle.rv_cube.proofs.inside.Full.{full_within, carries_some, full_set-other, full_cleared, apart_from}
use Rattle.rv_cube.proofs.inside.Keys.{slot_of-some}
use Rattle.rv_cube.proofs.inside.Ranks.{at-rank, terms_of-set, terms_of-remove, rank_found, rank_none}
use Rattle.rv_gate.proofs.FirstAnswer.{none_first}
use Rattle.rv_cube.proofs.Searches.{first_found}

-- a slot with an idle output is full
pub idle_full : (pla : TwoLevel) (slots : List Cube) (a j : ℕ) → is_idle pla (at slots a) j ≡ true → full slots a ≡ true
idle_full pla slots a j h = grind (arith, output_dropped-lt, idle_carried, carries_some)

-- ---- the search

at_slot : (pla : TwoLevel) (slots : List Cube) (a j : ℕ) (t : Bool) → full slots a ≡ true → is_idle pla (at slots a) j ≡ t
    → dropping pla (terms_of slots) (list_place slots a) j ≡ cond t (Some (dropped (terms_of slots) (list_place slots a) j)) None
at_slot pla slots a j t fa h = grind (arith, terms_of, list_place, is_idle, at-rank)

row_found : (pla : TwoLevel) (slots : List Cube) (a j : ℕ) → full slots a ≡ true → IsLeastIdle pla (at slots a) j
    → first (dropping pla (terms_of slots) (list_place slots a)) 0 pla.outputs ≡ Some (dropped (terms_of slots) (list_place slots a) j)
row_found pla slots a j fa l =
    first_found (dropping pla (terms_of slots) (list_place slots a)) 0 pla.outputs j (dropped (terms_of slots) (list_place slots a) j) (omega arith) (let w = l.within in omega arith) (at_slot pla slots a j true fa l.idle)
    (λ k lk uk. at_slot pla slots a k false fa (l.before k uk))

row_none : (pla : TwoLevel) (slots : List Cube) (a : ℕ) → full slots a ≡ true → HasNoIdle pla (at slots a)
    → first (dropping pla (terms_of slots) (list_place slots a)) 0 pla.outputs ≡ None
row_none pla slots a fa none =
    none_first (dropping pla (terms_of slots) (list_place slots a)) 0 pla.outputs (λ k lk uk. at_slot pla slots a k false fa (none k (omega arith)))

pub idle_first : (pla : TwoLevel) (slots : List Cube) (a j : ℕ) → IsFirstIdle pla slots a j
    → first_drop pla (terms_of slots) ≡ Some (dropped (terms_of slots) (list_place slots a) j)
idle_first pla slots a j h =
    let fa = idle_full pla slots a j h.least.idle in
    rank_found (λ p. first (dropping pla (terms_of slots) p) 0 pla.outputs) slots a (dropped (terms_of slots) (list_place slots a) j) fa
    (row_found pla slots a j fa h.least) (λ i u fi. row_none pla slots i fi (h.before i u))

pub idle_none : (pla : TwoLevel) (slots : List Cube) → ((a : ℕ) → a < length slots → HasNoIdle pla (at slots a)) → first_drop pla (terms_of slots) ≡ None
idle_none pla slots none =
    rank_none (λ p. first (dropping pla (terms_of slots) p) 0 pla.outputs) slots (λ i fi. row_none pla slots i fi (none i (full_within slots i fi)))

-- ---- the slots after it

-- the cube of a slot that lost an output
abbrev pub left_in : List Cube → ℕ → ℕ → Cube
left_in slots a j = or_empty (carrying (output_dropped (at slots a) j))

pub dropped_in : (slots : List Cube) (a j : ℕ) → full slots a ≡ true → terms_of (set slots a (left_in slots a j)) ≡ dropped (terms_of slots) (list_place slots a) j
dropped_in slots a j fa =
    let c : Cube = output_dropped (at slots a) j in
    let e = at-rank slots a fa in
    elim (cases_eq c.outs 0) [
      | inl none ↦
          let gone : carrying c ≡ None = rw none refl in
          ap (λ o. terms_of (set slots a (or_empty o))) gone
          ∙ terms_of-remove slots a no_cube fa refl
          ∙ sym (ap (λ x. standing_at slots a (carrying (output_dropped x j))) e ∙ ap (standing_at slots a) gone)
      | inr some ↦
          let stays : carrying c ≡ Some c = rw (ne_eqb _ _ some) refl in
          ap (λ o. terms_of (set slots a (or_empty o))) stays
          ∙ terms_of-set slots a c fa (carries_some c (omega arith))
          ∙ sym (ap (λ x. standing_at slots a (carrying (output_dropped x j))) e ∙ ap (standing_at slots a) stays)
    ]
  where
    standing_at : List Cube → ℕ → Option Cube → List Cube
    standing_at slots a None = remove (terms_of slots) (list_place slots a)
    standing_at slots a (Some cube) = set (terms_of slots) (list_place slots a) cube

-- a cube with the inputs of one that was cleared comes alone
alone_by : (n : ℕ) (slots : List Cube) (a : ℕ) (cube : Cube) (o : Option ℕ) → full slots a ≡ true → IsKeyed slots → slot_of (set slots a no_cube) cube ≡ o
    → ((x : Cube) → is_alike x cube ≡ true → is_alike x (at slots a) ≡ true)
    → settled_by o n (set slots a no_cube) a cube ≡ set slots a cube
alone_by n slots a cube None fa keyed e like = set-set slots a no_cube cube
alone_by n slots a cube (Some j) fa keyed e like =
    let s = slot_of-some (set slots a no_cube) cube j e in
    let other = apart_from (set slots a no_cube) a j (full_cleared slots a) s.0 in
    let fj : full slots j ≡ true = sym (full_set-other slots a j no_cube other) ∙ s.0 in
    let same : at (set slots a no_cube) j ≡ at slots j = get_or-set_other slots a j no_cube no_cube other in
    let P : Cube → Type 0 = λ x. is_alike x (at slots a) ≡ true in
    absurd (other (keyed j a fj fa (subst P same (like (at (set slots a no_cube) j) s.1))))

pub comes_alone : (n : ℕ) (slots : List Cube) (a outs : ℕ) → full slots a ≡ true → IsKeyed slots
    → settled n (set slots a no_cube) a (record (at slots a) { outs = outs }) ≡ set slots a (record (at slots a) { outs = outs })
comes_alone n slots a outs fa keyed = grind (arith, alone_by, slot_of, no_cube)

-- the cube stands without the output, or its slot is empty
pub drop_some : (inside old one new : Slotted) (a j outs : ℕ) (cube : Cube) → inside ≡ old → full old.cubes a ≡ true → IsKeyed inside.cubes → cube ≡ at inside.cubes a → outs ≡ bit_xor cube.outs (2 ^ j) → outs ≢ 0
    → one ≡ record old { cubes = set old.cubes a no_cube } → new ≡ record one { cubes = settled one.inputs one.cubes a (record cube { outs = outs }) }
    → new.cubes ≡ set old.cubes a (left_in old.cubes a j)
drop_some inside old one new a j outs cube e fa keyed is outs_is some one_is new_is =
    grind (arith, bit_xor, output_dropped, ne_eqb, no_cube, comes_alone, or_empty)

pub drop_none : (inside old one : Slotted) (a j outs : ℕ) (cube : Cube) → inside ≡ old → cube ≡ at inside.cubes a → outs ≡ bit_xor cube.outs (2 ^ j) → outs ≡ 0
    → one ≡ record old { cubes = set old.cubes a no_cube } → one.cubes ≡ set old.cubes a (left_in old.cubes a j)
drop_none inside old one a j outs cube e is outs_is none one_is = grind arith

-- ---- one turn

pub record Turn (pla : TwoLevel) (old new : List Cube) : Type 0 where
  pub settled : IsSettled pla.inputs new
  pub same : reduced_for pla new ≡ reduced_for pla old
  pub smaller : weight pla.outputs new < weight pla.outputs old

pub turn : (pla : TwoLevel) (slots left list : List Cube) (a j n : ℕ) → IsFirstIdle pla slots a j → IsSettled pla.inputs (terms_of slots) → n ≡ pla.inputs
    → left ≡ set slots a (left_in slots a j) → list ≡ reduced n (terms_of left) → Turn pla (terms_of slots) list
turn pla slots left list a j n h settled en left_is list_is =
    let old : List Cube = terms_of slots in
    let d : List Cube = dropped old (list_place slots a) j in
    let e : terms_of left ≡ d = ap terms_of left_is ∙ dropped_in slots a j (idle_full pla slots a j h.least.idle) in
    let s : first_step_for pla old ≡ Some d = drop_step pla old settled ∙ idle_first pla slots a j h in
    let t = is_through pla n (terms_of left) list en list_is in
    let g = goes pla 0 old d s in
    let P : ℕ → Type 0 = λ k. IsSettled k list in
    record {
      settled = subst P en (is_reduced n MOST_OUTPUTS (terms_of left) list list_is).settled;
      same = t.same ∙ ap (reduced_for pla) e ∙ once_for pla old d s;
      smaller = let l = t.lowers in let m = g.lowers in let k : weight pla.outputs (terms_of left) ≡ weight pla.outputs d = ap (weight pla.outputs) e in omega arith;
    }

-- the list before the first turn
pub record Begun (pla : TwoLevel) (cubes list : List Cube) : Type 0 where
  pub settled : IsSettled pla.inputs list
  pub same : reduced_for pla list ≡ reduced_for pla cubes

pub begun : (pla : TwoLevel) (cubes list : List Cube) (n : ℕ) → n ≡ pla.inputs → list ≡ reduced n cubes → Begun pla cubes list
begun pla cubes list n en e =
    let P : ℕ → Type 0 = λ k. IsSettled k list in
    record { settled = subst P en (is_reduced n MOST_OUTPUTS cubes list e).settled; same = (is_through pla n cubes list en e).same }

-- no slot has an idle output
pub all_done : (pla : TwoLevel) (slots : List Cube) → IsSettled pla.inputs (terms_of slots) → ((a : ℕ) → a < length slots → HasNoIdle pla (at slots a)) → reduced_for pla (terms_of slots) ≡ terms_of slots
all_done pla slots settled none = end_for pla (terms_of slots) (drop_step pla (terms_of slots) settled ∙ idle_none pla slots none)

no_idle : (pla : TwoLevel) → HasNoIdle pla no_cube
unfolding is_idle
no_idle pla j h = rw (bit_at-zero j) refl

pub none_idle : (pla : TwoLevel) (n : ℕ) → All (HasNoIdle pla) (replicate n no_cube)
none_idle pla n k d h = grind (arith, get_or-replicate, length-replicate, no_idle)

-- what the loop ends with
pub ruleset ended = (idle_full, all_done)
