-- What a merge and an exorlink of slots leave, and of the list.
use Rattle.std.proofs.Common.{◌≡◌, ◌≢◌, ℕ, ◌+◌, ◌<◌, ◌≤◌, Bool, true, false, cond, List, length, set, refl, sym, ◌∙◌, ap, subst, inl, inr, arith, length-set, get_or-set_same, get_or-set_other}
use Rattle.std.specs.Prelude.{Option, None, Some, All, IfSome, ◌⊎◌, nat_lt}
use Rattle.std.proofs.lemmas.List.{set-get_or, set-set, set_comm}
use Rattle.rv_pla.specs.Cube.{IsCube}
use Rattle.rv_pla.specs.declared.cube.Cube.{Cube}
use Rattle.rv_pla.specs.declared.cube.TheConstants.{MOST_OUTPUTS}
use Rattle.rv_cube.specs.Esop.{terms_of, IsTerm}
use Rattle.rv_cube.specs.Distance.{differing}
use Rattle.rv_cube.specs.Reduction.{no_cube, at, merge, merge_by, reduced, found_step}
use Rattle.rv_cube.specs.inside.Slots.{carries, full, list_place, is_alike, IsKeyed, or_empty, merge_in, merged_in, merged_in_any, settled, IsFirstMerge, ranked, IsPartner}
use Rattle.rv_cube.specs.inside.Reducing.{settled_any, emptied, IsExorlinked, Steps, DifferAt, ComesIn, IsNext}
use Rattle.rv_cube.specs.declared.step.Step.TheVariants.{Merge, Exorlink}
use Rattle.rv_cube.proofs.inside.Merges.{Mergeable, Mergeable-comm-at, can_merge_Mergeable}
use Rattle.rv_cube.proofs.Reduced.{reduced_once}
use Rattle.rv_cube.proofs.inside.Full.{full_within, full_set-other, no_cube_valid, at_valid, full_cleared, valid_set, carries_some, some_carries}
use Rattle.rv_cube.proofs.inside.SlotSteps.{merge_carries, merged_in_list, moved_list, merge_is_next, exorlink_is_next}
use Rattle.rv_cube.proofs.inside.MergesIn.{merge_in_valid, count, count_clear, settled_count, settled_length, settled_empty, keyed_clear, settled_keyed, settled_valid}
use Rattle.rv_cube.proofs.inside.SettledList.{settled_kept, settled_beside}
use Rattle.rv_cube.proofs.inside.ExorlinksIn.{merge_in_far, merge_in_far-other, IsExorlinkIn, exorlink_in_is}
use Rattle.rv_cube.specs.inside.Slotted.{Slotted}
use Rattle.rv_cube.specs.declared.step.Step.{Step}
use Rattle.rv_cube.proofs.inside.Differing.{differs-comm}
use Rattle.std.proofs.lemmas.Result.{on_ok_weaker}
use Rattle.std.proofs.lemmas.Grind.{common_steps}

-- ---- a merge

-- what two cubes become carries an output, if anything
pub one_valid : (n : ℕ) (x y : Cube) (o : Option Cube) → o ≡ merge_by (differing n x y) x y → carries x ≡ true → IsCube n MOST_OUTPUTS x → IsCube n MOST_OUTPUTS y
    → IfSome o (λ c. carries c ≡ true) × IfSome o (IsCube n MOST_OUTPUTS)
one_valid n x y None e some vx vy = (tt, tt)
one_valid n x y (Some c) e some vx vy =
    let is : merge_in n x y ≡ c = ap or_empty (sym e) in
    (merge_carries (differing n x y) x y c some (sym e), subst (IsCube n MOST_OUTPUTS) is (merge_in_valid n MOST_OUTPUTS x y vx vy))

-- slots that are emptied one after the other
cleared_count : (slots : List Cube) (a b : ℕ) → b ≢ a → full slots a ≡ true → full slots b ≡ true → count (set (set slots a no_cube) b no_cube) + 2 ≡ count slots
cleared_count slots a b ne fa fb = grind (arith, count_clear, no_cube, full_set-other)

count_any : (n : ℕ) (slots : List Cube) (i : ℕ) (o : Option Cube) → IfSome o (λ c. carries c ≡ true) → i < length slots → full slots i ≡ false
    → count (settled_any n slots i o) ≤ count slots + 1
count_any n slots i None some within empty = omega arith
count_any n slots i (Some c) some within empty = settled_count n slots i c some within empty

-- a cube comes into an empty slot, or the slot is emptied
any_kept : (n : ℕ) (slots : List Cube) (i : ℕ) (o : Option Cube) → All (IsCube n MOST_OUTPUTS) slots → IsKeyed slots → i < length slots → full slots i ≡ false
    → at slots i ≡ no_cube → IfSome o (λ c. carries c ≡ true) → IfSome o (IsCube n MOST_OUTPUTS)
    → reduced n (terms_of (settled_any n slots i o)) ≡ reduced n (terms_of (set slots i (or_empty o)))
any_kept n slots i None valid keyed within empty bare some own =
    ap (λ l. reduced n (terms_of l)) (sym (ap (set slots i) (sym bare) ∙ set-get_or slots i no_cube))
any_kept n slots i (Some c) valid keyed within empty bare some own =
    settled_kept n slots i c (record { valid = valid; keyed = keyed; own = own; some = some; within = within; empty = empty })

pub merge_steps : (n : ℕ) (slots : List Cube) (a b : ℕ) (x y : Cube) (o : Option Cube) → All (IsCube n MOST_OUTPUTS) slots → IsKeyed slots
    → IsFirstMerge n slots a b → x ≡ at slots a → y ≡ at slots b → o ≡ merge_by (differing n x y) x y
    → Steps n slots slots (settled_any n (set (set slots b no_cube) a no_cube) a o)
merge_steps n slots a b x y o valid keyed h ex ey eo =
    let order = h.order in
    let la = full_within slots a h.full_a in
    let ne : a ≢ b = omega arith in
    let one : List Cube = set slots b no_cube in
    let bare : List Cube = set one a no_cube in
    let l1 = length-set slots b no_cube in
    let l2 = length-set one a no_cube in
    let within_one : a < length (set slots b no_cube) = omega arith in
    let within : a < length (set (set slots b no_cube) a no_cube) = omega arith in
    let vx : IsCube n MOST_OUTPUTS x = subst (IsCube n MOST_OUTPUTS) (sym ex) (at_valid n MOST_OUTPUTS slots a valid) in
    let vy : IsCube n MOST_OUTPUTS y = subst (IsCube n MOST_OUTPUTS) (sym ey) (at_valid n MOST_OUTPUTS slots b valid) in
    let v = one_valid n x y o eo (ap carries ex ∙ h.full_a) vx vy in
    let none : IsCube n MOST_OUTPUTS no_cube = no_cube_valid n MOST_OUTPUTS in
    let valid_bare = valid_set n one a no_cube (valid_set n slots b no_cube valid none) none in
    let keyed_bare = keyed_clear one a (keyed_clear slots b keyed) in
    let empty = full_cleared one a in
    let twice : set bare a (or_empty o) ≡ merged_in n slots a b =
    set-set one a no_cube (or_empty o)
    ∙ ap (λ c. set one a (or_empty c)) eo
    ∙ ap (λ c. set one a (merge_in n c y)) ex
    ∙ ap (λ c. set one a (merge_in n (at slots a) c)) ey in
    let less = count_any n bare a o v.0 within empty in
    let gone = cleared_count slots b a ne h.full_b h.full_a in
    record {
      kept =
          any_kept n bare a o valid_bare keyed_bare within empty (get_or-set_same one a no_cube no_cube within_one) v.0 v.1
          ∙ ap (λ l. reduced n (terms_of l)) twice
          ∙ ap (reduced n) (merged_in_list n slots a b h.order h.full_a h.full_b)
          ∙ reduced_once n (terms_of slots) (Merge (list_place slots a) (list_place slots b)) (merge_is_next n slots a b valid keyed h);
      fewer = omega arith;
    }

-- ---- an exorlink, in any order of its edits

-- a cube x comes to p and y to o, and c is emptied
shuffle_first : (s : List Cube) (p o c : ℕ) (own y x : Cube) → p ≢ o → p ≢ c → o ≢ c
    → set (set (set (set s p own) o y) c no_cube) p x ≡ set (set (emptied s p o c) p x) o y
shuffle_first s p o c own y x po pc oc = grind (arith, set_comm, set-set)

-- a cube x comes to c and y to o, and p is emptied
shuffle_second : (s : List Cube) (p o c : ℕ) (own y x : Cube) → p ≢ o → p ≢ c → o ≢ c
    → set (set (set (set s p own) o y) p no_cube) c x ≡ set (set (emptied s p o c) c x) o y
shuffle_second s p o c own y x po pc oc = grind (arith, set_comm, set-set)

-- ---- what it leaves

-- the slots with the two cubes of the form
abbrev formed : List Cube → ℕ → ℕ → Cube → Cube → List Cube
formed s p o own rest = set (set s p own) o rest

-- the cubes at low and high become one, which stands at low
low_at : (n : ℕ) (s : List Cube) (p o c : ℕ) (own rest x y : Cube) (low high : ℕ) (lower : ℕ) (one : Option Cube)
    → at (formed s p o own rest) low ≡ x → at (formed s p o own rest) high ≡ y
    → ((z : Cube) → set (set (formed s p o own rest) high no_cube) low z ≡ set (set (emptied s p o c) low z) o rest)
    → ◌≡◌ {A = ℕ × Option Cube} (lower, one) (low, merge n x y)
    → merged_in n (formed s p o own rest) low high ≡ set (set (emptied s p o c) lower (or_empty one)) o rest
low_at n s p o c own rest x y low high lower one at_low at_high shuffle is = grind arith

formed_own : (s : List Cube) (p o : ℕ) (own rest : Cube) → p ≢ o → p < length s → at (formed s p o own rest) p ≡ own
formed_own s p o own rest po lp = get_or-set_other (set s p own) o p rest no_cube po ∙ get_or-set_same s p own no_cube lp

formed_third : (s : List Cube) (p o c : ℕ) (own rest third : Cube) → c ≢ p → c ≢ o → third ≡ at s c → at (formed s p o own rest) c ≡ third
formed_third s p o c own rest third cp co e = get_or-set_other (set s p own) o c rest no_cube co ∙ get_or-set_other s p c own no_cube cp ∙ sym e

-- the lower of two slots, and what stands there
low_is : (n : ℕ) (s : List Cube) (p o c : ℕ) (own rest third : Cube) (low : ℕ) (one : Option Cube) (t : Bool) → p ≢ o → c ≢ p → c ≢ o
    → p < length s → third ≡ at s c
    → ◌≡◌ {A = ℕ × Option Cube} (low, one) (cond t (p, merge n own third) (c, merge n third own))
    → cond t (merged_in n (formed s p o own rest) p c) (merged_in n (formed s p o own rest) c p) ≡ set (set (emptied s p o c) low (or_empty one)) o rest
low_is n s p o c own rest third low one t h h1 h2 h3 h4 h5 =
    grind (arith, low_at, formed_own, formed_third, shuffle_first, no_cube, shuffle_second)

-- the slots of an exorlink before its cubes come in
pub record Exorlinking (n : ℕ) (s : List Cube) (p o c : ℕ) (own rest third : Cube) (low : ℕ) (one : Option Cube) : Type 0 where
  pub valid : All (IsCube n MOST_OUTPUTS) s
  pub keyed : IsKeyed s
  pub exorlinked : IsExorlinked n s p o c own rest
  pub third_is : third ≡ at s c
  pub low_one : ◌≡◌ {A = ℕ × Option Cube} (low, one) (cond (nat_lt p c) (p, merge_by (differing n own third) own third) (c, merge_by (differing n third own) third own))

-- the cube that comes into the lower slot
pub record Lower (n : ℕ) (s : List Cube) (p o c : ℕ) (rest : Cube) (low : ℕ) (one : Option Cube) : Type 0 where
  pub place : (low ≡ p) ⊎ (low ≡ c)
  pub some : IfSome one (λ x. carries x ≡ true)
  pub own : IfSome one (IsCube n MOST_OUTPUTS)
  pub apart_from_rest : IfSome one (λ x. is_alike rest x ≡ true → ⊥)

far_one : (x y rest : Cube) (n : ℕ) (o : Option Cube) → o ≡ merge_by (differing n x y) x y → IfSome o (λ z. carries z ≡ true)
    → (carries (merge_in n x y) ≡ true → is_alike (merge_in n x y) rest ≡ true → ⊥) → IfSome o (λ z. is_alike rest z ≡ true → ⊥)
far_one x y rest n o h h1 h2 = grind arith

-- the cubes x and y become the one that comes there
lower_at : (n : ℕ) (s : List Cube) (p o c : ℕ) (x y rest : Cube) (low at_low : ℕ) (one : Option Cube) → ◌≡◌ {A = ℕ × Option Cube} (low, one) (at_low, merge n x y)
    → (at_low ≡ p) ⊎ (at_low ≡ c) → carries x ≡ true → IsCube n MOST_OUTPUTS x → IsCube n MOST_OUTPUTS y
    → (carries (merge_in n x y) ≡ true → is_alike (merge_in n x y) rest ≡ true → ⊥) → Lower n s p o c rest low one
lower_at n s p o c x y rest low at_low one is which some vx vy far =
    let becomes : one ≡ merge n x y = ap (λ (r : ℕ × Option Cube). r.1) is in
    let v = one_valid n x y one becomes some vx vy in
    record {
      place = let Q : ℕ → Type 0 = λ i. (i ≡ p) ⊎ (i ≡ c) in subst Q (sym (ap (λ (r : ℕ × Option Cube). r.0) is)) which;
      some = v.0;
      own = v.1;
      apart_from_rest = far_one x y rest n one becomes v.0 far;
    }

lower_by : (n : ℕ) (s : List Cube) (p o c : ℕ) (own rest third : Cube) (low : ℕ) (one : Option Cube) (t : Bool)
    → IsExorlinked n s p o c own rest → third ≡ at s c → IsCube n MOST_OUTPUTS third → Mergeable own third (differing n own third)
    → ◌≡◌ {A = ℕ × Option Cube} (low, one) (cond t (p, merge n own third) (c, merge n third own))
    → Lower n s p o c rest low one
lower_by n s p o c own rest third low one true h e vt j is =
    lower_at n s p o c own third rest low p one is (inl refl) h.own_carries h.own_valid vt (merge_in_far n own third rest h.far.0 h.far.1 h.far.2 j)
lower_by n s p o c own rest third low one false h e vt j is =
    lower_at n s p o c third own rest low c one is (inr refl) (ap carries e ∙ h.is_partner.other.stands) vt h.own_valid
    (merge_in_far-other n own third rest h.far.0 h.far.1 h.far.2 (Mergeable-comm-at own third n j))

pub lower : (n : ℕ) (s : List Cube) (p o c : ℕ) (own rest third : Cube) (low : ℕ) (one : Option Cube) → Exorlinking n s p o c own rest third low one
    → Lower n s p o c rest low one
lower n s p o c own rest third low one h =
    let P : Cube → Type 0 = λ x. Mergeable own x (differing n own x) in
    lower_by n s p o c own rest third low one (nat_lt p c) h.exorlinked h.third_is
    (subst (IsCube n MOST_OUTPUTS) (sym h.third_is) (at_valid n MOST_OUTPUTS s c h.valid))
    (subst P (sym h.third_is) (can_merge_Mergeable n own (at s c) h.exorlinked.is_partner.one)) h.low_one

-- the emptied slots
pub record Bare (n : ℕ) (s : List Cube) (p o c : ℕ) : Type 0 where
  pub valid : All (IsCube n MOST_OUTPUTS) (emptied s p o c)
  pub keyed : IsKeyed (emptied s p o c)
  pub as_long : length (emptied s p o c) ≡ length s
  pub at_p : at (emptied s p o c) p ≡ no_cube
  pub at_o : at (emptied s p o c) o ≡ no_cube
  pub at_c : at (emptied s p o c) c ≡ no_cube
  pub fewer : count (emptied s p o c) + 3 ≡ count s

pub bare : (n : ℕ) (s : List Cube) (p o c : ℕ) (own rest : Cube) → All (IsCube n MOST_OUTPUTS) s → IsKeyed s → IsExorlinked n s p o c own rest → Bare n s p o c
bare n s p o c own rest valid keyed h =
    let one : List Cube = set s p no_cube in
    let two : List Cube = set one o no_cube in
    let none : IsCube n MOST_OUTPUTS no_cube = no_cube_valid n MOST_OUTPUTS in
    let l1 = length-set s p no_cube in
    let l2 = length-set one o no_cube in
    let l3 = length-set two c no_cube in
    let lp = full_within s p h.full_place in
    let lo = full_within s o h.full_other in
    let lc = full_within s c h.is_partner.other.stands in
    let po : p ≢ o = h.two in
    let cp : c ≢ p = h.is_partner.other.other_a in
    let co : c ≢ o = h.is_partner.other.other_b in
    let fc : full (set (set s p no_cube) o no_cube) c ≡ true = full_set-other one o c no_cube co ∙ full_set-other s p c no_cube cp ∙ h.is_partner.other.stands in
    let g2 = cleared_count s p o (λ e. po (sym e)) h.full_place h.full_other in
    let g3 = count_clear two c fc in
    record {
      valid = valid_set n two c no_cube (valid_set n one o no_cube (valid_set n s p no_cube valid none) none) none;
      keyed = keyed_clear two c (keyed_clear one o (keyed_clear s p keyed));
      as_long = l3 ∙ l2 ∙ l1;
      at_p = get_or-set_other two c p no_cube no_cube (λ e. cp (sym e)) ∙ get_or-set_other one o p no_cube no_cube po ∙ get_or-set_same s p no_cube no_cube lp;
      at_o = get_or-set_other two c o no_cube no_cube (λ e. co (sym e)) ∙ get_or-set_same one o no_cube no_cube (omega arith);
      at_c = get_or-set_same two c no_cube no_cube (omega arith);
      fewer = omega arith;
    }

pub bare_low : (n : ℕ) (s : List Cube) (p o c low : ℕ) → Bare n s p o c → (low ≡ p) ⊎ (low ≡ c) → at (emptied s p o c) low ≡ no_cube
bare_low n s p o c low b which =
    elim which [ inl e ↦ ap (at (emptied s p o c)) e ∙ b.at_p | inr e ↦ ap (at (emptied s p o c)) e ∙ b.at_c ]

-- a cube comes into the lower slot, and then the other one
any_beside : (n : ℕ) (slots : List Cube) (i k : ℕ) (o : Option Cube) (rest : Cube) → All (IsCube n MOST_OUTPUTS) slots → IsKeyed slots → i < length slots → k < length slots
    → k ≢ i → full slots i ≡ false → full slots k ≡ false → at slots i ≡ no_cube → carries rest ≡ true → IsCube n MOST_OUTPUTS rest
    → IfSome o (λ c. carries c ≡ true) → IfSome o (IsCube n MOST_OUTPUTS) → IfSome o (λ x. is_alike rest x ≡ true → ⊥)
    → reduced n (terms_of (settled n (settled_any n slots i o) k rest)) ≡ reduced n (terms_of (set (set slots i (or_empty o)) k rest))
any_beside n slots i k None rest valid keyed li lk ki ei ek bare_i some_rest own_rest some own far =
    settled_kept n slots k rest (record { valid = valid; keyed = keyed; own = own_rest; some = some_rest; within = lk; empty = ek })
    ∙ ap (λ l. reduced n (terms_of (set l k rest))) (sym (ap (set slots i) (sym bare_i) ∙ set-get_or slots i no_cube))
any_beside n slots i k (Some x) rest valid keyed li lk ki ei ek bare_i some_rest own_rest some own far =
    let len = settled_length n slots i x in
    settled_kept n (settled n slots i x) k rest
    (record {
      valid = settled_valid n MOST_OUTPUTS slots i x valid own;
      keyed = settled_keyed n slots i x keyed some li ei;
      own = own_rest;
      some = some_rest;
      within = omega arith;
      empty = settled_empty n slots i k x ki ek;
    })
    ∙ settled_beside n slots i k x rest (record { valid = valid; keyed = keyed; own = own; some = some; within = li; empty = ei }) lk ki ek own_rest far

pub length_any : (n : ℕ) (slots : List Cube) (i : ℕ) (o : Option Cube) → length (settled_any n slots i o) ≡ length slots
length_any n slots i None = refl
length_any n slots i (Some c) = settled_length n slots i c

pub empty_any : (n : ℕ) (slots : List Cube) (i k : ℕ) (o : Option Cube) → k ≢ i → full slots k ≡ false → full (settled_any n slots i o) k ≡ false
empty_any n slots i k None ki e = e
empty_any n slots i k (Some c) ki e = settled_empty n slots i k c ki e

pub low_other : (s : List Cube) (p o c low : ℕ) → p ≢ o → c ≢ o → (low ≡ p) ⊎ (low ≡ c) → o ≢ low
low_other s p o c low po co which = elim which [ inl e ↦ (λ q. po (sym (q ∙ e))) | inr e ↦ (λ q. co (sym (q ∙ e))) ]

pub exorlink_steps : (n : ℕ) (s : List Cube) (p o c : ℕ) (own rest third : Cube) (low : ℕ) (one : Option Cube) → Exorlinking n s p o c own rest third low one
    → Steps n s (merged_in_any n (set (set s p own) o rest) p c) (settled n (settled_any n (emptied s p o c) low one) o rest)
exorlink_steps n s p o c own rest third low one h =
    let r = h.exorlinked in
    let b = bare n s p o c own rest h.valid h.keyed r in
    let k = lower n s p o c own rest third low one h in
    let l = b.as_long in
    let gone = b.fewer in
    let lp = full_within s p r.full_place in
    let lo = full_within s o r.full_other in
    let lc = full_within s c r.is_partner.other.stands in
    let low_in : low < length (emptied s p o c) = elim k.place [ inl e ↦ omega arith | inr e ↦ omega arith ] in
    let ol : o ≢ low = low_other s p o c low r.two r.is_partner.other.other_b k.place in
    let bare_at = bare_low n s p o c low b k.place in
    let empty_low : full (emptied s p o c) low ≡ false = ap carries bare_at in
    let empty_o : full (emptied s p o c) o ≡ false = ap carries b.at_o in
    let any : List Cube = settled_any n (emptied s p o c) low one in
    let la = length_any n (emptied s p o c) low one in
    let more = count_any n (emptied s p o c) low one k.some low_in empty_low in
    let most = settled_count n any o rest r.rest_carries (omega arith) (empty_any n (emptied s p o c) low o one ol empty_o) in
    record {
      kept =
          any_beside n (emptied s p o c) low o one rest b.valid b.keyed low_in (omega arith) ol empty_low empty_o bare_at r.rest_carries r.rest_valid k.some k.own k.apart_from_rest
          ∙ ap (λ x. reduced n (terms_of x)) (sym (low_is n s p o c own rest third low one (nat_lt p c) r.two r.is_partner.other.other_a r.is_partner.other.other_b lp h.third_is h.low_one));
      fewer = omega arith;
    }

-- ---- a merge

some_both : (n : ℕ) (o : Option Cube) → IfSome o (λ c. carries c ≡ true) → IfSome o (IsCube n MOST_OUTPUTS)
    → IfSome o (λ c. (carries c ≡ true) × IsCube n MOST_OUTPUTS c)
some_both n o h h2 = grind arith

-- slots a and b were emptied, whose cubes become one
pub merge_valid : (old one two : Slotted) (a b n : ℕ) (x y : Cube) (o : Option Cube) → All (IsCube old.inputs MOST_OUTPUTS) old.cubes
    → IsFirstMerge old.inputs old.cubes a b → x ≡ at old.cubes a → y ≡ at old.cubes b → n ≡ old.inputs → o ≡ merge_by (differing n x y) x y
    → one ≡ record old { cubes = set old.cubes b no_cube } → two ≡ record one { cubes = set one.cubes a no_cube }
    → IfSome o (λ c. (carries c ≡ true) × IsCube two.inputs MOST_OUTPUTS c)
merge_valid old one two a b n x y o valid first ex ey en eo e1 e2 =
    let m : ℕ = old.inputs in
    let same : m ≡ two.inputs = sym (ap (λ (v : Slotted). v.inputs) e2 ∙ ap (λ (v : Slotted). v.inputs) e1) in
    let v = one_valid m x y o (eo ∙ ap (λ k. merge_by (differing k x y) x y) en) (ap carries ex ∙ first.full_a)
    (subst (IsCube m MOST_OUTPUTS) (sym ex) (at_valid m MOST_OUTPUTS old.cubes a valid))
    (subst (IsCube m MOST_OUTPUTS) (sym ey) (at_valid m MOST_OUTPUTS old.cubes b valid)) in
    subst (λ k. IfSome o (λ c. (carries c ≡ true) × IsCube k MOST_OUTPUTS c)) same (some_both m o v.0 v.1)

pub merged_steps : (old one two new : Slotted) (a b n : ℕ) (x y : Cube) (o : Option Cube) → All (IsCube old.inputs MOST_OUTPUTS) old.cubes → IsKeyed old.cubes
    → IsFirstMerge old.inputs old.cubes a b → x ≡ at old.cubes a → y ≡ at old.cubes b → n ≡ old.inputs → o ≡ merge_by (differing n x y) x y
    → one ≡ record old { cubes = set old.cubes b no_cube } → two ≡ record one { cubes = set one.cubes a no_cube }
    → new ≡ record two { cubes = settled_any two.inputs two.cubes a o } → Steps old.inputs old.cubes old.cubes new.cubes
merged_steps old one two new a b n x y o valid keyed first ex ey en eo e1 e2 e =
    let P : Slotted → Type 0 = λ v. Steps old.inputs old.cubes old.cubes v.cubes in
    let Q : Slotted → Type 0 = λ v. Steps old.inputs old.cubes old.cubes (settled_any v.inputs v.cubes a o) in
    let R : Slotted → Type 0 = λ v. Q (record v { cubes = set v.cubes a no_cube }) in
    subst P (sym e) (subst Q (sym e2) (subst R (sym e1)
    (merge_steps old.inputs old.cubes a b x y o valid keyed first ex ey (eo ∙ ap (λ k. merge_by (differing k x y) x y) en))))

-- ---- an exorlink

pub exorlinking : (old : Slotted) (p o c n : ℕ) (own rest third : Cube) (r : ℕ × Option Cube) → All (IsCube old.inputs MOST_OUTPUTS) old.cubes → IsKeyed old.cubes
    → IsExorlinked old.inputs old.cubes p o c own rest → third ≡ at old.cubes c → n ≡ old.inputs
    → ◌≡◌ {A = ℕ × Option Cube} r (cond (nat_lt p c) (p, merge_by (differing n own third) own third) (c, merge_by (differing n third own) third own))
    → Exorlinking old.inputs old.cubes p o c own rest third r.0 r.1
exorlinking old p o c n own rest third r valid keyed given et en er = grind (arith)

-- what is asked where the cubes come in
pub comes_in : (old bare : Slotted) (p o c : ℕ) (own rest third : Cube) (low : ℕ) (x : Option Cube) → Exorlinking old.inputs old.cubes p o c own rest third low x
    → bare ≡ record old { cubes = emptied old.cubes p o c } → ComesIn bare low x o rest
comes_in old three p o c own rest third low x g e =
    let n : ℕ = old.inputs in
    let s : List Cube = old.cubes in
    let r = g.exorlinked in
    let b = bare n s p o c own rest g.valid g.keyed r in
    let k = lower n s p o c own rest third low x g in
    let l = b.as_long in
    let lp = full_within s p r.full_place in
    let lo = full_within s o r.full_other in
    let lc = full_within s c r.is_partner.other.stands in
    let la = length_any n (emptied s p o c) low x in
    let P : Slotted → Type 0 = λ v. ComesIn v low x o rest in
    subst P (sym e) (record {
      low_within = elim k.place [ inl e ↦ omega arith | inr e ↦ omega arith ];
      low_empty = ap carries (bare_low n s p o c low b k.place);
      own = some_both n x k.some k.own;
      other_within = omega arith;
      other_empty = empty_any n (emptied s p o c) low o x (low_other s p o c low r.two r.is_partner.other.other_b k.place) (ap carries b.at_o);
      other_carries = r.rest_carries;
      other_valid = r.rest_valid;
    })

pub exorlinked_steps : (old bare : Slotted) (new : List Cube) (p o c : ℕ) (own rest third : Cube) (low : ℕ) (x : Option Cube)
    → Exorlinking old.inputs old.cubes p o c own rest third low x → bare ≡ record old { cubes = emptied old.cubes p o c }
    → new ≡ settled bare.inputs (settled_any bare.inputs bare.cubes low x) o rest
    → Steps old.inputs old.cubes (merged_in_any old.inputs (set (set old.cubes p own) o rest) p c) new
exorlinked_steps old three new p o c own rest third low x h eb e =
    let P : List Cube → Type 0 = Steps old.inputs old.cubes (merged_in_any old.inputs (set (set old.cubes p own) o rest) p c) in
    let Q : Slotted → Type 0 = λ v. P (settled v.inputs (settled_any v.inputs v.cubes low x) o rest) in
    subst P (sym e) (subst Q (sym eb) (exorlink_steps old.inputs old.cubes p o c own rest third low x h))

-- ---- the next step is made

slot_term : (n : ℕ) (slots : List Cube) (i : ℕ) → All (IsCube n MOST_OUTPUTS) slots → full slots i ≡ true → IsTerm n MOST_OUTPUTS (at slots i)
slot_term n slots i valid f = record { is_cube = at_valid n MOST_OUTPUTS slots i valid; some = some_carries (at slots i) f }

differ-comm : (n : ℕ) (x y : Cube) (p q : ℕ) → DifferAt n x y p q → DifferAt n y x p q
differ-comm n x y p q h = grind (arith, common_steps, differs-comm)

-- the first of two cubes has the partner
exorlinked_by : (n : ℕ) (slots : List Cube) (a b : ℕ) (f s : Cube) (c : ℕ) → a ≢ b → full slots a ≡ true → full slots b ≡ true → IsTerm n MOST_OUTPUTS f → IsTerm n MOST_OUTPUTS s
    → (p : ℕ) × (q : ℕ) × DifferAt n f s p q → IsPartner n slots a b f c → IsExorlinked n slots a b c f s
exorlinked_by n slots a b f s c ne fa fb vf vs far partner = record {
  full_place = fa;
  full_other = fb;
  two = ne;
  is_partner = partner;
  own_valid = vf.is_cube;
  rest_valid = vs.is_cube;
  own_carries = carries_some f vf.some;
  rest_carries = carries_some s vs.some;
  far = far;
}

-- what an exorlink says of its slots
pub record ExorlinkedIn (n : ℕ) (slots : List Cube) (a b : ℕ) (f s : Cube) (place c : ℕ) : Type 0 where
  pub order : a < b
  pub full_a : full slots a ≡ true
  pub full_b : full slots b ≡ true
  pub cube : Cube
  pub is : IsExorlinkIn n slots a b f s place cube c
  pub first : found_step n (terms_of slots) ≡ Some (ranked slots (Exorlink a b f s place c))

exorlinked_in : (n : ℕ) (slots : List Cube) (a b : ℕ) (f s : Cube) (place c : ℕ) → All (IsCube n MOST_OUTPUTS) slots → IsKeyed slots
    → IsNext n slots (Exorlink a b f s place c) → ExorlinkedIn n slots a b f s place c
exorlinked_in n slots a b f s place c valid keyed h =
    let i : ℕ = h.1.0 in
    let j : ℕ = h.1.1 in
    let r = h.1.2 in
    let e = exorlink_in_is n slots i j (Exorlink a b f s place c) r.is in
    let first = exorlink_is_next n slots i j (Exorlink a b f s place c) valid keyed h.0 r in
    let P : ℕ → ℕ → Type 0 = λ x y. ExorlinkedIn n slots x y f s place c in
    let Q : ℕ → Type 0 = λ x. found_step n (terms_of slots) ≡ Some (ranked slots (Exorlink x b f s place c)) in
    let R : ℕ → Type 0 = λ y. found_step n (terms_of slots) ≡ Some (ranked slots (Exorlink i y f s place c)) in
    subst (λ x. P x b) (sym e.0) (subst (P i) (sym e.1) (record {
      order = r.order;
      full_a = r.full_a;
      full_b = r.full_b;
      cube = e.2;
      is = e.3;
      first = subst R e.1 (subst Q e.0 first);
    }))

-- the list that is left is reduced to the same
moved_kept : (n : ℕ) (slots : List Cube) (a b : ℕ) (f s : Cube) (place c : ℕ) → All (IsCube n MOST_OUTPUTS) slots → ExorlinkedIn n slots a b f s place c
    → reduced n (terms_of (merged_in_any n (set (set slots a f) b s) place c)) ≡ reduced n (terms_of slots)
moved_kept n slots a b f s place c valid h =
    let v = h.is.form.valid (slot_term n slots a valid h.full_a) (slot_term n slots b valid h.full_b) in
    let p = h.is.partner in
    let which : (place ≡ a) ⊎ (place ≡ b) = elim h.is.which [ inl w ↦ inl w.0 | inr w ↦ inr w.0 ] in
    ap (reduced n) (moved_list n slots a b f s place c h.order h.full_a h.full_b (carries_some f v.0.some) (carries_some s v.1.some) which p.other.stands p.other.other_a p.other.other_b)
    ∙ reduced_once n (terms_of slots) (ranked slots (Exorlink a b f s place c)) h.first

-- an exorlink is the next step: its first cube merges, or the second
module _ {n a b place c : ℕ} {slots : List Cube} {f s : Cube} {step : Step} (is : step ≡ Exorlink a b f s place c) (valid : All (IsCube n MOST_OUTPUTS) slots)
    (keyed : IsKeyed slots) (next : IsNext n slots step) where
  given : ExorlinkedIn n slots a b f s place c
  given = exorlinked_in n slots a b f s place c valid keyed (subst (IsNext n slots) is next)

  pub exorlinks_own : place ≡ a → IsExorlinked n slots a b c f s
  exorlinks_own e =
      let h = given in
      let order = h.order in
      let v = h.is.form.valid (slot_term n slots a valid h.full_a) (slot_term n slots b valid h.full_b) in
      elim h.is.which [
        | inl w ↦
            (let P : Cube → Type 0 = λ x. IsPartner n slots a b x c in
            exorlinked_by n slots a b f s c (omega arith) h.full_a h.full_b v.0 v.1 h.is.far (subst P w.1 h.is.partner))
        | inr w ↦ absurd (let pb = w.0 in omega arith)
      ]

  pub exorlinks_rest : place ≢ a → IsExorlinked n slots b a c s f
  exorlinks_rest ne =
      let h = given in
      let order = h.order in
      let v = h.is.form.valid (slot_term n slots a valid h.full_a) (slot_term n slots b valid h.full_b) in
      elim h.is.which [
        | inl w ↦ absurd (ne w.0)
        | inr w ↦
            (let P : Cube → Type 0 = λ x. IsPartner n slots a b x c in
            let p = subst P w.1 h.is.partner in
            exorlinked_by n slots b a s f c (omega arith) h.full_b h.full_a v.1 v.0 (h.is.far.0, h.is.far.1, differ-comm n f s h.is.far.0 h.is.far.1 h.is.far.2)
            (record { other = record { stands = p.other.stands; other_a = p.other.other_b; other_b = p.other.other_a }; one = p.one }))
      ]

  pub own_steps : (new : List Cube) → place ≡ a → Steps n slots (merged_in_any n (set (set slots a f) b s) a c) new → Steps n slots slots new
  own_steps new e h = record {
    kept = h.kept ∙ ap (λ p. reduced n (terms_of (merged_in_any n (set (set slots a f) b s) p c))) (sym e) ∙ moved_kept n slots a b f s place c valid given;
    fewer = h.fewer;
  }

  pub rest_steps : (new : List Cube) → place ≢ a → Steps n slots (merged_in_any n (set (set slots b s) a f) b c) new → Steps n slots slots new
  rest_steps new ne h =
      let g = given in
      let order = g.order in
      let ba : b ≢ a = omega arith in
      let pb : b ≡ place = elim g.is.which [ inl w ↦ absurd (ne w.0) | inr w ↦ sym w.0 ] in
      record {
        kept = h.kept ∙ ap (λ l. reduced n (terms_of (merged_in_any n l b c))) (set_comm slots b a s f ba)
            ∙ ap (λ p. reduced n (terms_of (merged_in_any n (set (set slots a f) b s) p c))) pb
            ∙ moved_kept n slots a b f s place c valid given;
        fewer = h.fewer;
      }

-- two cubes became one
pub ruleset joined = (on_ok_weaker, merged_steps, merge_valid)
