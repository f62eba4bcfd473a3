-- Which slots have to be looked at again after a cube was put into a slot.
use Rattle.std.proofs.Common.{◌≡◌, ◌≢◌, ℕ, ◌<◌, Bool, true, false, cond, eqb, List, length, set, refl, subst, sym, ◌∙◌, ap, inl, inr, arith, length-set, get_or-set_same, get_or-set_other, ◌∷◌, []}
use Rattle.std.specs.Option.{option_or}
use Rattle.std.specs.Prelude.{Option, None}
use Rattle.std.proofs.lemmas.Bool.{cases_eq, eqb-true, false≢true, false_from_ne_true}
use Rattle.rv_pla.specs.declared.cube.Cube.{Cube}
use Rattle.rv_cube.specs.Distance.{differing, with_third}
use Rattle.rv_cube.specs.Reduction.{no_cube, at, can_merge, are_adjacent}
use Rattle.rv_cube.specs.inside.Slots.{carries, full, is_alike, merged_in, settled, partner_in, form_in, exorlink_in_by, exorlink_in, is_due, IsWatched, StaysDue, IsPartner}
use Rattle.rv_cube.specs.declared.step.Step.{Step}
use Rattle.rv_cube.specs.Settled.{DifferInTwo}
use Rattle.rv_cube.proofs.inside.Differing.{IsDiffering, differing_is, differing-comm, both_from, both_back, both_other}
use Rattle.rv_cube.specs.inside.Watching.{lower}
use Rattle.rv_cube.proofs.inside.DueRows.{lower_less, lower_more}
use Rattle.rv_cube.proofs.inside.PartnerSearches.{outputs-comm, partner_in-none, none_partner}
use Rattle.rv_gate.proofs.FirstAnswer.{or_none}
use Rattle.rv_cube.proofs.inside.Full.{full_within, full_cleared, apart_from}
use Rattle.rv_cube.proofs.inside.Keys.{is_alike-self, is_alike-comm, is_alike-trans}
use Rattle.rv_cube.proofs.inside.MergesIn.{merge_in_alike, merged_in_first, merged_in_other, merged_in_gone, settled_case}
use Rattle.std.proofs.lemmas.Grind.{common_steps}

none_or : (o p : Option Step) → o ≡ None → p ≡ None → option_or o p ≡ None
none_or o p h i = ap (λ x. option_or x p) h ∙ i

-- ---- no partner

abbrev Lonely : ℕ → List Cube → ℕ → ℕ → Cube → Type 0
Lonely n slots a b cube = (c : ℕ) → IsPartner n slots a b cube c → ⊥

-- ---- the exorlink of two cubes

cond_kept : (t : Bool) (o p : Option Step) → (t ≡ true → o ≡ None → p ≡ None) → cond t o None ≡ None → cond t p None ≡ None
cond_kept t o p h h2 = grind arith

-- a cube that has no partner has none in the new slots
abbrev StaysLonely : ℕ → List Cube → List Cube → ℕ → ℕ → Cube → Type 0
StaysLonely n old new a b cube = Lonely n old a b cube → Lonely n new a b cube

form_kept : (n : ℕ) (old new : List Cube) (a b : ℕ) (f s : Cube) → StaysLonely n old new a b f → StaysLonely n old new a b s
    → form_in n old a b f s ≡ None → form_in n new a b f s ≡ None
form_kept n old new a b f s hf hs e = grind (arith, or_none, partner_in, none_or, partner_in-none, none_partner)

exorlink_in_by_kept : (r : List ℕ) (n : ℕ) (old new : List Cube) (a b : ℕ) (x y : Cube) → IsDiffering x y n r
    → ((u w : ℕ) → DifferInTwo n x y u w → StaysLonely n old new a b (with_third x y u) × StaysLonely n old new a b (with_third y x u))
    → exorlink_in_by r n old a b x y ≡ None → exorlink_in_by r n new a b x y ≡ None
exorlink_in_by_kept (p ∷ q ∷ []) n old new a b x y is h e =
    let o = or_none (form_in n old a b (with_third x y p) (with_third y x q)) (form_in n old a b (with_third y x p) (with_third x y q)) e in
    let d = both_from n x y p q is in
    let at_p = h p q d in
    let at_q = h q p (both_back n x y p q d) in
    none_or (form_in n new a b (with_third x y p) (with_third y x q)) (form_in n new a b (with_third y x p) (with_third x y q))
    (form_kept n old new a b (with_third x y p) (with_third y x q) at_p.0 at_q.1 o.0)
    (form_kept n old new a b (with_third y x p) (with_third x y q) at_p.1 at_q.0 o.1)
exorlink_in_by_kept o n old new a b x y is h e = refl

-- ---- a cube is put into slot k

-- the full slots are the old ones but for k, and the rows are due of the pairs that it may bring a step to
record IsPut (n : ℕ) (old new : List Cube) (k : ℕ) (merging exorlinking : List Bool) : Type 0 where
  others : (a : ℕ) → full new a ≡ true → a ≢ k → at new a ≡ at old a
  merging_due : (c : ℕ) → c ≡ k → full new c ≡ true → (g : ℕ) → full new g ≡ true → are_adjacent n (at new c) (at new g) ≡ true
      → is_due merging (lower c g) ≡ true
  pair_due : (c : ℕ) → c ≡ k → full new c ≡ true → (g p q : ℕ) → g ≢ c → full new g ≡ true → (at new c).outs ≡ (at new g).outs
      → differing n (at new c) (at new g) ≡ p ∷ q ∷ [] → is_due exorlinking (lower c g) ≡ true
  third_due : (c : ℕ) → c ≡ k → full new c ≡ true → (e g u w : ℕ) → e ≢ c → full new e ≡ true → full new g ≡ true → (at new e).outs ≡ (at new g).outs
      → DifferInTwo n (at new e) (at new g) u w → can_merge n (with_third (at new e) (at new g) u) (at new c) ≡ true
      → is_due exorlinking (lower e g) ≡ true

not_due : (old new : List Bool) (a : ℕ) → StaysDue old new → is_due new a ≡ false → is_due old a ≡ false
not_due old new a s h = false_from_ne_true _ (λ e. false≢true (sym h ∙ s a e))

full_other : (n : ℕ) (old new : List Cube) (k : ℕ) (merging exorlinking : List Bool) (p : IsPut n old new k merging exorlinking) (a : ℕ)
    → full new a ≡ true → a ≢ k → full old a ≡ true
full_other n old new k merging exorlinking p a f ne = sym (ap carries (p.others a f ne)) ∙ f

-- a row that is not due is no pair's
not_lower : (rows : List Bool) (a c g : ℕ) → lower c g ≡ a → is_due rows a ≡ false → is_due rows (lower c g) ≡ true → ⊥
not_lower rows a c g e nd d = false≢true (sym nd ∙ ap (is_due rows) (sym e) ∙ d)

put_merges : (n : ℕ) (old new : List Cube) (k : ℕ) (merging exorlinking : List Bool) → IsPut n old new k merging exorlinking
    → (a b : ℕ) → a < b → full new a ≡ true → full new b ≡ true → is_due merging a ≡ false
    → (full old a ≡ true → full old b ≡ true → are_adjacent n (at old a) (at old b) ≡ false)
    → are_adjacent n (at new a) (at new b) ≡ false
put_merges n old new k merging exorlinking p a b ab fa fb nd h = grind (arith, false_from_ne_true, not_lower, lower_less, lower_more, outputs-comm, full_other)

stays_lonely : (n : ℕ) (old new : List Cube) (k : ℕ) (merging exorlinking : List Bool) → IsPut n old new k merging exorlinking
    → (a b : ℕ) (cube : Cube) → ((c : ℕ) → c ≡ k → full new c ≡ true → can_merge n cube (at new c) ≡ true → ⊥) → StaysLonely n old new a b cube
stays_lonely n old new k merging exorlinking p a b cube far h c x = grind (arith, full_other)

-- slot k in the pair itself
pair_none : (n : ℕ) (new : List Cube) (a b : ℕ) → ((p q : ℕ) → (at new a).outs ≡ (at new b).outs → differing n (at new a) (at new b) ≡ p ∷ q ∷ [] → ⊥)
    → exorlink_in n new a b ≡ None
pair_none n new a b h = grind arith

put_exorlinks : (n : ℕ) (old new : List Cube) (k : ℕ) (merging exorlinking : List Bool) → IsPut n old new k merging exorlinking
    → (a b : ℕ) → a < b → full new a ≡ true → full new b ≡ true → is_due exorlinking a ≡ false
    → (full old a ≡ true → full old b ≡ true → exorlink_in n old a b ≡ None) → exorlink_in n new a b ≡ None
put_exorlinks n old new k merging exorlinking p a b ab fa fb nd h =
    let x : Cube = at new a in
    let y : Cube = at new b in
    let ba : b ≢ a = omega arith in
    let low = lower_less a b ab in
    let high = lower_more a b ab in
    elim (cases_eq a k) [
      | inl e ↦ pair_none n new a b (λ i j o d. not_lower exorlinking a a b low nd (p.pair_due a e fa b i j ba fb o d))
      | inr na ↦ elim (cases_eq b k) [
        | inl e ↦ pair_none n new a b (λ i j o d. not_lower exorlinking a b a high nd
            (p.pair_due b e fb a i j (λ s. ba (sym s)) fa (sym o) (differing-comm n y x ∙ d)))
        | inr nb ↦
            let Was : Cube → Cube → Type 0 = λ s t. cond (eqb s.outs t.outs) (exorlink_in_by (differing n s t) n old a b s t) None ≡ None in
            let was : exorlink_in n old a b ≡ None = h (full_other n old new k merging exorlinking p a fa na) (full_other n old new k merging exorlinking p b fb nb) in
            cond_kept (eqb x.outs y.outs) (exorlink_in_by (differing n x y) n old a b x y) (exorlink_in_by (differing n x y) n new a b x y)
            (λ o. exorlink_in_by_kept (differing n x y) n old new a b x y (differing_is n x y)
            (λ u w d. (
              stays_lonely n old new k merging exorlinking p a b (with_third x y u) (λ c e fc m. not_lower exorlinking a a b low nd
                  (p.third_due c e fc a b u w (λ s. na (s ∙ e)) fa fb (eqb-true _ _ o) d m)),
              stays_lonely n old new k merging exorlinking p a b (with_third y x u) (λ c e fc m. not_lower exorlinking a b a high nd
                  (p.third_due c e fc b a u w (λ s. nb (s ∙ e)) fb fa (sym (eqb-true _ _ o)) (both_other n x y u w d) m)),
            )))
            (subst (λ s. Was s y) (sym (p.others a fa na)) (subst (Was (at old a)) (sym (p.others b fb nb)) was))
      ]
    ]

watched_put : (n : ℕ) (old new : List Cube) (k : ℕ) (merges exorlinks new_merges new_exorlinks : List Bool)
    → IsWatched n old merges exorlinks → StaysDue merges new_merges → StaysDue exorlinks new_exorlinks
    → IsPut n old new k new_merges new_exorlinks → IsWatched n new new_merges new_exorlinks
watched_put n old new k merges exorlinks new_merges new_exorlinks h sm sr p = record {
  merges = λ a nd b ab fa fb. put_merges n old new k new_merges new_exorlinks p a b ab fa fb nd
      (λ ga gb. h.merges a (not_due merges new_merges a sm nd) b ab ga gb);
  exorlinks = λ a nd b ab fa fb. put_exorlinks n old new k new_merges new_exorlinks p a b ab fa fb nd
      (λ ga gb. h.exorlinks a (not_due exorlinks new_exorlinks a sr nd) b ab ga gb);
}

-- ---- a slot is cleared

pub watched_clear : (n : ℕ) (slots : List Cube) (i : ℕ) (merges exorlinks : List Bool) → IsWatched n slots merges exorlinks
    → IsWatched n (set slots i no_cube) merges exorlinks
watched_clear n slots i merges exorlinks h =
    let gone : (c : ℕ) → c ≡ i → full (set slots i no_cube) c ≡ true → ⊥ = λ c e f.
    apart_from (set slots i no_cube) i c (full_cleared slots i) f e in
    watched_put n slots (set slots i no_cube) i merges exorlinks merges exorlinks h (λ a e. e) (λ a e. e)
    (record {
      others = λ a f ne. get_or-set_other slots i a no_cube no_cube ne;
      merging_due = λ c e f g fg m. absurd (gone c e f);
      pair_due = λ c e f g p q ne fg o d. absurd (gone c e f);
      third_due = λ c e f x y u w ne fx fy o d m. absurd (gone c e f);
    })

-- ---- a cube is settled

-- the rows are due of the pairs that a full slot with the inputs of the cube may bring a step to
pub record PairsDue (n : ℕ) (cube : Cube) (old new : List Cube) (merging exorlinking : List Bool) : Type 0 where
  pub merging_due : (c : ℕ) → full new c ≡ true → is_alike (at new c) cube ≡ true → (g : ℕ) → full new g ≡ true
      → are_adjacent n (at new c) (at new g) ≡ true → is_due merging (lower c g) ≡ true
  pub pair_due : (c : ℕ) → full new c ≡ true → is_alike (at new c) cube ≡ true → (g p q : ℕ) → at new g ≡ at old g → full new g ≡ true
      → (at new c).outs ≡ (at new g).outs → differing n (at new c) (at new g) ≡ p ∷ q ∷ [] → is_due exorlinking (lower c g) ≡ true
  pub third_due : (c : ℕ) → full new c ≡ true → is_alike (at new c) cube ≡ true → (e g u w : ℕ) → e ≢ c → at new e ≡ at old e
      → full new e ≡ true → full new g ≡ true → (at new e).outs ≡ (at new g).outs → DifferInTwo n (at new e) (at new g) u w
      → can_merge n (with_third (at new e) (at new g) u) (at new c) ≡ true → is_due exorlinking (lower e g) ≡ true

-- the cube, or one with its inputs, stands at k
near_put : (n : ℕ) (old new : List Cube) (k : ℕ) (cube : Cube) (merging exorlinking : List Bool) → PairsDue n cube old new merging exorlinking
    → ((a : ℕ) → full new a ≡ true → a ≢ k → at new a ≡ at old a)
    → (full new k ≡ true → is_alike (at new k) cube ≡ true)
    → IsPut n old new k merging exorlinking
near_put n old new k cube merging exorlinking d others here = grind (arith)

-- two slots with the inputs of the cube become one
merged_in_put : (n : ℕ) (old slots : List Cube) (a b : ℕ) (cube : Cube) (merging exorlinking : List Bool) → b ≢ a → a < length slots → b < length slots
    → ((c : ℕ) → c ≢ a → c ≢ b → at slots c ≡ at old c)
    → is_alike (at slots a) cube ≡ true → is_alike (at slots b) cube ≡ true
    → PairsDue n cube old (merged_in n slots a b) merging exorlinking → IsPut n old (merged_in n slots a b) a merging exorlinking
merged_in_put n old slots a b cube merging exorlinking ba la lb others ea eb d = grind (arith, near_put, merged_in_gone, merged_in_other, merged_in_first, is_alike-trans, is_alike-comm, merge_in_alike)

pub watched_settled : (n : ℕ) (slots : List Cube) (i : ℕ) (cube : Cube) (merges exorlinks new_merges new_exorlinks : List Bool)
    → i < length slots → full slots i ≡ false → IsWatched n slots merges exorlinks → StaysDue merges new_merges → StaysDue exorlinks new_exorlinks
    → PairsDue n cube slots (settled n slots i cube) new_merges new_exorlinks → IsWatched n (settled n slots i cube) new_merges new_exorlinks
watched_settled n slots i cube merges exorlinks new_merges new_exorlinks within empty h sm sr =
    let t : List Cube = set slots i cube in
    let len = length-set slots i cube in
    let others : (c : ℕ) → c ≢ i → at (set slots i cube) c ≡ at slots c = λ c nc. get_or-set_other slots i c cube no_cube nc in
    let ei : is_alike (at (set slots i cube) i) cube ≡ true = ap (λ x. is_alike x cube) (get_or-set_same slots i cube no_cube within) ∙ is_alike-self cube in
    let watched = λ (new : List Cube) (k : ℕ) (p : IsPut n slots new k new_merges new_exorlinks).
    watched_put n slots new k merges exorlinks new_merges new_exorlinks h sm sr p in
    settled_case (λ l. PairsDue n cube slots l new_merges new_exorlinks → IsWatched n l new_merges new_exorlinks) n slots i cube
    (λ e d. watched t i (near_put n slots t i cube new_merges new_exorlinks d (λ c f nc. others c nc) (λ f. ei)))
    (λ j fj aj.
    let ne : j ≢ i = apart_from slots i j empty fj in
    let lj = full_within slots j fj in
    let li : i < length (set slots i cube) = omega arith in
    let mj : j < length (set slots i cube) = omega arith in
    let ej : is_alike (at (set slots i cube) j) cube ≡ true = ap (λ x. is_alike x cube) (others j ne) ∙ aj in (
      λ d. watched (merged_in n t i j) i (merged_in_put n slots t i j cube new_merges new_exorlinks ne li mj (λ c ni nj. others c ni) ei ej d),
      λ d. watched (merged_in n t j i) j (merged_in_put n slots t j i cube new_merges new_exorlinks (λ e. ne (sym e)) mj li (λ c nj ni. others c ni) ej ei d),
    ))

pub watched_all : (n : ℕ) (slots : List Cube) (merges exorlinks : List Bool) → ((a : ℕ) → a < length slots → is_due merges a ≡ true)
    → ((a : ℕ) → a < length slots → is_due exorlinks a ≡ true) → IsWatched n slots merges exorlinks
watched_all n slots merges exorlinks m r = grind (arith, common_steps, false≢true, full_within)
