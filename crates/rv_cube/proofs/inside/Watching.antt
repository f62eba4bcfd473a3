-- The rows that are due after a cube came in are those of the pairs that it may bring a step to.
use Rattle.std.proofs.Common.{arith, ◌≡◌, ℕ, ◌<◌, Bool, true, eqb, List, [], ◌∷◌, length, refl, sym, ◌∙◌, ap, subst, inl, inr}
use Rattle.std.specs.Prelude.{None, Some, All}
use Rattle.std.proofs.lemmas.Bool.{eqb-true, and_parts}
use Rattle.rv_pla.specs.Cube.{symbol, IsCube}
use Rattle.rv_pla.specs.declared.cube.Cube.{Cube}
use Rattle.rv_pla.specs.declared.cube.TheConstants.{MOST_OUTPUTS}
use Rattle.rv_cube.specs.Distance.{differing, with_symbol, with_third}
use Rattle.rv_cube.specs.Reduction.{at}
use Rattle.rv_cube.specs.inside.Slots.{carries, full, is_alike, key_of, IsKeyed, slot_of, is_due}
use Rattle.rv_cube.specs.inside.Slotted.{turn, Lists, IsTwoApart}
use Rattle.rv_cube.specs.inside.Watching.{lower, Marks, IsLink, IsLinkAt, IsLinkBeside, IsLinkAcross, IsLinkFrom, IsThirdBy, IsThird, IsNear, IsMerging, IsExorlinking, IsNearList, IsListedNear}
use Rattle.rv_cube.proofs.inside.Differing.{differing_as}
use Rattle.rv_cube.proofs.inside.DueRows.{marks_nothing, marks_then, marks_as, lower_within}
use Rattle.rv_cube.proofs.inside.Full.{full_within, at_valid}
use Rattle.rv_cube.proofs.inside.Keys.{is_alike-comm, is_alike-trans, alike_from_another, slot_of-none, slot_of-some, slot_of-alike}
use Rattle.rv_cube.proofs.inside.Noting.{key_alike}
use Rattle.rv_cube.proofs.inside.Neighbours.{partner_key, beside_either}
use Rattle.rv_cube.proofs.inside.Partners.{one_is}
use Rattle.rv_cube.proofs.inside.Listing.{two_either}
use Rattle.rv_cube.proofs.inside.Thirds.{third_linked}
use Rattle.rv_cube.proofs.inside.Watched.{PairsDue}

key_same : (x cube y : Cube) → key_of x ≡ key_of cube → is_alike y cube ≡ true → is_alike x y ≡ true
key_same x cube y k a = is_alike-trans x cube y (key_alike x cube k) (is_alike-comm y cube a)

as_named : (n : ℕ) (x y s e : Cube) → x ≡ s → y ≡ e → differing n s e ≡ differing n x y
as_named n x y s e ex ey = ap (λ c. differing n c e) (sym ex) ∙ ap (differing n x) (sym ey)

-- ---- what the calls mark

-- the slot that is found is the only one with the inputs
pub link_found : (slots : List Cube) (e g : ℕ) (cube : Cube) (old new : List Bool) → IsKeyed slots → slot_of slots cube ≡ Some g
    → Marks (IsLink slots e g) old new → Marks (IsLinkAt slots e cube) old new
link_found slots e g cube old new keyed found h =
    let f = slot_of-some slots cube g found in
    marks_as (IsLink slots e g) (IsLinkAt slots e cube) old new
    (λ row x.
    let same : x.0 ≡ g = keyed x.0 g x.1 f.0 (key_same (at slots x.0) cube (at slots g) x.2 f.1) in
    let P : ℕ → Type 0 = λ y. IsLink slots e y row in
    subst P same x.3) h

pub link_missed : (slots : List Cube) (e : ℕ) (cube : Cube) (rows : List Bool) → slot_of slots cube ≡ None → Marks (IsLinkAt slots e cube) rows rows
link_missed slots e cube rows none =
    marks_nothing (IsLinkAt slots e cube) rows (λ row x. slot_of-none slots cube none x.0 x.1 (key_alike (at slots x.0) cube x.2))

pub beside_marks : (slots : List Cube) (e : ℕ) (cube one other : Cube) (q : ℕ) (old mid new : List Bool) → one ≡ with_symbol cube q (turn (symbol cube q)) → other ≡ with_third cube one q
    → Marks (IsLinkAt slots e one) old mid → Marks (IsLinkAt slots e other) mid new → Marks (IsLinkBeside slots e cube q) old new
beside_marks slots e cube one other q old mid new h k =
    marks_then (IsLinkAt slots e one) (IsLinkAt slots e other) (IsLinkBeside slots e cube q) old mid new
    (λ row x. elim (beside_either cube (at slots x.0) one other q h k x.2.0 x.2.1) [
      | inl y ↦ inl (x.0, x.1, y, x.3)
      | inr y ↦ inr (x.0, x.1, y, x.3)
    ])

pub from_marks : (slots : List Cube) (e p n : ℕ) (cube one other : Cube) (old mid new : List Bool) → cube ≡ at slots e
    → one ≡ with_symbol cube p (turn (symbol cube p)) → other ≡ with_third cube one p
    → Marks (IsLinkAcross slots e one n) old mid → Marks (IsLinkAcross slots e other n) mid new → Marks (IsLinkFrom slots e p n) old new
from_marks slots e p n cube one other old mid new c h k =
    marks_then (IsLinkAcross slots e one n) (IsLinkAcross slots e other n) (IsLinkFrom slots e p n) old mid new
    (λ row x.
    let g = x.2 in
    elim (two_either slots cube one other p x.0 g.0 h k (subst (λ y. IsTwoApart slots y p x.0 g.0) (sym c) g.2)) [
      | inl y ↦ inl (x.0, x.1, (g.0, g.1, y, g.3))
      | inr y ↦ inr (x.0, x.1, (g.0, g.1, y, g.3))
    ])

-- ---- the third cube

pub third_two : (n : ℕ) (slots : List Cube) (k e p q : ℕ) (x y a b : Cube) (old mid new : List Bool) → x ≡ at slots k → y ≡ at slots e → differing n x y ≡ p ∷ q ∷ []
    → a ≡ with_third y x p → b ≡ with_third y x q
    → Marks (IsLinkAcross slots e a n) old mid → Marks (IsLinkAcross slots e b n) mid new → Marks (IsThird n slots k e) old new
third_two n slots k e p q x y a b old mid new ex ey d ea eb = grind (arith, marks_then, as_named)

-- ---- the rows that have to be due

third_listed : (n m : ℕ) (slots new : List Cube) (cube : Cube) (near : List ℕ) (k e row : ℕ) (r : List ℕ) → IsNearList n slots cube near → full slots e ≡ true
    → differing n cube (at slots e) ≡ r → IsThirdBy r m new k e row → Lists near e
third_listed n m slots new cube near k e row r h h2 h3 h4 = grind arith

-- a row of a listed slot
listed_due : (n : ℕ) (new : List Cube) (cube : Cube) (near : List ℕ) (c e row : ℕ) (old_rows rows : List Bool) → slot_of new cube ≡ Some c
    → Marks (IsExorlinking n new cube near) old_rows rows → Lists near e → IsNear n new c e row → is_due rows row ≡ true
listed_due n new cube near c e row old_rows rows found m l x =
    m.gets row (c, found, (l.0, l.1, subst (λ b. IsNear n new c b row) (sym l.2) x))

pub pairs_due : (n : ℕ) (cube : Cube) (old new : List Cube) (near : List ℕ) (merges exorlinks new_merges new_exorlinks : List Bool)
    → All (IsCube n MOST_OUTPUTS) new → IsKeyed new → length exorlinks ≡ length new → IsListedNear n old cube exorlinks near
    → Marks (IsMerging n new cube) merges new_merges → Marks (IsExorlinking n new cube near) exorlinks new_exorlinks
    → PairsDue n cube old new new_merges new_exorlinks
pairs_due n cube old new near merges exorlinks new_merges new_exorlinks valid keyed len listed m x =
    let stands : (c : ℕ) → full new c ≡ true → is_alike (at new c) cube ≡ true → slot_of new cube ≡ Some c =
    λ c f a. slot_of-alike new cube c (slot_of new cube) refl keyed f a in
    let all_due : (a b : ℕ) → full new a ≡ true → full new b ≡ true → ((r : ℕ) → r < length exorlinks → is_due exorlinks r ≡ true) → is_due new_exorlinks (lower a b) ≡ true =
    λ a b fa fb h. x.stays (lower a b) (h (lower a b) (subst (λ k. lower a b < k) (sym len) (lower_within a b (length new) (full_within new a fa) (full_within new b fb)))) in
    let as_cube : (c g : ℕ) → is_alike (at new c) cube ≡ true → at new g ≡ at old g → differing n cube (at old g) ≡ differing n (at new c) (at new g) =
    λ c g a s. alike_from_another n cube (at new c) (at old g) (is_alike-comm (at new c) cube a) ∙ ap (differing n (at new c)) (sym s) in
    record {
      merging_due = λ c f a g fg j.
          let k = and_parts (eqb (at new c).outs (at new g).outs) (eqb (length (differing n (at new c) (at new g))) 1) j in
          let q = one_is (differing n (at new c) (at new g)) k.1 in
          let b = partner_key n MOST_OUTPUTS (at new c) (at new g) q.0 (at_valid n MOST_OUTPUTS new c valid) (at_valid n MOST_OUTPUTS new g valid) q.1 in
          m.gets (lower c g) (c, stands c f a, (q.0, (differing_as n (at new c) (at new g) (q.0 ∷ []) q.1).0, (g, fg, b, (eqb-true _ _ k.0, refl))));
      pair_due = λ c f a g p q s fg o d. elim listed.listed [
        | inl h ↦ all_due c g f fg h
        | inr h ↦
            let l : Lists near g = h.two g p q (ap carries (sym s) ∙ fg) (as_cube c g a s ∙ d) in
            listed_due n new cube near c g (lower c g) exorlinks new_exorlinks (stands c f a) x l (inl (o, refl))
      ];
      third_due = λ c f a e g u w ne s fe fg o d j. elim listed.listed [
        | inl h ↦ all_due e g fe fg h
        | inr h ↦
            let t = third_linked n new c e g u w valid keyed ne f fe fg o d j in
            let l : Lists near e = third_listed n n old new cube near c e (lower e g) (differing n (at new c) (at new e)) h (ap carries (sym s) ∙ fe) (as_cube c e a s) t in
            listed_due n new cube near c e (lower e g) exorlinks new_exorlinks (stands c f a) x l (inr t)
      ];
    }
