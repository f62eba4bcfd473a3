-- Chains, as operations come and go.
use Rattle.std.proofs.Common.{◌≡◌, ◌≢◌, ℕ, zero, suc, ◌+◌, ◌<◌, ◌≤◌, Bool, true, cond, List, [], ◌∷◌, ◌++◌, length, get_or, set, refl, sym, ap, ◌∙◌, arith, inl, inr, ◌⊎◌, subst, Some, None, Option}
use Rattle.std.specs.Prelude.{slice_get, replicate}
use Rattle.std.proofs.lemmas.Bool.{cases_eq, cases_lt}
use Rattle.std.proofs.lemmas.List.{get_or-replicate, get_or-set_same, get_or-set_other, length-replicate}
use Rattle.std.proofs.lemmas.Option.{none-some, same_Some, slice_get_within}
use Rattle.rv_gate.specs.Word.{has}
use Rattle.rv_gate.proofs.LowestLine.{IsLowest}
use Rattle.rv_net.specs.declared.op.Op.{Op}
use Rattle.rv_pairs.specs.declared.chains.Node.{Node}
use Rattle.rv_pairs.specs.declared.chains.Chains.{Chains}
use Rattle.rv_pairs.specs.inside.Cells.{Cells, StandsAt}
use Rattle.rv_pairs.specs.inside.Chained.{AreChains, Chain, IsLatest, NoneFrom, ends, links}

-- ---- places in lists

pub slice_get-left : {A : Type 0} (a b : List A) (i : ℕ) → i < length a → slice_get (a ++ b) i ≡ slice_get a i
slice_get-left [] b i h = absurd (omega arith)
slice_get-left (x ∷ a) b zero h = refl
slice_get-left (x ∷ a) b (suc i) h = slice_get-left a b i (omega arith)

pub slice_get-last : {A : Type 0} (a : List A) (x : A) → slice_get (a ++ x ∷ []) (length a) ≡ Some x
slice_get-last [] x = refl
slice_get-last (y ∷ a) x = slice_get-last a x

-- what stands at a place still, after another operation is left out
pub stood_before : (cells : Cells) (j k : ℕ) (o : Op) → StandsAt (set cells j None) k o → StandsAt cells k o × (k ≢ j)
stood_before [] j k o h = absurd (none-some _ h)
stood_before (c ∷ cells) zero zero o h = absurd (none-some _ (same_Some _ _ h))
stood_before (c ∷ cells) zero (suc k) o h = (h, λ e. (let f : ⊥ = omega arith in f))
stood_before (c ∷ cells) (suc j) zero o h = (h, λ e. (let f : ⊥ = omega arith in f))
stood_before (c ∷ cells) (suc j) (suc k) o h = let r = stood_before cells j k o h in (r.0, λ e. r.1 (omega arith))

-- ---- what a link is

pub record IsLink (cells : Cells) (nodes : List Node) (belongs : Op → Bool) (link to : ℕ) : Type 0 where
  pub at : ℕ
  pub node : Node
  pub is : link ≡ suc at
  pub there : slice_get nodes at ≡ Some node
  pub early : node.place < to
  pub none : NoneFrom cells belongs (suc node.place) to
  pub own : (o : Op) → StandsAt cells node.place o → belongs o ≡ true
  pub rest : Chain cells nodes belongs node.below node.place

pub view : (cells : Cells) (nodes : List Node) (belongs : Op → Bool) (link to : ℕ) → Chain cells nodes belongs link to
    → ((link ≡ 0) × NoneFrom cells belongs 0 to) ⊎ IsLink cells nodes belongs link to
view cells nodes belongs link to h = grind arith

-- ---- a node more, an operation more, an operation less, and a place further on

pub node_more : (cells : Cells) (nodes : List Node) (new : Node) (belongs : Op → Bool) (link to : ℕ) → Chain cells nodes belongs link to → Chain cells (nodes ++ new ∷ []) belongs link to
node_more cells nodes new belongs _ _ (ends to none) = ends to none
node_more cells nodes new belongs _ _ (links at to node there early none own rest) =
    links at to node (slice_get-left nodes (new ∷ []) at (slice_get_within nodes at node there) ∙ there) early none own
    (node_more cells nodes new belongs node.below node.place rest)

pub stands_left : (cells : Cells) (new : Option Op) (k : ℕ) (o : Op) → k < length cells → StandsAt (cells ++ new ∷ []) k o → StandsAt cells k o
stands_left cells new k o lt h = sym (slice_get-left cells (new ∷ []) k lt) ∙ h

pub cell_more : (cells : Cells) (new : Option Op) (nodes : List Node) (belongs : Op → Bool) (link to : ℕ) → to ≤ length cells → Chain cells nodes belongs link to
    → Chain (cells ++ new ∷ []) nodes belongs link to
cell_more cells new nodes belongs _ _ le (ends to none) = ends to (λ k o from lt h. none k o from lt (stands_left cells new k o (omega arith) h))
cell_more cells new nodes belongs _ _ le (links at to node there early none own rest) =
    links at to node there early (λ k o from lt h. none k o from lt (stands_left cells new k o (omega arith) h))
    (λ o h. own o (stands_left cells new node.place o (omega arith) h))
    (cell_more cells new nodes belongs node.below node.place (omega arith) rest)

pub cell_less : (cells : Cells) (j : ℕ) (nodes : List Node) (belongs : Op → Bool) (link to : ℕ) → Chain cells nodes belongs link to → Chain (set cells j None) nodes belongs link to
cell_less cells j nodes belongs _ _ (ends to none) = ends to (λ k o from lt h. none k o from lt (stood_before cells j k o h).0)
cell_less cells j nodes belongs _ _ (links at to node there early none own rest) =
    links at to node there early (λ k o from lt h. none k o from lt (stood_before cells j k o h).0) (λ o h. own o (stood_before cells j node.place o h).0)
    (cell_less cells j nodes belongs node.below node.place rest)

none_on : (cells : Cells) (belongs : Op → Bool) (from middle to : ℕ) → NoneFrom cells belongs from middle → NoneFrom cells belongs middle to → NoneFrom cells belongs from to
none_on cells belongs from middle to first second k o le lt h =
    elim (cases_lt k middle) [
      | inl early ↦ first k o le early h
      | inr late ↦ second k o late lt h
    ]

pub further : (cells : Cells) (nodes : List Node) (belongs : Op → Bool) (link from to : ℕ) → from ≤ to → NoneFrom cells belongs from to → Chain cells nodes belongs link from
    → Chain cells nodes belongs link to
further cells nodes belongs _ _ to le more (ends from none) = ends to (none_on cells belongs 0 from to none more)
further cells nodes belongs _ _ to le more (links at from node there early none own rest) =
    links at to node there (omega arith) (none_on cells belongs (suc node.place) from to none more) own rest

-- a gap is passed over
pub past_gap : (cells : Cells) (nodes : List Node) (belongs : Op → Bool) (link to : ℕ) (is : IsLink cells nodes belongs link to) → ((o : Op) → StandsAt cells is.node.place o → ⊥)
    → Chain cells nodes belongs is.node.below to
past_gap cells nodes belongs link to is gap =
    let early = is.early in
    further cells nodes belongs is.node.below is.node.place to (omega arith)
    (none_on cells belongs is.node.place (suc is.node.place) to (λ k o le lt h. absurd (let e : k ≡ is.node.place = omega arith in gap o (subst (λ n. StandsAt cells n o) e h))) is.none) is.rest

-- ---- empty chains

pub chains_start : (belongs : ℕ → Op → Bool) (count : ℕ) (chains : Chains) → chains.heads.items ≡ replicate count 0 → chains.nodes.items ≡ [] → AreChains belongs [] 0 chains
chains_start belongs count chains heads nodes = record {
  each = λ slot lt.
      let few : slot < count = omega (arith, ap length heads, length-replicate {A = ℕ} count 0) in
      let zero_link : get_or chains.heads.items slot 0 ≡ 0 = ap (λ (l : List ℕ). get_or l slot 0) heads ∙ get_or-replicate count slot 0 0 few in
      subst (λ n. Chain [] chains.nodes.items (belongs slot) n 0) (sym zero_link) (ends 0 (λ k o le below h. absurd (omega arith)));
}

-- ---- the latest operation of a slot

pub latest_here : (cells : Cells) (nodes : List Node) (belongs : Op → Bool) (link : ℕ) (is : IsLink cells nodes belongs link (length cells)) (o : Op) → StandsAt cells is.node.place o
    → IsLatest cells belongs (is.node.place + 1)
latest_here cells nodes belongs link is o there = record {
  none = λ k p le lt h. is.none k p (omega arith) lt h;
  some = inr (is.node.place, (o, (refl, there, is.own o there)));
}

-- ---- a node is pushed

pub pushed_here : (cells : Cells) (nodes : List Node) (belongs : Op → Bool) (place below : ℕ) (o : Op) → StandsAt cells place o → belongs o ≡ true → Chain cells nodes belongs below place
    → Chain cells (nodes ++ record { place = place; below = below } ∷ []) belongs (length nodes + 1) (place + 1)
pushed_here cells nodes belongs place below o there own chain =
    let node : Node = record { place = place; below = below } in
    subst (λ n. Chain cells (nodes ++ node ∷ []) belongs n (place + 1)) (let e : suc (length nodes) ≡ length nodes + 1 = omega arith in e)
    (links (length nodes) (place + 1) node (slice_get-last nodes node) (omega arith) (λ k p le lt h. absurd (omega arith))
    (λ p h. ap belongs (same_Some _ _ (same_Some _ _ (sym h ∙ there))) ∙ own) (node_more cells nodes node belongs below place chain))

-- what stands at each slot while the slots of a set get a node more
pub added : (cells : Cells) (heads news : List ℕ) (nodes more : List Node) (belongs : Op → Bool) (left line rest place slot : ℕ) (o : Op) → IsLowest left line rest
    → news ≡ set heads line (length nodes + 1) → more ≡ nodes ++ record { place = place; below = get_or heads line 0 } ∷ [] → line < length heads → slot < 64
    → StandsAt cells place o → (slot ≡ line → belongs o ≡ true) → Chain cells nodes belongs (get_or heads slot 0) (cond (has left slot) place (place + 1))
    → Chain cells more belongs (get_or news slot 0) (cond (has rest slot) place (place + 1))
added cells heads news nodes more belongs left line rest place slot o lowest isheads isnodes within below there own old =
    let node : Node = record { place = place; below = get_or heads line 0 } in
    subst (λ n. Chain cells n belongs (get_or news slot 0) (cond (has rest slot) place (place + 1))) (sym isnodes)
    (subst (λ n. Chain cells (nodes ++ node ∷ []) belongs (get_or n slot 0) (cond (has rest slot) place (place + 1))) (sym isheads)
    (elim (cases_eq slot line) [
      | inl here ↦
          (let first : Chain cells nodes belongs (get_or heads slot 0) place =
          subst (λ b. Chain cells nodes belongs (get_or heads slot 0) (cond b place (place + 1))) (ap (has left) here ∙ lowest.there) old in
          let new : Chain cells (nodes ++ node ∷ []) belongs (length nodes + 1) (place + 1) =
          pushed_here cells nodes belongs place (get_or heads line 0) o there (own here) (subst (λ k. Chain cells nodes belongs (get_or heads k 0) place) here first) in
          subst (λ b. Chain cells (nodes ++ node ∷ []) belongs (get_or (set heads line (length nodes + 1)) slot 0) (cond b place (place + 1))) (sym (ap (has rest) here ∙ lowest.gone))
          (subst (λ n. Chain cells (nodes ++ node ∷ []) belongs n (place + 1))
          (sym (ap (λ k. get_or (set heads line (length nodes + 1)) k 0) here ∙ get_or-set_same heads line (length nodes + 1) 0 within)) new))
      | inr other ↦
          subst (λ b. Chain cells (nodes ++ node ∷ []) belongs (get_or (set heads line (length nodes + 1)) slot 0) (cond b place (place + 1))) (sym (lowest.same slot below other))
          (subst (λ n. Chain cells (nodes ++ node ∷ []) belongs n (cond (has left slot) place (place + 1))) (sym (get_or-set_other heads line slot (length nodes + 1) 0 other))
          (node_more cells nodes node belongs (get_or heads slot 0) _ old))
    ]))
