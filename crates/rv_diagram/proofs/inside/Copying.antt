-- Functions of a diagram copied into another one.
use Rattle.std.proofs.Common.{◌≡◌, ℕ, ◌+◌, ◌<◌, ◌≤◌, ◌≢◌, inl, inr, Bool, true, false, cond, List, [], ◌∷◌, length, get_or, set, All, refl, sym, ap, ◌∙◌, arith, length-set}
use Rattle.std.proofs.lemmas.List.{ext_get_or, get_or-map, get_or_default, get_or-set_same, get_or-set_other, length-map}
use Rattle.std.proofs.lemmas.Bool.{cases_eq}
use Rattle.rv_gate.specs.Word.{bit_of}
use Rattle.rv_gate.specs.Gate.{xor}
use Rattle.rv_gate.specs.declared.gate.Shape.{Shape}
use Rattle.rv_diagram.specs.declared.edge.Edge.{Edge}
use Rattle.rv_diagram.specs.declared.edge.Node.{Node}
use Rattle.rv_diagram.specs.Diagram.{AreStill, HaveRun, IsEdge, IsNumberOf, Keeps, branch_value, turned_by, value, word_at}
use Rattle.rv_diagram.specs.inside.Copies.{AreCopies, IsCopy, upright}
use Rattle.rv_diagram.proofs.Values.{keeps_on, keeps_self, value_turned}
use Rattle.rv_diagram.proofs.Joins.{zero_value}
use Rattle.rv_diagram.proofs.Lines.{bit_at_line, edges_on, word_on}

pub copy_on : (old now next : List Node) (e made : Edge) → Keeps now next → IsCopy old now e made → IsCopy old next e made
copy_on old now next e made k is = record {
  within = omega (arith, k.longer, is.within);
  value = λ x. k.same made x is.within ∙ is.value x;
}

pub copies_on : (old now next : List Node) (copies : List Edge) → Keeps now next → AreCopies old now copies → AreCopies old next copies
copies_on old now next copies k are = λ number d lt some. copy_on old now next (upright number) (get_or copies number d) k (are number d lt some)

upright_turned : (t : Bool) → xor false t ≡ t
upright_turned true = refl
upright_turned false = refl

pub copied_turned : (old new : List Node) (edge made : Edge) → IsCopy old new (upright edge.node) made → IsCopy old new edge (turned_by made edge.turned)
copied_turned old new edge made is = record {
  within = is.within;
  value = λ x.
      value_turned new made edge.turned x
      ∙ ap (λ b. xor b edge.turned) (is.value x)
      ∙ sym (value_turned old (upright edge.node) edge.turned x)
      ∙ ap (λ t. value old (record { node = edge.node; turned = t }) x) (upright_turned edge.turned);
}

pub copies_set : (old new : List Node) (copies : List Edge) (place : ℕ) (made : Edge) → place < length copies → IsCopy old new (upright place) made → AreCopies old new copies
    → AreCopies old new (set copies place made)
copies_set old new copies place made lt is are = λ number d lt_n some.
    elim (cases_eq number place) as (λ _. IsCopy old new (upright number) (get_or (set copies place made) number d)) [
      | inl same ↦
          rw same (rw (get_or-set_same copies place made d lt) is)
      | inr other ↦
          let there : get_or (set copies place made) number d ≡ get_or copies number d = get_or-set_other copies place number made d other in
          rw there (are number d (omega (arith, lt_n, length-set copies place made)) (rw there at some))
    ]

pub no_copies : (old new : List Node) (copies : List Edge) → All (λ e. e ≡ upright 0) copies → AreCopies old new copies
no_copies old new copies blank = λ number d lt some.
    let none : (get_or copies number d).node ≡ 0 = ap (λ (e : Edge). e.node) (blank number d lt) in
    absurd (omega (arith, some, none))

pub copy_constant : (old new : List Node) (edge : Edge) → edge.node ≡ 0 → IsCopy old new edge edge
copy_constant old new edge is = record {
  within = omega (arith, is);
  value = λ x. zero_value new edge x is ∙ sym (zero_value old edge x is);
}

-- a node's copy, by those of what it leads to
pub copied_branch : (old first second last : List Node) (edge low high made : Edge) (node : Node) → IsNumberOf old node edge.node
    → IsCopy old first node.low low → Keeps first second → IsCopy old second node.high high → IsEdge last made
    → ((x : List Bool) → value last made x ≡ cond (bit_of x node.input) (value second high x) (value second low x))
    → IsCopy old last (upright edge.node) made
copied_branch old first second last edge low high made node is is_low k is_high within at = record {
  within = within;
  value = λ x.
      at x
      ∙ rw (is_high.value x, k.same low x is_low.within, is_low.value x) refl
      ∙ sym (is.value false x ∙ upright_same (branch_value old node x));
}
  where
    upright_same : (b : Bool) → xor b false ≡ b
    upright_same true = refl
    upright_same false = refl

-- ---- all of them

-- edges before a place are copied
pub record AreCopied (old start now : List Node) (copies given edges : List Edge) (place : ℕ) : Type 0 where
  pub keeps : Keeps start now
  pub right : AreCopies old now copies
  pub count : length edges ≡ length given
  pub before : (k : ℕ) (d : Edge) → k < place → k < length given → IsCopy old now (get_or given k d) (get_or edges k d)
  pub after : (k : ℕ) (d : Edge) → place ≤ k → get_or edges k d ≡ get_or given k d

pub copied_none : (old start : List Node) (copies given : List Edge) → AreCopies old start copies → AreCopied old start start copies given given 0
copied_none old start copies given are = record {
  keeps = keeps_self start;
  right = are;
  count = refl;
  before = λ k d lt. absurd (omega (arith, lt));
  after = λ k d le. refl;
}

pub copied_more : (old start now next : List Node) (copies more given edges : List Edge) (place : ℕ) (d made : Edge) → place < length edges
    → AreCopied old start now copies given edges place → Keeps now next → AreCopies old next more → IsCopy old next (get_or edges place d) made
    → AreCopied old start next more given (set edges place made) (place + 1)
copied_more old start now next copies more given edges place d made lt h k are is = record {
  keeps = keeps_on start now next h.keeps k;
  right = are;
  count = length-set edges place made ∙ h.count;
  before = λ n e lt_n lt_g.
      elim (cases_eq n place) as (λ _. IsCopy old next (get_or given n e) (get_or (set edges place made) n e)) [
        | inl same ↦
            let was : get_or edges place d ≡ get_or given n e = get_or_default edges place d e lt ∙ h.after place e (omega arith) ∙ sym (ap (λ m. get_or given m e) same) in
            let there : get_or (set edges place made) n e ≡ made = ap (λ m. get_or (set edges place made) m e) same ∙ get_or-set_same edges place made e lt in
            rw (there, sym was) is
        | inr other ↦
            let there : get_or (set edges place made) n e ≡ get_or edges n e = get_or-set_other edges place n made e other in
            rw there (copy_on old now next (get_or given n e) (get_or edges n e) k (h.before n e (before_more n place lt_n other) lt_g))
      ];
  after = λ n e le. get_or-set_other edges place n made e (λ same. not_same n place le same) ∙ h.after n e (omega (arith, le));
}
  where
    before_more : (n place : ℕ) → n < place + 1 → n ≢ place → n < place
    before_more n place lt other = omega (arith, lt, other)

    not_same : (n place : ℕ) → place + 1 ≤ n → n ≡ place → ⊥
    not_same n place le same = omega (arith, le, same)

pub copied_all : (old start now : List Node) (copies given edges : List Edge) (place : ℕ) → length edges ≤ place → AreCopied old start now copies given edges place → AreStill old now given edges
copied_all old start now copies given edges place le h = record {
  count = h.count;
  edges = λ k d lt. (h.before k d (omega (arith, lt, le)) (omega (arith, lt, h.count))).within;
  word = λ x.
      ext_get_or false (word_at now edges x) (word_at old given x) (length-map edges (λ e. value now e x) ∙ h.count ∙ sym (length-map given (λ e. value old e x)))
      (λ k lt.
      let here : k < length edges = omega (arith, lt, length-map edges (λ e. value now e x)) in
      let there : k < length given = omega (arith, here, h.count) in
      get_or-map (λ e. value now e x) edges k (upright 0) false here
      ∙ (h.before k (upright 0) (omega (arith, here, le)) there).value x
      ∙ sym (get_or-map (λ e. value old e x) given k (upright 0) false there));
}

-- ---- edges that stand for the same

pub still_on : (old now next : List Node) (given edges : List Edge) → AreStill old now given edges → Keeps now next → AreStill old next given edges
still_on old now next given edges h k = record {
  count = h.count;
  edges = edges_on now next edges k h.edges;
  word = λ x. word_on now next edges x k h.edges ∙ h.word x;
}

pub still_self : (nodes : List Node) (edges : List Edge) → All (IsEdge nodes) edges → AreStill nodes nodes edges edges
still_self nodes edges are = record { count = refl; edges = are; word = λ x. refl }

pub still_then : (old now next : List Node) (before edges after : List Edge) (gates : List Shape) → HaveRun old now before edges gates → AreStill now next edges after
    → HaveRun old next before after gates
still_then old now next before edges after gates h is = record {
  count = is.count ∙ h.count;
  edges = is.edges;
  word = λ x. is.word x ∙ h.word x;
}

-- the only one of them
pub first_still : (old new : List Node) (e d : Edge) (after : List Edge) → AreStill old new (e ∷ []) after → (x : List Bool) → value new (get_or after 0 d) x ≡ value old e x
first_still old new e d after h x = sym (bit_at_line new after 0 d x (omega (arith, h.count))) ∙ ap (λ w. bit_of w 0) (h.word x)

pub first_edge : (old new : List Node) (e d : Edge) (after : List Edge) → AreStill old new (e ∷ []) after → IsEdge new (get_or after 0 d)
first_edge old new e d after h = h.edges 0 d (omega (arith, h.count))
