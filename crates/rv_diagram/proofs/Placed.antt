-- Words put in among constants, and outputs kept.
use Rattle.std.proofs.Common.{◌≡◌, ℕ, zero, suc, ◌+◌, ◌<◌, ◌≤◌, Bool, true, false, cond, not, List, [], ◌∷◌, ◌++◌, length, get_or, set, take, drop, All, refl, sym, ap, ◌∙◌, arith, append_assoc}
use mir.Val.{bool_byte}
use Rattle.std.proofs.lemmas.List.{map-append, length-map, take_more_set, drop_more, drop-set-lt, take_all, drop_all, append-nil, length-take-le}
use Rattle.std.proofs.lemmas.List.Elements.{All-set}
use Rattle.rv_gate.specs.Word.{bit_of}
use Rattle.rv_gate.specs.Gate.{same, xor}
use Rattle.rv_gate.specs.Marks.{output_count, takes_input, with_constants, without_garbage}
use Rattle.rv_gate.specs.declared.circuit.Mark.{Mark}
use Rattle.rv_gate.specs.declared.circuit.Mark.TheVariants.{Input, Zero, One}
use Rattle.rv_gate.proofs.Marks.{length-without_garbage}
use Rattle.rv_diagram.specs.declared.edge.Edge.{Edge}
use Rattle.rv_diagram.specs.declared.edge.Node.{Node}
use Rattle.rv_diagram.specs.Diagram.{value, word_at, turned_by, put_bit, IsEdge, Keeps}
use Rattle.rv_diagram.proofs.Values.{keeps_self, keeps_on, value_constant, value_turned}
use Rattle.rv_diagram.proofs.Lines.{word_on, edges_on}

-- ---- small steps

pub literal_value : (nodes : List Node) (x : List Bool) (b : Bool) → cond b (value nodes (record { node = 0; turned = true }) x) (value nodes (record { node = 0; turned = false }) x) ≡ b
literal_value nodes x true = value_constant nodes true x
literal_value nodes x false = value_constant nodes false x

pub control_value : (nodes : List Node) (line : Edge) (wanted : Bool) (x : List Bool) → value nodes (turned_by line (not wanted)) x ≡ same (value nodes line x) wanted
control_value nodes line wanted x = value_turned nodes line (not wanted) x ∙ turned (value nodes line x) wanted
  where
    turned : (a b : Bool) → xor a (not b) ≡ same a b
    turned true true = refl
    turned true false = refl
    turned false true = refl
    turned false false = refl

-- ---- words put in

input_first : (marks : List Mark) (x : List Bool) (bit : ℕ) → with_constants (Input ∷ marks) (drop bit x) ≡ bit_of x bit ∷ with_constants marks (drop (bit + 1) x)
unfolding with_constants
input_first marks [] zero = refl
input_first marks [] (suc bit) = let e : suc bit + 1 ≡ suc (bit + 1) = omega arith in rw e refl
input_first marks (b ∷ x) zero = refl
input_first marks (b ∷ x) (suc bit) =
    let e : suc bit + 1 ≡ suc (bit + 1) = omega arith in
    input_first marks x bit ∙ sym (ap (λ n. bit_of x bit ∷ with_constants marks (drop n (b ∷ x))) e)

put_first : (mark : Mark) (marks : List Mark) (x : List Bool) (bit : ℕ)
    → with_constants (mark ∷ marks) (drop bit x) ≡ put_bit mark (bit_of x bit) ∷ with_constants marks (drop (bit + bool_byte (takes_input mark)) x)
unfolding with_constants
put_first Input marks x bit = input_first marks x bit
put_first Zero marks x bit = let e : bit + 0 ≡ bit = omega arith in rw e refl
put_first One marks x bit = let e : bit + 0 ≡ bit = omega arith in rw e refl

-- the lines before one hold their bits, so many of which come from the word
pub record ArePut (start now : List Node) (marks : List Mark) (lines : List Edge) (line bit : ℕ) : Type 0 where
  pub keeps : Keeps start now
  pub few : bit ≤ line
  pub edges : All (IsEdge now) lines
  pub words : (x : List Bool) → word_at now (take line lines) x ++ with_constants (drop line marks) (drop bit x) ≡ with_constants marks x

pub put_none : (nodes : List Node) (marks : List Mark) (lines : List Edge) → All (IsEdge nodes) lines → ArePut nodes nodes marks lines 0 0
put_none nodes marks lines are = record { keeps = keeps_self nodes; few = omega arith; edges = are; words = λ x. refl }

All-cons : {X : Type 0} (P : X → Type 0) (x : X) (xs : List X) → P x → All P xs → (i : ℕ) (d : X) → i < length (x ∷ xs) → P (get_or (x ∷ xs) i d)
All-cons P x xs here are zero d lt = here
All-cons P x xs here are (suc i) d lt = are i d (omega arith)

pub All-take : {X : Type 0} (P : X → Type 0) (xs : List X) (n : ℕ) → All P xs → All P (take n xs)
All-take P [] zero are = are
All-take P [] (suc n) are = are
All-take P (x ∷ xs) zero are = λ i d lt. absurd (omega arith)
All-take P (x ∷ xs) (suc n) are = All-cons P x (take n xs) (are 0 x (omega arith)) (All-take P xs n (λ i d lt. are (suc i) d (omega arith)))

count_few : (bit line : ℕ) (b : Bool) → bit ≤ line → bit + bool_byte b ≤ line + 1
count_few bit line true le = omega arith
count_few bit line false le = omega arith

pub put_more : (start now next : List Node) (marks : List Mark) (lines : List Edge) (line bit : ℕ) (d : Mark) (edge : Edge) → line < length lines → line < length marks
    → ArePut start now marks lines line bit → Keeps now next → IsEdge next edge → ((x : List Bool) → value next edge x ≡ put_bit (get_or marks line d) (bit_of x bit))
    → ArePut start next marks (set lines line edge) (line + 1) (bit + bool_byte (takes_input (get_or marks line d)))
put_more start now next marks lines line bit d edge lt lt_m h k is v =
    let mark : Mark = get_or marks line d in
    let more : drop line marks ≡ get_or marks line d ∷ drop (line + 1) marks = drop_more marks line d lt_m in
    record {
      keeps = keeps_on start now next h.keeps k;
      few = count_few bit line (takes_input mark) h.few;
      edges = All-set (IsEdge next) lines line edge is (edges_on now next lines k h.edges);
      words = λ x.
          let left : List Bool = with_constants (drop (line + 1) marks) (drop (bit + bool_byte (takes_input mark)) x) in
          ap (λ ls. word_at next ls x ++ left) (take_more_set lines line edge lt)
          ∙ ap (λ w. w ++ left) (map-append (λ e. value next e x) (take line lines) (edge ∷ []))
          ∙ append_assoc (word_at next (take line lines) x) (value next edge x ∷ []) left
          ∙ ap (λ w. w ++ (value next edge x ∷ left)) (word_on now next (take line lines) x k (All-take (IsEdge now) lines line h.edges))
          ∙ ap (λ b. word_at now (take line lines) x ++ (b ∷ left)) (v x)
          ∙ ap (λ w. word_at now (take line lines) x ++ w) (sym (put_first mark (drop (line + 1) marks) x bit))
          ∙ ap (λ ms. word_at now (take line lines) x ++ with_constants ms (drop bit x)) (sym more)
          ∙ h.words x;
    }

pub put_all : (start now : List Node) (marks : List Mark) (lines : List Edge) (line bit : ℕ) → length lines ≤ line → length marks ≤ line → ArePut start now marks lines line bit
    → (x : List Bool) → word_at now lines x ≡ with_constants marks x
unfolding with_constants
put_all start now marks lines line bit few_l few_m h x =
    sym (ap (λ ls. word_at now ls x) (take_all line lines few_l))
    ∙ sym (append-nil (word_at now (take line lines) x))
    ∙ sym (ap (λ ms. word_at now (take line lines) x ++ with_constants ms (drop bit x)) (drop_all line marks few_m))
    ∙ h.words x

-- ---- outputs kept

pub record AreKept (garbage : List Bool) (given lines : List Edge) (line kept : ℕ) : Type 0 where
  pub few : kept ≤ line
  pub edges : (nodes : List Node) → All (IsEdge nodes) given → All (IsEdge nodes) lines
  pub words : (nodes : List Node) (x : List Bool)
      → word_at nodes (take kept lines) x ++ without_garbage (drop line garbage) (word_at nodes (drop line lines) x) ≡ without_garbage garbage (word_at nodes given x)

pub kept_none : (garbage : List Bool) (given : List Edge) → AreKept garbage given given 0 0
kept_none garbage given = record { few = omega arith; edges = λ nodes are. are; words = λ nodes x. refl }

keep_first : (garbage : List Bool) (lines : List Edge) (line : ℕ) (d : Edge) (nodes : List Node) (x : List Bool) → line < length garbage → line < length lines
    → without_garbage (drop line garbage) (word_at nodes (drop line lines) x)
    ≡ cond (get_or garbage line false) (without_garbage (drop (line + 1) garbage) (word_at nodes (drop (line + 1) lines) x))
    (value nodes (get_or lines line d) x ∷ without_garbage (drop (line + 1) garbage) (word_at nodes (drop (line + 1) lines) x))
unfolding without_garbage
keep_first garbage lines line d nodes x g r =
    let gs : drop line garbage ≡ get_or garbage line false ∷ drop (line + 1) garbage = drop_more garbage line false g in
    let ls : drop line lines ≡ get_or lines line d ∷ drop (line + 1) lines = drop_more lines line d r in
    rw (gs, ls) (go (get_or garbage line false) (drop (line + 1) garbage) (value nodes (get_or lines line d) x) (word_at nodes (drop (line + 1) lines) x))
  where
    go : (b : Bool) (rest : List Bool) (bit : Bool) (word : List Bool) → without_garbage (b ∷ rest) (bit ∷ word) ≡ cond b (without_garbage rest word) (bit ∷ without_garbage rest word)
    go true rest bit word = refl
    go false rest bit word = refl

pub kept_same : (garbage : List Bool) (given lines : List Edge) (line kept : ℕ) (d : Edge) → line < length garbage → line < length lines → get_or garbage line false ≡ true → AreKept garbage given lines line kept
    → AreKept garbage given lines (line + 1) kept
kept_same garbage given lines line kept d g r is h = record {
  few = omega (arith, h.few);
  edges = h.edges;
  words = λ nodes x. let first = keep_first garbage lines line d nodes x g r in ap (λ w. word_at nodes (take kept lines) x ++ w) (sym (rw is at first)) ∙ h.words nodes x;
}

pub kept_more : (garbage : List Bool) (given lines : List Edge) (line kept : ℕ) (d : Edge) → line < length garbage → line < length lines → get_or garbage line false ≡ false
    → AreKept garbage given lines line kept → AreKept garbage given (set lines kept (get_or lines line d)) (line + 1) (kept + 1)
kept_more garbage given lines line kept d g r is h =
    let edge : Edge = get_or lines line d in
    record {
      few = omega (arith, h.few);
      edges = λ nodes are. let all = h.edges nodes are in All-set (IsEdge nodes) lines kept edge (all line d r) all;
      words = λ nodes x.
          let left : List Bool = without_garbage (drop (line + 1) garbage) (word_at nodes (drop (line + 1) lines) x) in
          let first = keep_first garbage lines line d nodes x g r in
          ap (λ ls. word_at nodes ls x ++ without_garbage (drop (line + 1) garbage) (word_at nodes (drop (line + 1) (set lines kept edge)) x)) (take_more_set lines kept edge (omega (arith, h.few)))
          ∙ ap (λ ls. word_at nodes (take kept lines ++ edge ∷ []) x ++ without_garbage (drop (line + 1) garbage) (word_at nodes ls x)) (drop-set-lt (line + 1) lines kept edge (omega (arith, h.few)))
          ∙ ap (λ w. w ++ left) (map-append (λ e. value nodes e x) (take kept lines) (edge ∷ []))
          ∙ append_assoc (word_at nodes (take kept lines) x) (value nodes edge x ∷ []) left
          ∙ ap (λ w. word_at nodes (take kept lines) x ++ w) (sym (rw is at first))
          ∙ h.words nodes x;
    }

pub kept_all : (garbage : List Bool) (given lines : List Edge) (line kept : ℕ) → length garbage ≤ line → length lines ≤ line → AreKept garbage given lines line kept
    → (nodes : List Node) (x : List Bool) → word_at nodes (take kept lines) x ≡ without_garbage garbage (word_at nodes given x)
unfolding without_garbage
kept_all garbage given lines line kept few_g few_l h nodes x =
    sym (append-nil (word_at nodes (take kept lines) x))
    ∙ sym (ap (λ gs. word_at nodes (take kept lines) x ++ without_garbage gs (word_at nodes (drop line lines) x)) (drop_all line garbage few_g))
    ∙ h.words nodes x

pub kept_count : (garbage : List Bool) (given lines : List Edge) (kept : ℕ) → length garbage ≡ length given → kept ≤ length lines
    → word_at [] (take kept lines) [] ≡ without_garbage garbage (word_at [] given []) → kept ≡ output_count garbage
kept_count garbage given lines kept same few is =
    sym (length-take-le kept lines few)
    ∙ sym (length-map (take kept lines) (λ e. value [] e []))
    ∙ ap length is
    ∙ length-without_garbage garbage (word_at [] given []) (length-map given (λ e. value [] e []) ∙ sym same)
