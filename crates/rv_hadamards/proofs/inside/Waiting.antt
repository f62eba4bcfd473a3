-- One operation more, before which an H waits or not.
use Rattle.std.proofs.Common.{◌≡◌, ℕ, zero, suc, ◌+◌, ◌<◌, Bool, true, false, List, [], ◌∷◌, ◌++◌, length, drop, get_or, Some, refl, sym, ap, ◌∙◌, arith, subst, append_assoc, append-nil}
use Rattle.std.proofs.lemmas.List.{drop_more}
use Rattle.rv_net.specs.Op.{OpFitsIn}
use Rattle.rv_net.specs.declared.op.Op.{Op}
use Rattle.rv_net.specs.declared.op.Op.TheVariants.{H}
use Rattle.rv_hadamards.specs.Becomes.{Becomes}
use Rattle.rv_hadamards.specs.Turned.{turned}
use Rattle.rv_hadamards.specs.inside.Steps.{IsStep, waiting}
use Rattle.rv_hadamards.proofs.Becoming.{before_becomes, becomes_before, itself, moves_on, then_becomes, two_go}

-- nothing waits, and the operation stands as it is
pub stays : (line : ℕ) (op : Op) (old new : List Op) → new ≡ old ++ op ∷ [] → IsStep line false op false old new
stays line op old new is = record { part = op ∷ []; is = is; becomes = λ n below fits. itself n (op ∷ []) }

-- an H begins to wait
pub begins : (line : ℕ) (op : Op) (old new : List Op) → new ≡ old → op ≡ H line → IsStep line false op true old new
begins line op old new is h = record {
  part = [];
  is = is ∙ sym (append-nil old);
  becomes = λ n below fits. subst (λ (o : Op). Becomes n (o ∷ []) (H line ∷ [])) (sym h) (itself n (H line ∷ []));
}

-- it goes with another one
pub ends : (line : ℕ) (op : Op) (old new : List Op) → new ≡ old → op ≡ H line → IsStep line true op false old new
ends line op old new is h = record {
  part = [];
  is = is ∙ sym (append-nil old);
  becomes = λ n below fits. subst (λ (o : Op). Becomes n (H line ∷ o ∷ []) []) (sym h) (two_go n line below);
}

-- it moves past the operation
pub moves : (line : ℕ) (op other : Op) (old new : List Op) → new ≡ old ++ other ∷ [] → turned line op ≡ Some other → IsStep line true op true old new
moves line op other old new is e = record { part = other ∷ []; is = is; becomes = λ n below fits. moves_on n line op other e below fits }

-- it stays before the operation
pub stops : (line : ℕ) (op : Op) (old mid new : List Op) → mid ≡ old ++ H line ∷ [] → new ≡ mid ++ op ∷ [] → IsStep line true op false old new
stops line op old mid new first second = record {
  part = H line ∷ op ∷ [];
  is = second ∙ ap (λ l. l ++ op ∷ []) first ∙ append_assoc old (H line ∷ []) (op ∷ []);
  becomes = λ n below fits. itself n (H line ∷ op ∷ []);
}

-- one step of all
pub next : (n line : ℕ) (waits after : Bool) (ops old new : List Op) (i : ℕ) (d : Op) → i < length ops → line < n → OpFitsIn (get_or ops i d) n
    → IsStep line waits (get_or ops i d) after old new → Becomes n ops (old ++ (waiting line waits ++ drop i ops)) → Becomes n ops (new ++ (waiting line after ++ drop (i + 1) ops))
next n line waits after ops old new i d within below fits step before =
    let op = get_or ops i d in
    let rest = drop (i + 1) ops in
    let one : old ++ (waiting line waits ++ drop i ops) ≡ old ++ ((waiting line waits ++ op ∷ []) ++ rest) =
    ap (λ l. old ++ (waiting line waits ++ l)) (drop_more ops i d within) ∙ ap (λ l. old ++ l) (sym (append_assoc (waiting line waits) (op ∷ []) rest)) in
    let two : old ++ ((step.part ++ waiting line after) ++ rest) ≡ new ++ (waiting line after ++ rest) =
    ap (λ l. old ++ l) (append_assoc step.part (waiting line after) rest) ∙ sym (append_assoc old step.part (waiting line after ++ rest))
    ∙ ap (λ l. l ++ (waiting line after ++ rest)) (sym step.is) in
    let moved : Becomes n (old ++ ((waiting line waits ++ op ∷ []) ++ rest)) (old ++ ((step.part ++ waiting line after) ++ rest)) =
    before_becomes n old ((waiting line waits ++ op ∷ []) ++ rest) ((step.part ++ waiting line after) ++ rest)
    (becomes_before n (waiting line waits ++ op ∷ []) (step.part ++ waiting line after) rest (step.becomes n below fits)) in
    then_becomes n ops (old ++ (waiting line waits ++ drop i ops)) (new ++ (waiting line after ++ rest)) before
    (subst (λ (l : List Op). Becomes n l (new ++ (waiting line after ++ rest))) (sym one) (subst (λ (l : List Op). Becomes n (old ++ ((waiting line waits ++ op ∷ []) ++ rest)) l) two moved))

pub drop_all : (i : ℕ) (ops : List Op) → length ops ≡ i → drop i ops ≡ []
drop_all zero [] e = refl
drop_all zero (o ∷ ops) e = absurd (omega arith)
drop_all (suc i) [] e = absurd (omega arith)
drop_all (suc i) (o ∷ ops) e = drop_all i ops (omega arith)
