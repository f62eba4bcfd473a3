-- A text that is fed in pieces.
use Rattle.std.proofs.Common.{◌≡◌, ℕ, suc, ◌+◌, ◌-◌, ◌≤◌, ◌<◌, ◌⊎◌, Bool, true, false, not, cond, List, [], ◌∷◌, ◌++◌, length, take, drop, Result, Ok, Err, refl, sym, ap, ◌∙◌, inl, inr, arith, take-append-drop, drop-drop, nat_eq}
use Rattle.std.specs.Prelude.{OnOk}
use Rattle.std.proofs.lemmas.Bool.{not_from_false}
use Rattle.std.proofs.lemmas.List.{length-append, take_all, length-drop, length-take}
use Rattle.rv_text.specs.Lines.{ended_after, begun_after, last_line}
use Rattle.rv_text.specs.Held.{Held, TakesPiece}
use Rattle.rv_text.specs.Spelled.{IsOneLine}
use Rattle.rv_text.proofs.inside.Spelled.{list_all-push}
use Rattle.rv_text.proofs.Cuts.{ended_after-append, begun_after-append}
use Rattle.rv_text.specs.declared.fault.TextFault.{TextFault}
use Rattle.rv_reader.specs.declared.text_refusal.TextRefusal.{TextRefusal}
use Rattle.rv_reader.specs.declared.text_refusal.TextRefusal.TheVariants as refusals
use Rattle.rv_reader.specs.Rules.{Rules, ◌>>=◌, on_line, lines_read, with_count, whole_of}
use Rattle.rv_reader.specs.inside.Progress.{Progress, reading, refused, Feeding, lines_gave, fed_on, progress_of, StandsFor, told, as_is, finished, FedOn, Stops, IsBetweenLines, ended_read}
use Rattle.rv_reader.specs.Feeding.{Answers, faulted, checked}

-- no line holds a line feed

abbrev is_inner : ℕ → Bool
is_inner c = not (nat_eq c 10)

abbrev AreInner : List (List ℕ) → Type 0
AreInner [] = Unit {0}
AreInner (line ∷ lines) = IsOneLine line × AreInner lines

inner_lines : (begun bytes : List ℕ) → IsOneLine begun → AreInner (ended_after begun bytes) × IsOneLine (begun_after begun bytes)
inner_lines begun [] h = (tt, h)
inner_lines begun (c ∷ cs) h = elim (nat_eq c 10) as (λ t. nat_eq c 10 ≡ t → AreInner (cond t (begun ∷ ended_after [] cs) (ended_after (begun ++ c ∷ []) cs)) × IsOneLine (cond t (begun_after [] cs) (begun_after (begun ++ c ∷ []) cs))) [
  | true ↦ λ e. (let rest = inner_lines [] cs refl in ((h, rest.0), rest.1))
  | false ↦ λ e. inner_lines (begun ++ c ∷ []) cs (list_all-push is_inner begun c h (not_from_false _ e))
] refl

pub took_one_line : (old new : Held) (piece : List ℕ) (used : ℕ) (ready : Bool) → TakesPiece old piece used ready new → IsOneLine old.line → IsOneLine new.line
took_one_line old new piece used true took one = (rw took.ended at (inner_lines old.line (take used piece) one).0).0
took_one_line old new piece used false took one = rw took.begun at (inner_lines old.line (take used piece) one).1

-- an ended line has a line feed beside its bytes
pub ended_shorter : (begun bytes line : List ℕ) (lines : List (List ℕ)) → ended_after begun bytes ≡ line ∷ lines → length line < length begun + length bytes
ended_shorter begun [] line lines h = absurd cc
ended_shorter begun (c ∷ cs) line lines h = elim (nat_eq c 10) as (λ t. cond t (begun ∷ ended_after [] cs) (ended_after (begun ++ c ∷ []) cs) ≡ line ∷ lines → length line < length begun + suc (length cs)) [
  | true ↦ λ e. (let same : line ≡ begun = cc in rw same (omega arith))
  | false ↦ λ e. (let rest = ended_shorter (begun ++ c ∷ []) cs line lines e in omega (arith, rest, length-append begun (c ∷ [])))
] h

pub took_shorter : (old new : Held) (piece : List ℕ) (used : ℕ) (ready : Bool) → TakesPiece old piece used ready new → ready ≡ true → length new.line < length old.line + used
took_shorter old new piece used ready took is_ready =
    let ended : ended_after old.line (take used piece) ≡ new.line ∷ [] = took.ended ∙ ap (λ (b : Bool). cond b (new.line ∷ []) []) is_ready in
    omega (arith, ended_shorter old.line (take used piece) new.line [] ended, length-take used piece, took.within)

-- answers that hide their value

checked-Ok : {X : Type 0} (r : Result X TextFault) (begun : List ℕ) (number : ℕ) → told as_is (lines_gave begun number r) ≡ Ok tt → Ok tt ≡ checked refusals.Text r
checked-Ok (Ok x) begun number h = refl
checked-Ok (Err fault) begun number h = absurd cc

checked-Err : {X : Type 0} (r : Result X TextFault) (begun : List ℕ) (number : ℕ) (refusal : TextRefusal) → lines_gave begun number r ≡ refused refusal → Err refusal ≡ checked refusals.Text r
checked-Err (Ok x) begun number refusal h = absurd cc
checked-Err (Err fault) begun number refusal h = cc

lines_gave-Err : {X : Type 0} (r : Result X TextFault) (begun : List ℕ) (number : ℕ) (fault : TextFault) → lines_gave begun number r ≡ refused (refusals.Text fault) → r ≡ Err fault
lines_gave-Err (Ok x) begun number fault h = absurd cc
lines_gave-Err (Err other) begun number fault h = cc

module _ {S : Type 0} (rules : Rules S) where
  -- lines after lines
  pub lines_read-append : (before : ℕ) (s : S) (a b : List (List ℕ)) → lines_read rules before s (a ++ b) ≡ (lines_read rules before s a >>= λ t. lines_read rules (before + length a) t b)
  lines_read-append before s [] b = ap (λ (n : ℕ). lines_read rules n s b) (omega arith)
  lines_read-append before s (line ∷ lines) b = elim (on_line (before + 1) (rules.line_of s (before + 1) line)) as (λ r. (r >>= λ t. lines_read rules (before + 1) t (lines ++ b)) ≡ ((r >>= λ t. lines_read rules (before + 1) t lines) >>= λ t. lines_read rules (before + suc (length lines)) t b)) [
    | Ok t ↦ lines_read-append (before + 1) t lines b ∙ ap (λ (n : ℕ). lines_read rules (before + 1) t lines >>= λ u. lines_read rules n u b) (omega arith)
    | Err f ↦ refl
  ]

  -- pieces after pieces
  pub fed_on-append : (p : Progress S) (a b : List ℕ) → fed_on rules p (a ++ b) ≡ fed_on rules (fed_on rules p a) b
  fed_on-append (refused e) a b = refl
  fed_on-append (reading begun number s) a b =
      rw (ended_after-append begun a b, begun_after-append begun a b, lines_read-append number s (ended_after begun a) (ended_after (begun_after begun a) b), length-append (ended_after begun a) (ended_after (begun_after begun a) b))
      (elim (lines_read rules number s (ended_after begun a)) as (λ r. lines_gave (begun_after (begun_after begun a) b) (number + (length (ended_after begun a) + length (ended_after (begun_after begun a) b))) (r >>= λ t. lines_read rules (number + length (ended_after begun a)) t (ended_after (begun_after begun a) b)) ≡ fed_on rules (lines_gave (begun_after begun a) (number + length (ended_after begun a)) r) b) [
        | Ok t ↦ ap (λ (n : ℕ). lines_gave (begun_after (begun_after begun a) b) n (lines_read rules (number + length (ended_after begun a)) t (ended_after (begun_after begun a) b))) (omega arith)
        | Err f ↦ refl
      ])

  -- the end after a text is what the text gives
  pub finished_whole : (text : List ℕ) → finished rules (progress_of rules text) ≡ faulted refusals.Text (whole_of rules text)
  unfolding progress_of whole_of
  finished_whole text =
      rw (lines_read-append 0 rules.start (ended_after [] text) (last_line (begun_after [] text)), length-append (ended_after [] text) (last_line (begun_after [] text)))
      (elim (lines_read rules 0 rules.start (ended_after [] text)) as (λ r. finished rules (lines_gave (begun_after [] text) (0 + length (ended_after [] text)) r) ≡ faulted refusals.Text ((r >>= λ t. lines_read rules (0 + length (ended_after [] text)) t (last_line (begun_after [] text))) >>= with_count (length (ended_after [] text) + length (last_line (begun_after [] text))))) [
        | Ok t ↦ ap (λ (n : ℕ). faulted refusals.Text (lines_read rules (0 + length (ended_after [] text)) t (last_line (begun_after [] text)) >>= with_count (n + length (last_line (begun_after [] text))))) (omega arith)
        | Err f ↦ refl
      ])

  -- a fault in the ended lines of a text is that of each text that goes on so
  pub ended_holds : (text more : List ℕ) (fault : TextFault) → ended_read rules text ≡ Err fault → whole_of rules (text ++ more) ≡ Err fault
  unfolding whole_of
  ended_holds text more fault h =
      rw (ended_after-append [] text more, begun_after-append [] text more)
      (let ended = ended_after (begun_after [] text) more in
      let last = last_line (begun_after (begun_after [] text) more) in
      let first : lines_read rules 0 rules.start (ended_after [] text ++ ended) ≡ Err fault = lines_read-append 0 rules.start (ended_after [] text) ended ∙ ap (λ r. r >>= λ t. lines_read rules (0 + length (ended_after [] text)) t ended) h in
      let all : lines_read rules 0 rules.start ((ended_after [] text ++ ended) ++ last) ≡ Err fault = lines_read-append 0 rules.start (ended_after [] text ++ ended) last ∙ ap (λ r. r >>= λ t. lines_read rules (0 + length (ended_after [] text ++ ended)) t last) first in
      ap (λ r. r >>= with_count (length ((ended_after [] text ++ ended) ++ last))) all)

  -- the loop over a piece
  pub record IsFeeding (first_lines : Held) (first : S) (lines : Held) (state : S) (size : S → ℕ) (piece : List ℕ) (at : ℕ) : Type 0 where
    pub within : at ≤ length piece
    pub between : IsBetweenLines lines
    pub room : size state + length lines.line ≤ lines.taken
    pub taken : lines.taken ≡ first_lines.taken + at
    pub rest : fed_on rules (reading lines.line lines.number state) (drop at piece) ≡ fed_on rules (reading first_lines.line first_lines.number first) piece

  -- the loop's step
  pub feeds_on : (p q : Progress S) (piece : List ℕ) (at used : ℕ) (whole : Progress S) → fed_on rules p (take used (take (length piece - at) (drop at piece))) ≡ q → fed_on rules p (drop at piece) ≡ whole → fed_on rules q (drop (at + used) piece) ≡ whole
  feeds_on p q piece at used whole step so_far =
      let back : take (length piece - at) (drop at piece) ≡ drop at piece = take_all _ _ (omega (arith, length-drop at piece)) in
      let step' : fed_on rules p (take used (drop at piece)) ≡ q = ap (λ (xs : List ℕ). fed_on rules p (take used xs)) (sym back) ∙ step in
      let split : fed_on rules p (drop at piece) ≡ fed_on rules (fed_on rules p (take used (drop at piece))) (drop used (drop at piece)) = ap (fed_on rules p) (sym (take-append-drop used (drop at piece))) ∙ fed_on-append p (take used (drop at piece)) (drop used (drop at piece)) in
      let rest : drop (at + used) piece ≡ drop used (drop at piece) = sym (drop-drop used at piece) in
      rw rest (ap (λ (x : Progress S). fed_on rules x (drop used (drop at piece))) (sym step') ∙ sym split ∙ so_far)

  -- a whole line was taken
  pub took_line : (old new : Held) (piece : List ℕ) (used : ℕ) (ready : Bool) (s : S) → TakesPiece old piece used ready new → ready ≡ true
      → fed_on rules (reading old.line old.number s) (take used piece) ≡ lines_gave [] (old.number + 1) (on_line (old.number + 1) (rules.line_of s (old.number + 1) new.line) >>= λ t. Ok t)
  took_line old new piece used ready s took is_ready =
      let ended : ended_after old.line (take used piece) ≡ new.line ∷ [] = took.ended ∙ ap (λ (b : Bool). cond b (new.line ∷ []) []) is_ready in
      let begun : begun_after old.line (take used piece) ≡ [] = took.begun ∙ ap (λ (b : Bool). cond b [] new.line) is_ready in
      rw (ended, begun) refl

  -- a line that was read
  pub took_read : (old new : Held) (piece : List ℕ) (used : ℕ) (ready : Bool) (s t : S) → TakesPiece old piece used ready new → ready ≡ true
      → on_line new.number (rules.line_of s new.number new.line) ≡ Ok t
      → fed_on rules (reading old.line old.number s) (take used piece) ≡ reading [] new.number t
  took_read old new piece used ready s t took is_ready read =
      let counted : new.number ≡ old.number + 1 = took.number ∙ ap (λ (b : Bool). old.number + cond b 1 0) is_ready in
      let there : on_line (old.number + 1) (rules.line_of s (old.number + 1) new.line) ≡ Ok t = rw (← counted) read in
      took_line old new piece used ready s took is_ready ∙ rw there (ap (λ n. reading [] n t) (sym counted))

  -- a fault in it is a fault of the piece
  pub took_fault : (old new : Held) (piece : List ℕ) (used : ℕ) (ready : Bool) (s : S) (e : TextRefusal) → TakesPiece old piece used ready new → ready ≡ true
      → Stops e (on_line new.number (rules.line_of s new.number new.line)) → (e ≡ refusals.Mem) ⊎ (fed_on rules (reading old.line old.number s) piece ≡ refused e)
  took_fault old new piece used ready s (refusals.Text f) took is_ready fails =
      let counted : new.number ≡ old.number + 1 = took.number ∙ ap (λ (b : Bool). old.number + cond b 1 0) is_ready in
      let there : on_line (old.number + 1) (rules.line_of s (old.number + 1) new.line) ≡ Err f = rw (← counted) fails in
      let front : fed_on rules (reading old.line old.number s) (take used piece) ≡ refused (refusals.Text f) = took_line old new piece used ready s took is_ready ∙ rw there refl in
      inr (ap (fed_on rules (reading old.line old.number s)) (sym (take-append-drop used piece)) ∙ fed_on-append (reading old.line old.number s) (take used piece) (drop used piece) ∙ ap (λ (p : Progress S). fed_on rules p (drop used piece)) front)
  took_fault old new piece used ready s refusals.Mem took is_ready fails = inl refl

  -- a piece without a line feed
  pub took_all : (old new : Held) (piece : List ℕ) (used : ℕ) (ready : Bool) (s : S) → TakesPiece old piece used ready new → ready ≡ false
      → fed_on rules (reading old.line old.number s) (take used piece) ≡ reading new.line new.number s
  took_all old new piece used ready s took not_ready =
      let ended : ended_after old.line (take used piece) ≡ [] = took.ended ∙ ap (λ (b : Bool). cond b (new.line ∷ []) []) not_ready in
      let begun : begun_after old.line (take used piece) ≡ new.line = took.begun ∙ ap (λ (b : Bool). cond b [] new.line) not_ready in
      let counted : old.number + 0 ≡ new.number = sym (took.number ∙ ap (λ (b : Bool). old.number + cond b 1 0) not_ready) in
      rw (ended, begun) (ap (λ n. reading new.line n s) counted)

  -- a reader that stood for a text stands for more
  pub stands_more : (p new : Progress S) (text piece : List ℕ) → p ≡ progress_of rules text → fed_on rules p piece ≡ new → new ≡ progress_of rules (text ++ piece)
  unfolding progress_of
  stands_more p new text piece stood fed = sym fed ∙ ap (λ (x : Progress S). fed_on rules x piece) stood ∙ sym (fed_on-append (reading [] 0 rules.start) text piece)

  pub stands_on : (r : Result (Unit {0}) TextRefusal) (old new : Feeding S) (text piece : List ℕ) → StandsFor rules old text → FedOn rules r old.progress new.progress piece → OnOk r (StandsFor rules new (text ++ piece))
  stands_on (Ok x) old new text piece stood fed = record { progress = stands_more old.progress new.progress text piece stood.progress fed.0 }
  stands_on (Err e) old new text piece stood fed = tt

  -- where the fault is
  pub says : (r : Result (Unit {0}) TextRefusal) (old new : Feeding S) (text piece : List ℕ) → StandsFor rules old text → FedOn rules r old.progress new.progress piece → Answers refusals.Mem r (checked refusals.Text (ended_read rules (text ++ piece)))
  unfolding progress_of
  says (Ok x) old new text piece stood fed = inr (checked-Ok _ (begun_after [] (text ++ piece)) (0 + length (ended_after [] (text ++ piece))) (ap (told as_is) (sym (stands_more old.progress new.progress text piece stood.progress fed.0)) ∙ fed.1))
  says (Err e) old new text piece stood fed = elim fed.1 [
    | inl mem ↦ inl (ap Err mem)
    | inr gave ↦ inr (checked-Err _ _ _ e (sym (stands_more old.progress (fed_on rules old.progress piece) text piece stood.progress refl) ∙ gave))
  ]

  -- and that it stays
  pub holds : (r : Result (Unit {0}) TextRefusal) (old new : Feeding S) (text piece : List ℕ) → StandsFor rules old text → FedOn rules r old.progress new.progress piece
      → (fault : TextFault) → r ≡ Err (refusals.Text fault) → (more : List ℕ) → whole_of rules ((text ++ piece) ++ more) ≡ Err fault
  unfolding progress_of
  holds (Ok x) old new text piece stood fed fault is more = absurd cc
  holds (Err e) old new text piece stood fed fault is more = elim fed.1 [
    | inl mem ↦ absurd cc
    | inr gave ↦
        (let there : e ≡ refusals.Text fault = cc in
        ended_holds (text ++ piece) more fault (lines_gave-Err _ _ _ fault (sym (stands_more old.progress (fed_on rules old.progress piece) text piece stood.progress refl) ∙ gave ∙ ap refused there)))
  ]

  pub tells : (r : Result (Unit {0}) TextRefusal) (old new : Progress S) (piece : List ℕ) → FedOn rules r old new piece → r ≡ told as_is new
  tells (Ok x) old new piece fed = sym fed.1
  tells (Err e) old new piece fed = sym (ap (told as_is) fed.0)
