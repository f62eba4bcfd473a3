use Rattle.std.proofs.Common.{◌≡◌, ◌+◌, ◌∙◌, ap, arith, drop, sym, subst, Ok, MatchResult, Option, Result, ℕ}
use Rattle.std.proofs.lemmas.List.{length-map}
use Rattle.std.specs.Global.{Vec}
use Rattle.std.specs.List.{slice_split}
use Rattle.std.proofs.Common.{length-drop}
use Rattle.rv_import.specs.Statement.{bytes_of}
use Rattle.rv_import.specs.Reading.{and_then, IsFault, is_end, parts_read, SoFar}
use Rattle.rv_import.proofs.Parts.{part_last, part_more, read_no, read_yes}
use Rattle.rv_import.proofs.text.statements_read.Goals as goal

pub returns-then-not-branch-clause-exact : goal.returns-then-not-branch-clause-exact
returns-then-not-branch-clause-exact c =
    let xs = bytes_of c.args.tokens.now in
    let n = c.loop-end.number in
    let all = length-map c.args.tokens.now (λ (token : Vec ℕ). token.items) in
    let i = c.loop-end.invariant in
    i.0
    ∙ part_more n c.loop-end.so_far xs c.loop-end.start c.loop-end.end i.1 (omega (arith, all, i.1, i.2)) (omega (arith, all, c.loop-end-test.true))
    ∙ ap (λ (r : Option SoFar). and_then n r (λ next. parts_read (n + 1) next (slice_split is_end (drop (c.loop-end.end + 1) xs))))
    (c.in_ok-part_read.ensures ∙ read_no c.in_ok-part_read.field-0 c.part_read.new.so_far c.if-not-branch.true)

pub loop-end-preserved : goal.loop-end-preserved
loop-end-preserved c =
    let xs = bytes_of c.args.tokens.now in
    let n = c.loop-end.number in
    let all = length-map c.args.tokens.now (λ (token : Vec ℕ). token.items) in
    let i = c.loop-end.invariant in (
      i.0
          ∙ part_more n c.loop-end.so_far xs c.loop-end.start c.loop-end.end i.1 (omega (arith, all, i.1, i.2)) (omega (arith, all, c.loop-end-test.true))
          ∙ ap (λ (r : Option SoFar). and_then n r (λ next. parts_read (n + 1) next (slice_split is_end (drop (c.loop-end.end + 1) xs))))
          (c.in_ok-part_read.ensures ∙ read_yes c.in_ok-part_read.field-0 c.part_read.new.so_far c.if-not-branch.false),
      c.end_from-end-in-loop-end.ensures.exact,
      c.end_from-end-in-loop-end.ensures.within,
      omega (arith, i.1, i.3),
    )

pub returns-clause-exact : goal.returns-clause-exact
returns-clause-exact c =
    let xs = bytes_of c.args.tokens.now in
    let n = c.loop-end.number in
    let all = length-map c.args.tokens.now (λ (token : Vec ℕ). token.items) in
    let i = c.loop-end.invariant in
    subst (λ (r : Result SoFar ℕ). MatchResult c.at_end.result (λ s. r ≡ Ok s) (λ fault. IsFault r fault))
    (sym (i.0 ∙ part_last n c.loop-end.so_far xs c.loop-end.start (omega (arith, all, i.1, i.2)) (omega (arith, all, i.1, c.loop-end-test.false)) (omega (arith, all, i.1, i.2))))
    (c.at_end.ensures.exact (drop c.loop-end.start xs) (omega (arith, all, length-drop c.loop-end.start xs)))
