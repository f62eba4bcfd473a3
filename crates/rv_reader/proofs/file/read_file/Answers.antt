use Rattle.std.proofs.Common.{◌∙◌, rules, ◌++◌, drop, take, arith, length-take, subst}
use Rattle.std.proofs.lemmas.List.{take-append-le}
use Rattle.rv_reader.specs.inside.Fed.{IsFed}
use Rattle.rv_reader.proofs.FileLemmas.{at_more}
use Rattle.rv_reader.proofs.file.read_file.Goals as goal

pub loop-count-preserved : goal.loop-count-preserved
loop-count-preserved g c =
    let of = g.R.TextReader in
    let old = g.F.Files.view c.args.files.now in
    let now = g.F.Files.view c.loop-count.files in
    let next = g.F.Files.view c.read.new.self in
    let room = c.read.new.room in
    let count = c.in-Bytes.count in
    let inv = c.loop-count.invariant in
    let gives = c.in-Bytes.ensures.reads in
    let piece = take count (room ++ drop c.min-wanted.result c.loop-count.room) in
    let Before = IsFed of.Stands of.refusal of.mem of.denoted c.loop-count.is_fed c.loop-count.reader in
    let After = IsFed of.Stands of.refusal of.mem of.denoted c.feed_on-is_fed.result c.feed_on-is_fed.new.reader in record {
      keeps = search rules;
      started = c.in-Bytes.ensures.same.is_started;
      uncounted = gives.uncounted ∙ inv.uncounted;
      place = omega (arith, gives.place, inv.place, c.if-count-left.false);
      room = omega (arith, c.feed_on-is_fed.ensures.fed_most, length-take count (room ++ drop c.min-wanted.result c.loop-count.room), inv.room, c.if-count-left.false);
      at = at_more c.args.name.now old now next room count c.loop-count.left Before After inv.keeps inv.place (omega (arith, c.if-count-left.false)) c.in-Bytes.ensures.same gives
          (λ text fed. subst (λ t. After (text ++ t)) (take-append-le count room (drop c.min-wanted.result c.loop-count.room) gives.fit) (c.feed_on-is_fed.ensures.fed text fed)) inv.at;
    }
