use Rattle.std.proofs.Common.{length, arith}
use Rattle.std.proofs.lemmas.Bool.{false≢true}
use Rattle.hera_typed.specs.Effects.{home}
use Rattle.hera_verify.proofs.Tabling.{follows_out}
use Rattle.hera_verify.proofs.tables.Table.follow.Goals.{else-to-len-via-then-to-len+else-has, else-to-len-via-else-to-len}
use Rattle.hera_verify.proofs.tables.Table.follow.Goals as goal

pub returns-else-to-len : goal.returns-else-to-len
returns-else-to-len c nodes f q code rels hosts notes shared is both lt reach =
    let long = is.spots_long in
    follows_out code rels hosts notes nodes c.fail.new.self c.fail.result c.args.a c.args.to q f
    (λ there same. elim c.else-to-len.branch [
      | else-to-len-via-then-to-len+else-has w ↦ false≢true ((w.if-has.ensures code (home code c.args.a) lt reach).1 same)
      | else-to-len-via-else-to-len w ↦ absurd (omega (arith, there, long, w.if-to-len.false, c.len.ensures, c.args.self.now.spots.ok.0))
    ])
    (c.fail.ensures nodes (length code.instrs) f code rels hosts notes is)
