use Rattle.std.proofs.Common.{◌++◌, ◌∷◌, [], ap, ◌∙◌, arith}
use Rattle.hera_rules.specs.Environments.{env_of}
use Rattle.hera_rules.specs.Read.{expr_phrase, word_of}
use Rattle.hera_sound.specs.Types_found.{gathered}
use Rattle.hera_shapes.proofs.Adding.{typed_at, variable_at}
use Rattle.hera_shapes.proofs.typed.walk_over.Goals as goal

pub returns : goal.returns
returns c =
    let g = env_of c.args.globals.now in
    let names = c.in_ok-names.ensures in
    let v = c.in_ok-variable.variable in
    let of = c.in_ok-variable.ensures in
    let pushed = c.in_ok-push_local.ensures in
    record {
      variable = variable_at g (word_of c.args.name.now) c.args.word.now.at (expr_phrase c.args.over.now) v names.locals names.next of.variable;
      made = c.in_ok-made.made;
      typed = typed_at g (expr_phrase c.args.body.now) c.in_ok-made.made
          (pushed.locals ∙ ap (λ l. c.variable_of.new.names.locals.items ++ l ∷ []) c.in_ok-copy.ensures ∙ ap (λ ls. ls ++ v ∷ []) (of.keeps.locals ∙ names.locals))
          (omega (arith, pushed.next, of.keeps.next, names.next)) c.in_ok-made.ensures.typed;
      gathers_is = c.in_ok-gathers.ensures ∙ ap (λ k. gathered k v.shape c.in_ok-made.made) c.walk_word.ensures;
    }
